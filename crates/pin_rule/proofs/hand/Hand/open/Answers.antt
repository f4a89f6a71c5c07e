use Rattle.std.proofs.Common.{◌≡◌, [], ◌∷◌, ◌∙◌, List, ℕ, subst, sym, ap, replicate}
use Rattle.pin_rule.specs.Layout.{word_count}
use Rattle.pin_rule.specs.Lawful.{Lawful}
use Rattle.pin_rule.specs.Steps.{first_view}
use Rattle.pin_rule.proofs.Beginning.{begins}
use Rattle.pin_rule.proofs.hand.Hand.open.Goals as goal

pub of_words-requires : goal.of_words-requires
of_words-requires g c =
    let L = g.C.Content.lawful in let F = g.C.Content.fits in let z = c.args.sizes in
    let zeros : c.as_slice.result.now ≡ replicate (word_count z) 0 = c.as_slice.ensures.value ∙ c.in_ok-words.ensures.items_if_clones_equal (λ y e. e) ∙ ap
    (λ (n : ℕ). replicate n 0) c.words.ensures in
    subst (λ (words : List ℕ). Lawful L F z words (first_view z ∷ [])) (sym zeros) (begins L F z g.C.Content.empty)
