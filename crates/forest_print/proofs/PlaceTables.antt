-- A table of places grows by the next one.
use Rattle.std.proofs.Common.{◌≡◌, ℕ, List, [], ◌∷◌, ◌++◌, length, ap, ◌∙◌, ⊎_elim, arith}
use Rattle.std.proofs.lemmas.Bool.{cases_lt}
use Rattle.std.proofs.lemmas.List.{get_or_append_left, get_or_push, length_push}
use Rattle.forest_print.specs.Lines.{cut_text}
use Rattle.forest_print.specs.Parts.{ArePlaces}

pub places_push : (pieces : List (List ℕ)) (n : ℕ) → length pieces ≡ n → ArePlaces pieces → ArePlaces (pieces ++ cut_text n ∷ [])
places_push pieces n count each place d less = ⊎_elim
    (λ before. get_or_append_left pieces (cut_text n ∷ []) d place before ∙ each place d before)
    (λ past. get_or_push pieces (cut_text n) d place (omega (arith, length_push pieces (cut_text n)))
    ∙ ap cut_text (omega (arith, length_push pieces (cut_text n))))
    (cases_lt place (length pieces))
