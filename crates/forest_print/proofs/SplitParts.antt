-- The line for a split, by the parts that it is written in.
use Rattle.std.proofs.Common.{◌≡◌, ℕ, List, [], ◌∷◌, ◌++◌, length, codes, decimal, ap, sym, ◌∙◌, append_assoc, append-nil, arith}
use Rattle.std.specs.List.{flat_map}
use Rattle.std.proofs.lemmas.Grind.{flat_map-append}
use Rattle.forest_print.specs.Lines.{cut_text}
use Rattle.forest_print.specs.Parts.{head_text}

-- the last cut with what comes after it
pub last_apart : {X : Type 0} (f : X → List ℕ) (head after : List ℕ) (cuts before : List X) (last : X) → cuts ≡ before ++ last ∷ []
    → (head ++ flat_map f cuts) ++ after ≡ head ++ (flat_map f before ++ (f last ++ after))
last_apart f head after cuts before last is =
    ap (λ cs. (head ++ flat_map f cs) ++ after) is ∙ ap (λ t. (head ++ t) ++ after) (flat_map-append f before (last ∷ []))
    ∙ ap (λ t. (head ++ (flat_map f before ++ t)) ++ after) (append-nil (f last)) ∙ simp append_assoc

regroup : (begin rule at first rest end : List ℕ) → begin ++ rule ++ at ++ (first ++ rest) ++ end ≡ ((begin ++ rule ++ at ++ first) ++ rest) ++ end
regroup begin rule at first rest end = simp append_assoc

-- the first cut stands in the head
pub first_apart : (rule first : ℕ) (cuts after text : List ℕ) → text ≡ head_text rule first → cuts ≡ first ∷ after
    → codes "rule " ++ decimal rule ++ codes " at" ++ flat_map cut_text cuts ++ codes "\n" ≡ (text ++ flat_map cut_text after) ++ codes "\n"
first_apart rule first cuts after text told is =
    let cut : codes "rule " ++ decimal rule ++ codes " at" ++ flat_map cut_text (first ∷ after) ++ codes "\n"
    ≡ (head_text rule first ++ flat_map cut_text after) ++ codes "\n" =
    regroup (codes "rule ") (decimal rule) (codes " at") (cut_text first) (flat_map cut_text after) (codes "\n") in
    ap (λ cs. codes "rule " ++ decimal rule ++ codes " at" ++ flat_map cut_text cs ++ codes "\n") is ∙ cut
    ∙ ap (λ t. (t ++ flat_map cut_text after) ++ codes "\n") (sym told)

-- there are no cuts
pub no_cuts : (rule : ℕ) (cuts : List ℕ) → length cuts ≡ 0
    → codes "rule " ++ decimal rule ++ codes " at" ++ flat_map cut_text cuts ++ codes "\n" ≡ codes "rule " ++ decimal rule ++ codes " at\n"
no_cuts rule [] none = simp append_assoc
no_cuts rule (cut ∷ cuts) none = absurd (omega (arith, none))

-- the line for a node: all before the last place, and that place
pub place_apart : (begin name blank from to end : List ℕ) → begin ++ name ++ blank ++ from ++ blank ++ to ++ end
    ≡ (begin ++ name ++ (blank ++ from)) ++ ((blank ++ to) ++ end)
place_apart begin name blank from to end = simp append_assoc
