-- A row is that of one key and one payload.
use Rattle.std.proofs.Common.{◌≡◌, ℕ, ◌<◌, List, [], ◌∷◌, ◌++◌, length, refl, sym, ap, ◌∙◌, subst, arith}
use Rattle.edit_log.specs.History.{Grammar}
use Rattle.row_coding.specs.Rows.{Key, key_words, FitsKey, row_words}
use Rattle.row_coding.proofs.OneCoding.{one_key}
use Rattle.graph_content.specs.Rows.{IsRowOf}

-- fronts of one length, and what stands behind them
pub record AreSameParts {X : Type 0} (front other_front back other_back : List X) : Type 0 where
  pub fronts : front ≡ other_front
  pub backs : back ≡ other_back

same_heads : {X : Type 0} {x y : X} {xs ys : List X} → x ∷ xs ≡ y ∷ ys → x ≡ y
same_heads e = cc

same_tails : {X : Type 0} {x y : X} {xs ys : List X} → x ∷ xs ≡ y ∷ ys → xs ≡ ys
same_tails e = cc

pub same_parts : {X : Type 0} (front other_front back other_back : List X) → length front ≡ length other_front → front ++ back ≡ other_front ++ other_back
    → AreSameParts front other_front back other_back
same_parts [] [] back other_back long e = record { fronts = refl; backs = e }
same_parts [] (y ∷ ys) back other_back long e = absurd (omega (arith, long))
same_parts (x ∷ xs) [] back other_back long e = absurd (omega (arith, long))
same_parts (x ∷ xs) (y ∷ ys) back other_back long e =
    let rest = same_parts xs ys back other_back (omega (arith, long)) (same_tails e) in
    record { fronts = ap (λ z. z ∷ xs) (same_heads e) ∙ ap (λ zs. y ∷ zs) rest.fronts; backs = rest.backs }

pub row_parts : (key other : Key) (payload other_payload : List ℕ) → row_words key payload ≡ row_words other other_payload
    → AreSameParts (key_words key) (key_words other) payload other_payload
row_parts key other payload other_payload e =
    same_parts (key_words key) (key_words other) payload other_payload (same_heads e) (same_tails (same_tails e))

-- two keys of one row are the same
pub one_row_key : (key other : Key) (payload other_payload : List ℕ) → FitsKey key → FitsKey other → row_words key payload ≡ row_words other other_payload
    → key ≡ other
one_row_key key other payload other_payload fit fit_other e = one_key key other fit fit_other (row_parts key other payload other_payload e).fronts

pub one_key_of : (grammar : Grammar) (row : List ℕ) (key other : Key) → FitsKey key → FitsKey other → IsRowOf grammar key row → IsRowOf grammar other row
    → key ≡ other
one_key_of grammar row key other fit fit_other is that =
    one_row_key key other is.payload that.payload fit fit_other (sym is.words ∙ that.words)
