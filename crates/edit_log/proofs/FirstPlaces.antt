-- The first place in a list at which a test passes.
use Rattle.std.proofs.Common.{◌≡◌, ℕ, ◌+◌, ◌<◌, ◌≤◌, List, [], ◌∷◌, ◌++◌, length, Bool, true, false, not, cond, ltb, position, slice_get, Some, None, refl, sym}
use Rattle.std.proofs.Common.{ap, ◌∙◌, arith, length-append, append_assoc}
use Rattle.std.specs.List.{position_or_len}
use Rattle.std.proofs.lemmas.Bool.{lt-ltb, le-ltb, ltb-true, ltb-false, both_ways}
use Rattle.std.proofs.lemmas.Option.{get_or_from_slice_get, slice_get_within}
use Rattle.std.proofs.lemmas.List.Sums.{fails_before_first, passes_at_first}
use Rattle.grammar_text.specs.declared.symbol.Symbol.{Symbol}
use Rattle.grammar_text.specs.Sameness.{spelling_eq, spelling_eq-decides}
use Rattle.edit_log.specs.Symbols.{place_of, with_symbol}
use Rattle.edit_log.proofs.Places.{IsPlaced, place_of-append, place_of-push, IsPlaced-append, with_symbol-same}

-- ---- any test

module _ {X : Type 0} (test : X → Bool) (xs : List X) (i : ℕ) (x : X) (at : slice_get xs i ≡ Some x) (below : i ≤ position_or_len test xs) where
  pub first_here : test x ≡ true → position test xs ≡ Some i
  first_here passes =
      let within = slice_get_within xs i x at in
      let not_below : i < position_or_len test xs → ⊥ = λ less. both_ways (test x) (ap test (sym (get_or_from_slice_get xs i x x at))
      ∙ fails_before_first test xs i x less) passes in
      let same : position_or_len test xs ≡ i = omega (arith, not_below) in
      rw (same, lt-ltb i (length xs) within) refl

  pub first_later : test x ≡ false → i + 1 ≤ position_or_len test xs
  first_later fails =
      let within = slice_get_within xs i x at in
      let apart : position_or_len test xs ≡ i → ⊥ = λ same.
      let less : position_or_len test xs < length xs = omega arith in
      both_ways (test x) fails (ap test (sym (get_or_from_slice_get xs (position_or_len test xs) x x (ap (slice_get xs) same ∙ at)))
      ∙ passes_at_first test xs x less) in
      omega (arith, apart)

pub nowhere : {X : Type 0} (test : X → Bool) (xs : List X) → length xs ≤ position_or_len test xs → position test xs ≡ None
nowhere test xs past = rw (le-ltb (position_or_len test xs) (length xs) past) refl

pub position_within : {X : Type 0} (test : X → Bool) (xs : List X) (i : ℕ) → position test xs ≡ Some i → (i ≡ position_or_len test xs) × (i < length xs)
position_within test xs i is = by (ltb (position_or_len test xs) (length xs)) refl is
  where
    by : (there : Bool) → ltb (position_or_len test xs) (length xs) ≡ there → cond there (Some (position_or_len test xs)) None ≡ Some i
        → (i ≡ position_or_len test xs) × (i < length xs)
    by true less e = let same : position_or_len test xs ≡ i = cc in (sym same, omega (arith, ltb-true (position_or_len test xs) (length xs) less))
    by false less e = absurd cc

pub position_past : {X : Type 0} (test : X → Bool) (xs : List X) → position test xs ≡ None → length xs ≤ position_or_len test xs
position_past test xs is = by (ltb (position_or_len test xs) (length xs)) refl is
  where
    by : (there : Bool) → ltb (position_or_len test xs) (length xs) ≡ there → cond there (Some (position_or_len test xs)) None ≡ None
        → length xs ≤ position_or_len test xs
    by true less e = absurd cc
    by false less e = ltb-false (position_or_len test xs) (length xs) less

-- ---- a symbol among those that are known, and then among the fresh ones

pub spelling_eq-sym : (a b : Symbol) (answer : Bool) → spelling_eq a b ≡ answer → spelling_eq b a ≡ answer
spelling_eq-sym a b true is = (spelling_eq-decides b a).1 (sym ((spelling_eq-decides a b).0 is))
spelling_eq-sym a b false is = by (spelling_eq b a) refl
  where
    by : (back : Bool) → spelling_eq b a ≡ back → spelling_eq b a ≡ false
    by true back = absurd (both_ways (spelling_eq a b) is ((spelling_eq-decides a b).1 (sym ((spelling_eq-decides b a).0 back))))
    by false back = back

-- behind symbols that are others its place is that among the rest
pub place_of-behind : (known fresh : List Symbol) (s : Symbol) → length known ≤ place_of known s → place_of (known ++ fresh) s ≡ length known + place_of fresh s
place_of-behind [] fresh s past = omega arith
place_of-behind (first ∷ others) fresh s past = by (spelling_eq s first) (place_of-behind others fresh s) past
  where
    by : (same : Bool) → (length others ≤ place_of others s → place_of (others ++ fresh) s ≡ length others + place_of fresh s)
        → length (first ∷ others) ≤ cond (not same) (1 + place_of others s) 0
        → cond (not same) (1 + place_of (others ++ fresh) s) 0 ≡ length (first ∷ others) + place_of fresh s
    by true rest less = absurd (omega arith)
    by false rest less = omega (arith, rest (omega arith))

-- the number that a symbol gets, and the list of symbols with it
pub record IsNumberIn (old new : List Symbol) (s : Symbol) (number : ℕ) : Type 0 where
  pub list : new ≡ with_symbol old s
  pub place : number ≡ place_of new s

pub in_known : (known fresh : List Symbol) (s : Symbol) (place : ℕ) → position (spelling_eq s) known ≡ Some place
    → IsNumberIn (known ++ fresh) (known ++ fresh) s place
in_known known fresh s place at =
    let where_it_is = position_within (spelling_eq s) known place at in
    let placed : IsPlaced known s = omega arith in
    record {
      list = sym (with_symbol-same (known ++ fresh) s (IsPlaced-append known fresh s placed));
      place = where_it_is.0 ∙ sym (place_of-append known fresh s placed);
    }

pub in_fresh : (known fresh : List Symbol) (s : Symbol) (place : ℕ) → position (spelling_eq s) known ≡ None → position (spelling_eq s) fresh ≡ Some place
    → IsNumberIn (known ++ fresh) (known ++ fresh) s (length known + place)
in_fresh known fresh s place none at =
    let where_it_is = position_within (spelling_eq s) fresh place at in
    let behind = place_of-behind known fresh s (position_past (spelling_eq s) known none) in
    record {
      list = sym (with_symbol-same (known ++ fresh) s (rw behind (omega (arith, length-append known fresh, where_it_is))));
      place = omega (arith, behind, where_it_is);
    }

pub in_neither : (known fresh : List Symbol) (s : Symbol) → position (spelling_eq s) known ≡ None → position (spelling_eq s) fresh ≡ None
    → IsNumberIn (known ++ fresh) (known ++ (fresh ++ s ∷ [])) s (length known + length fresh)
in_neither known fresh s none absent =
    let behind = place_of-behind known fresh s (position_past (spelling_eq s) known none) in
    let past : length (known ++ fresh) ≤ place_of (known ++ fresh) s =
    rw behind (omega (arith, length-append known fresh, position_past (spelling_eq s) fresh absent)) in
    let all : known ++ (fresh ++ s ∷ []) ≡ (known ++ fresh) ++ s ∷ [] = sym (append_assoc known fresh (s ∷ [])) in
    record {
      list = rw (le-ltb (place_of (known ++ fresh) s) (length (known ++ fresh)) past) all;
      place = sym (place_of-push (known ++ fresh) (known ++ (fresh ++ s ∷ [])) s (nowhere (spelling_eq s)
          (known ++ fresh) past) all ∙ length-append known fresh);
    }
