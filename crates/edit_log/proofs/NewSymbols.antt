-- Which symbols an edit brings.
use Rattle.std.proofs.Common.{◌≡◌, ◌+◌, ◌<◌, ◌⊎◌, inl, inr, List, [], ◌∷◌, ◌++◌, length, Bool, true, false, not, cond, nat_lt, slice_get, Some, if◌then◌else◌}
use Rattle.std.proofs.Common.{refl, ap, sym, ◌∙◌, subst, arith, append_assoc, append-nil, one-add, Contains}
use Rattle.std.proofs.lemmas.Bool.{ltb-false, ltb-true}
use Rattle.std.proofs.lemmas.Option.{get_or_from_slice_get}
use Rattle.std.proofs.lemmas.List.Elements.{Contains-append_left, Contains-append_right, Contains-append_cases}
use Rattle.grammar_text.specs.declared.symbol.Symbol.{Symbol}
use Rattle.grammar_text.specs.Sameness.{spelling_eq, spelling_eq-decides}
use Rattle.edit_log.specs.Symbols.{place_of, with_symbol, with_symbols}
use Rattle.edit_log.proofs.DefinitionOrder.{contains_first, contains_later, contains_cases, contains_none}

-- ---- places

-- a symbol of the list has a place
pub placed : (symbols : List Symbol) (s : Symbol) → Contains symbols s → place_of symbols s < length symbols
placed [] s c = absurd (contains_none s c)
placed (x ∷ xs) s c = by (spelling_eq s x) refl (contains_cases x xs s c) (λ d. placed xs s d)
  where
    by : (b : Bool) → spelling_eq s x ≡ b → (x ≡ s) ⊎ Contains xs s → (Contains xs s → place_of xs s < length xs)
        → cond (not b) (1 + place_of xs s) 0 < length (x ∷ xs)
    by true is there rest = omega arith
    by false is (inl e) rest = let same : spelling_eq s x ≡ true = (spelling_eq-decides s x).1 (sym e) in absurd cc
    by false is (inr d) rest = omega (arith, rest d)

-- and stands there
pub at_place : (symbols : List Symbol) (s : Symbol) → place_of symbols s < length symbols → slice_get symbols (place_of symbols s) ≡ Some s
at_place [] s there = absurd (omega arith)
at_place (first ∷ others) s there = by (spelling_eq s first) refl (at_place others s) there
  where
    by : (same : Bool) → spelling_eq s first ≡ same → (place_of others s < length others → slice_get others (place_of others s) ≡ Some s)
        → cond (not same) (1 + place_of others s) 0 < length (first ∷ others)
        → slice_get (first ∷ others) (cond (not same) (1 + place_of others s) 0) ≡ Some s
    by true is rest less = ap Some (sym ((spelling_eq-decides s first).0 is))
    by false is rest less = rw (one-add (place_of others s)) (rest (omega arith))

-- ---- a list of symbols that grows

-- the new list is the old one with some of these behind it, which it had not
pub record Grown (old these new : List Symbol) : Type 0 where
  pub more : List Symbol
  pub is : new ≡ old ++ more
  pub known : (s : Symbol) → Contains more s → Contains these s
  pub absent : (s : Symbol) → Contains more s → Contains old s → ⊥

with_symbol-grown : (symbols : List Symbol) (x : Symbol) → Grown symbols (x ∷ []) (with_symbol symbols x)
with_symbol-grown symbols x = by (nat_lt (place_of symbols x) (length symbols)) refl
  where
    by : (there : Bool) → nat_lt (place_of symbols x) (length symbols) ≡ there → Grown symbols (x ∷ []) (if there then symbols else symbols ++ x ∷ [])
    by true is = record { more = []; is = sym (append-nil symbols); known = λ s c. absurd (contains_none s c); absent = λ s c d. contains_none s c }
    by false is = record {
      more = x ∷ [];
      is = refl;
      known = λ s c. c;
      absent = λ s c d. elim (contains_cases x [] s c) [
        | inl e ↦ let less = placed symbols x (subst (Contains symbols) (sym e) d) in
            absurd (omega (arith, less, ltb-false (place_of symbols x) (length symbols) is))
        | inr none ↦ contains_none s none
      ];
    }

pub with_symbols-grown : (symbols xs : List Symbol) → Grown symbols xs (with_symbols symbols xs)
with_symbols-grown symbols [] = record { more = []; is = sym (append-nil symbols); known = λ s c. c; absent = λ s c d. contains_none s c }
with_symbols-grown symbols (x ∷ xs) =
    let one = with_symbol-grown symbols x in
    let rest = with_symbols-grown (with_symbol symbols x) xs in
    record {
      more = one.more ++ rest.more;
      is = rest.is ∙ ap (λ ss. ss ++ rest.more) one.is ∙ append_assoc symbols one.more rest.more;
      known = λ s c. elim (Contains-append_cases one.more rest.more s c) [
        | inl d ↦ elim (contains_cases x [] s (one.known s d)) [
          | inl e ↦ subst (Contains (x ∷ xs)) e (contains_first x xs)
          | inr none ↦
              absurd (contains_none s none)
        ]
        | inr d ↦ contains_later x xs s (rest.known s d)
      ];
      absent = λ s c there. elim (Contains-append_cases one.more rest.more s c) [
        | inl d ↦ one.absent s d there
        | inr d ↦ rest.absent s d (subst (λ ss. Contains ss s) (sym one.is) (Contains-append_left symbols one.more s there))
      ];
    }

with_symbol-has : (symbols : List Symbol) (x : Symbol) → Contains (with_symbol symbols x) x
with_symbol-has symbols x = by (nat_lt (place_of symbols x) (length symbols)) refl
  where
    by : (there : Bool) → nat_lt (place_of symbols x) (length symbols) ≡ there → Contains (if there then symbols else symbols ++ x ∷ []) x
    by true is =
        let less = ltb-true (place_of symbols x) (length symbols) is in
        (place_of symbols x, less, get_or_from_slice_get symbols (place_of symbols x) x x (at_place symbols x less))
    by false is = Contains-append_right symbols (x ∷ []) x (contains_first x [])

-- all of these are in the list then
pub with_symbols-has : (symbols xs : List Symbol) (s : Symbol) → Contains xs s → Contains (with_symbols symbols xs) s
with_symbols-has symbols [] s c = absurd (contains_none s c)
with_symbols-has symbols (x ∷ xs) s c = elim (contains_cases x xs s c) [
  | inl e ↦
      let rest = with_symbols-grown (with_symbol symbols x) xs in
      subst (Contains (with_symbols symbols (x ∷ xs))) e (subst (λ ss. Contains ss x) (sym rest.is) (Contains-append_left (with_symbol symbols x) rest.more x
      (with_symbol-has symbols x)))
  | inr d ↦ with_symbols-has (with_symbol symbols x) xs s d
]
