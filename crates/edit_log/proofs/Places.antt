-- The places of symbols in a list that grows.
use Rattle.std.proofs.Common.{◌≡◌, ℕ, zero, suc, inl, inr, Contains, ◌+◌, ◌<◌, ◌≤◌, List, [], ◌∷◌, ◌++◌, length, map, take, Bool, true, false, not, ◌||◌, cond}
use Rattle.std.proofs.Common.{nat_lt, position, slice_get, Some, None, if◌then◌else◌, refl, ap, sym, ◌∙◌, arith, append_assoc, append-nil, length-append}
use Rattle.std.proofs.Common.{length-take, one-add}
use Rattle.std.specs.List.{position_or_len, list_any, AllByRecursion}
use Rattle.indexmap.specs.IndexSet.{insert_key}
use Rattle.std.proofs.lemmas.List.{map-append}
use Rattle.std.proofs.lemmas.List.Folds.{position_or_len_push}
use Rattle.std.proofs.lemmas.List.Sums.{prefix_len-le-length}
use Rattle.std.proofs.lemmas.Bool.{eq-eqb, ltb-false, ltb-true, lt-ltb, le-ltb, cases_lt}
use Rattle.std.proofs.lemmas.Option.{slice_get_within}
use Rattle.grammar_text.specs.declared.symbol.Symbol.{Symbol}
use Rattle.grammar_text.specs.Sameness.{spelling_eq, spelling_eq-decides}
use Rattle.forest.specs.declared.symbols.SymbolId.{SymbolId}
use Rattle.forest.specs.Distinct.{IsDistinct}
use Rattle.forest.proofs.Ascending.{contains_cases}
use Rattle.edit_log.proofs.PlainLists.{distinct_push, contains_at}
use Rattle.edit_log.specs.Symbols.{place_of, number_of, with_symbol, with_symbols}

pub place_of-within : (symbols : List Symbol) (s : Symbol) → place_of symbols s ≤ length symbols
place_of-within symbols s = prefix_len-le-length _ symbols

-- a symbol that no place has gets the next one
pub place_of-push : (symbols keys : List Symbol) (s : Symbol) → position (spelling_eq s) symbols ≡ None → keys ≡ symbols ++ s ∷ []
    → place_of keys s ≡ length symbols
place_of-push symbols keys s none keys-is = by (nat_lt (place_of symbols s) (length symbols)) refl none
  where
    by : (there : Bool) → nat_lt (place_of symbols s) (length symbols) ≡ there → cond there (Some (place_of symbols s)) None ≡ None
        → place_of keys s ≡ length symbols
    by true is none = cc
    by false is none =
        let same : spelling_eq s s ≡ true = (spelling_eq-decides s s).1 refl in
        let last : place_of symbols s ≡ length symbols = omega (arith, ltb-false (place_of symbols s) (length symbols) is, place_of-within symbols s) in
        rw keys-is (position_or_len_push (spelling_eq s) symbols s ∙ rw (eq-eqb (place_of symbols s) (length symbols) last, same) (omega arith))

-- where no element passes, the first place that passes is behind the last
any_none : {X : Type 0} (test : X → Bool) (xs : List X) → length xs ≤ position_or_len test xs → list_any test xs ≡ false
any_none test [] e = refl
any_none {X} test (x ∷ xs) e = by (test x) refl (any_none test xs) e
  where
    by : (passes : Bool) → test x ≡ passes → (length xs ≤ position_or_len test xs → list_any test xs ≡ false)
        → length (x ∷ xs) ≤ cond (not passes) (1 + position_or_len test xs) 0 → (passes || list_any test xs) ≡ false
    by true is rest e = absurd (omega arith)
    by false is rest e = rest (omega arith)

pub insert_key-new : (symbols : List Symbol) (s : Symbol) → position (spelling_eq s) symbols ≡ None → insert_key spelling_eq symbols s ≡ symbols ++ s ∷ []
insert_key-new symbols s none = by (nat_lt (place_of symbols s) (length symbols)) refl none
  where
    by : (there : Bool) → nat_lt (place_of symbols s) (length symbols) ≡ there → cond there (Some (place_of symbols s)) None ≡ None
        → insert_key spelling_eq symbols s ≡ symbols ++ s ∷ []
    by true is none = cc
    by false is none = rw (any_none (spelling_eq s) symbols (ltb-false (place_of symbols s) (length symbols) is)) refl

-- ---- a list of symbols that grows

-- the symbol is in the list
abbrev pub IsPlaced : List Symbol → Symbol → Type 0
IsPlaced symbols s = place_of symbols s < length symbols

-- a symbol keeps its place where others come behind it
pub place_of-append : (symbols more : List Symbol) (s : Symbol) → IsPlaced symbols s → place_of (symbols ++ more) s ≡ place_of symbols s
place_of-append [] more s there = absurd (omega arith)
place_of-append (first ∷ others) more s there = by (spelling_eq s first) (place_of-append others more s) there
  where
    by : (same : Bool) → (IsPlaced others s → place_of (others ++ more) s ≡ place_of others s)
        → cond (not same) (1 + place_of others s) 0 < length (first ∷ others)
        → cond (not same) (1 + place_of (others ++ more) s) 0 ≡ cond (not same) (1 + place_of others s) 0
    by true rest less = refl
    by false rest less = ap (λ n. 1 + n) (rest (omega arith))

pub IsPlaced-append : (symbols more : List Symbol) (s : Symbol) → IsPlaced symbols s → IsPlaced (symbols ++ more) s
IsPlaced-append symbols more s there = rw (place_of-append symbols more s there) (omega (arith, length-append symbols more))

-- and stands there
pub place_of-get : (symbols : List Symbol) (s : Symbol) → IsPlaced symbols s → slice_get symbols (place_of symbols s) ≡ Some s
place_of-get [] s there = absurd (omega arith)
place_of-get (first ∷ others) s there = by (spelling_eq s first) refl (place_of-get others s) there
  where
    by : (same : Bool) → spelling_eq s first ≡ same → (IsPlaced others s → slice_get others (place_of others s) ≡ Some s)
        → cond (not same) (1 + place_of others s) 0 < length (first ∷ others)
        → slice_get (first ∷ others) (cond (not same) (1 + place_of others s) 0) ≡ Some s
    by true is rest less = ap Some (sym ((spelling_eq-decides s first).0 is))
    by false is rest less = rw (one-add (place_of others s)) (rest (omega arith))

-- the list after one more symbol is the list with none or one behind it
pub record Grows (old new : List Symbol) (room : ℕ) : Type 0 where
  pub more : List Symbol
  pub is : new ≡ old ++ more
  pub few : length more ≤ room

pub with_symbol-grows : (symbols : List Symbol) (s : Symbol) → Grows symbols (with_symbol symbols s) 1
with_symbol-grows symbols s = by (nat_lt (place_of symbols s) (length symbols))
  where
    by : (there : Bool) → Grows symbols (if there then symbols else symbols ++ s ∷ []) 1
    by true = record { more = []; is = sym (append-nil symbols); few = omega arith }
    by false = record { more = s ∷ []; is = refl; few = omega arith }

pub with_symbol-placed : (symbols : List Symbol) (s : Symbol) → IsPlaced (with_symbol symbols s) s
with_symbol-placed symbols s = by (nat_lt (place_of symbols s) (length symbols)) refl
  where
    by : (there : Bool) → nat_lt (place_of symbols s) (length symbols) ≡ there → IsPlaced (if there then symbols else symbols ++ s ∷ []) s
    by true is = ltb-true (place_of symbols s) (length symbols) is
    by false is =
        let same : spelling_eq s s ≡ true = (spelling_eq-decides s s).1 refl in
        let last : place_of symbols s ≡ length symbols = omega (arith, ltb-false (place_of symbols s) (length symbols) is, place_of-within symbols s) in
        let place : place_of (symbols ++ s ∷ []) s ≡ length symbols = position_or_len_push (spelling_eq s) symbols s ∙ rw
        (eq-eqb (place_of symbols s) (length symbols) last, same) (omega arith) in
        rw place (omega (arith, length-append symbols (s ∷ [])))

pub with_symbols-push : (symbols xs : List Symbol) (s : Symbol) → with_symbols symbols (xs ++ s ∷ []) ≡ with_symbol (with_symbols symbols xs) s
with_symbols-push symbols [] s = refl
with_symbols-push symbols (x ∷ xs) s = with_symbols-push (with_symbol symbols x) xs s

pub with_symbols-grows : (symbols xs : List Symbol) → Grows symbols (with_symbols symbols xs) (length xs)
with_symbols-grows symbols [] = record { more = []; is = sym (append-nil symbols); few = omega arith }
with_symbols-grows symbols (x ∷ xs) =
    let one = with_symbol-grows symbols x in
    let rest = with_symbols-grows (with_symbol symbols x) xs in
    record {
      more = one.more ++ rest.more;
      is = rest.is ∙ ap (λ ss. ss ++ rest.more) one.is ∙ append_assoc symbols one.more rest.more;
      few = omega (arith, length-append one.more rest.more, one.few, rest.few);
    }

-- all of these are in the list
abbrev pub ArePlaced : List Symbol → List Symbol → Type 0
ArePlaced symbols xs = AllByRecursion (IsPlaced symbols) xs

pub ArePlaced-grow : (old new : List Symbol) (room : ℕ) (xs : List Symbol) → Grows old new room → ArePlaced old xs → ArePlaced new xs
ArePlaced-grow old new room [] grows placed = tt
ArePlaced-grow old new room (x ∷ xs) grows placed = (rw grows.is (IsPlaced-append old grows.more x placed.0), ArePlaced-grow old new room xs grows placed.1)

pub numbers-grow : (old new : List Symbol) (room : ℕ) (xs : List Symbol) → Grows old new room → ArePlaced old xs
    → map (number_of new) xs ≡ map (number_of old) xs
numbers-grow old new room [] grows placed = refl
numbers-grow old new room (x ∷ xs) grows placed =
    let first : place_of new x ≡ place_of old x = rw grows.is (place_of-append old grows.more x placed.0) in
    let rest : map (number_of new) xs ≡ map (number_of old) xs = numbers-grow old new room xs grows placed.1 in
    (λ i. (record { 0 = first i }) ∷ rest i)

pub ArePlaced-push : (symbols xs : List Symbol) (s : Symbol) → ArePlaced symbols xs → IsPlaced symbols s → ArePlaced symbols (xs ++ s ∷ [])
ArePlaced-push symbols [] s placed there = (there, tt)
ArePlaced-push symbols (x ∷ xs) s placed there = (placed.0, ArePlaced-push symbols xs s placed.1 there)

-- ---- the numbers of the symbols so far

pub record AreNumbered (before symbols xs : List Symbol) (numbers : List SymbolId) : Type 0 where
  pub known : symbols ≡ with_symbols before xs
  pub placed : ArePlaced symbols xs
  pub same : numbers ≡ map (number_of symbols) xs

pub numbered_none : (before : List Symbol) → AreNumbered before before [] []
numbered_none before = record { known = refl; placed = tt; same = refl }

pub numbered_more : (before symbols after xs : List Symbol) (s : Symbol) (numbers : List SymbolId) (number : SymbolId) → AreNumbered before symbols xs numbers
    → after ≡ with_symbol symbols s → number ≡ number_of after s → AreNumbered before after (xs ++ s ∷ []) (numbers ++ number ∷ [])
numbered_more before symbols after xs s numbers number so_far known is =
    let grows : Grows symbols after 1 = rw known (with_symbol-grows symbols s) in
    let there : IsPlaced after s = rw known (with_symbol-placed symbols s) in
    record {
      known = known ∙ ap (λ ss. with_symbol ss s) so_far.known ∙ sym (with_symbols-push before xs s);
      placed = ArePlaced-push after xs s (ArePlaced-grow symbols after 1 xs grows so_far.placed) there;
      same =
          let old : numbers ≡ map (number_of after) xs = so_far.same ∙ sym (numbers-grow symbols after 1 xs grows so_far.placed) in
          (λ i. old i ++ is i ∷ []) ∙ sym (map-append (number_of after) xs (s ∷ []));
    }

pub few_numbered : (before symbols right : List Symbol) (i : ℕ) (numbers : List SymbolId) → AreNumbered before symbols (take i right) numbers
    → length symbols ≤ length before + i
few_numbered before symbols right i numbers so_far =
    let grows = with_symbols-grows before (take i right) in
    rw (so_far.known, grows.is) (omega (arith, length-append before grows.more, grows.few, length-take i right))

-- ---- symbols that are there already

-- a symbol that stands at a place has one
pub placed_from_get : (symbols : List Symbol) (s : Symbol) (i : ℕ) → slice_get symbols i ≡ Some s → IsPlaced symbols s
placed_from_get [] s i at = absurd (omega (arith, slice_get_within [] i s at))
placed_from_get (first ∷ others) s zero at =
    let equal : first ≡ s = cc in
    let same : spelling_eq s first ≡ true = (spelling_eq-decides s first).1 (sym equal) in
    rw same (omega arith)
placed_from_get (first ∷ others) s (suc i) at = by (spelling_eq s first) (placed_from_get others s i at)
  where
    by : (same : Bool) → IsPlaced others s → cond (not same) (1 + place_of others s) 0 < length (first ∷ others)
    by true rest = omega arith
    by false rest = omega arith

pub with_symbol-same : (symbols : List Symbol) (s : Symbol) → IsPlaced symbols s → with_symbol symbols s ≡ symbols
with_symbol-same symbols s there = rw (lt-ltb (place_of symbols s) (length symbols) there) refl

pub with_symbols-same : (symbols xs : List Symbol) → ArePlaced symbols xs → with_symbols symbols xs ≡ symbols
with_symbols-same symbols [] placed = refl
with_symbols-same symbols (x ∷ xs) placed = ap (λ ss. with_symbols ss xs) (with_symbol-same symbols x placed.0) ∙ with_symbols-same symbols xs placed.1

-- ---- all of the symbols are there afterwards

pub with_symbols-placed : (symbols xs : List Symbol) → ArePlaced (with_symbols symbols xs) xs
with_symbols-placed symbols [] = tt
with_symbols-placed symbols (x ∷ xs) =
    let next = with_symbol symbols x in
    let grows = with_symbols-grows next xs in
    (rw grows.is (IsPlaced-append next grows.more x (with_symbol-placed symbols x)), with_symbols-placed next xs)

-- ---- no symbol comes twice

placed_contained : (symbols : List Symbol) (s : Symbol) → Contains symbols s → IsPlaced symbols s
placed_contained [] s (k, l, e) = absurd (omega arith)
placed_contained (first ∷ others) s c = elim (contains_cases first others s c) [
  | inl e ↦ placed_from_get (first ∷ others) s 0 (ap Some e)
  | inr d ↦ by (spelling_eq s first) (placed_contained others s d)
]
  where
    by : (same : Bool) → IsPlaced others s → cond (not same) (1 + place_of others s) 0 < length (first ∷ others)
    by true rest = omega arith
    by false rest = omega arith

with_symbol-distinct : (symbols : List Symbol) (s : Symbol) → IsDistinct symbols → IsDistinct (with_symbol symbols s)
with_symbol-distinct symbols s apart = by (nat_lt (place_of symbols s) (length symbols)) refl
  where
    by : (there : Bool) → nat_lt (place_of symbols s) (length symbols) ≡ there → IsDistinct (if there then symbols else symbols ++ s ∷ [])
    by true is = apart
    by false is = distinct_push symbols s apart (λ c. absurd (omega (arith, ltb-false (place_of symbols s) (length symbols) is, placed_contained symbols s c)))

pub with_symbols-distinct : (symbols xs : List Symbol) → IsDistinct symbols → IsDistinct (with_symbols symbols xs)
with_symbols-distinct symbols [] apart = apart
with_symbols-distinct symbols (x ∷ xs) apart = with_symbols-distinct (with_symbol symbols x) xs (with_symbol-distinct symbols x apart)

-- a symbol that is there keeps its number
pub number_stays : (middle symbols xs : List Symbol) (s : Symbol) → IsPlaced middle s → symbols ≡ with_symbols middle xs
    → number_of symbols s ≡ number_of middle s
number_stays middle symbols xs s placed is =
    let grows = with_symbols-grows middle xs in
    let same : place_of symbols s ≡ place_of middle s = ap (λ ss. place_of ss s) (is ∙ grows.is) ∙ place_of-append middle grows.more s placed in
    (λ i. record { 0 = same i })

-- a symbol that is not there has no place
pub not_there : (symbols : List Symbol) (s : Symbol) → (Contains symbols s → ⊥) → position (spelling_eq s) symbols ≡ None
not_there symbols s absent = elim (cases_lt (place_of symbols s) (length symbols)) [
  | inl less ↦ absurd (absent (contains_at symbols (place_of symbols s) s (place_of-get symbols s less)))
  | inr past ↦ rw (le-ltb (place_of symbols s) (length symbols) past) refl
]
