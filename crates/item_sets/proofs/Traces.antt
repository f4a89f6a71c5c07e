-- Symbols that were met, by the traces that they left.
use Rattle.std.proofs.Common.{◌≡◌, ◌≢◌, ℕ, zero, suc, ◌+◌, ◌<◌, ◌≤◌, ◌%◌, Bool, true, false, cond, not, ◌||◌, inl, inr, List, [], ◌∷◌, ◌++◌, length}
use Rattle.std.proofs.Common.{get_or, replicate, refl, sym, ◌∙◌, ap, arith, Contains, slice_get, slice_set, Some}
use Rattle.std.specs.List.{list_any, position_or_len}
use Rattle.std.proofs.lemmas.Bool.{cases_eq}
use Rattle.std.proofs.lemmas.Option.{slice_get_within, slice_get_read, get_or_from_slice_get}
use Rattle.std.proofs.lemmas.List.{get_or-set_same, get_or-set_other}
use Rattle.std.proofs.lemmas.List.Elements.{Contains-push_cases}
use Rattle.std.proofs.lemmas.List.Sums.{position_or_len_is, passes_at_first}
use Rattle.std.proofs.lemmas.Map.Views.{list_any-from_Contains, Contains-from_any}
use Rattle.indexmap.specs.IndexSet.{insert_key}
use Rattle.forest.specs.declared.symbols.SymbolId.{SymbolId}
use Rattle.forest.specs.Equality.{symbol_eq, symbol_equiv}
use Rattle.edit_log.proofs.PlainLists.{distinct_push, distinct_places}
use Rattle.item_sets.specs.declared.symbol_set.TheConstants.{TRACES, UNMET}
use Rattle.item_sets.specs.Traces.{trace_in, LeavesTraces}
use Rattle.item_sets.proofs.MoveLists.{symbol_exact}

-- ---- room for more traces

zeros : (m k : ℕ) → ◌≡◌ {A = ℕ} (get_or (replicate m 0) k 0) 0
zeros zero k = refl
zeros (suc m) zero = refl
zeros (suc m) (suc k) = zeros m k

pub filled : (traces : List ℕ) (m k : ℕ) → get_or (traces ++ replicate m 0) k 0 ≡ get_or traces k 0
filled [] m k = zeros m k
filled (t ∷ traces) m zero = refl
filled (t ∷ traces) m (suc k) = filled traces m k

pub still_left : (met : List SymbolId) (old new : List ℕ) → ((k : ℕ) → trace_in new k ≡ trace_in old k) → LeavesTraces met old → LeavesTraces met new
still_left met old new same leaves = record {
  distinct = leaves.distinct;
  left = λ x c e. leaves.left x c (sym (same (x.0 % TRACES)) ∙ e);
}

-- ---- the place of a symbol

any_none : {X : Type 0} (test : X → Bool) (xs : List X) → length xs ≤ position_or_len test xs → list_any test xs ≡ false
any_none test [] past = refl
any_none test (x ∷ xs) past = by (test x) (any_none test xs) past
  where
    by : (passes : Bool) → (length xs ≤ position_or_len test xs → list_any test xs ≡ false)
        → length (x ∷ xs) ≤ cond (not passes) (1 + position_or_len test xs) 0 → (passes || list_any test xs) ≡ false
    by true rest l = absurd (omega (arith, l))
    by false rest l = rest (omega (arith, l))

module _ (met : List SymbolId) (x : SymbolId) where
  pub same_symbol : symbol_eq x x ≡ true
  same_symbol = symbol_equiv.refl x

  pub other_symbol : (y : SymbolId) → (y ≡ x → ⊥) → symbol_eq x y ≡ false
  other_symbol y apart = by (symbol_eq x y) refl
    where
      by : (b : Bool) → symbol_eq x y ≡ b → b ≡ false
      by true e = absurd (apart (sym (symbol_exact x y e)))
      by false e = refl

  pub stays : Contains met x → met ≡ insert_key symbol_eq met x
  stays c = let any : list_any (symbol_eq x) met ≡ true = list_any-from_Contains symbol_equiv x met c in rw any refl

  pub joins : (Contains met x → ⊥) → met ++ x ∷ [] ≡ insert_key symbol_eq met x
  joins new = by (list_any (symbol_eq x) met) refl
    where
      by : (b : Bool) → list_any (symbol_eq x) met ≡ b → met ++ x ∷ [] ≡ cond b met (met ++ x ∷ [])
      by true e = absurd (new (Contains-from_any symbol_exact x met e))
      by false e = refl

  pub behind : (Contains met x → ⊥) → length met ≡ position_or_len (symbol_eq x) met
  behind new = sym (position_or_len_is (symbol_eq x) met (length met) x (omega arith) (λ k l. other_symbol (get_or met k x) (λ e. new (k, l, e)))
      (λ l. absurd (omega arith)))

  pub at_place : (place : ℕ) → (traces : List ℕ) → LeavesTraces met traces → slice_get met place ≡ Some x → place ≡ position_or_len (symbol_eq x) met
  at_place place traces leaves at =
      let within : place < length met = slice_get_within met place x at in
      let is : get_or met place x ≡ x = get_or_from_slice_get met place x x at in
      sym (position_or_len_is (symbol_eq x) met place x (omega arith)
      (λ k l. other_symbol (get_or met k x) (λ e.
      let same : k ≡ place = distinct_places met k place x leaves.distinct (slice_get_read met (length met) k x refl (omega arith) (sym e)) at in
      absurd (omega arith)))
      (λ l. ap (symbol_eq x) is ∙ same_symbol))

  -- where a search ends that found nothing
  pub nowhere : length met ≤ position_or_len (symbol_eq x) met → Contains met x → ⊥
  nowhere past c =
      let no : list_any (symbol_eq x) met ≡ false = any_none (symbol_eq x) met past in
      let yes : list_any (symbol_eq x) met ≡ true = list_any-from_Contains symbol_equiv x met c in
      let both : false ≡ true = sym no ∙ yes in absurd cc

  pub somewhere : position_or_len (symbol_eq x) met < length met → Contains met x
  somewhere within = (
    position_or_len (symbol_eq x) met,
    within,
    sym (symbol_exact x (get_or met (position_or_len (symbol_eq x) met) x) (passes_at_first (symbol_eq x) met x within)),
  )

pub most : {X : Type 0} (test : X → Bool) (xs : List X) → position_or_len test xs ≤ length xs
most test [] = omega arith
most test (x ∷ xs) = by (test x) (most test xs)
  where
    by : (b : Bool) → position_or_len test xs ≤ length xs → cond (not b) (1 + position_or_len test xs) 0 ≤ suc (length xs)
    by true l = omega arith
    by false l = omega arith

-- ---- one more symbol

pub one_more : (met : List SymbolId) (traces : List ℕ) (x : SymbolId) (trace : ℕ) → LeavesTraces met traces → (Contains met x → ⊥) → trace ≢ UNMET
    → x.0 % TRACES < length traces → LeavesTraces (met ++ x ∷ []) (slice_set traces (x.0 % TRACES) trace)
one_more met traces x trace leaves new some within = record {
  distinct = distinct_push met x leaves.distinct new;
  left = λ y c. elim (cases_eq (y.0 % TRACES) (x.0 % TRACES)) [
    | inl e ↦ λ none. some (sym (ap (trace_in (slice_set traces (x.0 % TRACES) trace)) e ∙ get_or-set_same traces (x.0 % TRACES) trace UNMET within) ∙ none)
    | inr n ↦ λ none. elim (Contains-push_cases met x y c) [
      | inl old ↦ leaves.left y old (sym (get_or-set_other traces (x.0 % TRACES) (y.0 % TRACES) trace UNMET n) ∙ none)
      | inr e ↦ n (ap (λ (s : SymbolId). s.0 % TRACES) (sym e))
    ]
  ];
}
