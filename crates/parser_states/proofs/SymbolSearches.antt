-- What a binary search for a symbol finds, and that it is decided whether a symbol is there.
use Rattle.std.proofs.Common.{◌≡◌, ◌⊎◌, inl, inr, ℕ, Bool, true, false, List, []}
use Rattle.std.proofs.Common.{◌∷◌, length, get_or, Some, Result, Ok, Err, slice_get, Contains, IfSome, IfNone}
use Rattle.std.proofs.Common.{refl, sym, ap, ◌∙◌, subst, arith}
use Rattle.std.specs.List.Sorted.{IsStrictlySortedBy, IsSearchInRange, IsBinarySearchResult}
use Rattle.std.specs.Ordering.{nat_cmp}
use Rattle.std.specs.declared.cmp.Ordering.TheVariants.{Equal}
use Rattle.std.specs.Result.{result_ok}
use Rattle.std.specs.Cmp.{unsigned_Decides}
use Rattle.std.proofs.lemmas.Map.Lookups.{exact_unsigned}
use Rattle.std.proofs.lemmas.Option.{slice_get-get_or}
use Rattle.forest.specs.declared.symbols.SymbolId.{SymbolId}
use Rattle.forest.specs.Equality.{symbol_eq}
use Rattle.forest.proofs.Ascending.{contains_here, contains_there, contains_cases}
use Rattle.edit_log.proofs.NumberSearches.{there_found}
use Rattle.item_sets.proofs.MoveLists.{symbol_exact}
use Rattle.parser_states.specs.Rows.{symbol_cmp}

module _ (symbols : List SymbolId) (x : SymbolId) where
  symbol_same : (y : SymbolId) → nat_cmp y.0 x.0 ≡ Equal → y ≡ x
  symbol_same y e = let f : ℕ → SymbolId = λ n. record { 0 = n } in ap f (exact_unsigned y.0 x.0 e)

  pub found_place : (r : Result ℕ ℕ) → IsSearchInRange r (length symbols) → IsBinarySearchResult (λ y. nat_cmp y.0 x.0) symbols r
      → IfSome (result_ok r) (λ place. slice_get symbols place ≡ Some x)
  found_place (Ok at) range h = slice_get-get_or symbols at x range ∙ ap Some (symbol_same (get_or symbols at x) (h x))
  found_place (Err at) range h = tt

  pub no_place : (r : Result ℕ ℕ) → IsBinarySearchResult (λ y. nat_cmp y.0 x.0) symbols r
      → IfNone (result_ok r) (IsStrictlySortedBy symbol_cmp symbols → Contains symbols x → ⊥)
  no_place (Ok at) h = tt
  no_place (Err at) h = λ sorted c.
      let there = there_found (λ (y : SymbolId). y.0) symbols sorted x.0 (Err at) x c refl h in
      absurd (let e = there.1 in cc)

pub there_or_not : (symbols : List SymbolId) (x : SymbolId) → Contains symbols x ⊎ (Contains symbols x → ⊥)
there_or_not [] x = inr (λ c. omega (arith, c.1))
there_or_not (y ∷ symbols) x = by (symbol_eq y x) refl (there_or_not symbols x)
  where
    by : (b : Bool) → symbol_eq y x ≡ b → Contains symbols x ⊎ (Contains symbols x → ⊥) → Contains (y ∷ symbols) x ⊎ (Contains (y ∷ symbols) x → ⊥)
    by true e rest = inl (subst (Contains (y ∷ symbols)) (symbol_exact y x e) (contains_here y symbols))
    by false e rest = elim rest [
      | inl c ↦ inl (contains_there y symbols x c)
      | inr none ↦ inr (λ c. elim (contains_cases y symbols x c) [
        | inl same ↦
            let yes : symbol_eq y x ≡ true = (unsigned_Decides y.0 x.0).1 (ap (λ (s : SymbolId). s.0) same) in
            let no : false ≡ true = sym e ∙ yes in
            absurd cc
        | inr d ↦ none d
      ])
    ]
