-- Whether a symbol is the left side of a rule, by the numbers of the rules with this left side.
use Rattle.std.proofs.Common.{◌≡◌, ℕ, ◌==◌, Bool, true, false, cond, List, [], ◌∷◌, length, map, filter, refl, ap, arith}
use Rattle.std.specs.Cmp.{unsigned_Decides}
use Rattle.std.proofs.lemmas.List.{length-map}
use Rattle.forest.specs.declared.symbols.SymbolId.{SymbolId}
use Rattle.forest.specs.declared.rules.Rule.{Rule}
use Rattle.forest.specs.Derivation.{IsNonterminal}
use Rattle.forest.proofs.Ascending.{contains_here, contains_there}
use Rattle.edit_log.specs.Lookups.{numbers_of_left}
use Rattle.item_sets.proofs.DistinctLists.{kept}

-- some rule has the left side
pub some_left : (rules : List Rule) (x : SymbolId) → (length (numbers_of_left rules x) ≡ 0 → ⊥) → IsNonterminal rules x
some_left [] x some = absurd (some refl)
some_left (r ∷ rules) x some = by (r.left.0 == x.0) refl some (some_left rules x)
  where
    by : (b : Bool) → (r.left.0 == x.0) ≡ b
        → (length (map (λ (q : Rule). q.number) (cond b (r ∷ filter (λ (q : Rule). q.left.0 == x.0) rules)
        (filter (λ (q : Rule). q.left.0 == x.0) rules))) ≡ 0 → ⊥)
        → ((length (numbers_of_left rules x) ≡ 0 → ⊥) → IsNonterminal rules x) → IsNonterminal (r ∷ rules) x
    by true e there rec =
        let f : ℕ → SymbolId = λ n. record { 0 = n } in
        (r, contains_here r rules, ap f ((unsigned_Decides r.left.0 x.0).0 e))
    by false e there rec = let later = rec there in (later.0, contains_there r rules later.0 later.1, later.2)

-- no rule has the left side
pub none_left : (rules : List Rule) (x : SymbolId) → length (numbers_of_left rules x) ≡ 0 → IsNonterminal rules x → ⊥
none_left rules x none (r, there, left) =
    let passes : (r.left.0 == x.0) ≡ true = (unsigned_Decides r.left.0 x.0).1 (ap (λ (s : SymbolId). s.0) left) in
    let inside = kept (λ (q : Rule). q.left.0 == x.0) rules r there passes in
    omega (arith, inside.1, none, length-map (filter (λ (q : Rule). q.left.0 == x.0) rules) (λ (q : Rule). q.number))
