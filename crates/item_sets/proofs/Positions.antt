-- The symbol after an item's dot, found by the number of its rule.
use Rattle.std.proofs.Common.{◌≡◌, ℕ, ◌≤◌, ◌==◌, inl, inr, false, List, [], ◌∷◌, length, refl, sym, ◌∙◌, ap, arith, Contains, Some, None, slice_get}
use Rattle.std.proofs.lemmas.Bool.{eqb-true, eq-eqb, ne_eqb}
use Rattle.std.proofs.lemmas.Option.{slice_get_cases}
use Rattle.forest.specs.declared.symbols.SymbolId.{SymbolId}
use Rattle.forest.specs.declared.rules.RuleId.{RuleId}
use Rattle.forest.specs.declared.rules.Rule.{Rule}
use Rattle.edit_log.specs.History.{Grammar}
use Rattle.edit_log.specs.Facts.{IsWellFormed}
use Rattle.edit_log.specs.Lookups.{rule_of}
use Rattle.edit_log.proofs.PlainLists.{each_contained, find_only}
use Rattle.item_sets.specs.declared.item.Item.{Item}
use Rattle.item_sets.specs.Prefixes.{rule_zero, item_at, HasRight, whole, live, IsNext, IsItem}
use Rattle.item_sets.specs.Walks.{next_of}
use Rattle.item_sets.proofs.Numbering.{IsNumbered}

pub number_same : (a b : RuleId) → a.0 ≡ b.0 → a ≡ b
number_same a b e = let f : ℕ → RuleId = λ n. record { 0 = n } in ap f e

module _ (rules : List Rule) (numbers : IsNumbered rules) where
  find_rule : (r : Rule) → Contains rules r → rule_of rules r.number ≡ Some r
  find_rule r c = find_only (λ q. q.number.0 == r.number.0) rules r
      (record { there = c; passes = eq-eqb r.number.0 r.number.0 refl })
      (λ q d e. numbers.same q r d c (number_same q.number r.number (eqb-true q.number.0 r.number.0 e)))

  -- it is at the dot on the right side
  pub next_is : {k : RuleId} {right : List SymbolId} (d : ℕ) → HasRight rules k right → next_of rules (item_at k d) ≡ slice_get right d
  next_is d whole = refl
  next_is d (live {r = r} c) =
      let some : (r.number.0 == 0) ≡ false = ne_eqb r.number.0 0 (λ e. numbers.some r c (number_same r.number rule_zero e)) in
      rw (some, find_rule r c) refl

  pub next_to : (item : Item) (x : SymbolId) → IsItem rules item → next_of rules item ≡ Some x → IsNext rules item x
  next_to item x is e = record { right = is.right; has = is.has; at_dot = sym (next_is item.dot is.has) ∙ e }

  pub next_from : (item : Item) (x : SymbolId) → IsNext rules item x → next_of rules item ≡ Some x
  next_from item x n = next_is item.dot n.has ∙ n.at_dot

  -- nothing stands after the dot of a finished item
  pub end_from : (k : RuleId) (right : List SymbolId) → HasRight rules k right → next_of rules (item_at k (length right)) ≡ None
  end_from k right h = next_is (length right) h ∙ past right
    where
      past : {X : Type 0} (xs : List X) → slice_get xs (length xs) ≡ None
      past [] = refl
      past (x ∷ xs) = past xs

  pub end_to : (item : Item) → (is : IsItem rules item) → next_of rules item ≡ None → item.dot ≡ length is.right
  end_to item is e = elim (slice_get_cases is.right item.dot).1 [
    | inl (x, within, at, same) ↦ let no : None ≡ Some x = sym e ∙ next_is item.dot is.has ∙ at in absurd cc
    | inr (past, none) ↦ omega (arith, is.within)
  ]

-- a right side of a well-formed grammar has at most 16 symbols
right_short : (grammar : Grammar) → IsWellFormed grammar → {k : RuleId} {right : List SymbolId} → HasRight grammar.rules k right → length right ≤ 16
right_short grammar w whole = omega arith
right_short grammar w (live {r = r} c) = (each_contained _ grammar.rules r w.rights c).1

pub dot_short : (grammar : Grammar) → IsWellFormed grammar → (item : Item) → IsItem grammar.rules item → item.dot ≤ 16
dot_short grammar w item is = omega (arith, is.within, right_short grammar w is.has)
