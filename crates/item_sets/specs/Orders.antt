-- How items, moves and reductions are ordered, and what `==` tells of items and of rules' numbers.
use Rattle.std.specs.Prelude.{Bool, List, [], ◌∷◌, nat_eq}
use Rattle.std.specs.Ordering.{nat_cmp, ordering_then, on, eq_of_both}
use Rattle.std.specs.Cmp.{IsEquivalence, on_equiv, and_equiv, nat_eq_equiv}
use Rattle.std.specs.declared.cmp.Ordering.{Ordering}
use Rattle.std.specs.declared.cmp.Ordering.TheVariants.{Less, Equal, Greater}
use Rattle.forest.specs.declared.symbols.SymbolId.{SymbolId}
use Rattle.forest.specs.declared.rules.RuleId.{RuleId}
use Rattle.item_sets.specs.declared.item.Item.{Item}

-- by rule, then by dot
abbrev pub item_cmp : Item → Item → Ordering
item_cmp a b = ordering_then (nat_cmp a.rule.0 b.rule.0) (nat_cmp a.dot b.dot)

-- the first of the items is this one, where the item comes before it, is the same, or comes later
abbrev pub placed : Ordering → Item → Item → List Item → List Item → List Item
placed Less item first rest later = item ∷ first ∷ rest
placed Equal item first rest later = first ∷ rest
placed Greater item first rest later = first ∷ later

-- ascending items with one more at its place, unless it is there already
abbrev pub with_item : Item → List Item → List Item
with_item item [] = item ∷ []
with_item item (first ∷ rest) = placed (item_cmp item first) item first rest (with_item item rest)

-- a symbol, and the kernel behind it: by the symbol
abbrev pub move_cmp : SymbolId × List Item → SymbolId × List Item → Ordering
move_cmp a b = nat_cmp a.0.0 b.0.0

-- by number
abbrev pub reduction_cmp : RuleId → RuleId → Ordering
reduction_cmp a b = nat_cmp a.0 b.0

abbrev pub item_eq : Item → Item → Bool
item_eq = eq_of_both (on (λ a. a.rule.0) nat_eq) (on (λ a. a.dot) nat_eq)

pub item_equiv : IsEquivalence item_eq
item_equiv = and_equiv (on_equiv (λ (a : Item). a.rule.0) nat_eq_equiv) (on_equiv (λ (a : Item). a.dot) nat_eq_equiv)

abbrev pub number_eq : RuleId → RuleId → Bool
number_eq = on (λ a. a.0) nat_eq
