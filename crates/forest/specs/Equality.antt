-- What `==` tells of symbols and splits.
use Rattle.std.specs.Prelude.{Bool, nat_eq}
use Rattle.std.specs.Ordering.{on, eq_of_both}
use Rattle.std.specs.Cmp.{IsEquivalence, on_equiv, and_equiv, nat_eq_equiv}
use Rattle.std.specs.Cmp.Lexicographic.{pointwise, lists_equiv}
use Rattle.forest.specs.declared.symbols.SymbolId.{SymbolId}
use Rattle.forest.specs.declared.nodes.Split.{Split}

abbrev pub symbol_eq : SymbolId → SymbolId → Bool
symbol_eq = on (λ a. a.0) nat_eq

pub symbol_equiv : IsEquivalence symbol_eq
symbol_equiv = on_equiv (λ (a : SymbolId). a.0) nat_eq_equiv

abbrev pub split_eq : Split → Split → Bool
split_eq = eq_of_both (on (λ a. a.rule.0) nat_eq) (on (λ a. a.cuts) (pointwise nat_eq))

pub split_equiv : IsEquivalence split_eq
split_equiv = and_equiv (on_equiv (λ (a : Split). a.rule.0) nat_eq_equiv) (on_equiv (λ (a : Split). a.cuts) (lists_equiv nat_eq_equiv))
