use Rattle.std.proofs.Common.{◌≤◌, ◌+◌, ◌++◌, length, take}
use Rattle.std.specs.List.{AllByRecursion}
use Rattle.edit_log.specs.Replicas.{IsFreshSymbol, symbols_in}
use Rattle.edit_log.proofs.Places.{AreNumbered}
use Rattle.edit_log.proofs.fresh_symbols.numbers_in.Given as goal

-- the symbols so far have their numbers
abbrev pub invariant-loop-symbol : goal.invariant-loop-symbol
invariant-loop-symbol l = record {
  numbered : AreNumbered (l.known.keys ++ symbols_in l.initial.fresh.items) (l.known.keys ++ symbols_in l.fresh.items)
      (take l.symbol-index l.symbols) l.numbers.items;
  few : length l.fresh.items ≤ length l.initial.fresh.items + l.symbol-index;
  each : AllByRecursion IsFreshSymbol l.initial.fresh.items → AllByRecursion IsFreshSymbol l.fresh.items;
}
