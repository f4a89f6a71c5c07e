use Rattle.std.proofs.Common.{◌≡◌, ◌≤◌, ◌+◌, ◌++◌, length, map}
use Rattle.std.specs.Vec.Iter.{into_iter_items}
use Rattle.indexmap.specs.IndexSet.{spare}
use Rattle.edit_log.specs.Replicas.{room_of, symbols_in}
use Rattle.edit_log.specs.Rows.{lefts_in, uses_in, literals_in}
use Rattle.edit_log.specs.declared.fresh_symbols.FreshSymbol.{FreshSymbol}
use Rattle.edit_log.proofs.symbol_table.SymbolTable.add_symbols.Given as goal

-- the first of them are added, and there is room for the others
abbrev pub invariant-loop-one : goal.invariant-loop-one
invariant-loop-one l = record {
  front : l.fn.fresh.items ≡ l.yielded ++ into_iter_items l.one-iterator;
  symbols : l.self.symbols.keys ≡ l.fn.self.symbols.keys ++ symbols_in l.yielded;
  lefts : lefts_in l.self.rows.items ≡ lefts_in l.fn.self.rows.items ++ map (λ (one : FreshSymbol). one.rules) l.yielded;
  uses : uses_in l.self.rows.items ≡ uses_in l.fn.self.rows.items ++ map (λ (one : FreshSymbol). 0) l.yielded;
  literals : literals_in l.self.rows.items ≡ literals_in l.fn.self.rows.items ++ map (λ (one : FreshSymbol). one.positions) l.yielded;
  symbols_room : length l.fn.fresh.items ≤ spare l.self.symbols + length l.yielded;
  rows_room : length l.fn.fresh.items ≤ room_of l.self.rows + length l.yielded;
}
