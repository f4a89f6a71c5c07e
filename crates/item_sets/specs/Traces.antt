-- Where symbols are that were met, told by traces that they left.
use Rattle.std.specs.Prelude.{ℕ, ◌≢◌, ◌%◌, List, Contains, get_or}
use Rattle.forest.specs.declared.symbols.SymbolId.{SymbolId}
use Rattle.forest.specs.Distinct.{IsDistinct}
use Rattle.item_sets.specs.declared.symbol_set.TheConstants.{TRACES, UNMET}

-- the trace at this place, and behind the end that of no symbol
abbrev pub trace_in : List ℕ → ℕ → ℕ
trace_in traces at = get_or traces at UNMET

-- each symbol was met once, and left a trace
pub record LeavesTraces (met : List SymbolId) (traces : List ℕ) : Type 0 where
  pub distinct : IsDistinct met
  pub left : (x : SymbolId) → Contains met x → trace_in traces (x.0 % TRACES) ≢ UNMET
