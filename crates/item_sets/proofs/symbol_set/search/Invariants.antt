use Rattle.std.proofs.Common.{◌≤◌}
use Rattle.std.specs.List.{position_or_len}
use Rattle.forest.specs.Equality.{symbol_eq}
use Rattle.item_sets.proofs.symbol_set.search.Given as goal

-- the symbol is none of those so far
abbrev pub invariant-loop-place : goal.invariant-loop-place
invariant-loop-place l = l.place ≤ position_or_len (symbol_eq l.symbol) l.met
