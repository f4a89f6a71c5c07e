use Rattle.std.proofs.Common.{◌≤◌}
use Rattle.std.specs.List.{position_or_len}
use Rattle.grammar_text.specs.Sameness.{spelling_eq}
use Rattle.edit_log.specs.Replicas.{symbols_in}
use Rattle.edit_log.proofs.fresh_symbols.place_in.Given as goal

-- the symbol is none of those so far
abbrev pub invariant-loop-place : goal.invariant-loop-place
invariant-loop-place l = l.place ≤ position_or_len (spelling_eq l.symbol) (symbols_in l.fresh)
