use Rattle.std.proofs.Common.{◌≡◌, take, ◌++◌}
use Rattle.parser_states.specs.Finished.{reductions_told}
use Rattle.parser_states.proofs.reduction.add_reductions.Given as goal

abbrev pub invariant-loop-number : goal.invariant-loop-number
invariant-loop-number l = l.reductions.items ≡ l.initial.reductions.items ++ reductions_told l.grammar.grammar.rules l.empty (take l.number-index l.finished)
