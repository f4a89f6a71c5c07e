use Rattle.std.proofs.Common.{take}
use Rattle.parser_states.specs.Known.{known_moves}
use Rattle.parser_states.proofs.MovesAdded.{AddsSome}
use Rattle.parser_states.proofs.moves.MoveLists.add.Given as goal

abbrev pub invariant-loop-entry : goal.invariant-loop-entry
invariant-loop-entry l = AddsSome (take l.entry-index l.moves) (known_moves l.initial.self) (known_moves l.self)
