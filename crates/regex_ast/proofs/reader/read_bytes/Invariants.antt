use Rattle.std.proofs.Common.{◌≡◌, ◌≤◌, Some, take}
use Rattle.regex_ast.specs.Nests.{first_state, after_bytes}
use Rattle.regex_ast.specs.Held.{state_of}
use Rattle.regex_ast.proofs.reader.read_bytes.Given as goal

abbrev pub invariant-loop-at : goal.invariant-loop-at
invariant-loop-at l = (after_bytes first_state 0 (take l.at l.text) ≡ Some (state_of l.reader)) × (l.reader.breaches.classes ≤ l.at)
