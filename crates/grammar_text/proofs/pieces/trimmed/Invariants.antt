use Rattle.std.proofs.Common.{◌≡◌, ◌≤◌, length}
use Rattle.grammar_text.specs.Pieces.{trimmed}
use Rattle.grammar_text.proofs.pieces.trimmed.Given as goal

abbrev pub invariant-loop-left : goal.invariant-loop-left
invariant-loop-left l = record {
  value : trimmed l.left ≡ trimmed l.bytes;
  within : length l.left ≤ length l.bytes;
}

abbrev pub decreases-loop-left : goal.decreases-loop-left
decreases-loop-left l = length l.left
