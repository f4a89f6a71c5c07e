use Rattle.std.proofs.Common.{◌≡◌, ◌≤◌, ◌++◌, ◌-◌, length, take, drop}
use Rattle.grammar_text.specs.Pieces.{piece_of, behind_piece}
use Rattle.grammar_text.proofs.pieces.split_piece.Given as goal

abbrev pub invariant-loop-end : goal.invariant-loop-end
invariant-loop-end l = record {
  in_range : l.end ≤ length l.bytes;
  piece : take l.end l.bytes ++ piece_of (drop l.end l.bytes) ≡ piece_of l.bytes;
  behind : behind_piece (drop l.end l.bytes) ≡ behind_piece l.bytes;
}

abbrev pub decreases-loop-end : goal.decreases-loop-end
decreases-loop-end l = length l.bytes - l.end
