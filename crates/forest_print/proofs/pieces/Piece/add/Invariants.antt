use Rattle.std.proofs.Common.{◌≡◌, ◌++◌, take}
use Rattle.forest_print.proofs.pieces.Piece.add.Given as goal

abbrev pub invariant-loop-byte : goal.invariant-loop-byte
invariant-loop-byte l = l.self ≡ l.initial.self ++ take l.byte-index l.bytes
