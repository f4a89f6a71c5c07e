use Rattle.std.proofs.Common.{ℕ, arith}
use Rattle.forest_print.proofs.Rooms.{only_ends}
use Rattle.forest_print.proofs.pieces.Piece.new.Goals as goal

pub invariant_of-result : goal.invariant_of-result
invariant_of-result c = (omega arith, λ (at : ℕ) past. only_ends 32 at)
