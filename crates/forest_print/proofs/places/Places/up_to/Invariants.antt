use Rattle.std.proofs.Common.{◌≡◌, length}
use Rattle.forest_print.specs.Parts.{ArePlaces}
use Rattle.forest_print.proofs.places.Places.up_to.Given as goal

abbrev pub invariant-loop-place : goal.invariant-loop-place
invariant-loop-place l = (length l.pieces.items ≡ l.place) × ArePlaces l.pieces.items
