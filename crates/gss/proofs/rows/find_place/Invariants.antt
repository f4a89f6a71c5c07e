use Rattle.std.proofs.Common.{◌≡◌, ℕ, ◌<◌, slice_get, Some}
use Rattle.gss.specs.PlaceGraphs.{place_with}
use Rattle.gss.specs.Rows.{places}
use Rattle.gss.proofs.rows.find_place.Given as goal

abbrev pub invariant-loop-number : goal.invariant-loop-number
invariant-loop-number l = (k : ℕ) → k < l.number → slice_get (places l.nodes) k ≡ Some (place_with l.state l.at) → ⊥
