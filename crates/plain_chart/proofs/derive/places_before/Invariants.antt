use Rattle.std.proofs.Common.{◌≡◌, ℕ, ◌<◌, ◌≤◌, ◌↔◌, true, false, slice_get, Some, length}
use Rattle.plain_chart.specs.Known.{ReachesAhead}
use Rattle.plain_chart.proofs.derive.places_before.Given as goal
use Rattle.plain_chart.specs.declared.limits.TheConstants.{PLACES}

abbrev pub invariant-loop-from : goal.invariant-loop-from
invariant-loop-from l = record {
  wide : length l.places ≡ PLACES;
  below : (i : ℕ) → i < l.from → (slice_get l.places i ≡ Some true) ↔ ReachesAhead l.tokens l.known l.symbol i l.ahead l.to;
  above : (i : ℕ) → l.from ≤ i → i < PLACES → slice_get l.places i ≡ Some false;
}
