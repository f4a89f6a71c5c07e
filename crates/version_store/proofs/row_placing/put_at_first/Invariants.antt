use Rattle.std.proofs.Common.{◌≡◌, ◌≢◌, ◌<◌, ℕ, slice_index}
use Rattle.pin_rule.specs.Rows.{on_path}
use Rattle.version_store.proofs.row_placing.put_at_first.Given as goal

abbrev pub invariant-loop-step : goal.invariant-loop-step
invariant-loop-step l = record {
  at : l.place ≡ on_path l.sizes l.key l._step;
  same : l.places ≡ l.fn.places;
  passed : (before : ℕ) → before < l._step → slice_index l.places (on_path l.sizes l.key before) ≢ 0;
}
