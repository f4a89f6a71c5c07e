use Rattle.std.proofs.Common.{◌≡◌, drop}
use Rattle.pin_rule.specs.Rows.{hashed}
use Rattle.slot_store.proofs.paths.mixed.Given as goal

abbrev pub invariant-loop-i : goal.invariant-loop-i
invariant-loop-i l = hashed l.hash (drop l.i l.key) ≡ hashed 0 l.key
