use Rattle.std.proofs.Common.{◌≡◌, ◌≤◌, length, vec_len, vec_capacity}
use Rattle.pin_rule.specs.Lists.{Each}
use Rattle.version_store.proofs.parting.make_room.Given as goal

abbrev pub invariant-loop-made : goal.invariant-loop-made
invariant-loop-made g l = record {
  many : vec_len l.buffers ≡ l._made;
  wide : l.count ≤ vec_capacity l.buffers;
  each : Each (λ b. length b.items ≡ l.sizes.width) l.buffers.items;
}
