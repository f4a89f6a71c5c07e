use Rattle.std.proofs.Common.{◌≡◌, ◌≤◌, ◌+◌, length, vec_len, vec_capacity}
use Rattle.pin_rule.specs.Lists.{Each}
use Rattle.pin_rule.specs.Hands.{view_of, table_of}
use Rattle.version_store.proofs.Dividing.{Halves}
use Rattle.version_store.proofs.parting.split_passes.Given as goal

abbrev pub invariant-loop-made : goal.invariant-loop-made
invariant-loop-made g l = record {
  table : table_of l.hand ≡ table_of l.fn.hand;
  buffers : vec_len l.buffers + l._made ≡ l.count;
  each : Each (λ b. length b.items ≡ l.sizes.width) l.buffers.items;
  passes : vec_len l.passes ≡ l._made;
  wide : l.count ≤ vec_capacity l.passes;
  halves : Halves (view_of l.fn.hand) (view_of l.hand) (table_of l.fn.hand) l.pins l._made l.passes.items;
  next : l.next ≤ l.sizes.rows;
  stride : l.stride ≤ l.sizes.rows;
}
