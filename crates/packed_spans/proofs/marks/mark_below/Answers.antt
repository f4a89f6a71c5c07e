use Rattle.std.proofs.Common.{◌≡◌, ◌<◌, ◌-◌, length, arith, slice_get, Some}
use Rattle.packed_spans.proofs.Lists.{read_at}
use Rattle.packed_spans.proofs.Links.{begins, goes_on}
use Rattle.packed_spans.proofs.Parts.{no_splits_marked, split_marked}
use Rattle.packed_spans.proofs.marks.mark_below.Goals as goal

pub loop-link-init : goal.loop-link-init
loop-link-init c =
    let at : slice_get c.args.table.now.spans.items c.args.number ≡ Some c.index.result.now = read_at _ _ _ c.requires.number c.index.ensures in
    let link = c.requires.table.newest c.args.number c.index.result.now at in
    record {
      along = begins _ _ (length c.args.table.now.splits.items) _ (omega arith) link;
      marks = no_splits_marked _ _ _ _ _ _ _ link;
    }

pub mark_parts-requires-clause-stored : goal.mark_parts-requires-clause-stored
mark_parts-requires-clause-stored c =
    let within : c.loop-link.link - 1 < length c.args.table.now.splits.items = omega (arith, c.loop-link.invariant.along.low) in
    c.requires.table.stored _ _ (read_at _ _ _ within c.index-row.ensures)

pub loop-link-smaller : goal.loop-link-smaller
loop-link-smaller c =
    let within : c.loop-link.link - 1 < length c.args.table.now.splits.items = omega (arith, c.loop-link.invariant.along.low) in
    let link = c.requires.table.older _ _ (read_at _ _ _ within c.index-row.ensures) in
    omega (arith, link.low)

pub loop-link-preserved : goal.loop-link-preserved
loop-link-preserved c =
    let within : c.loop-link.link - 1 < length c.args.table.now.splits.items = omega (arith, c.loop-link.invariant.along.low) in
    let at = read_at c.args.table.now.splits.items _ _ within c.index-row.ensures in
    let link = c.requires.table.older _ _ at in
    record {
      along = goes_on _ _ c.loop-link.link c.index-row.result.now c.loop-link.invariant.along c.loop-link-test.true at link;
      marks = split_marked _ _ _ _ _ _ c.loop-link.link c.index-row.result.now _ _ _ _ c.loop-link.invariant.along c.loop-link-test.true at link
          c.loop-link.invariant.marks c.in_ok-mark_parts.ensures;
    }
