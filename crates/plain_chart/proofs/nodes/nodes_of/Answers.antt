use Rattle.std.proofs.Common.{get_or, sym}
use Rattle.std.proofs.lemmas.List.{get_or_default}
use Rattle.plain_chart.specs.declared.spans.Span.{Span}
use Rattle.plain_chart.proofs.NodeLists.{nodes_more}
use Rattle.plain_chart.proofs.TableLemmas.{read_is}
use Rattle.plain_chart.proofs.nodes.nodes_of.Goals as goal

abbrev none : Span
none = record { from = 0; to = 0; symbol = record { 0 = 0 } }

pub node_of-requires-clause-within : goal.node_of-requires-clause-within
node_of-requires-clause-within c =
    let s : Span = get_or c.args.spans.now c.loop-span.span-index none in
    c.requires.within s (c.loop-span.span-index, c.loop-span-test.true, get_or_default c.args.spans.now c.loop-span.span-index s none c.loop-span-test.true)

pub loop-span-preserved : goal.loop-span-preserved
loop-span-preserved c =
    let s : Span = get_or c.args.spans.now c.loop-span.span-index none in
    let there = read_is c.args.spans.now c.loop-span.span-index s
    (sym (get_or_default c.args.spans.now c.loop-span.span-index s none c.loop-span-test.true)) c.loop-span-test.true in
    rw c.in_ok-push.ensures.items (nodes_more _ _ _ c.loop-span.span-index s _ _ there c.loop-span.invariant c.in_ok-node_of.ensures)
