use Rattle.std.proofs.Common.{◌≤◌, length, arith}
use Rattle.std.proofs.lemmas.Option.{slice_get_within}
use Rattle.plain_chart.proofs.PartLists.{reaching_first, reaching_ends, reaching_bound, reaching_more, reaching_all}
use Rattle.plain_chart.proofs.SplitLists.{contained}
use Rattle.plain_chart.proofs.reach.reached_spans.Goals as goal

pub loop-at-init : goal.loop-at-init
loop-at-init c = rw (c.in_ok-insert.ensures, c.new-reached.ensures) (reaching_first _ _ _ c.requires.whole)

pub add_below-requires-clause-begins : goal.add_below-requires-clause-begins
add_below-requires-clause-begins c = omega (
  arith,
  c.requires.few,
  (reaching_ends _ _ _ c.requires.whole _ _ c.loop-at.invariant c.at-span.result
      (contained c.loop-at.reached c.loop-at.at c.at-span.result c.at-span.ensures)).0,
)

pub add_below-requires-clause-ends : goal.add_below-requires-clause-ends
add_below-requires-clause-ends c = omega (
  arith,
  c.requires.few,
  (reaching_ends _ _ _ c.requires.whole _ _ c.loop-at.invariant c.at-span.result
      (contained c.loop-at.reached c.loop-at.at c.at-span.result c.at-span.ensures)).1,
)

pub loop-at-smaller : goal.loop-at-smaller
loop-at-smaller c = omega (
  arith,
  slice_get_within c.loop-at.reached c.loop-at.at c.at-span.result c.at-span.ensures,
  reaching_bound _ _ _ c.requires.whole c.loop-at.reached c.loop-at.at c.loop-at.invariant,
)

pub loop-at-preserved : goal.loop-at-preserved
loop-at-preserved c = reaching_more _ _ _ c.requires.whole _ _ c.loop-at.invariant c.at-span.result _ c.at-span.ensures c.in_ok-add_below.ensures

pub returns : goal.returns
returns c =
    let end : length c.loop-at.reached ≤ c.loop-at.at = omega (arith, c.len.ensures) in
    reaching_all _ _ _ c.requires.whole _ _ c.loop-at.invariant c.requires.terminals end
