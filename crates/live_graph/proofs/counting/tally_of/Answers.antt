use Rattle.std.proofs.Common.{◌∙◌, sym, ap, arith}
use Rattle.live_graph.specs.Tallying.{counted}
use Rattle.live_graph.specs.Answers.{origins}
use Rattle.live_graph.proofs.TallyCounts.{tally_more, reached_on}
use Rattle.live_graph.proofs.counting.tally_of.Goals as goal

pub loop-place-preserved : goal.loop-place-preserved
loop-place-preserved g c =
    let at = c.origin_at.ensures in
    let on = reached_on c.origin_at.result c.loop-place.tally in
    let is = ap (λ t. t.reached) c.count-tally.ensures.counted in record {
      counted =
          c.count-tally.ensures.counted ∙ ap (counted c.origin_at.result) c.loop-place.invariant.counted
          ∙ sym (tally_more (origins c.args.kept.now.entries) c.loop-place.place (at.0, c.origin_at.result) at.1);
      reached = omega (arith, is, on, c.loop-place.invariant.reached);
      sum = c.count-tally.ensures.sum;
    }
