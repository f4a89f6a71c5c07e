use Rattle.std.proofs.Common.{ℕ, List}
use Rattle.plain_chart.specs.declared.spans.Span.{Span}
use Rattle.plain_chart.specs.Known.{IsSettled}
use Rattle.plain_chart.proofs.Fine.{grows_then, settled_more}
use Rattle.plain_chart.proofs.derive.settle_rule.Goals as goal

pub loop-to-preserved : goal.loop-to-preserved
loop-to-preserved c = record {
  grows = grows_then _ _ _ _ _ _ _ c.loop-to.invariant.grows c.in_ok-changed.ensures.grows;
  settled = λ e r i j get below. settled_more
      (λ (known : List Span) (k : ℕ). IsSettled c.args.tokens.now known r i k) _ _ _ _ c.loop-to.to
      c.in_ok-changed.ensures.grows.same
      (λ f k l. c.loop-to.invariant.settled f r i k get l)
      (λ f. c.in_ok-changed.ensures.settled f r i get) e j below;
}
