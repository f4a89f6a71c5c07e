use Rattle.std.proofs.Common.{◌≡◌, refl, sym, subst, Contains}
use Rattle.plain_chart.specs.declared.spans.Span.{Span}
use Rattle.plain_chart.specs.Span.{span}
use Rattle.plain_chart.proofs.PartLists.{adds_none, adds_one}
use Rattle.plain_chart.proofs.reach.add_part.Goals as goal
use Rattle.plain_chart.proofs.reach.add_part.Goals.{else-has-via-then-has+else-not-has, else-has-via-else-has}

pub returns-in_ok-insert : goal.returns-in_ok-insert
returns-in_ok-insert c =
    rw c.in_ok-insert.ensures (adds_one c.args.known.now (λ (s : Span). span c.args.symbol c.args.from c.args.to ≡ s) c.args.reached.now
    (span c.args.symbol c.args.from c.args.to) (λ m. let yes' = c.has-then-has.ensures.1 m in let no' = c.if-not-has.true in cc)
    (c.has.ensures.0 c.if-has.true) refl (λ t e. e))

pub returns-else-has : goal.returns-else-has
returns-else-has c = adds_none c.args.known.now (λ (s : Span). span c.args.symbol c.args.from c.args.to ≡ s) c.args.reached.now
    (λ s k e. elim c.else-has.branch [
      | else-has-via-then-has+else-not-has w ↦ subst (λ (q : Span). Contains c.args.reached.now q) e (w.has-then-has.ensures.0 w.if-not-has.false)
      | else-has-via-else-has w ↦
          let yes' = c.has.ensures.1 (subst (λ (q : Span). Contains c.args.known.now q) (sym e) k) in
          let no' = w.if-has.false in
          absurd cc
    ])
