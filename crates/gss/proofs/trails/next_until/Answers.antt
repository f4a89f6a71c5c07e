use Rattle.gss.proofs.TrailOrders.{none_until}
use Rattle.gss.proofs.trails.next_until.Goals as goal

pub returns-then-next-last-clause-none : goal.returns-then-next-last-clause-none
returns-then-next-last-clause-none c = none_until c.in-Some.next c.args.last c.in-Some.ensures.next c.if-next-last.true

pub returns-in_default-clause-none : goal.returns-in_default-clause-none
returns-in_default-clause-none c other leads = absurd (c.in_default.ensures.none other leads)
