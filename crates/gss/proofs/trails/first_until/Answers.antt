use Rattle.gss.proofs.TrailOrders.{none_until}
use Rattle.gss.proofs.trails.first_until.Goals as goal

pub returns-then-first-last-clause-none : goal.returns-then-first-last-clause-none
returns-then-first-last-clause-none c = none_until c.in-Some.first c.args.last c.in-Some.ensures.first c.if-first-last.true

pub returns-in_default-clause-none : goal.returns-in_default-clause-none
returns-in_default-clause-none c other leads = absurd (c.in_default.ensures.none other leads)
