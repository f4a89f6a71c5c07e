use Rattle.plain_chart.proofs.Places.{one_set}
use Rattle.plain_chart.proofs.derive.one_place.Goals as goal
use Rattle.plain_chart.specs.declared.limits.TheConstants.{PLACES}

pub returns : goal.returns
returns c = λ i l. one_set PLACES c.args.to i c.requires
