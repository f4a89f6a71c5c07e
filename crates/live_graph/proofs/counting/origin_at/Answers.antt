use Rattle.live_graph.proofs.TallyCounts.{origin_read}
use Rattle.live_graph.proofs.counting.origin_at.Goals as goal

pub returns : goal.returns
returns g c =
    (c.in-Some.field-0-0.now, origin_read c.args.kept.now.entries c.args.place c.in-Some.field-0-0.now c.in-Some.answer.now c.in-Some.ensures.entry)
