use Rattle.std.proofs.Common.{◌-◌, length}
use Rattle.isg_scan.proofs.Readings.{IsReading}
use Rattle.isg_scan.proofs.walk.longest.Given as goal

abbrev pub invariant-bytes : goal.invariant-bytes
invariant-bytes g l =
    IsReading (g.G.Graph.means l.initial.graph) (g.G.Graph.means l.graph) l.states.keys.keys l.states.accepted.items l.states.table.items l.text l.walk.at
    l.walk.state l.walk.best l.initial.steps l.steps

abbrev pub decreases-bytes : goal.decreases-bytes
decreases-bytes g l = length l.text - l.walk.at
