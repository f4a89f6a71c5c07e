use Rattle.std.proofs.Common.{◌-◌, ◌≤◌, length}
use Rattle.isg_scan.specs.Walks.{IsPieceWalk}
use Rattle.isg_scan.proofs.walk.read_on.Given as goal

abbrev pub invariant-bytes : goal.invariant-bytes
invariant-bytes g l = IsPieceWalk (g.G.Graph.means l._graph).grammar (g.G.Graph.means l._graph).scans.keys l.states.keys.keys l.text l.walk.at l.walk.state
    l.walk.best × (l.initial.walk.at ≤ l.walk.at)

abbrev pub decreases-bytes : goal.decreases-bytes
decreases-bytes g l = length l.text - l.walk.at
