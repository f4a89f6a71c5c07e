use Rattle.std.proofs.Common.{◌-◌, length}
use Rattle.isg_scan.proofs.Scans.{IsScanning}
use Rattle.isg_scan.proofs.scanning.scan.Given as goal

abbrev pub invariant-pieces : goal.invariant-pieces
invariant-pieces g l =
    IsScanning (g.G.Graph.means l.initial.graph) (g.G.Graph.means l.graph) l.states.keys.keys l.states.accepted.items l.states.table.items l.text l.offset
    l.tokens.items l.initial.steps l.steps

abbrev pub decreases-pieces : goal.decreases-pieces
decreases-pieces g l = length l.text - l.offset
