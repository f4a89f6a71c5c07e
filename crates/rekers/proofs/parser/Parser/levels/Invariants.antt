use Rattle.rekers.proofs.LevelsDone.{AreDoneTo}
use Rattle.rekers.proofs.parser.Parser.levels.Given as goal

-- the levels up to the token are done
abbrev pub invariant-loop-token : goal.invariant-loop-token
invariant-loop-token g l = AreDoneTo l.tokens (g.G.Graph.means l.fn.graph) (g.G.Graph.means l.graph) l.fn.steps l.steps l.self l.token-index
