use Rattle.std.proofs.Common.{ℕ, List, ◌<◌, Contains}
use Rattle.item_sets.specs.declared.item.Item.{Item}
use Rattle.item_sets.specs.Expansions.{HasMove}
use Rattle.rekers.specs.Found.{found, IsNode}
use Rattle.rekers.proofs.parser.Parser.first_opener.Given as goal

-- none before at the place of the node moves on the symbol
abbrev pub invariant-loop-other : goal.invariant-loop-other
invariant-loop-other g l = (other i : ℕ) (kernel own : List Item) → IsNode (found l.self) other kernel i → IsNode (found l.self) l.node own i → other < l.other
    → HasMove (g.G.Graph.means l._graph).grammar.rules (Contains kernel) l.symbol → ⊥
