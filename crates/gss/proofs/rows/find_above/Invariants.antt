use Rattle.gss.proofs.Above.{IsAbove, left_above}
use Rattle.gss.proofs.rows.find_above.Given as goal

-- the link leads down to the node, if there is one, and none behind it is by the symbol
abbrev pub invariant-older : goal.invariant-older
invariant-older l = IsAbove l.links l._lower l.symbol l.from l.link

abbrev pub decreases-older : goal.decreases-older
decreases-older l = left_above l.link
