use Rattle.gss.specs.KernelGraphs.{link_of}
use Rattle.gss.proofs.LinkWalks.{IsNotFound, left_of}
use Rattle.gss.proofs.stacks.find_link.Given as goal

abbrev pub invariant-links : goal.invariant-links
invariant-links l = IsNotFound l.graph.links (link_of l.upper l.symbol l.lower) l.next

abbrev pub decreases-links : goal.decreases-links
decreases-links l = left_of l.graph.links l.next
