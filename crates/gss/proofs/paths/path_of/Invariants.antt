use Rattle.std.proofs.Common.{◌≡◌, ◌∷◌, map, take}
use Rattle.gss.specs.Views.{lower_of}
use Rattle.gss.proofs.paths.path_of.Given as goal

-- the nodes along the first links
abbrev pub invariant-loop-link : goal.invariant-loop-link
invariant-loop-link l = l.nodes.items ≡ l.fn.node ∷ map (lower_of l.graph.links) (take l.link-index l.trail)
