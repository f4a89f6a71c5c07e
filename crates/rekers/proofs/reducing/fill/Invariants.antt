use Rattle.std.specs.Prelude.{◌≡◌, ◌≤◌, drop, length, reverse}
use Rattle.rekers.specs.Steps.{labels_of}
use Rattle.rekers.proofs.reducing.fill.Given as goal

-- the labels of the lowest links
abbrev pub invariant-links : goal.invariant-links
invariant-links l = (l.left ≤ length l.trail) × (l.parts.items ≡ labels_of l.stacks.links (reverse (drop l.left l.trail)))

abbrev pub decreases-links : goal.decreases-links
decreases-links l = l.left
