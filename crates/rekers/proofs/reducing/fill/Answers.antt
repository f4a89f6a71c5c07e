-- The labels of the links of a trail, the lowest first.
use Rattle.std.proofs.Common.{◌≡◌, ◌+◌, ◌-◌, ◌<◌, ◌≤◌, length, drop, reverse, get_or, subst, arith}
use Rattle.std.proofs.lemmas.List.Elements.{Contains-get_or}
use Rattle.rekers.specs.Steps.{labels_of}
use Rattle.rekers.proofs.NewSplits.{labels_more}
use Rattle.rekers.proofs.reducing.fill.Goals as goal

pub edge-requires : goal.edge-requires
edge-requires c =
    let trail = c.args.trail.now in
    let near : c.links.left - 1 < length trail = omega (arith, c.links-test.true, c.links.invariant.0) in
    c.requires (get_or trail (c.links.left - 1) 0) (Contains-get_or trail (c.links.left - 1) 0 near)

pub links-preserved : goal.links-preserved
links-preserved c =
    let trail = c.args.trail.now in
    let near : c.links.left - 1 < length trail = omega (arith, c.links-test.true, c.links.invariant.0) in
    let less : c.links.left - 1 ≤ length trail = omega (arith, near) in
    let one_more : c.links.left ≡ c.links.left - 1 + 1 = omega (arith, c.links-test.true) in
    let so_far = subst (λ n. c.links.parts.items ≡ labels_of c.args.stacks.now.links (reverse (drop n trail))) one_more c.links.invariant.1 in (
      less,
      labels_more c.args.stacks.now.links trail (c.links.left - 1) c.edge.result c.links.parts.items c.push.new.self.items near c.edge.ensures so_far
          c.in_ok-push.ensures.items,
    )
