-- The list of paths that a walk is made into.
use Rattle.std.proofs.Common.{◌≡◌, ◌<◌, ℕ, Bool, false, List, [], length, Contains, sym, ap, ◌∙◌, subst, arith}
use Rattle.gss.specs.declared.paths.Path.{Path}
use Rattle.gss.specs.declared.trails.Walk.{Walk}
use Rattle.gss.specs.Trails.{Standing, IsNextTrail, IsAtEnd}
use Rattle.gss.specs.Views.{AddsNew, path_along}
use Rattle.gss.proofs.TrailSteps.{calls_left}
use Rattle.gss.proofs.PathTrails.{ArePathsSoFar, new_walk, paths_first, paths_more, paths_fewer, paths_all, here_within}
use Rattle.gss.proofs.paths.paths_through.Goals as goal

pub trails-init : goal.trails-init
trails-init c =
    let links = c.args.graph.now.links in
    let is : c.new-trails.result ≡ new_walk links c.args.node c.args.count c.args.through =
    c.new-trails.ensures.is ∙ ap (λ (w : Walk). let s : Standing = record { walk = w; is_begun = false; trail = [] } in s) c.walk_for.ensures in
    subst (λ (found : List Path). ArePathsSoFar links c.args.node c.args.count c.args.through c.next.new.self c.in_ok-is_more.is_more found)
    (sym c.new-found.ensures.items)
    (paths_first links c.args.node c.args.count c.args.through c.next.new.self c.in_ok-is_more.is_more
    (c.in_ok-is_more.ensures.walk ∙ ap (λ (s : Standing). s.walk) is) c.in_ok-is_more.ensures.begun c.in_ok-is_more.ensures.on
    (λ t. subst (λ (s : Standing). IsNextTrail links s c.next.new.self.trail) is (c.in_ok-is_more.ensures.next t))
    (λ f. subst (λ (s : Standing). IsAtEnd links s) is (c.in_ok-is_more.ensures.end f)))

pub path_of-requires : goal.path_of-requires
path_of-requires c =
    let links = c.args.graph.now.links in
    let so_far = subst (λ (b : Bool). ArePathsSoFar links c.args.node c.args.count c.args.through c.trails.trails b c.trails.found.items) c.trails-test.true
    c.trails.invariant in
    subst (λ (ls : List ℕ). (link : ℕ) → Contains ls link → link < length links) (sym c.links.ensures)
    (here_within links c.args.node c.args.count c.args.through c.trails.trails c.trails.found.items so_far)

pub trails-smaller : goal.trails-smaller
trails-smaller c =
    let links = c.args.graph.now.links in
    let so_far = subst (λ (b : Bool). ArePathsSoFar links c.args.node c.args.count c.args.through c.trails.trails b c.trails.found.items) c.trails-test.true
    c.trails.invariant in
    subst (λ (b : Bool). calls_left c.next-in-trails.new.self c.in_ok-is_more-2.is_more < calls_left c.trails.trails b) (sym c.trails-test.true)
    (paths_fewer links c.args.node c.args.count c.args.through c.trails.trails c.next-in-trails.new.self c.in_ok-is_more-2.is_more c.trails.found.items
    c.add_new.new.found.items so_far c.in_ok-is_more-2.ensures.walk c.in_ok-is_more-2.ensures.begun c.in_ok-is_more-2.ensures.on
    c.in_ok-is_more-2.ensures.next c.in_ok-is_more-2.ensures.end)

pub trails-preserved : goal.trails-preserved
trails-preserved c =
    let links = c.args.graph.now.links in
    let so_far = subst (λ (b : Bool). ArePathsSoFar links c.args.node c.args.count c.args.through c.trails.trails b c.trails.found.items) c.trails-test.true
    c.trails.invariant in
    let path : c.in_ok-path.path ≡ path_along links c.args.node c.trails.trails.trail =
    c.in_ok-path.ensures ∙ ap (λ (ls : List ℕ). path_along links c.args.node ls) c.links.ensures in
    paths_more links c.args.node c.args.count c.args.through c.trails.trails c.next-in-trails.new.self c.in_ok-is_more-2.is_more c.trails.found.items
    c.add_new.new.found.items so_far c.in_ok-is_more-2.ensures.walk c.in_ok-is_more-2.ensures.begun c.in_ok-is_more-2.ensures.on
    c.in_ok-is_more-2.ensures.next c.in_ok-is_more-2.ensures.end
    (subst (λ (p : Path). AddsNew c.trails.found.items c.add_new.new.found.items p) path c.in_ok-add_new.ensures)

pub returns : goal.returns
returns c =
    let links = c.args.graph.now.links in
    paths_all links c.args.node c.args.count c.args.through c.trails.trails c.trails.found.items (omega (arith, c.is_sound.ensures.few_links)) c.requires
    (subst (λ (b : Bool). ArePathsSoFar links c.args.node c.args.count c.args.through c.trails.trails b c.trails.found.items) c.trails-test.false
    c.trails.invariant)
