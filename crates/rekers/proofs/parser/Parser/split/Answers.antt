-- The split of a trail is added where the link made the span, and else nothing is.
use Rattle.std.proofs.Common.{◌<◌, length, refl, sym, subst, arith}
use Rattle.std.proofs.lemmas.Option.{slice_get_within}
use Rattle.rekers.specs.declared.parser.Parser.{Parser}
use Rattle.rekers.specs.Answers.{kinds_of}
use Rattle.rekers.specs.Found.{found, Grows}
use Rattle.rekers.specs.Sound.{IsSoundParser}
use Rattle.rekers.specs.Steps.{Reduces, labels_of, trail_of}
use Rattle.rekers.proofs.Growth.{grows_same, trail_links}
use Rattle.rekers.proofs.TrailWalks.{in_reverse}
use Rattle.rekers.proofs.Reduced.{labels_parts, span_owned, no_split, one_split}
use Rattle.rekers.proofs.parser.Parser.split.Goals as goal

pub edge-span-requires : goal.edge-span-requires
edge-span-requires g c = slice_get_within c.args.self.now.stacks.links c.args.link _ c.requires.link.is.there

pub index-requires : goal.index-requires
index-requires g c =
    let owned : c.edge-span.result.label < length c.args.self.now.owners.items = span_owned (g.G.Graph.means c.args._graph.now).grammar.rules
    (kinds_of c.args._tokens.now) c.args.self.now c.requires.sound c.args.reduction c.args.link c.args.lower c.args.top
    c.requires.link c.requires.reduces c.edge-span.result c.edge-span.ensures in
    omega (arith, owned)

pub returns-then-index-link-clause-grows : goal.returns-then-index-link-clause-grows
returns-then-index-link-clause-grows g c = grows_same (found c.args.self.now)

pub returns-then-index-link-clause-reduced : goal.returns-then-index-link-clause-reduced
returns-then-index-link-clause-reduced g c =
    no_split (g.G.Graph.means c.args._graph.now).grammar.rules
    (kinds_of c.args._tokens.now) c.args.self.now c.requires.sound c.args.reduction c.args.link c.args.lower c.args.top
    c.requires.link c.requires.reduces c.edge-span.result c.edge-span.ensures c.index.result.now c.index.ensures c.if-index-link.true

pub add_trail-requires-clause-span : goal.add_trail-requires-clause-span
add_trail-requires-clause-span g c =
    let owned : c.edge-span.result.label < length c.args.self.now.owners.items = span_owned (g.G.Graph.means c.args._graph.now).grammar.rules
    (kinds_of c.args._tokens.now) c.args.self.now c.requires.sound c.args.reduction c.args.link c.args.lower c.args.top
    c.requires.link c.requires.reduces c.edge-span.result c.edge-span.ensures in
    omega (arith, owned, c.requires.sound.graph.owned)

pub add_trail-requires-clause-links : goal.add_trail-requires-clause-links
add_trail-requires-clause-links g c = λ link has. trail_links c.requires.reduces.reducible.along link (in_reverse c.args.self.now.trails.trail link has)

pub add_trail-requires-clause-parts : goal.add_trail-requires-clause-parts
add_trail-requires-clause-parts g c =
    labels_parts (g.G.Graph.means c.args._graph.now).grammar.rules (kinds_of c.args._tokens.now) (found c.args.self.now) c.requires.sound.graph
    c.requires.reduces.reducible

pub returns-clause-sound : goal.returns-clause-sound
returns-clause-sound g c =
    subst (λ (q : Parser). IsSoundParser (g.G.Graph.means c.args._graph.now).grammar.rules (kinds_of c.args._tokens.now) q) (sym c.in_ok-add_trail.ensures.same)
    (one_split (g.G.Graph.means c.args._graph.now).grammar.rules
    (kinds_of c.args._tokens.now) c.args.self.now c.requires.sound c.args.reduction c.args.link c.args.lower c.args.top
    c.requires.link c.requires.reduces c.edge-span.result c.edge-span.ensures c.index.result.now c.index.ensures c.if-index-link.false
    (labels_of c.args.self.now.stacks.links (trail_of c.args.self.now)) refl c.add_trail.new.self.parts c.add_trail.new.self.spans
    c.in_ok-add_trail.ensures.spans c.in_ok-add_trail.ensures.splits).stays

pub returns-clause-grows : goal.returns-clause-grows
returns-clause-grows g c =
    subst (λ (q : Parser). Grows (found c.args.self.now) (found q)) (sym c.in_ok-add_trail.ensures.same)
    (one_split (g.G.Graph.means c.args._graph.now).grammar.rules
    (kinds_of c.args._tokens.now) c.args.self.now c.requires.sound c.args.reduction c.args.link c.args.lower c.args.top
    c.requires.link c.requires.reduces c.edge-span.result c.edge-span.ensures c.index.result.now c.index.ensures c.if-index-link.false
    (labels_of c.args.self.now.stacks.links (trail_of c.args.self.now)) refl c.add_trail.new.self.parts c.add_trail.new.self.spans
    c.in_ok-add_trail.ensures.spans c.in_ok-add_trail.ensures.splits).more

pub returns-clause-reduced : goal.returns-clause-reduced
returns-clause-reduced g c =
    subst (λ (q : Parser). Reduces (g.G.Graph.means c.args._graph.now).grammar.rules (found c.args.self.now) (found q) c.args.reduction c.args.lower
    (trail_of c.args.self.now) c.args.top c.args.self.now.level.at) (sym c.in_ok-add_trail.ensures.same)
    (one_split (g.G.Graph.means c.args._graph.now).grammar.rules
    (kinds_of c.args._tokens.now) c.args.self.now c.requires.sound c.args.reduction c.args.link c.args.lower c.args.top
    c.requires.link c.requires.reduces c.edge-span.result c.edge-span.ensures c.index.result.now c.index.ensures c.if-index-link.false
    (labels_of c.args.self.now.stacks.links (trail_of c.args.self.now)) refl c.add_trail.new.self.parts c.add_trail.new.self.spans
    c.in_ok-add_trail.ensures.spans c.in_ok-add_trail.ensures.splits).made
