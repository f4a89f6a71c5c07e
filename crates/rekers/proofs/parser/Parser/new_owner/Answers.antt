-- A link that makes its span is added.
use Rattle.std.proofs.Common.{ℕ, ◌++◌, [], ◌∷◌, length, refl, sym, ◌∙◌, ap, subst, arith, length-append}
use Rattle.gss.specs.PlaceGraphs.{edge_of, LeadsToBy}
use Rattle.rekers.specs.declared.parser.Parser.{Parser}
use Rattle.rekers.specs.declared.level.Level.{Level}
use Rattle.rekers.specs.Answers.{kinds_of}
use Rattle.rekers.specs.Found.{found}
use Rattle.rekers.specs.Steps.{IsLinkBy}
use Rattle.rekers.proofs.Growth.{node_below}
use Rattle.rekers.proofs.Stepping.{step_alone, step_on}
use Rattle.rekers.proofs.LinkSteps.{label_owned, others_unlinked, linkable_on, first_on, nonterminal_on, unlinked_on}
use Rattle.rekers.proofs.parser.Parser.new_owner.Goals as goal

pub own-requires-clause-linkable : goal.own-requires-clause-linkable
own-requires-clause-linkable g c =
    linkable_on (kinds_of c.args.tokens.now) (g.G.Graph.means c.args.graph.now).grammar (g.G.Graph.means c.upper.new.graph).grammar
    c.in_ok-upper.ensures.stands.grammar
    c.args.self.now c.upper.new.self c.in_ok-upper.ensures.grows (ap (λ (q : Parser). q.level) c.in_ok-upper.ensures.same) c.requires.linkable

pub own-requires-clause-nonterminal : goal.own-requires-clause-nonterminal
own-requires-clause-nonterminal g c =
    nonterminal_on (kinds_of c.args.tokens.now) (g.G.Graph.means c.args.graph.now).grammar (g.G.Graph.means c.upper.new.graph).grammar
    c.in_ok-upper.ensures.stands.grammar c.args.self.now c.upper.new.self c.in_ok-upper.ensures.grows (ap (λ (q : Parser). q.level) c.in_ok-upper.ensures.same)
    c.requires.nonterminal

pub own-requires-clause-unlinked : goal.own-requires-clause-unlinked
own-requires-clause-unlinked g c =
    unlinked_on c.args.self.now c.upper.new.self c.args.lower c.args.symbol c.in_ok-upper.ensures.links
    (ap (λ (q : Parser). q.level) c.in_ok-upper.ensures.same)
    c.requires.unlinked

pub own-requires-clause-first : goal.own-requires-clause-first
own-requires-clause-first g c =
    first_on (kinds_of c.args.tokens.now) (g.G.Graph.means c.args.graph.now).grammar (g.G.Graph.means c.upper.new.graph).grammar
    c.in_ok-upper.ensures.stands.grammar
    c.args.self.now c.upper.new.self c.in_ok-upper.ensures.grows (ap (λ (q : Parser). q.level) c.in_ok-upper.ensures.same) c.requires.sound
    (node_below c.requires.linkable.node) c.requires.first

pub returns-clause-link : goal.returns-clause-link
returns-clause-link g c =
    let level = ap (λ (q : Parser). q.level) c.in_ok-upper.ensures.same in
    let nonterminal = nonterminal_on (kinds_of c.args.tokens.now) (g.G.Graph.means c.args.graph.now).grammar (g.G.Graph.means c.upper.new.graph).grammar
    c.in_ok-upper.ensures.stands.grammar c.args.self.now c.upper.new.self c.in_ok-upper.ensures.grows level c.requires.nonterminal in
    subst (λ (l : Level). IsLinkBy (found c.own.new.self) c.in_ok-link.link c.args.lower c.args.symbol l.at) level
    (record {
      label = length c.upper.new.self.spans.spans;
      is = c.in_ok-link.ensures.link;
      owned = label_owned (g.G.Graph.means c.upper.new.graph).grammar.rules (kinds_of c.args.tokens.now) c.own.new.self c.in_ok-link.ensures.sound nonterminal
          c.in_ok-link.ensures.link;
    })

pub returns-clause-step : goal.returns-clause-step
returns-clause-step g c =
    let tokens = kinds_of c.args.tokens.now in
    let old = g.G.Graph.means c.args.graph.now in
    let new = g.G.Graph.means c.upper.new.graph in
    step_on tokens c.args.self.now c.upper.new.self c.own.new.self old new new c.args.steps.now c.upper.new.steps c.upper.new.steps
    (record {
      sound = c.in_ok-upper.ensures.sound;
      grows = c.in_ok-upper.ensures.grows;
      placed = c.in_ok-upper.ensures.placed;
      level = ap (λ (q : Parser). q.level) c.in_ok-upper.ensures.same;
      asks = c.in_ok-upper.ensures.asks;
    })
    (step_alone tokens c.upper.new.self c.own.new.self new c.upper.new.steps c.in_ok-link.ensures.sound c.in_ok-link.ensures.grows
    (ap (λ (q : Parser). q.states) c.in_ok-link.ensures.same) (ap (λ (q : Parser). q.level) c.in_ok-link.ensures.same))

pub returns-clause-others : goal.returns-clause-others
returns-clause-others g c = λ other differs none.
    let p = c.args.self.now in
    let edge = edge_of c.in_ok-upper.upper c.args.symbol c.args.lower (length c.upper.new.self.spans.spans) in
    let links = c.in_ok-link.ensures.links ∙ ap (λ ls. ls ++ edge ∷ []) c.in_ok-upper.ensures.links in
    subst (λ ls. (link : ℕ) → LeadsToBy ls other c.args.symbol p.level.first_link link → ⊥) (sym links)
    (others_unlinked p.stacks.links edge p.level.first_link c.args.lower other c.args.symbol refl differs none)

pub returns-clause-count : goal.returns-clause-count
returns-clause-count g c =
    let edge = edge_of c.in_ok-upper.upper c.args.symbol c.args.lower (length c.upper.new.self.spans.spans) in
    omega (
      arith,
      ap length c.in_ok-link.ensures.links,
      ap length c.in_ok-upper.ensures.links,
      length-append c.upper.new.self.stacks.links (edge ∷ []),
    )

pub returns-clause-few : goal.returns-clause-few
returns-clause-few g c =
    let edge = edge_of c.in_ok-upper.upper c.args.symbol c.args.lower (length c.upper.new.self.spans.spans) in
    omega (
      arith,
      ap length c.in_ok-link.ensures.links,
      ap length c.in_ok-upper.ensures.links,
      length-append c.upper.new.self.stacks.links (edge ∷ []),
      ap length c.in_ok-link.ensures.nodes,
      c.in_ok-upper.ensures.count,
      c.requires.few,
    )

pub returns-clause-splits : goal.returns-clause-splits
returns-clause-splits g c = c.in_ok-link.ensures.splits ∙ ap (λ (q : Parser). q.spans.splits) c.in_ok-upper.ensures.same

pub returns-clause-trail : goal.returns-clause-trail
returns-clause-trail g c = (
  ap (λ (q : Parser). q.trails) c.in_ok-link.ensures.same ∙ ap (λ (q : Parser). q.trails) c.in_ok-upper.ensures.same,
  ap (λ (q : Parser). q.parts) c.in_ok-link.ensures.same ∙ ap (λ (q : Parser). q.parts) c.in_ok-upper.ensures.same,
)
