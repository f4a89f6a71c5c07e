-- A link is added, under the span of the link from the first node of its place that moves on the symbol.
use Rattle.std.proofs.Common.{◌≡◌, ◌≢◌, [], ◌∷◌, length, sym, ◌∙◌, ap, subst, arith, length-append}
use Rattle.std.proofs.lemmas.Option.{slice_get_within}
use Rattle.edit_log.specs.History.{Grammar}
use Rattle.gss.specs.declared.stack_graph.Edge.{Edge}
use Rattle.gss.specs.PlaceGraphs.{edge_of}
use Rattle.rekers.specs.declared.parser.Parser.{Parser}
use Rattle.rekers.specs.declared.level.Level.{Level}
use Rattle.rekers.specs.Answers.{kinds_of}
use Rattle.rekers.specs.Found.{found}
use Rattle.rekers.specs.Sound.{IsFirstMover}
use Rattle.rekers.specs.Steps.{IsLinkBy, IsUpper, IsStep, IsUnlinked}
use Rattle.rekers.proofs.Growth.{one_at, kernel_at, node_grows, grows_on}
use Rattle.rekers.proofs.Stepping.{step_alone, step_on}
use Rattle.rekers.proofs.LinkSteps.{label_owned, linkable_on, linkable_first, nonterminal_on, unlinked_on, label_of_first}
use Rattle.rekers.proofs.LinkAttached.{attached_grows, label_on}
use Rattle.rekers.proofs.parser.Parser.new_link.Goals as goal

pub owning_link-requires-clause-linkable : goal.owning_link-requires-clause-linkable
owning_link-requires-clause-linkable g c =
    linkable_first (g.G.Graph.means c.args.graph.now).grammar.rules (kinds_of c.args.tokens.now) (found c.args.self.now) c.first_opener-first.ensures
    c.requires.linkable

pub owning_link-requires-clause-first : goal.owning_link-requires-clause-first
owning_link-requires-clause-first g c = c.first_opener-first.ensures.none_before

pub new_owner-requires-clause-first : goal.new_owner-requires-clause-first
new_owner-requires-clause-first g c =
    subst (λ n. IsFirstMover (g.G.Graph.means c.args.graph.now).grammar.rules (found c.args.self.now) n c.args.symbol) c.if-first-lower.true
    c.first_opener-first.ensures.none_before

pub edge-label-requires : goal.edge-label-requires
edge-label-requires g c = slice_get_within c.owning_link.new.self.stacks.links c.in_ok-owner.owner _ c.in_ok-owner.ensures.link.is.there

pub upper-requires-clause-linkable : goal.upper-requires-clause-linkable
upper-requires-clause-linkable g c =
    linkable_on (kinds_of c.args.tokens.now) (g.G.Graph.means c.args.graph.now).grammar (g.G.Graph.means c.owning_link.new.graph).grammar
    c.in_ok-owner.ensures.stands.grammar c.args.self.now c.owning_link.new.self c.in_ok-owner.ensures.step.grows c.in_ok-owner.ensures.step.level
    c.requires.linkable

pub upper-requires-clause-room : goal.upper-requires-clause-room
upper-requires-clause-room g c = omega (arith, c.in_ok-owner.ensures.few, c.in_ok-owner.ensures.count, c.requires.room)

pub attach-requires-clause-linkable : goal.attach-requires-clause-linkable
attach-requires-clause-linkable g c =
    let first = linkable_on (kinds_of c.args.tokens.now) (g.G.Graph.means c.args.graph.now).grammar (g.G.Graph.means c.owning_link.new.graph).grammar
    c.in_ok-owner.ensures.stands.grammar c.args.self.now c.owning_link.new.self c.in_ok-owner.ensures.step.grows c.in_ok-owner.ensures.step.level
    c.requires.linkable in
    linkable_on (kinds_of c.args.tokens.now) (g.G.Graph.means c.owning_link.new.graph).grammar (g.G.Graph.means c.upper.new.graph).grammar
    c.in_ok-upper.ensures.stands.grammar c.owning_link.new.self c.upper.new.self c.in_ok-upper.ensures.grows
    (ap (λ (q : Parser). q.level) c.in_ok-upper.ensures.same) first

pub attach-requires-clause-upper : goal.attach-requires-clause-upper
attach-requires-clause-upper g c =
    let level = ap (λ (q : Parser). q.level) c.in_ok-upper.ensures.same in
    subst (λ (l : Level). IsUpper (g.G.Graph.means c.upper.new.graph).grammar.rules (found c.upper.new.self) l.at c.args.lower c.args.symbol
    c.in_ok-upper.upper) (sym level)
    (subst (λ (gr : Grammar). IsUpper gr.rules (found c.upper.new.self) c.owning_link.new.self.level.at c.args.lower c.args.symbol c.in_ok-upper.upper)
    (sym c.in_ok-upper.ensures.stands.grammar) c.in_ok-upper.ensures.upper)

pub attach-requires-clause-unlinked : goal.attach-requires-clause-unlinked
attach-requires-clause-unlinked g c =
    let differs : c.args.lower ≢ c.first_opener-first.result = λ e. c.if-first-lower.false (sym e) in
    let first = c.in_ok-owner.ensures.others c.args.lower differs c.requires.unlinked in
    let here = subst (λ (l : Level). IsUnlinked (found c.owning_link.new.self) l.first_link c.args.lower c.args.symbol) (sym c.in_ok-owner.ensures.step.level)
    first in
    unlinked_on c.owning_link.new.self c.upper.new.self c.args.lower c.args.symbol c.in_ok-upper.ensures.links
    (ap (λ (q : Parser). q.level) c.in_ok-upper.ensures.same) here

pub attach-requires-clause-label : goal.attach-requires-clause-label
attach-requires-clause-label g c = λ place there.
    let rules = (g.G.Graph.means c.owning_link.new.graph).grammar.rules in
    let tokens = kinds_of c.args.tokens.now in
    let is = c.first_opener-first.ensures in
    let owner = c.in_ok-owner.ensures.link.is in
    let first = node_grows (found c.args.self.now) (found c.owning_link.new.self) c.in_ok-owner.ensures.step.grows is.first_is in
    let part = label_of_first rules tokens c.owning_link.new.self c.in_ok-owner.ensures.step.sound owner first in
    let same : c.edge-label.result.label ≡ c.in_ok-owner.ensures.link.label =
    ap (λ (e : Edge). e.label) (one_at c.owning_link.new.self.stacks.links c.in_ok-owner.owner _ _ c.edge-label.ensures owner.there) in
    let here : place.at ≡ is.from = (kernel_at (node_grows (found c.args.self.now) (found c.upper.new.self)
    (grows_on (found c.args.self.now) (found c.owning_link.new.self) (found c.upper.new.self) c.in_ok-owner.ensures.step.grows c.in_ok-upper.ensures.grows)
    is.node_is) there).1 in
    label_on (g.G.Graph.means c.owning_link.new.graph).grammar (g.G.Graph.means c.upper.new.graph).grammar c.in_ok-upper.ensures.stands.grammar tokens
    c.owning_link.new.self.spans.spans c.upper.new.self.spans.spans (ap (λ (q : Parser). q.spans.spans) c.in_ok-upper.ensures.same) c.args.symbol is.from
    place.at here
    c.in_ok-owner.ensures.link.label c.edge-label.result.label same c.args.self.now.level.at c.upper.new.self.level.at
    (ap (λ (q : Parser). q.level.at) c.in_ok-upper.ensures.same ∙ ap (λ (l : Level). l.at) c.in_ok-owner.ensures.step.level) part

pub attach-requires-clause-room : goal.attach-requires-clause-room
attach-requires-clause-room g c = omega (arith, c.in_ok-owner.ensures.count, ap length c.in_ok-upper.ensures.links, c.requires.room)

pub returns-clause-link : goal.returns-clause-link
returns-clause-link g c =
    let tokens = kinds_of c.args.tokens.now in
    let first = nonterminal_on tokens (g.G.Graph.means c.args.graph.now).grammar (g.G.Graph.means c.owning_link.new.graph).grammar
    c.in_ok-owner.ensures.stands.grammar c.args.self.now c.owning_link.new.self c.in_ok-owner.ensures.step.grows c.in_ok-owner.ensures.step.level
    c.requires.nonterminal in
    let nonterminal = nonterminal_on tokens (g.G.Graph.means c.owning_link.new.graph).grammar (g.G.Graph.means c.upper.new.graph).grammar
    c.in_ok-upper.ensures.stands.grammar c.owning_link.new.self c.upper.new.self c.in_ok-upper.ensures.grows
    (ap (λ (q : Parser). q.level) c.in_ok-upper.ensures.same) first in
    let level = ap (λ (q : Parser). q.level) c.in_ok-upper.ensures.same ∙ c.in_ok-owner.ensures.step.level in
    subst (λ (l : Level). IsLinkBy (found c.attach.new.self) c.in_ok-link.link c.args.lower c.args.symbol l.at) level
    (record {
      label = c.edge-label.result.label;
      is = c.in_ok-link.ensures.link;
      owned = label_owned (g.G.Graph.means c.upper.new.graph).grammar.rules tokens c.attach.new.self c.in_ok-link.ensures.sound nonterminal
          c.in_ok-link.ensures.link;
    })

pub returns-clause-step : goal.returns-clause-step
returns-clause-step g c =
    let tokens = kinds_of c.args.tokens.now in
    let old = g.G.Graph.means c.args.graph.now in
    let middle = g.G.Graph.means c.owning_link.new.graph in
    let new = g.G.Graph.means c.upper.new.graph in
    let upper : IsStep {Base = g.G.Graph.Base} tokens c.owning_link.new.self c.upper.new.self middle new c.owning_link.new.steps c.upper.new.steps = record {
      sound = c.in_ok-upper.ensures.sound;
      grows = c.in_ok-upper.ensures.grows;
      placed = c.in_ok-upper.ensures.placed;
      level = ap (λ (q : Parser). q.level) c.in_ok-upper.ensures.same;
      asks = c.in_ok-upper.ensures.asks;
    } in
    let attached = step_alone tokens c.upper.new.self c.attach.new.self new c.upper.new.steps c.in_ok-link.ensures.sound
    (attached_grows c.upper.new.self c.attach.new.self (edge_of c.in_ok-upper.upper c.args.symbol c.args.lower c.edge-label.result.label)
    c.in_ok-link.ensures.links
    c.in_ok-link.ensures.nodes c.in_ok-link.ensures.same)
    (ap (λ (q : Parser). q.states) c.in_ok-link.ensures.same) (ap (λ (q : Parser). q.level) c.in_ok-link.ensures.same) in
    step_on tokens c.args.self.now c.owning_link.new.self c.attach.new.self old middle new c.args.steps.now c.owning_link.new.steps c.upper.new.steps
    c.in_ok-owner.ensures.step
    (step_on tokens c.owning_link.new.self c.upper.new.self c.attach.new.self middle new new c.owning_link.new.steps c.upper.new.steps c.upper.new.steps upper
    attached)

pub returns-clause-few : goal.returns-clause-few
returns-clause-few g c =
    let edge = edge_of c.in_ok-upper.upper c.args.symbol c.args.lower c.edge-label.result.label in
    omega (
      arith,
      ap length c.in_ok-link.ensures.links,
      ap length c.in_ok-upper.ensures.links,
      length-append c.upper.new.self.stacks.links (edge ∷ []),
      ap length c.in_ok-link.ensures.nodes,
      c.in_ok-upper.ensures.count,
      c.in_ok-owner.ensures.few,
    )

pub returns-clause-count : goal.returns-clause-count
returns-clause-count g c =
    let edge = edge_of c.in_ok-upper.upper c.args.symbol c.args.lower c.edge-label.result.label in
    omega (
      arith,
      ap length c.in_ok-link.ensures.links,
      ap length c.in_ok-upper.ensures.links,
      length-append c.upper.new.self.stacks.links (edge ∷ []),
      c.in_ok-owner.ensures.count,
    )

pub returns-clause-splits : goal.returns-clause-splits
returns-clause-splits g c =
    ap (λ (q : Parser). q.spans.splits) c.in_ok-link.ensures.same ∙ ap (λ (q : Parser). q.spans.splits) c.in_ok-upper.ensures.same
    ∙ c.in_ok-owner.ensures.splits

pub returns-clause-trail : goal.returns-clause-trail
returns-clause-trail g c = (
  ap (λ (q : Parser). q.trails) c.in_ok-link.ensures.same ∙ ap (λ (q : Parser). q.trails) c.in_ok-upper.ensures.same ∙ c.in_ok-owner.ensures.trail.0,
  ap (λ (q : Parser). q.parts) c.in_ok-link.ensures.same ∙ ap (λ (q : Parser). q.parts) c.in_ok-upper.ensures.same ∙ c.in_ok-owner.ensures.trail.1,
)
