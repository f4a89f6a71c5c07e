-- A reduction along a trail: its link is made, the split is added, and the size is looked at last.
use Rattle.std.proofs.Common.{sym, ◌∙◌, ap, subst, arith}
use Rattle.rekers.specs.declared.parser.Parser.{Parser}
use Rattle.rekers.specs.declared.level.Level.{Level}
use Rattle.rekers.specs.Answers.{kinds_of}
use Rattle.rekers.specs.Found.{found}
use Rattle.rekers.specs.Steps.{IsLinkBy}
use Rattle.rekers.proofs.Reduced.{reducible_linkable, step_more, to_reduce_on, reduced_on, few_on, unless_any}
use Rattle.rekers.proofs.parser.Parser.reduce_new.Goals as goal

pub new_link-requires-clause-linkable : goal.new_link-requires-clause-linkable
new_link-requires-clause-linkable g c =
    (reducible_linkable (g.G.Graph.means c.args.graph.now).grammar.rules (kinds_of c.args.tokens.now) (found c.args.self.now) c.requires.sound.graph
    c.requires.sound.numbered c.requires.reduces.reducible).0

pub new_link-requires-clause-nonterminal : goal.new_link-requires-clause-nonterminal
new_link-requires-clause-nonterminal g c =
    (reducible_linkable (g.G.Graph.means c.args.graph.now).grammar.rules (kinds_of c.args.tokens.now) (found c.args.self.now) c.requires.sound.graph
    c.requires.sound.numbered c.requires.reduces.reducible).1

pub new_link-requires-clause-room : goal.new_link-requires-clause-room
new_link-requires-clause-room g c = omega (arith, c.requires.within.limit)

pub split-requires-clause-link : goal.split-requires-clause-link
split-requires-clause-link g c =
    subst (λ (l : Level). IsLinkBy (found c.new_link.new.self) c.in_ok-link.link c.args.lower c.args.reduction.left l.at) (sym c.in_ok-link.ensures.step.level)
    c.in_ok-link.ensures.link

pub split-requires-clause-reduces : goal.split-requires-clause-reduces
split-requires-clause-reduces g c =
    to_reduce_on (kinds_of c.args.tokens.now) (g.G.Graph.means c.args.graph.now).grammar (g.G.Graph.means c.new_link.new.graph).grammar
    c.in_ok-link.ensures.stands.grammar c.args.self.now c.new_link.new.self c.requires.sound c.in_ok-link.ensures.step.sound c.in_ok-link.ensures.step.grows
    c.in_ok-link.ensures.splits c.in_ok-link.ensures.step.level c.in_ok-link.ensures.trail.0 c.requires.reduces

pub check_size-requires : goal.check_size-requires
check_size-requires g c = few_on c.new_link.new.self c.split.new.self c.in_ok-split.ensures.same c.in_ok-link.ensures.few

pub returns-in_err-check_size-clause-step : goal.returns-in_err-check_size-clause-step
returns-in_err-check_size-clause-step g c =
    unless_any _ (step_more (kinds_of c.args.tokens.now) c.args.self.now c.new_link.new.self c.split.new.self (g.G.Graph.means c.args.graph.now)
    (g.G.Graph.means c.new_link.new.graph) c.args.steps.now c.new_link.new.steps c.in_ok-link.ensures.step c.in_ok-split.ensures.same
    c.in_ok-split.ensures.sound
    c.in_ok-split.ensures.grows)

pub returns-clause-step : goal.returns-clause-step
returns-clause-step g c =
    step_more (kinds_of c.args.tokens.now) c.args.self.now c.new_link.new.self c.split.new.self (g.G.Graph.means c.args.graph.now)
    (g.G.Graph.means c.new_link.new.graph) c.args.steps.now c.new_link.new.steps c.in_ok-link.ensures.step c.in_ok-split.ensures.same
    c.in_ok-split.ensures.sound
    c.in_ok-split.ensures.grows

pub returns-clause-reduced : goal.returns-clause-reduced
returns-clause-reduced g c =
    reduced_on (kinds_of c.args.tokens.now) (g.G.Graph.means c.args.graph.now).grammar (g.G.Graph.means c.new_link.new.graph).grammar
    c.in_ok-link.ensures.stands.grammar c.args.self.now c.new_link.new.self c.requires.sound c.in_ok-link.ensures.step.sound c.in_ok-link.ensures.step.grows
    c.in_ok-link.ensures.splits c.in_ok-link.ensures.step.level c.in_ok-link.ensures.trail.0 c.in_ok-split.ensures.reduced

pub returns-clause-trail : goal.returns-clause-trail
returns-clause-trail g c = ap (λ (q : Parser). q.trails) c.in_ok-split.ensures.same ∙ c.in_ok-link.ensures.trail.0
