-- A reduction whose link is there: its split is added where the link made the span, and else nothing is new.
use Rattle.std.proofs.Common.{◌<◌, length, ap, arith}
use Rattle.std.proofs.lemmas.Option.{slice_get_within}
use Rattle.rekers.specs.declared.parser.Parser.{Parser}
use Rattle.rekers.specs.Answers.{kinds_of}
use Rattle.rekers.proofs.Stepping.{step_none}
use Rattle.rekers.proofs.Reduced.{reduced_by, span_owned, no_split, step_more, few_on, unless_any}
use Rattle.rekers.proofs.parser.Parser.reduce.Goals as goal

pub edge-span-requires : goal.edge-span-requires
edge-span-requires g c =
    let by = reduced_by (g.G.Graph.means c.args.graph.now).grammar.rules (kinds_of c.args.tokens.now) c.args.self.now c.requires.sound c.args.reduction
    c.in-Some.link c.args.lower c.args.top c.requires.reduces c.in-Some.ensures.newest.is in
    slice_get_within c.args.self.now.stacks.links c.in-Some.link _ by.is.there

pub index-requires : goal.index-requires
index-requires g c =
    let by = reduced_by (g.G.Graph.means c.args.graph.now).grammar.rules (kinds_of c.args.tokens.now) c.args.self.now c.requires.sound c.args.reduction
    c.in-Some.link c.args.lower c.args.top c.requires.reduces c.in-Some.ensures.newest.is in
    let owned : c.edge-span.result.label < length c.args.self.now.owners.items = span_owned (g.G.Graph.means c.args.graph.now).grammar.rules
    (kinds_of c.args.tokens.now) c.args.self.now c.requires.sound c.args.reduction c.in-Some.link c.args.lower c.args.top
    by c.requires.reduces c.edge-span.result c.edge-span.ensures in
    omega (arith, owned)

pub returns-then-index-link-clause-step : goal.returns-then-index-link-clause-step
returns-then-index-link-clause-step g c =
    step_none (kinds_of c.args.tokens.now) c.args.self.now (g.G.Graph.means c.args.graph.now) c.args.steps.now c.requires.sound

pub returns-then-index-link-clause-reduced : goal.returns-then-index-link-clause-reduced
returns-then-index-link-clause-reduced g c =
    let by = reduced_by (g.G.Graph.means c.args.graph.now).grammar.rules (kinds_of c.args.tokens.now) c.args.self.now c.requires.sound c.args.reduction
    c.in-Some.link c.args.lower c.args.top c.requires.reduces c.in-Some.ensures.newest.is in
    no_split (g.G.Graph.means c.args.graph.now).grammar.rules
    (kinds_of c.args.tokens.now) c.args.self.now c.requires.sound c.args.reduction c.in-Some.link c.args.lower c.args.top
    by c.requires.reduces c.edge-span.result c.edge-span.ensures c.index.result.now c.index.ensures c.if-index-link.true

pub split-requires-clause-link : goal.split-requires-clause-link
split-requires-clause-link g c =
    reduced_by (g.G.Graph.means c.args.graph.now).grammar.rules (kinds_of c.args.tokens.now) c.args.self.now c.requires.sound c.args.reduction
    c.in-Some.link c.args.lower c.args.top c.requires.reduces c.in-Some.ensures.newest.is

pub check_size-requires : goal.check_size-requires
check_size-requires g c = few_on c.args.self.now c.split.new.self c.in_ok-split.ensures.same c.requires.within.few

pub returns-in_err-check_size-clause-step : goal.returns-in_err-check_size-clause-step
returns-in_err-check_size-clause-step g c =
    unless_any _ (step_more (kinds_of c.args.tokens.now) c.args.self.now c.args.self.now c.split.new.self (g.G.Graph.means c.args.graph.now)
    (g.G.Graph.means c.args.graph.now) c.args.steps.now c.args.steps.now
    (step_none (kinds_of c.args.tokens.now) c.args.self.now (g.G.Graph.means c.args.graph.now) c.args.steps.now c.requires.sound)
    c.in_ok-split.ensures.same c.in_ok-split.ensures.sound c.in_ok-split.ensures.grows)

pub returns-clause-step : goal.returns-clause-step
returns-clause-step g c =
    step_more (kinds_of c.args.tokens.now) c.args.self.now c.args.self.now c.split.new.self (g.G.Graph.means c.args.graph.now)
    (g.G.Graph.means c.args.graph.now) c.args.steps.now c.args.steps.now
    (step_none (kinds_of c.args.tokens.now) c.args.self.now (g.G.Graph.means c.args.graph.now) c.args.steps.now c.requires.sound)
    c.in_ok-split.ensures.same c.in_ok-split.ensures.sound c.in_ok-split.ensures.grows

pub returns-clause-trail : goal.returns-clause-trail
returns-clause-trail g c = ap (λ (q : Parser). q.trails) c.in_ok-split.ensures.same
