use Rattle.std.proofs.Common.{◌≡◌, length, Some, slice_get, refl, arith}
use Rattle.std.proofs.lemmas.Option.{slice_get_read, slice_get_within}
use Rattle.parser_states.specs.Known.{known}
use Rattle.parser_states.proofs.AskedKernels.{asks_none}
use Rattle.parser_states.proofs.Reading.{none_tells, known_leads, place_tells, move_place, keeps_joined}
use Rattle.parser_states.proofs.table.Table.next.Goals as goal

pub returns-in_default-clause-leads : goal.returns-in_default-clause-leads
returns-in_default-clause-leads g c = λ kernel named. (
  none_tells (g.G.Graph.means c.args.graph.now).grammar.rules (known c.args.self.now) c.requires.told c.args.state kernel named c.args.symbol
      c.in_default.ensures.none,
  refl,
)

pub returns-in_default-clause-asks : goal.returns-in_default-clause-asks
returns-in_default-clause-asks g c = asks_none c.args.self.now.keys.keys (g.G.Graph.means c.args.graph.now) c.args.steps.now

pub returns-then-known-ne-UNKNOWN-clause-leads : goal.returns-then-known-ne-UNKNOWN-clause-leads
returns-then-known-ne-UNKNOWN-clause-leads g c = λ kernel named.
    let rules = (g.G.Graph.means c.args.graph.now).grammar.rules in
    let states = known c.args.self.now in
    let behind = place_tells rules states c.requires.told c.args.state kernel named c.args.symbol c.in-Some.place c.in-Some.ensures.found in
    let within = slice_get_within states.moves.behind c.in-Some.place behind.at.part behind.at.at in
    let at : slice_get states.moves.targets c.in-Some.place ≡ Some c.index-known.result.now =
    slice_get_read states.moves.targets (length states.moves.targets) c.in-Some.place c.index-known.result.now refl (omega (
      arith,
      within,
      c.requires.told.moves.behind,
      c.requires.told.moves.targets,
    )) c.index-known.ensures in
    known_leads rules states c.requires.told c.args.state kernel named c.args.symbol c.in-Some.place c.index-known.result.now c.in-Some.ensures.found at
    c.if-known-ne-UNKNOWN.true

pub returns-then-known-ne-UNKNOWN-clause-asks : goal.returns-then-known-ne-UNKNOWN-clause-asks
returns-then-known-ne-UNKNOWN-clause-asks g c = asks_none c.args.self.now.keys.keys (g.G.Graph.means c.args.graph.now) c.args.steps.now

pub learn-requires-clause-place : goal.learn-requires-clause-place
learn-requires-clause-place g c = move_place (g.G.Graph.means c.args.graph.now).grammar.rules (known c.args.self.now) c.requires.told c.args.state
    c.requires.state c.args.symbol c.in-Some.place c.in-Some.ensures.found

pub returns-clause-leads : goal.returns-clause-leads
returns-clause-leads g c = λ kernel named.
    let behind = place_tells (g.G.Graph.means c.args.graph.now).grammar.rules (known c.args.self.now) c.requires.told c.args.state kernel named c.args.symbol
    c.in-Some.place c.in-Some.ensures.found in
    record { upper = behind.upper; behind = behind.is_move; numbered = c.in_ok-number.ensures.number behind.upper behind.at }

pub returns-clause-keeps : goal.returns-clause-keeps
returns-clause-keeps g c =
    let place = move_place (g.G.Graph.means c.args.graph.now).grammar.rules (known c.args.self.now) c.requires.told c.args.state c.requires.state
    c.args.symbol c.in-Some.place c.in-Some.ensures.found in
    keeps_joined c.args.self.now.keys.keys c.learn.new.self.keys.keys place.behind.upper
    (c.in_ok-number.ensures.number place.behind.upper place.behind.at).joins
