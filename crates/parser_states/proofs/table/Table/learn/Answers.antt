use Rattle.std.proofs.Common.{Some, refl, sym, ap, ◌∙◌, subst, arith}
use Rattle.std.proofs.lemmas.Option.{slice_get_within}
use Rattle.parser_states.specs.Known.{known, known_moves}
use Rattle.parser_states.specs.Leads.{IsNumbered}
use Rattle.parser_states.proofs.PlainParts.{longer, still_there, part_kept}
use Rattle.parser_states.proofs.Reading.{part_there, part_is, part_fits, upper_items}
use Rattle.parser_states.proofs.MoreStates.{told_learned}
use Rattle.parser_states.proofs.table.Table.learn.Goals as goal

pub number_for-requires-clause-items : goal.number_for-requires-clause-items
number_for-requires-clause-items g c = upper_items (g.G.Graph.means c.args.graph.now).grammar.rules (known_moves c.args.self.now.moves) c.args.place
    c.requires.place c.index-part.result.now c.index-part.ensures c.in_ok-kernel.kernel c.in_ok-kernel.ensures

pub index_mut-requires : goal.index_mut-requires
index_mut-requires g c =
    let old = known_moves c.args.self.now.moves in
    let there = slice_get_within old.behind c.args.place c.requires.place.behind.at.part c.requires.place.behind.at.at in
    let moves = c.in_ok-number.ensures.told.moves in
    omega (arith, there, longer c.in_ok-number.ensures.keeps.behind, moves.behind, moves.targets, c.number_for.new.self.moves.targets.ok.0)

pub returns-clause-number : goal.returns-clause-number
returns-clause-number g c = λ upper at. subst (λ k. IsNumbered k c.args.self.now.keys.keys c.number_for.new.self.keys.keys c.in_ok-number.number)
    (c.in_ok-kernel.ensures ∙ part_is (g.G.Graph.means c.args.graph.now).grammar.rules (known_moves c.args.self.now.moves) c.args.place c.requires.place
    c.index-part.result.now c.index-part.ensures upper at) c.in_ok-number.ensures.number.0

pub returns-clause-told : goal.returns-clause-told
returns-clause-told g c =
    let rules = (g.G.Graph.means c.args.graph.now).grammar.rules in
    let old = known_moves c.args.self.now.moves in
    let part = c.index-part.result.now in
    let keeps = c.in_ok-number.ensures.keeps in
    let there = part_there rules old c.args.place c.requires.place part c.index-part.ensures in
    let fits = part_fits rules old c.args.place c.requires.place part c.index-part.ensures in
    told_learned rules (known c.number_for.new.self) c.args.place c.in_ok-number.number part _ refl (still_there keeps.behind c.args.place part there)
    (c.in_ok-number.ensures.number.0.named ∙ ap Some (c.in_ok-kernel.ensures ∙ sym (part_kept keeps.items part fits))) c.in_ok-number.ensures.told
