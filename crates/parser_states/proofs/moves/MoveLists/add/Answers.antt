use Rattle.std.proofs.Common.{◌≡◌, ◌+◌, List, ◌++◌, ◌∷◌, [], take, arith, sym, ap, ◌∙◌, subst}
use Rattle.std.proofs.lemmas.List.{take_more}
use Rattle.forest.specs.declared.symbols.SymbolId.{SymbolId}
use Rattle.item_sets.specs.declared.item.Item.{Item}
use Rattle.parser_states.specs.Known.{known_moves}
use Rattle.parser_states.specs.Moves.{AddsItems}
use Rattle.parser_states.proofs.MovesAdded.{AddsSome, adds_one_more, adds_all}
use Rattle.parser_states.proofs.moves.MoveLists.add.Goals as goal

pub loop-entry-preserved : goal.loop-entry-preserved
loop-entry-preserved c =
    let m : SymbolId × List Item = c.entry-item.result in
    let old = known_moves c.args.self.now in
    let mid = known_moves c.loop-entry.self in
    let new = known_moves (record {
      symbols = c.push-in-loop-entry-2.new.self;
      behind = c.push.new.self;
      targets = c.push-in-loop-entry.new.self;
      items = c.add_items.new.items;
    }) in
    let added : AddsItems m.1 mid.items new.items c.in_ok-part.part =
    subst (λ list. AddsItems list mid.items new.items c.in_ok-part.part) c.items.ensures.items c.in_ok-part.ensures in
    let longer : take (c.loop-entry.entry-index + 1) c.args.moves.now ≡ take c.loop-entry.entry-index c.args.moves.now ++ m ∷ [] =
    take_more c.args.moves.now c.loop-entry.entry-index m c.loop-entry-test.true
    ∙ ap (λ n. take c.loop-entry.entry-index c.args.moves.now ++ n ∷ []) (sym c.entry-item.is) in
    subst (λ list. AddsSome list old new) (sym longer)
    (adds_one_more old mid new (take c.loop-entry.entry-index c.args.moves.now) m c.in_ok-part.part c.loop-entry.invariant added c.in_ok-push.ensures.items
    c.in_ok-push-2.ensures.items c.in_ok-push-3.ensures.items)

pub returns-clause-adds : goal.returns-clause-adds
returns-clause-adds c =
    let h = c.len-first.ensures in let i = c.len.ensures in let j = c.in_ok-whole.ensures in
    adds_all c.args.moves.now c.loop-entry.entry-index (known_moves c.args.self.now) (known_moves c.loop-entry.self) c.in_ok-whole.whole
    c.loop-entry-test.false c.loop-entry.invariant (omega arith) (omega arith)
