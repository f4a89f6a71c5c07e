use Rattle.std.proofs.Common.{rules, ◌≡◌, ◌≢◌, ◌∙◌, ap, ◌%◌, List, Contains, length, subst, sym, arith, slice_set, ◌∷◌, [], ◌++◌}
use Rattle.forest.specs.declared.symbols.SymbolId.{SymbolId}
use Rattle.item_sets.specs.Traces.{LeavesTraces}
use Rattle.item_sets.proofs.Traces.{still_left, one_more, behind, joins}
use Rattle.item_sets.proofs.symbol_set.SymbolSet.meet.Goals as goal

pub invariant_of-self-2 : goal.invariant_of-self-2
invariant_of-self-2 c =
    let met = c.self.inside.met.items in
    let traces = c.make_room.new.traces.items in
    let left : LeavesTraces met traces = still_left met c.self.inside.traces.items traces c.make_room.ensures.keeps c.self.invariant in
    let new : Contains met c.args.symbol → ⊥ = λ m. c.requires (subst (λ (symbols : List SymbolId). Contains symbols c.args.symbol) c.self.view_is m) in
    let some : c.in-Ok.trace ≢ 0 = omega arith in
    subst (λ (symbols : List SymbolId). LeavesTraces symbols (slice_set traces (c.args.symbol.0 % 4096) c.in-Ok.trace)) (sym c.in_ok-push.ensures.items)
    (one_more met traces c.args.symbol c.in-Ok.trace left new some c.in_ok-make_room.ensures.room)

pub returns-clause-place : goal.returns-clause-place
returns-clause-place c =
    let place : c.len-place.result ≡ length c.self.inside.met.items = search rules in
    place ∙ ap length c.self.view_is ∙ behind c.args.self.now c.args.symbol c.requires

pub returns-clause-symbols : goal.returns-clause-symbols
returns-clause-symbols c = c.in_ok-push.ensures.items ∙ ap (λ (met : List SymbolId). met ++ c.args.symbol ∷ []) c.self.view_is
    ∙ joins c.args.self.now c.args.symbol c.requires
