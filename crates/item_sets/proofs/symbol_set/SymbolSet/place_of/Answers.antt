use Rattle.std.proofs.Common.{◌≡◌, ◌<◌, ◌≤◌, ◌-◌, List, length, subst, ◌∙◌, rules, slice_get, Some}
use Rattle.std.specs.List.{position_or_len}
use Rattle.forest.specs.declared.symbols.SymbolId.{SymbolId}
use Rattle.forest.specs.Equality.{symbol_eq}
use Rattle.edit_log.proofs.PlainLists.{contains_at}
use Rattle.item_sets.specs.Traces.{LeavesTraces}
use Rattle.item_sets.proofs.Traces.{at_place, stays, nowhere, somewhere}
use Rattle.item_sets.proofs.symbol_set.SymbolSet.place_of.Goals as goal

pub returns-then-stands_at-clause-place : goal.returns-then-stands_at-clause-place
returns-then-stands_at-clause-place c =
    let at : slice_get c.args.self.now (c.trace_in-trace.result - 1) ≡ Some c.args.symbol =
    subst (λ (met : List SymbolId). slice_get met (c.trace_in-trace.result - 1) ≡ Some c.args.symbol) (c.as_slice-2.ensures.value ∙ c.self.view_is)
    (c.stands_at.ensures.0 c.if-stands_at.true) in
    let leaves = subst (λ (met : List SymbolId). LeavesTraces met c.self.inside.traces.items) c.self.view_is c.self.invariant in
    at_place c.args.self.now c.args.symbol (c.trace_in-trace.result - 1) _ leaves at

pub returns-then-stands_at-clause-symbols : goal.returns-then-stands_at-clause-symbols
returns-then-stands_at-clause-symbols c =
    let at : slice_get c.args.self.now (c.trace_in-trace.result - 1) ≡ Some c.args.symbol =
    subst (λ (met : List SymbolId). slice_get met (c.trace_in-trace.result - 1) ≡ Some c.args.symbol) (c.as_slice-2.ensures.value ∙ c.self.view_is)
    (c.stands_at.ensures.0 c.if-stands_at.true) in
    stays c.args.self.now c.args.symbol (contains_at c.args.self.now (c.trace_in-trace.result - 1) c.args.symbol at)

pub returns-then-place-len-clause-symbols : goal.returns-then-place-len-clause-symbols
returns-then-place-len-clause-symbols c =
    let within : position_or_len (symbol_eq c.args.symbol) c.args.self.now < length c.args.self.now = search rules in
    stays c.args.self.now c.args.symbol (somewhere c.args.self.now c.args.symbol within)

pub meet-requires-2 : goal.meet-requires-2
meet-requires-2 c =
    let past : length c.args.self.now ≤ position_or_len (symbol_eq c.args.symbol) c.args.self.now = search rules in
    nowhere c.args.self.now c.args.symbol past
