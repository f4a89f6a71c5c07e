use Rattle.std.proofs.Common.{◌≡◌, List, ◌++◌, ◌∷◌, [], sym, ap, ◌∙◌, rules, arith, length-append, map}
use Rattle.std.specs.Vec.Iter.{into_iter_items}
use Rattle.std.proofs.lemmas.Iterator.Adapters.{YieldsList-from_vec}
use Rattle.std.proofs.lemmas.Iterator.Consumers.{YieldsList-end}
use Rattle.std.proofs.lemmas.List.{map-id, map-append}
use Rattle.edit_log.specs.declared.fresh_symbols.FreshSymbol.{FreshSymbol}
use Rattle.edit_log.specs.declared.symbol_table.Row.{Row}
use Rattle.edit_log.specs.Replicas.{symbols_in}
use Rattle.edit_log.proofs.FreshSymbols.{next_is, next_new, next_done, kept_more}
use Rattle.edit_log.proofs.symbol_table.SymbolTable.add_symbols.Goals as goal

pub push_symbol-requires-clause-new : goal.push_symbol-requires-clause-new
push_symbol-requires-clause-new c =
    let next = next_is c.args.fresh.items c.loop-one.yielded (into_iter_items c.loop-one.one-iterator)
    (into_iter_items c.next.new.self) c.in-Some.one c.loop-one.invariant.front c.in-Some.ensures.steps.0 in
    next_new c.args.self.now.symbols.keys c.loop-one.self.symbols.keys c.args.fresh.items c.loop-one.yielded
    (into_iter_items c.next.new.self) c.in-Some.one next c.requires.new c.loop-one.invariant.symbols
