use Rattle.std.proofs.Common.{◌≡◌, true, false, sym, ap, ◌∙◌}
use Rattle.edit_log.specs.declared.fresh_symbols.FreshSymbol.{FreshSymbol}
use Rattle.grammar_text.specs.Sameness.{spelling_eq}
use Rattle.edit_log.specs.Replicas.{symbols_in}
use Rattle.edit_log.proofs.FirstPlaces.{first_here, first_later, spelling_eq-sym}
use Rattle.edit_log.proofs.FreshSymbols.{symbol_in}
use Rattle.edit_log.proofs.fresh_symbols.place_in.Goals as goal

pub returns-then-eq : goal.returns-then-eq
returns-then-eq c =
    let fresh = c.args.fresh.now in
    let s = c.args.symbol.now in
    let one = c.index-fresh-place.result in
    let at = symbol_in fresh c.loop-place.place one c.loop-place-test.true c.index-fresh-place.is in
    let same : spelling_eq one.symbol s ≡ true = ap (λ (o : FreshSymbol). spelling_eq o.symbol s) c.index-fresh-place.is ∙ sym c.eq.ensures ∙ c.if-eq.true in
    sym (first_here (spelling_eq s) (symbols_in fresh) c.loop-place.place one.symbol at c.loop-place.invariant (spelling_eq-sym one.symbol s true same))

pub loop-place-preserved : goal.loop-place-preserved
loop-place-preserved c =
    let fresh = c.args.fresh.now in
    let s = c.args.symbol.now in
    let one = c.index-fresh-place.result in
    let at = symbol_in fresh c.loop-place.place one c.loop-place-test.true c.index-fresh-place.is in
    let same : spelling_eq one.symbol s ≡ false = ap (λ (o : FreshSymbol). spelling_eq o.symbol s) c.index-fresh-place.is ∙ sym c.eq.ensures ∙ c.if-eq.false in
    first_later (spelling_eq s) (symbols_in fresh) c.loop-place.place one.symbol at c.loop-place.invariant (spelling_eq-sym one.symbol s false same)
