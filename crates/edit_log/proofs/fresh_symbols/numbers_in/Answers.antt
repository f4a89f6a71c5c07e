use Rattle.std.proofs.Common.{◌≡◌, ◌+◌, ◌++◌, ◌∷◌, [], take, sym, ap, ◌∙◌, arith}
use Rattle.std.proofs.lemmas.List.{take_more}
use Rattle.edit_log.specs.Replicas.{symbols_in}
use Rattle.edit_log.proofs.Places.{numbered_more}
use Rattle.edit_log.proofs.fresh_symbols.numbers_in.Goals as goal

pub loop-symbol-preserved : goal.loop-symbol-preserved
loop-symbol-preserved c =
    let i = c.loop-symbol.symbol-index in
    let symbols = c.args.symbols.now in
    let known = c.args.known.now.keys in
    let s = c.symbol-item.result in
    let so_far = c.loop-symbol.invariant in
    let front : take (i + 1) symbols ≡ take i symbols ++ s ∷ [] = take_more symbols i s c.loop-symbol-test.true ∙ ap (λ x. take i symbols ++ x ∷ [])
    (sym c.symbol-item.is) in
    record {
      numbered = rw (front, c.in_ok-push.ensures.items)
          (numbered_more (known ++ symbols_in c.args.fresh.now.items) (known ++ symbols_in c.loop-symbol.fresh.items) (known
          ++ symbols_in c.number_in.new.fresh.items) (take i symbols) s c.loop-symbol.numbers.items c.in_ok-number_in.field-0
          so_far.numbered c.in_ok-number_in.ensures.grown c.in_ok-number_in.ensures.number);
      few = omega (arith, so_far.few, c.in_ok-number_in.ensures.few);
      each = λ all. c.in_ok-number_in.ensures.fresh (so_far.each all);
    }
