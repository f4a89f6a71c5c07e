use Rattle.std.proofs.Common.{◌≡◌, true, false, arith}
use Rattle.std.proofs.lemmas.Result.{err_from_is_err_and}
use Rattle.grammar_text.specs.declared.limits.TheConstants.{SYMBOL_LIMIT}
use Rattle.grammar_text.specs.Pieces.{is_empty}
use Rattle.grammar_text.proofs.Gaps.{trimmed-trimmed}
use Rattle.grammar_text.proofs.Rights.{symbols-begin, symbols-more, symbols-fail, symbols-full, symbols-done}
use Rattle.grammar_text.proofs.reading.symbols.Goals as goal

pub loop-next-init : goal.loop-next-init
loop-next-init c = rw (c.new-symbols.ensures.items, c.trimmed-next.ensures) (record {
  in_range = omega arith;
  trimmed = trimmed-trimmed c.args.place.now.left;
  so_far = symbols-begin SYMBOL_LIMIT c.args.place.now;
})

pub returns-then-len-eq-SYMBOL_LIMIT : goal.returns-then-len-eq-SYMBOL_LIMIT
returns-then-len-eq-SYMBOL_LIMIT c =
    let more : is_empty c.loop-next.next.left ≡ false = cc in
    rw c.offset.ensures (symbols-full SYMBOL_LIMIT c.loop-next.symbols.items c.loop-next.next _
    (omega arith) more c.loop-next.invariant.trimmed c.loop-next.invariant.so_far)

pub returns-in_err-symbol : goal.returns-in_err-symbol
returns-in_err-symbol c =
    let p = err_from_is_err_and c.from_residual.result c.from_residual.ensures.1 in
    let more : is_empty c.loop-next.next.left ≡ false = cc in
    rw (p.1, p.2) (symbols-fail c.in_err-symbol.field-0.0 SYMBOL_LIMIT c.loop-next.symbols.items c.loop-next.next _
    (omega arith) more c.loop-next.invariant.trimmed c.in_err-symbol.ensures c.loop-next.invariant.so_far)

pub loop-next-preserved : goal.loop-next-preserved
loop-next-preserved c =
    let more : is_empty c.loop-next.next.left ≡ false = cc in
    rw c.trimmed-next-in-loop-next.ensures (record {
      in_range = omega (arith, c.in_ok-push.ensures.len);
      trimmed = trimmed-trimmed c.in_ok-symbol.behind.left;
      so_far = symbols-more SYMBOL_LIMIT c.loop-next.symbols.items c.push.new.self.items c.loop-next.next c.in_ok-symbol.behind c.in_ok-symbol.symbol _
          (omega arith) more c.loop-next.invariant.trimmed c.in_ok-symbol.ensures c.in_ok-push.ensures.items c.loop-next.invariant.so_far;
    })

pub returns : goal.returns
returns c =
    let done : is_empty c.loop-next.next.left ≡ true = cc in
    rw c.from_vec.ensures (symbols-done SYMBOL_LIMIT c.loop-next.symbols.items c.loop-next.next _ done c.loop-next.invariant.trimmed
    c.loop-next.invariant.so_far)
