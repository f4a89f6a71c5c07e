use Rattle.std.proofs.Common.{◌≡◌, drop}
use Rattle.std.specs.List.{fold}
use Rattle.grammar_text.specs.Canonical.{symbols_text}
use Rattle.grammar_text.proofs.writing.put_symbols.Given as goal

abbrev pub invariant-loop-symbol : goal.invariant-loop-symbol
invariant-loop-symbol g l =
    fold g.O.Output.after l.out (symbols_text (drop l.symbol-index l.symbols)) ≡ fold g.O.Output.after l.fn.out (symbols_text l.symbols)
