use Rattle.std.proofs.Common.{◌≡◌, ◌++◌, take}
use Rattle.forest_print.specs.Lines.{tokens_text}
use Rattle.forest_print.proofs.token_lines.print_tokens.Given as goal

abbrev pub invariant-loop-token : goal.invariant-loop-token
invariant-loop-token l = l.out.items ≡ l.initial.out.items ++ tokens_text l.grammar.grammar.symbols (take l.token-index l.tokens)
