use Rattle.std.proofs.Common.{take, Contains}
use Rattle.forest.specs.declared.symbols.SymbolId.{SymbolId}
use Rattle.forest.specs.Derivation.{IsNonterminal}
use Rattle.parser_states.proofs.searches.has_nonterminal.Given as goal

abbrev pub invariant-loop-symbol : goal.invariant-loop-symbol
invariant-loop-symbol l = (x : SymbolId) → Contains (take l.symbol-index l.symbols) x → IsNonterminal l.grammar.grammar.rules x → ⊥
