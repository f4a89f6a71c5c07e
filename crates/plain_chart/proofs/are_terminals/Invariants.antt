use Rattle.std.proofs.Common.{◌≡◌, ℕ, ◌<◌, slice_get, Some}
use Rattle.forest.specs.declared.symbols.SymbolId.{SymbolId}
use Rattle.forest.specs.Derivation.{IsNonterminal}
use Rattle.plain_chart.proofs.are_terminals.Given as goal

-- no kind so far is a left side
abbrev pub invariant-loop-kind : goal.invariant-loop-kind
invariant-loop-kind l = (k : ℕ) (x : SymbolId) → k < l.kind-index → slice_get l.tokens k ≡ Some x → IsNonterminal l.rules.rules x → ⊥
