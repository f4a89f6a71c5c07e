use Rattle.std.proofs.Common.{take, Contains}
use Rattle.forest.specs.declared.symbols.SymbolId.{SymbolId}
use Rattle.edit_log.specs.Rows.{IsUsed}
use Rattle.edit_log.proofs.uses.wakes.Given as goal

-- no part so far wakes a literal
abbrev pub invariant-loop-part : goal.invariant-loop-part
invariant-loop-part l = (part : SymbolId) → Contains (take l.part-index l.right) part → IsUsed l.rows part 0 → ⊥
