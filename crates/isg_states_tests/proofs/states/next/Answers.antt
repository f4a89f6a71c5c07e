use Rattle.std.proofs.Common.{◌≡◌, List, Option, Some, None, IfSome, sym, subst, Contains}
use Rattle.edit_log.specs.History.{Grammar}
use Rattle.isg_states.specs.declared.scan_key.ScanKey.{ScanKey}
use Rattle.isg_states.specs.Expansion.{Range, AreMarks}
use Rattle.isg_states_tests.proofs.states.next.Goals as goal

-- the key of one of the ranges, each of which leads to marks of the grammar
found_marks : (grammar : Grammar) (ranges : List Range) → ((range : Range) → Contains ranges range → AreMarks grammar range.2) → (found : Option ScanKey)
    → IfSome found (λ k. (range : Range) × Contains ranges range × (k ≡ range.2)) → IfSome found (λ k. AreMarks grammar k)
found_marks grammar ranges lead None h = h
found_marks grammar ranges lead (Some k) h = subst (AreMarks grammar) (sym h.2) (lead h.0 h.1)

pub returns : goal.returns
returns c = found_marks c.args.grammar.now.grammar c.in_ok-expansion.expansion.ranges c.in_ok-expansion.ensures c.in_ok-found.found
    (subst (λ (ranges : List Range). IfSome c.in_ok-found.found (λ k. (range : Range) × Contains ranges range
    × (k ≡ range.2))) c.as_slice.ensures c.in_ok-found.ensures)
