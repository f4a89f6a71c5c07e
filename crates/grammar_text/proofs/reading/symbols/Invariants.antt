use Rattle.std.proofs.Common.{◌≡◌, ◌≤◌, ◌-◌, length}
use Rattle.grammar_text.specs.declared.limits.TheConstants.{SYMBOL_LIMIT}
use Rattle.grammar_text.specs.Pieces.{trimmed}
use Rattle.grammar_text.specs.Limits.{the_limits}
use Rattle.grammar_text.specs.Reading.{symbols_at}
use Rattle.grammar_text.proofs.Rights.{with_front}
use Rattle.grammar_text.proofs.reading.symbols.Given as goal

abbrev pub invariant-loop-next : goal.invariant-loop-next
invariant-loop-next l = record {
  in_range : length l.symbols.items ≤ SYMBOL_LIMIT;
  trimmed : trimmed l.next.left ≡ l.next.left;
  so_far : with_front l.symbols.items (symbols_at the_limits (SYMBOL_LIMIT - length l.symbols.items) l.next) ≡ symbols_at the_limits SYMBOL_LIMIT l.place;
}

abbrev pub decreases-loop-next : goal.decreases-loop-next
decreases-loop-next l = SYMBOL_LIMIT - length l.symbols.items
