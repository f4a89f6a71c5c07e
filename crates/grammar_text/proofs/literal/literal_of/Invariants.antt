use Rattle.std.proofs.Common.{◌≡◌, ◌≤◌, ◌++◌, ◌-◌, length}
use Rattle.std.specs.Option.{option_map}
use Rattle.grammar_text.specs.declared.limits.TheConstants.{LITERAL_LIMIT}
use Rattle.grammar_text.specs.Reading.{literal_at}
use Rattle.grammar_text.proofs.literal.literal_of.Given as goal

abbrev pub invariant-loop-rest : goal.invariant-loop-rest
invariant-loop-rest l = record {
  in_range : length l.bytes.items ≤ LITERAL_LIMIT;
  so_far : option_map (λ found. (l.bytes.items ++ found.0, found.1)) (literal_at (LITERAL_LIMIT - length l.bytes.items) l.rest)
      ≡ literal_at LITERAL_LIMIT l.text;
}

abbrev pub decreases-loop-rest : goal.decreases-loop-rest
decreases-loop-rest l = LITERAL_LIMIT - length l.bytes.items
