use Rattle.std.proofs.Common.{◌++◌, ap, ◌∙◌, subst}
use Rattle.parser_states.specs.Known.{known_moves}
use Rattle.parser_states.specs.Moves.{AddsMoves}
use Rattle.parser_states.proofs.asking.copy_expansion.Goals as goal

pub returns-clause-copies : goal.returns-clause-copies
returns-clause-copies g c = record {
  expansion = c.in_ok-expansion.expansion.now;
  is = c.in_ok-expansion.ensures.expansion;
  moves = subst (λ list. AddsMoves list (known_moves c.args.moves.now) (known_moves c.add.new.self) c.in_ok-part.part) c.as_slice-2.ensures
      c.in_ok-part.ensures.adds;
  reductions = c.in_ok-extend_from_slice.ensures.items ∙ ap (λ list. list ++ c.as_slice.result.now) c.clear.ensures.items ∙ c.as_slice.ensures;
}
