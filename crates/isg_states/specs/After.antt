-- The positions after a piece of a text, by marked words of live definitions alone.
use Rattle.std.specs.Prelude.{ℕ, List, [], ◌∷◌, ◌++◌}
use Rattle.regex_ast.specs.Matching.{HoldBytes}
use Rattle.edit_log.specs.History.{Grammar}
use Rattle.isg_states.specs.declared.mark.Mark.{Mark}
use Rattle.isg_states.specs.Patterns.{Pattern, HasPattern, MarkedWord, classes_in}

-- a prefix of a marked word of the definition ends with the mark, and the classes of that prefix have the bytes of the piece, one after the other
pub record IsAfter (grammar : Grammar) (piece : List ℕ) (mark : Mark) : Type 0 where
  pub pattern : Pattern
  pub has_pattern : HasPattern grammar mark.def pattern
  pub front : List ℕ
  pub rest : List ℕ
  pub marked : MarkedWord pattern ((front ++ mark.index ∷ []) ++ rest)
  pub bytes : HoldBytes (classes_in pattern) (front ++ mark.index ∷ []) piece
