-- What was appended where memory ran out.
use Rattle.std.specs.Prelude.{◌≡◌, ℕ, List, ◌++◌}

-- a prefix of the text was appended
pub record AppendsPrefix (old new text : List ℕ) : Type 0 where
  pub prefix : List ℕ
  pub rest : List ℕ
  pub parts : text ≡ prefix ++ rest
  pub appended : new ≡ old ++ prefix
