-- Lists in which no element comes twice.
use Rattle.std.specs.Prelude.{List, [], ◌∷◌, Contains}

-- no element comes twice
abbrev pub IsDistinct : {X : Type 0} → List X → Type 0
IsDistinct [] = Unit {0}
IsDistinct (x ∷ xs) = (Contains xs x → ⊥) × IsDistinct xs

-- the list has exactly the values with the property, each once
pub record AreAll {X : Type 0} (P : X → Type 0) (xs : List X) : Type 0 where
  pub distinct : IsDistinct xs
  pub within : (x : X) → Contains xs x → P x
  pub all : (x : X) → P x → Contains xs x
