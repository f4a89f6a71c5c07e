-- Lists whose elements are known by their numbers.
use Rattle.std.specs.Prelude.{◌≡◌, ℕ, List, Some, slice_get}

-- each element of the old list keeps its number
abbrev pub KeepsNumbers : {X : Type 0} → List X → List X → Type 0
KeepsNumbers {X} old new = (number : ℕ) (x : X) → slice_get old number ≡ Some x → slice_get new number ≡ Some x
