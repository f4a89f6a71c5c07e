-- The bytes that a source has left or a sink has taken, where they are known.
use Rattle.std.specs.Prelude.{◌≡◌, ℕ, List, IfSome, Option}
use Rattle.std.specs.Io.KnownBytes.{prepend_known, append_known}

-- The source gave these bytes, a prefix of what it had left. Where that was not known, it still is not.
abbrev pub Gives : Option (List ℕ) → Option (List ℕ) → List ℕ → Type 0
Gives old new bytes = old ≡ prepend_known bytes new

-- The sink took these bytes behind what it had. Where that was not known, it still is not.
abbrev pub Takes : Option (List ℕ) → Option (List ℕ) → List ℕ → Type 0
Takes old new bytes = new ≡ append_known old bytes

-- where the bytes are known, they are these
abbrev pub IsKnownAs : Option (List ℕ) → List ℕ → Type 0
IsKnownAs known bytes = IfSome known (λ xs. xs ≡ bytes)
