-- What a call that reads or writes piece by piece did in all.
use Rattle.std.specs.Prelude.{◌≡◌, ℕ, ◌<◌, ◌≤◌, List, length, take, Option, Some}
use Rattle.bench_io.specs.Known.{Gives, Takes}

-- the source gave so many bytes
abbrev pub GivesCount : Option (List ℕ) → Option (List ℕ) → ℕ → Type 0
GivesCount old new n = (bytes : List ℕ) × (length bytes ≡ n) × Gives old new bytes

-- the sink took a prefix of these bytes
abbrev pub TakesPrefix : Option (List ℕ) → Option (List ℕ) → List ℕ → Type 0
TakesPrefix old new bytes = (n : ℕ) × (n ≤ length bytes) × Takes old new (take n bytes)

-- the sink took a prefix of these bytes, and not all of them
abbrev pub TakesProperPrefix : Option (List ℕ) → Option (List ℕ) → List ℕ → Type 0
TakesProperPrefix old new bytes = (n : ℕ) × (n < length bytes) × Takes old new (take n bytes)

-- the source tells what it has left, or the sink what it has taken
abbrev pub TellsBytes : Option (List ℕ) → Type 0
TellsBytes known = (bytes : List ℕ) × (known ≡ Some bytes)
