-- Numbers kept beside a list of keys that grows at its end: each is a place where a key stands, or none.
use Rattle.std.specs.Prelude.{◌≡◌, ℕ, ◌<◌, List, slice_get, Some}
use Rattle.gss.specs.Numbers.{IsLeast, IsGreatest, HasNone}

-- the number that stands for none
abbrev pub none : ℕ
none = 4294967295

-- r is the least number with the property, or none has it
pub data TellsLeast (P : ℕ → Type 0) (r : ℕ) : Type 0 where
  least : r < none → IsLeast P r → TellsLeast P r
  no_least : r ≡ none → HasNone P → TellsLeast P r

-- r is the greatest number with the property, or none has it
pub data TellsGreatest (P : ℕ → Type 0) (r : ℕ) : Type 0 where
  greatest : r < none → IsGreatest P r → TellsGreatest P r
  no_greatest : r ≡ none → HasNone P → TellsGreatest P r

-- at place l stands the key
abbrev pub IsKeyAt : List ℕ → ℕ → ℕ → Type 0
IsKeyAt keys key l = slice_get keys l ≡ Some key

-- so it does, behind this place
abbrev pub IsKeyBehind : List ℕ → ℕ → ℕ → ℕ → Type 0
IsKeyBehind keys key before l = (before < l) × IsKeyAt keys key l

-- so it does, before this place
abbrev pub IsEarlier : List ℕ → ℕ → ℕ → ℕ → Type 0
IsEarlier keys key behind l = (l < behind) × IsKeyAt keys key l

-- all keys are below n
abbrev pub AreBelow : List ℕ → ℕ → Type 0
AreBelow keys n = (l key : ℕ) → IsKeyAt keys key l → key < n

-- for each key its first place
abbrev pub AreFirsts : List ℕ → List ℕ → Type 0
AreFirsts keys firsts = (key r : ℕ) → slice_get firsts key ≡ Some r → TellsLeast (IsKeyAt keys key) r

-- for each key its last place
abbrev pub AreLasts : List ℕ → List ℕ → Type 0
AreLasts keys lasts = (key r : ℕ) → slice_get lasts key ≡ Some r → TellsGreatest (IsKeyAt keys key) r

-- for each place the next one of the same key
abbrev pub AreNexts : List ℕ → List ℕ → Type 0
AreNexts keys nexts = (l r key : ℕ) → slice_get nexts l ≡ Some r → IsKeyAt keys key l → TellsLeast (IsKeyBehind keys key l) r

-- for each place the one before it of the same key
abbrev pub AreOlders : List ℕ → List ℕ → Type 0
AreOlders keys olders = (l r key : ℕ) → slice_get olders l ≡ Some r → IsKeyAt keys key l → TellsGreatest (IsEarlier keys key l) r
