-- What the positions of an expression are, from its marked words alone.
use Rattle.std.specs.Prelude.{ℕ, ◌≡◌, ◌<◌, ◌↔◌, Bool, List, [], ◌∷◌, ◌++◌, IsTrue, length, map, slice_index_or}
use Rattle.std.specs.List.Sorted.{IsStrictlyIncreasing}
use Rattle.regex_ast.specs.Bytes.{has, only}
use Rattle.regex_ast.specs.Expressions.{Expression, classes_of}
use Rattle.regex_ast.specs.Matching.{IsMarkedWord, IsMarkedLiteral}

-- a marked word begins with the position
abbrev pub Begins : (List ℕ → Type 0) → ℕ → Type 0
Begins Marked p = (rest : List ℕ) × Marked (p ∷ rest)

-- a marked word ends with the position
abbrev pub Ends : (List ℕ → Type 0) → ℕ → Type 0
Ends Marked p = (front : List ℕ) × Marked (front ++ p ∷ [])

-- a marked word has p directly after q
abbrev pub Succeeds : (List ℕ → Type 0) → ℕ → ℕ → Type 0
Succeeds Marked q p = (front : List ℕ) × (rest : List ℕ) × Marked (front ++ q ∷ p ∷ rest)

-- the empty word is a marked word
abbrev pub IsNullable : Expression → Type 0
IsNullable e = IsMarkedWord e []

abbrev pub IsFirst : Expression → ℕ → Type 0
IsFirst e p = Begins (IsMarkedWord e) p

abbrev pub IsLast : Expression → ℕ → Type 0
IsLast e p = Ends (IsMarkedWord e) p

-- p follows q
abbrev pub Follows : Expression → ℕ → ℕ → Type 0
Follows e q p = Succeeds (IsMarkedWord e) q p

-- the list has exactly the numbers with P, and ascends
pub record ListsExactly (P : ℕ → Type 0) (xs : List ℕ) : Type 0 where
  pub ascending : IsStrictlyIncreasing xs
  pub members : (p : ℕ) → IsTrue (has xs p) ↔ P p

-- what `Positions` shows
pub record Table : Type 0 where
  pub nullable : Bool
  pub first : List ℕ
  pub last : List ℕ
  pub follow : List (List ℕ)
  pub classes : List (List ℕ)

-- the table of these marked words and classes
pub record IsTableOf (Marked : List ℕ → Type 0) (sets : List (List ℕ)) (table : Table) : Type 0 where
  pub classes : table.classes ≡ sets
  pub nullable : IsTrue table.nullable ↔ Marked []
  pub first : ListsExactly (Begins Marked) table.first
  pub last : ListsExactly (Ends Marked) table.last
  pub follow : (q : ℕ) → q < length sets → ListsExactly (Succeeds Marked q) (slice_index_or table.follow q [])

-- the positions of an expression
abbrev pub ArePositionsOf : Expression → Table → Type 0
ArePositionsOf e table = IsTableOf (IsMarkedWord e) (classes_of e) table

-- the positions of a literal, one for each byte
abbrev pub ArePositionsOfLiteral : List ℕ → Table → Type 0
ArePositionsOfLiteral bytes table = IsTableOf (IsMarkedLiteral bytes) (map only bytes) table
