-- Which words an expression matches, and its marked words.
use Rattle.std.specs.Prelude.{ℕ, ◌+◌, ◌≡◌, ◌⊎◌, List, [], ◌∷◌, ◌++◌, IsTrue, length, slice_index_or}
use Rattle.std.specs.List.{concat, AllByRecursion, AllZip}
use Rattle.regex_ast.specs.Bytes.{has, numbers_from}
use Rattle.regex_ast.specs.Expressions.{Expression, class, sequence, choice, star, plus, maybe, class_count}

-- the expression matches the word
abbrev pub Matches : Expression → List ℕ → Type 0
Matches (class set) w = (b : ℕ) × IsTrue (has set b) × (w ≡ b ∷ [])
Matches (sequence a b) w = (u : List ℕ) × (v : List ℕ) × Matches a u × Matches b v × (w ≡ u ++ v)
Matches (choice a b) w = Matches a w ⊎ Matches b w
Matches (star a) w = (pieces : List (List ℕ)) × AllByRecursion (Matches a) pieces × (w ≡ concat pieces)
Matches (plus a) w = (piece : List ℕ) × (pieces : List (List ℕ)) × AllByRecursion (Matches a) (piece ∷ pieces) × (w ≡ concat (piece ∷ pieces))
Matches (maybe a) w = (w ≡ []) ⊎ Matches a w

-- a marked word of the expression, whose classes have the numbers from n on: the same cases, with the number of each class in place of a byte
abbrev pub MarksFrom : ℕ → Expression → List ℕ → Type 0
MarksFrom n (class set) w = w ≡ n ∷ []
MarksFrom n (sequence a b) w = (u : List ℕ) × (v : List ℕ) × MarksFrom n a u × MarksFrom (n + class_count a) b v × (w ≡ u ++ v)
MarksFrom n (choice a b) w = MarksFrom n a w ⊎ MarksFrom (n + class_count a) b w
MarksFrom n (star a) w = (pieces : List (List ℕ)) × AllByRecursion (MarksFrom n a) pieces × (w ≡ concat pieces)
MarksFrom n (plus a) w = (piece : List ℕ) × (pieces : List (List ℕ)) × AllByRecursion (MarksFrom n a) (piece ∷ pieces) × (w ≡ concat (piece ∷ pieces))
MarksFrom n (maybe a) w = (w ≡ []) ⊎ MarksFrom n a w

-- a marked word of the expression
abbrev pub IsMarkedWord : Expression → List ℕ → Type 0
IsMarkedWord e w = MarksFrom 0 e w

-- a literal matches its own bytes, and so its one marked word has all its numbers in turn
abbrev pub IsMarkedLiteral : List ℕ → List ℕ → Type 0
IsMarkedLiteral bytes w = w ≡ numbers_from 0 (length bytes)

-- the classes with these numbers have the bytes of the word, one after the other
abbrev pub HoldBytes : List (List ℕ) → List ℕ → List ℕ → Type 0
HoldBytes classes marked word = AllZip (λ p b. IsTrue (has (slice_index_or classes p []) b)) marked word
