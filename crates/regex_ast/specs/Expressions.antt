-- Expressions as plain trees.
use Rattle.std.specs.Prelude.{ℕ, ◌+◌, List, [], ◌∷◌, ◌++◌}
use Rattle.regex_ast.specs.declared.regex.Regex.{Regex, Class, Then', Or', Star', Plus', Maybe'}

-- an expression as a tree, with each class as the set of its bytes
pub data Expression : Type 0 where
  class : List ℕ → Expression
  sequence : Expression → Expression → Expression
  choice : Expression → Expression → Expression
  star : Expression → Expression
  plus : Expression → Expression
  maybe : Expression → Expression

-- what a `Regex` holds
abbrev pub tree_of : Regex → Expression
tree_of (Class set) = class set
tree_of (Then' p a q b) = sequence (tree_of a) (tree_of b)
tree_of (Or' p a q b) = choice (tree_of a) (tree_of b)
tree_of (Star' p a) = star (tree_of a)
tree_of (Plus' p a) = plus (tree_of a)
tree_of (Maybe' p a) = maybe (tree_of a)

-- the classes, from left to right
abbrev pub classes_of : Expression → List (List ℕ)
classes_of (class set) = set ∷ []
classes_of (sequence a b) = classes_of a ++ classes_of b
classes_of (choice a b) = classes_of a ++ classes_of b
classes_of (star a) = classes_of a
classes_of (plus a) = classes_of a
classes_of (maybe a) = classes_of a

-- how many classes it has
abbrev pub class_count : Expression → ℕ
class_count (class set) = 1
class_count (sequence a b) = class_count a + class_count b
class_count (choice a b) = class_count a + class_count b
class_count (star a) = class_count a
class_count (plus a) = class_count a
class_count (maybe a) = class_count a
