-- The positions of an expression, part by part.
use Rattle.std.specs.Prelude.{ℕ, ◌+◌, Bool, true, false, ◌||◌, ◌&&◌, ◌==◌, nat_lt, if◌then◌else◌, List, [], ◌∷◌, slice_index_or}
use Rattle.regex_ast.specs.Expressions.{Expression, class, sequence, choice, star, plus, maybe, class_count}

abbrev pub nullable : Expression → Bool
nullable (class set) = false
nullable (sequence a b) = nullable a && nullable b
nullable (choice a b) = nullable a || nullable b
nullable (star a) = true
nullable (plus a) = nullable a
nullable (maybe a) = true

-- whether p is first, where the classes have the numbers from n on
abbrev pub firsts : ℕ → Expression → ℕ → Bool
firsts n (class set) p = p == n
firsts n (sequence a b) p = firsts n a p || (nullable a && firsts (n + class_count a) b p)
firsts n (choice a b) p = firsts n a p || firsts (n + class_count a) b p
firsts n (star a) p = firsts n a p
firsts n (plus a) p = firsts n a p
firsts n (maybe a) p = firsts n a p

abbrev pub lasts : ℕ → Expression → ℕ → Bool
lasts n (class set) p = p == n
lasts n (sequence a b) p = lasts (n + class_count a) b p || (nullable b && lasts n a p)
lasts n (choice a b) p = lasts n a p || lasts (n + class_count a) b p
lasts n (star a) p = lasts n a p
lasts n (plus a) p = lasts n a p
lasts n (maybe a) p = lasts n a p

-- whether p follows q
abbrev pub follows : ℕ → Expression → (q p : ℕ) → Bool
follows n (class set) q p = false
follows n (sequence a b) q p = (follows n a q p || follows (n + class_count a) b q p) || (lasts n a q && firsts (n + class_count a) b p)
follows n (choice a b) q p = follows n a q p || follows (n + class_count a) b q p
follows n (star a) q p = follows n a q p || (lasts n a q && firsts n a p)
follows n (plus a) q p = follows n a q p || (lasts n a q && firsts n a p)
follows n (maybe a) q p = follows n a q p

-- a row of the table, empty past its end
abbrev pub row : List (List ℕ) → ℕ → List ℕ
row rows q = slice_index_or rows q []

-- the number after k, if it is below n
abbrev pub next_below : ℕ → ℕ → List ℕ
next_below n k = if nat_lt (k + 1) n then (k + 1) ∷ [] else []
