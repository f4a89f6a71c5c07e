-- The first line of a script, and the rest.
use Rattle.std.proofs.Common.{◌≡◌, ℕ, zero, suc, ◌+◌, ◌-◌, ◌<◌, ◌≤◌, List, [], ◌∷◌, length, take, drop, Bool, true, false, not, ◌&&◌, ◌==◌, if◌then◌else◌}
use Rattle.std.proofs.Common.{IsTrue, refl, ap, arith, length-drop}
use Rattle.std.specs.List.{slice_index, list_all}
use Rattle.std.proofs.lemmas.List.{take_all}
use Rattle.memchr.specs.Find.{NoneBefore, Passes, is_byte}
use Rattle.grammar_text.specs.Pieces.{IsLine}
use Rattle.script_text.specs.Lines.{before_first_line, lines_of}

-- none of the first bytes is 10
abbrev pub HasNone : List ℕ → ℕ → Type 0
HasNone bytes len = (k : ℕ) → k < len → (slice_index bytes k == 10) ≡ true → ⊥

-- so they are a line
pub one_line : (bytes : List ℕ) (len : ℕ) → HasNone bytes len → IsLine (take len bytes)
one_line [] zero free = refl
one_line [] (suc len) free = refl
one_line (byte ∷ bytes) zero free = refl
one_line (byte ∷ bytes) (suc len) free = by (byte == 10) (free 0 (omega arith)) (one_line bytes len (λ k less. free (suc k) (omega arith)))
  where
    by : (ends : Bool) → (ends ≡ true → ⊥) → IsLine (take len bytes) → IsTrue (not ends && list_all (λ other. not (other == 10)) (take len bytes))
    by true other rest = absurd (other refl)
    by false other rest = rest

-- a first line that a byte 10 ends
first_line : (bytes : List ℕ) (len : ℕ) → len < length bytes → HasNone bytes len → (slice_index bytes len == 10) ≡ true
    → lines_of bytes ≡ take len bytes ∷ lines_of (drop (suc len) bytes)
unfolding lines_of
first_line [] len less free ends = absurd (omega arith)
first_line (byte ∷ bytes) zero less free ends = rw ends refl
first_line (byte ∷ bytes) (suc len) less free ends = by (byte == 10) (free 0 (omega arith))
    (first_line bytes len (omega arith) (λ k less. free (suc k) (omega arith)) ends)
  where
    by : (is_end : Bool) → (is_end ≡ true → ⊥) → lines_of bytes ≡ take len bytes ∷ lines_of (drop (suc len) bytes)
        → (if is_end then [] ∷ lines_of bytes else before_first_line byte (lines_of bytes)) ≡ (byte ∷ take len bytes) ∷ lines_of (drop (suc len) bytes)
    by true other rest = absurd (other refl)
    by false other rest = ap (before_first_line byte) rest

-- a line that the end of the bytes ends
last_line : (byte : ℕ) (bytes : List ℕ) → HasNone (byte ∷ bytes) (length (byte ∷ bytes)) → lines_of (byte ∷ bytes) ≡ (byte ∷ bytes) ∷ []
unfolding lines_of
last_line byte [] free = by (byte == 10) (free 0 (omega arith))
  where
    by : (is_end : Bool) → (is_end ≡ true → ⊥) → (if is_end then [] ∷ [] else (byte ∷ []) ∷ []) ≡ (byte ∷ []) ∷ []
    by true other = absurd (other refl)
    by false other = refl
last_line byte (next ∷ bytes) free = by (byte == 10) (free 0 (omega arith)) (last_line next bytes (λ k less. free (suc k) (omega arith)))
  where
    by : (is_end : Bool) → (is_end ≡ true → ⊥) → lines_of (next ∷ bytes) ≡ (next ∷ bytes) ∷ []
        → (if is_end then [] ∷ lines_of (next ∷ bytes) else before_first_line byte (lines_of (next ∷ bytes))) ≡ (byte ∷ next ∷ bytes) ∷ []
    by true other rest = absurd (other refl)
    by false other rest = ap (before_first_line byte) rest

-- ---- what a search for the byte 10 tells

abbrev IsEnd : List ℕ → ℕ → Type 0
IsEnd bytes len = NoneBefore (Passes (is_byte 10) bytes) 0 (length bytes) len × Passes (is_byte 10) bytes len

pub ended : (bytes : List ℕ) (len : ℕ) → IsEnd bytes len → lines_of bytes ≡ take len bytes ∷ lines_of (take (length bytes - (len + 1)) (drop (len + 1) bytes))
ended bytes len found =
    let next : len + 1 ≡ suc len = omega arith in
    rw (take_all (length bytes - (len + 1)) (drop (len + 1) bytes) (omega (arith, length-drop (len + 1) bytes)), next)
    (first_line bytes len found.0.high (λ k less. found.0.before k (omega arith) less) found.1)

pub line_ended : (bytes : List ℕ) (len : ℕ) → IsEnd bytes len → IsLine (take len bytes)
line_ended bytes len found = one_line bytes len (λ k less. found.0.before k (omega arith) less)

pub whole : (bytes : List ℕ) → 0 < length bytes → ((k : ℕ) → 0 ≤ k → k < length bytes → Passes (is_byte 10) bytes k → ⊥) → lines_of bytes ≡ bytes ∷ lines_of []
unfolding lines_of
whole [] some free = absurd (omega arith)
whole (byte ∷ bytes) some free = last_line byte bytes (λ k less. free k (omega arith) less)

pub line_whole : (bytes : List ℕ) → ((k : ℕ) → 0 ≤ k → k < length bytes → Passes (is_byte 10) bytes k → ⊥) → IsLine bytes
line_whole bytes free = rw (take_all (length bytes) bytes (omega arith)) at (one_line bytes (length bytes) (λ k less. free k (omega arith) less))
