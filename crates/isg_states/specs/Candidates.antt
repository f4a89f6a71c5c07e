-- What the code that computes an expansion works with, as plain lists.
use Rattle.std.specs.Prelude.{ℕ, ◌≡◌, ◌+◌, ◌*◌, ◌<◌, ◌≤◌, ◌⊎◌, if◌then◌else◌, List, [], ◌∷◌, ◌++◌, length, map, IsTrue, Contains, slice_index_or}
use Rattle.std.specs.Int.{bit_at}
use Rattle.regex_ast.specs.Bytes.{has}
use Rattle.regex_ast.specs.Positions.{Table, IsTableOf}
use Rattle.regex_ast.specs.declared.limits.TheConstants.{POSITION_LIMIT}
use Rattle.edit_log.specs.declared.definitions.DefId.{DefId}
use Rattle.edit_log.specs.History.{Grammar}
use Rattle.isg_states.specs.declared.mark.Mark.{Mark}
use Rattle.isg_states.specs.declared.candidates.Candidate.{Candidate}
use Rattle.isg_states.specs.declared.scan_key.ScanKey.TheVariants.{Set}
use Rattle.isg_states.specs.Patterns.{Pattern, HasPattern, MarkedWord, classes_in}
use Rattle.isg_states.specs.Expansion.{Range, AreApart, AreJoined}

-- the indices are below 256, so that numbers tell marks apart
abbrev pub AreSmall : List Mark → Type 0
AreSmall marks = (mark : Mark) → Contains marks mark → mark.index < 256

-- the mark is of this definition, with one of these indices
abbrev pub OneOf : DefId → List ℕ → Mark → Type 0
OneOf definition indices mark = (mark.def ≡ definition) × IsTrue (has indices mark.index)

-- the table of the pattern of a live definition, which has few classes
pub record ArePositions (grammar : Grammar) (definition : DefId) (table : Table) : Type 0 where
  pub pattern : Pattern
  pub has_pattern : HasPattern grammar definition pattern
  pub positions : IsTableOf (MarkedWord pattern) (classes_in pattern) table
  pub few : length (classes_in pattern) ≤ POSITION_LIMIT

-- the class of the mark
abbrev pub IsClass : Grammar → Mark → List ℕ → Type 0
IsClass grammar mark set = (pattern : Pattern) × HasPattern grammar mark.def pattern × (slice_index_or (classes_in pattern) mark.index [] ≡ set)

abbrev pub marks_of : List Candidate → List Mark
marks_of candidates = map (λ c. c.mark) candidates

abbrev pub AreClasses : Grammar → List Candidate → Type 0
AreClasses grammar candidates = (c : Candidate) → Contains candidates c → IsClass grammar c.mark c.class.now

-- those of them whose class has the byte
abbrev pub marks_with : List Candidate → ℕ → List Mark
marks_with [] byte = []
marks_with (c ∷ others) byte = if has c.class.now byte then c.mark ∷ marks_with others byte else marks_with others byte

-- among the 64 bytes of this number, one and the next lead to the same marks wherever the bit of the first is not set
abbrev pub AreEnds : List Candidate → ℕ → ℕ → Type 0
AreEnds candidates number ends =
    (bit : ℕ) → bit < 63 → bit_at ends bit ≡ 0 → marks_with candidates (64 * number + bit + 1) ≡ marks_with candidates (64 * number + bit)

-- the last range ends directly before the byte and leads to these marks
abbrev pub Adjoins : List Range → ℕ → List Mark → Type 0
Adjoins ranges byte marks = (before : List Range) × (low : ℕ) × (high : ℕ) × (ranges ≡ before ++ (low, high, Set marks) ∷ []) × (high + 1 ≡ byte)

-- the bytes from low to high go to the last range, where that goes on, and otherwise to one of their own
abbrev pub IsWithRange : List Range → ℕ → ℕ → List Mark → List Range → Type 0
IsWithRange old low high marks new =
    ((before : List Range) × (first : ℕ) × (last : ℕ) × (old ≡ before ++ (first, last, Set marks) ∷ []) × (last + 1 ≡ low)
    × (new ≡ before ++ (first, high, Set marks) ∷ []))
    ⊎ ((Adjoins old low marks → ⊥) × (new ≡ old ++ (low, high, Set marks) ∷ []))

-- each byte of the range leads to the marks of its key
pub record TellsRange (led : ℕ → List Mark) (limit : ℕ) (range : Range) : Type 0 where
  pub some : range.0 ≤ range.1
  pub below : range.1 < limit
  pub marks : List Mark
  pub is : range.2 ≡ Set marks
  pub leads : (byte : ℕ) → range.0 ≤ byte → byte ≤ range.1 → led byte ≡ marks
  pub somewhere : 0 < length marks

-- the ranges tell of each byte below the limit to which marks it leads
pub record TellsBelow (led : ℕ → List Mark) (limit : ℕ) (ranges : List Range) : Type 0 where
  pub each : (range : Range) → Contains ranges range → TellsRange led limit range
  pub whole : (byte : ℕ) → byte < limit → 0 < length (led byte) → (range : Range) × Contains ranges range × (range.0 ≤ byte) × (byte ≤ range.1)
  pub apart : AreApart ranges
  pub joined : AreJoined ranges
