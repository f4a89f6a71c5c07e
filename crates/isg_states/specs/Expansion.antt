-- Where the bytes lead from a key, and what computing that costs.
use Rattle.std.specs.Prelude.{ℕ, ◌≡◌, ◌+◌, ◌<◌, ◌≤◌, List, [], ◌∷◌, ◌++◌, length, Contains}
use Rattle.std.specs.List.{AllByRecursion}
use Rattle.edit_log.specs.History.{Grammar}
use Rattle.isg_states.specs.declared.mark.Mark.{Mark}
use Rattle.isg_states.specs.declared.scan_key.ScanKey.{ScanKey}
use Rattle.isg_states.specs.declared.scan_key.ScanKey.TheVariants.{Start, Set}
use Rattle.isg_states.specs.Marks.{ListsMarks}
use Rattle.isg_states.specs.Patterns.{IsMark, IsFirstMark, FollowsMark, HasByte}

-- each mark of the key is one of the grammar
abbrev pub AreMarks : Grammar → ScanKey → Type 0
AreMarks grammar Start = Unit {0}
AreMarks grammar (Set marks) = (mark : Mark) → Contains marks mark → IsMark grammar mark

-- the positions that can come next, whatever the byte: the first ones from the start, and from a set those that follow a member
abbrev pub CanFollow : Grammar → ScanKey → Mark → Type 0
CanFollow grammar Start mark = IsFirstMark grammar mark
CanFollow grammar (Set marks) mark = (member : Mark) × Contains marks member × FollowsMark grammar member mark

-- and those of them whose class has the byte
abbrev pub LeadsTo : Grammar → ScanKey → ℕ → Mark → Type 0
LeadsTo grammar key byte mark = CanFollow grammar key mark × HasByte grammar mark byte

-- the bytes from the first number to the second lead to the key
abbrev pub Range : Type 0
Range = ℕ × ℕ × ScanKey

-- each byte of the range leads to exactly the marks of its key
pub record IsRange (grammar : Grammar) (key : ScanKey) (range : Range) : Type 0 where
  pub some : range.0 ≤ range.1
  pub bytes : range.1 < 256
  pub marks : List Mark
  pub is : range.2 ≡ Set marks
  pub leads : (byte : ℕ) → range.0 ≤ byte → byte ≤ range.1 → ListsMarks (LeadsTo grammar key byte) marks
  pub somewhere : 0 < length marks

-- each range ends before those after it begin
abbrev pub AreApart : List Range → Type 0
AreApart [] = Unit {0}
AreApart (range ∷ others) = AllByRecursion (λ other. range.1 < other.0) others × AreApart others

-- of ranges with one key, none begins where the one before it ends
abbrev pub AreJoined : List Range → Type 0
AreJoined ranges = (before after : List Range) (one next : Range) → ranges ≡ before ++ one ∷ next ∷ after → one.1 + 1 ≡ next.0 → one.2 ≡ next.2 → ⊥

-- the ranges tell for each byte where it leads from the key, in the one way that joins as much as can be
pub record IsScanExpansionOf (grammar : Grammar) (key : ScanKey) (ranges : List Range) : Type 0 where
  pub each : (range : Range) → Contains ranges range → IsRange grammar key range
  pub whole : (byte : ℕ) (mark : Mark) → byte < 256 → LeadsTo grammar key byte mark
      → (range : Range) × Contains ranges range × (range.0 ≤ byte) × (byte ≤ range.1)
  pub apart : AreApart ranges
  pub joined : AreJoined ranges

-- the number of positions that can come next
abbrev pub IsScanCost : Grammar → ScanKey → ℕ → Type 0
IsScanCost grammar key cost = (marks : List Mark) × ListsMarks (CanFollow grammar key) marks × (cost ≡ length marks)
