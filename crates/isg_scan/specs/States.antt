-- What a scan knows of the states that it has met, by their numbers.
use Rattle.std.specs.Prelude.{◌≡◌, ℕ, ◌+◌, ◌*◌, ◌<◌, ◌≤◌, List, length, Option, Some, MatchOption, slice_get, Contains}
use Rattle.edit_log.specs.declared.definitions.DefId.{DefId}
use Rattle.edit_log.specs.declared.definitions.DefKind.{DefKind}
use Rattle.edit_log.specs.History.{Grammar}
use Rattle.edit_log.specs.Live.{kind_of}
use Rattle.isg_states.specs.declared.mark.Mark.{Mark}
use Rattle.isg_states.specs.declared.scan_key.ScanKey.{ScanKey}
use Rattle.isg_states.specs.declared.scan_key.ScanKey.TheVariants.{Start, Set}
use Rattle.isg_states.specs.Marks.{ListsMarks}
use Rattle.isg_states.specs.Expansion.{Range, AreMarks, LeadsTo}
use Rattle.isg_states.specs.Winners.{HasLast, Accepts}

-- what a piece that ends in the state is: what its winner is, or nothing where no definition matches it
abbrev pub IsWinnerKind : Grammar → ScanKey → Option DefKind → Type 0
IsWinnerKind grammar key accepted = MatchOption accepted ((definition : DefId) → HasLast grammar key definition → ⊥)
    (λ kind. (winner : DefId) × Accepts grammar key winner × (kind_of grammar winner ≡ Some kind))

-- the byte leads from the state to exactly these marks, of which there are some
pub record LeadsToSet (grammar : Grammar) (key : ScanKey) (byte : ℕ) (marks : List Mark) : Type 0 where
  pub marks_are : ListsMarks (LeadsTo grammar key byte) marks
  pub some : 0 < length marks

-- what an entry of the table tells of a state and a byte: 1 that the byte leads nowhere, and 2 more than a number that it leads to the
-- state with that number; either was asked for
pub record TellsEntry (grammar : Grammar) (keys asked : List ScanKey) (key : ScanKey) (byte entry : ℕ) : Type 0 where
  pub nowhere : entry ≡ 1 → (mark : Mark) → LeadsTo grammar key byte mark → ⊥
  pub leads : (number : ℕ) → entry ≡ number + 2 → (marks : List Mark) × (slice_get keys number ≡ Some (Set marks)) × LeadsToSet grammar key byte marks
  pub known : 0 < entry → Contains asked key

-- the table has 256 entries for each state, and they tell where the bytes lead
pub record IsScanTable (grammar : Grammar) (keys asked : List ScanKey) (table : List ℕ) : Type 0 where
  pub size : length table ≡ 256 * length keys
  pub tells : (number byte entry : ℕ) (key : ScanKey) → slice_get keys number ≡ Some key → byte < 256 → slice_get table (256 * number + byte) ≡ Some entry
      → TellsEntry grammar keys asked key byte entry

-- the states are of the grammar, the start is the first, and it is told what each accepts
pub record AreStates (grammar : Grammar) (keys : List ScanKey) (accepted : List (Option DefKind)) : Type 0 where
  pub start : slice_get keys 0 ≡ Some Start
  pub marks : (key : ScanKey) → Contains keys key → AreMarks grammar key
  pub size : length accepted ≡ length keys
  pub accepts : (number : ℕ) (key : ScanKey) (kind : Option DefKind) → slice_get keys number ≡ Some key → slice_get accepted number ≡ Some kind
      → IsWinnerKind grammar key kind

-- the states with what they accept and where their bytes lead, by what the graph was asked for
pub record KnowsStates (grammar : Grammar) (asked keys : List ScanKey) (accepted : List (Option DefKind)) (table : List ℕ) : Type 0 where
  pub states : AreStates grammar keys accepted
  pub entries : IsScanTable grammar keys asked table

-- this much is known before anything was asked, whatever the grammar is
abbrev pub KnowsNothingYet : (keys : List ScanKey) → List (Option DefKind) → List ℕ → Type 0
KnowsNothingYet keys accepted table = (grammar : Grammar) (asked : List ScanKey) → KnowsStates grammar asked keys accepted table

-- the entry leads to the state
abbrev pub LeadsToState : List ScanKey → ScanKey → ℕ → Type 0
LeadsToState keys key entry = (number : ℕ) × (entry ≡ number + 2) × (slice_get keys number ≡ Some key)

-- from one place to another the entry was written, and the others were left
pub record IsFilled (old new : List ℕ) (from to entry : ℕ) : Type 0 where
  pub size : length new ≡ length old
  pub written : (place : ℕ) → from ≤ place → place ≤ to → slice_get new place ≡ Some entry
  pub left : (place : ℕ) → (from ≤ place → place ≤ to → ⊥) → slice_get new place ≡ slice_get old place

-- the byte is one of those of the range
abbrev pub IsInRange : Range → ℕ → Type 0
IsInRange range byte = (range.0 ≤ byte) × (byte ≤ range.1)

-- the byte is one of those from the first number to the second, and all of them lead to the marks of the key
pub record IsLedRange (grammar : Grammar) (key : ScanKey) (byte : ℕ) (range : Range) : Type 0 where
  pub marks : List Mark
  pub is : range.2 ≡ Set marks
  pub has_byte : IsInRange range byte
  pub bytes : range.1 < 256
  pub leads : (other : ℕ) → range.0 ≤ other → other ≤ range.1 → LeadsToSet grammar key other marks
  pub target : AreMarks grammar range.2

-- where the byte leads: nowhere, or with others to one set
abbrev pub IsLed : Grammar → ScanKey → ℕ → Option Range → Type 0
IsLed grammar key byte led = MatchOption led ((mark : Mark) → LeadsTo grammar key byte mark → ⊥) (IsLedRange grammar key byte)
