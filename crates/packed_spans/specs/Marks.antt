-- What a span reaches, and how it is marked.
use Rattle.std.specs.Prelude.{◌≡◌, ℕ, ◌+◌, ◌<◌, ◌≤◌, ◌⊎◌, Bool, true, not, List, length, Contains, slice_get, Some}
use Rattle.std.specs.List.{count_by}
use Rattle.packed_spans.specs.declared.span.TheConstants.{TOKEN_PART}
use Rattle.packed_spans.specs.declared.table.SplitRow.{SplitRow}
use Rattle.packed_spans.specs.Tables.{parts_in}

-- a span that is among the first parts of the row
pub record IsPartNumber (parts : List ℕ) (row : SplitRow) (below n : ℕ) : Type 0 where
  pub place : ℕ
  pub first : place < below
  pub at : slice_get (parts_in parts row) place ≡ Some n
  pub no_token : n ≡ TOKEN_PART → ⊥

-- a span that is a part of a split of the span, but for splits below the link
pub record IsPartBelow (splits : List SplitRow) (parts : List ℕ) (span link n : ℕ) : Type 0 where
  pub number : ℕ
  pub row : SplitRow
  pub later : link ≤ number
  pub at : slice_get splits number ≡ Some row
  pub of : row.span ≡ span
  pub part : IsPartNumber parts row row.length n

-- the root, and the parts of what is reached
pub data Reaches (splits : List SplitRow) (parts : List ℕ) (root : ℕ) : ℕ → Type 0 where
  itself : Reaches splits parts root root
  below : {span n : ℕ} → Reaches splits parts root span → IsPartBelow splits parts span 0 n → Reaches splits parts root n

abbrev pub IsMarked : List Bool → ℕ → Type 0
IsMarked marked n = slice_get marked n ≡ Some true

-- how many are not marked yet, and how many wait
abbrev pub left : List Bool → List ℕ → ℕ
left marked waiting = count_by not marked + length waiting

-- exactly these are marked more, and those of them at the limit or above wait
pub record MarksExactly (Part : ℕ → Type 0) (limit : ℕ) (marked : List Bool) (waiting : List ℕ) (after : List Bool) (behind : List ℕ) : Type 0 where
  pub size : length after ≡ length marked
  pub keeps : (n : ℕ) → IsMarked marked n → IsMarked after n
  pub only : (n : ℕ) → IsMarked after n → IsMarked marked n ⊎ Part n
  pub whole : (n : ℕ) → Part n → IsMarked after n
  pub stays : (n : ℕ) → Contains waiting n → Contains behind n
  pub waits : (n : ℕ) → limit ≤ n → IsMarked after n → IsMarked marked n ⊎ Contains behind n
  pub within : (n : ℕ) → Contains behind n → Contains waiting n ⊎ IsMarked after n
  pub spends : left after behind ≤ left marked waiting

-- what is marked is reached, the root is, and of those from the limit on the parts are marked too, unless they wait
pub record IsSwept (splits : List SplitRow) (parts : List ℕ) (root limit : ℕ) (marked : List Bool) (Waits : ℕ → Type 0) : Type 0 where
  pub sound : (n : ℕ) → IsMarked marked n → Reaches splits parts root n
  pub start : IsMarked marked root
  pub settled : (n : ℕ) → limit ≤ n → IsMarked marked n → Waits n ⊎ ((m : ℕ) → IsPartBelow splits parts n 0 m → IsMarked marked m)

-- exactly what the root reaches is marked
pub record MarksReached (splits : List SplitRow) (parts : List ℕ) (root : ℕ) (marked : List Bool) : Type 0 where
  pub sound : (n : ℕ) → IsMarked marked n → Reaches splits parts root n
  pub whole : (n : ℕ) → Reaches splits parts root n → IsMarked marked n
