-- Marks on rows, page by page.
use Rattle.std.specs.Prelude.{◌≡◌, ◌≢◌, ◌⊎◌, ℕ, ◌+◌, ◌*◌, ◌<◌, List, Bool, false}
use Rattle.std.specs.List.{slice_index_or}
use Rattle.pin_rule.specs.declared.sizes.Sizes.{Sizes}
use Rattle.pin_rule.specs.Lists.{is_in}
use Rattle.pin_rule.specs.Making.{rows_of}

-- the row is marked for the page
abbrev pub is_marked : Sizes → List Bool → ℕ → ℕ → Bool
is_marked z marks page row = slice_index_or marks (page * z.rows + row) false

-- a row of a page that is not this row of this page
abbrev pub AreOther : ℕ → ℕ → ℕ → ℕ → Type 0
AreOther page row this_page this_row = (page ≢ this_page) ⊎ (row ≢ this_row)

-- the rows that these words of places name are marked for the page, and no others
abbrev pub AreMarked : Sizes → List Bool → ℕ → List ℕ → Type 0
AreMarked z marks page places = (row : ℕ) → row < z.rows → is_marked z marks page row ≡ is_in row (rows_of places)
