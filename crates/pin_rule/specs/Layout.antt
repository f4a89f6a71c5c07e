-- Where the parts of the table lie, for every sizes. In this order: CUR, the release word of each page, the claim word of each row, the pages, the log, the
-- rows.
use Rattle.std.specs.Prelude.{ℕ, ◌+◌, ◌*◌, ◌/◌, ◌%◌, ◌^◌, List, slice_index}
use lib.Dec.{lit≤}
use Rattle.pin_rule.specs.declared.sizes.Sizes.{Sizes}
use Rattle.pin_rule.specs.declared.limits.TheConstants.{MOST_ENTRIES, MOST_VERSIONS, MOST_PLACES, MOST_ROWS, MOST_WIDTH, MOST_PINS}

-- the pins taken on the release word of a page
abbrev pub release_word : Sizes → ℕ → ℕ
release_word z page = 1 + page

abbrev pub claims_at : Sizes → ℕ
claims_at z = 1 + z.versions

-- 0 while the row is free, 1 while it is in use
abbrev pub claim_word : Sizes → ℕ → ℕ
claim_word z row = claims_at z + row

abbrev pub pages_at : Sizes → ℕ
pages_at z = claims_at z + z.rows

-- 0 while the place is empty, else the number of the row there plus one
abbrev pub place_word : Sizes → ℕ → ℕ → ℕ
place_word z page place = pages_at z + (page * z.places + place)

abbrev pub log_at : Sizes → ℕ
log_at z = pages_at z + z.versions * z.places

abbrev pub log_word : Sizes → ℕ → ℕ → ℕ
log_word z entry index = log_at z + (32 * entry + index)

abbrev pub rows_at : Sizes → ℕ
rows_at z = log_at z + 32 * z.log

-- length of the key, length of the payload, key, payload
abbrev pub row_word : Sizes → ℕ → ℕ → ℕ
row_word z row index = rows_at z + (row * z.width + index)

abbrev pub word_count : Sizes → ℕ
word_count z = rows_at z + z.rows * z.width

abbrev pub full_sizes : Sizes
full_sizes = record {
  log = MOST_ENTRIES;
  versions = MOST_VERSIONS;
  places = MOST_PLACES;
  rows = MOST_ROWS;
  width = MOST_WIDTH;
  pins = MOST_PINS;
  log_in = (lit≤ tt, lit≤ tt);
  versions_in = (lit≤ tt, lit≤ tt);
  places_in = (lit≤ tt, lit≤ tt);
  rows_in = (lit≤ tt, lit≤ tt);
  width_in = (lit≤ tt, lit≤ tt);
  pins_in = lit≤ tt;
}

-- What CUR says: the version and the page in its high half, and the pins taken on that version in its low half

abbrev pub naming : ℕ → ℕ → ℕ
naming version page = 2 ^ 32 * (16 * version + page)

abbrev pub version_named : ℕ → ℕ
version_named n = n / 2 ^ 32 / 16

abbrev pub page_named : ℕ → ℕ
page_named n = n / 2 ^ 32 % 16

abbrev pub taken_named : ℕ → ℕ
taken_named n = n % 2 ^ 32

-- What stands in a table of these words. Word 0 is CUR, which has no function of its own

abbrev pub release : Sizes → List ℕ → ℕ → ℕ
release z words page = slice_index words (release_word z page)

abbrev pub logged : Sizes → List ℕ → ℕ → ℕ → ℕ
logged z words entry index = slice_index words (log_word z entry index)

abbrev pub claim : Sizes → List ℕ → ℕ → ℕ
claim z words row = slice_index words (claim_word z row)

abbrev pub entry : Sizes → List ℕ → ℕ → ℕ → ℕ
entry z words page place = slice_index words (place_word z page place)

abbrev pub row_at : Sizes → List ℕ → ℕ → ℕ → ℕ
row_at z words row index = slice_index words (row_word z row index)
