-- The operations of a seat on one word: which word each names, and what it leaves there.
use Rattle.std.specs.Prelude.{ℕ, zero, suc, ◌<◌, ◌≤◌, ◌+◌, ◌%◌, ◌^◌}
use Rattle.pin_rule.specs.declared.sizes.Sizes.{Sizes}
use Rattle.pin_rule.specs.declared.ops.Op.{Op}
use Rattle.pin_rule.specs.declared.ops.Op.TheVariants.{
  LoadPlace,
  LoadRow,
  Claim,
  WriteRow,
  Publish,
  GiveBack,
  Pin,
  Unpin,
  LoadLog,
  WriteLog,
  WritePlace,
  SwapCurrent,
}
use Rattle.pin_rule.specs.declared.ops.Op.TheVariants.{LoadRelease, FreeRow}
use Rattle.pin_rule.specs.Layout.{release_word, claim_word, place_word, log_word, row_word, naming}

abbrev pub word_of : Sizes → Op → ℕ
word_of z (LoadPlace page place) = place_word z page place
word_of z (LoadRow row index) = row_word z row index
word_of z (Claim row) = claim_word z row
word_of z (WriteRow row index word) = row_word z row index
word_of z (Publish page place row) = place_word z page place
word_of z (GiveBack row) = claim_word z row
word_of z Pin = 0
word_of z (Unpin page) = release_word z page
word_of z (LoadLog entry index) = log_word z entry index
word_of z (WriteLog entry index word) = log_word z entry index
word_of z (WritePlace page place word) = place_word z page place
word_of z (SwapCurrent version page) = 0
word_of z (LoadRelease page) = release_word z page
word_of z (FreeRow row) = claim_word z row

-- the word named lies in its part of the table; a swap leaves a version and a page that the table has room for
abbrev pub IsIn : Sizes → Op → Type 0
IsIn z (LoadPlace page place) = (page < z.versions) × (place < z.places)
IsIn z (LoadRow row index) = (row < z.rows) × (index < z.width)
IsIn z (Claim row) = row < z.rows
IsIn z (WriteRow row index word) = (row < z.rows) × (index < z.width)
IsIn z (Publish page place row) = (page < z.versions) × (place < z.places)
IsIn z (GiveBack row) = row < z.rows
IsIn z Pin = Unit {0}
IsIn z (Unpin page) = page < z.versions
IsIn z (LoadLog entry index) = (entry < z.log) × (index < 32)
IsIn z (WriteLog entry index word) = (entry < z.log) × (index < 32)
IsIn z (WritePlace page place word) = (page < z.versions) × (place < z.places)
IsIn z (SwapCurrent version page) = (version ≤ z.log) × (page < z.versions)
IsIn z (LoadRelease page) = page < z.versions
IsIn z (FreeRow row) = row < z.rows

-- the word that an exchange of 0 for a new word leaves
abbrev pub exchanged : ℕ → ℕ → ℕ
exchanged new zero = new
exchanged new (suc n) = suc n

-- one more, as the machine adds
abbrev pub one_more : ℕ → ℕ
one_more n = (n + 1) % 2 ^ 64

-- the word left, by the word met
abbrev pub does : Op → ℕ → ℕ
does (LoadPlace page place) n = n
does (LoadRow row index) n = n
does (Claim row) n = exchanged 1 n
does (WriteRow row index word) n = word
does (Publish page place row) n = exchanged (suc row) n
does (GiveBack row) n = 0
does Pin n = one_more n
does (Unpin page) n = one_more n
does (LoadLog entry index) n = n
does (WriteLog entry index word) n = word
does (WritePlace page place word) n = word
does (SwapCurrent version page) n = naming version page
does (LoadRelease page) n = n
does (FreeRow row) n = 0
