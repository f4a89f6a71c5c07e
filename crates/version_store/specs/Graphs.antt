-- The rows of the newest page, as the view with the whole share knows them.
use Rattle.std.specs.Prelude.{◌≡◌, ℕ, suc, ◌+◌, ◌<◌, List, [], ◌∷◌, cond}
use lib.Dec.{eqb}
use Rattle.pin_rule.specs.declared.sizes.Sizes.{Sizes}
use Rattle.pin_rule.specs.declared.view.KnownPlace.{KnownPlace}
use Rattle.pin_rule.specs.Lists.{In}
use Rattle.pin_rule.specs.Rows.{content_of}

-- the word at an index among pairs of an index and a word; 0 where there is none
abbrev pub word_in : List (ℕ × ℕ) → ℕ → ℕ
word_in [] index = 0
word_in (w ∷ ws) index = cond (eqb w.0 index) w.1 (word_in ws index)

-- the row of a place that is not empty
abbrev pub row_known : KnownPlace → List ℕ
row_known k = content_of (word_in k.words)

abbrev pub rows_known : List KnownPlace → List (List ℕ)
rows_known [] = []
rows_known (k ∷ ks) = cond (eqb k.met 0) (rows_known ks) (row_known k ∷ rows_known ks)

-- all words of the row are among the pairs
abbrev pub IsReadWhole : List (ℕ × ℕ) → Type 0
IsReadWhole ws = (index : ℕ) → index < 2 + (word_in ws 0 + word_in ws 1) → In (index, word_in ws index) ws

-- each place of the page is known, with the whole row that stands there
pub record IsWholeKnown (z : Sizes) (ks : List KnownPlace) : Type 0 where
  pub every : (place : ℕ) → place < z.places → (k : KnownPlace) × In k ks × (k.place ≡ place)
  pub inside : (k : KnownPlace) → In k ks → k.place < z.places
  pub rows : (k : KnownPlace) (row : ℕ) → In k ks → k.met ≡ suc row → IsReadWhole k.words
