-- What reading teaches of the places of the newest page, with the whole share.
use Rattle.std.specs.Prelude.{◌≡◌, ◌⊎◌, ℕ, suc, ◌<◌, List, length, slice_index, Option, Some, None}
use mathlib.Core.Option as maybe
use lib.ListN.{get_elem?}
use Rattle.pin_rule.specs.declared.sizes.Sizes.{Sizes}
use Rattle.pin_rule.specs.declared.view.KnownPlace.{KnownPlace}
use Rattle.pin_rule.specs.Lists.{In}
use Rattle.slot_store.specs.Known.{IsLater}
use Rattle.version_store.specs.Graphs.{rows_known, IsWholeKnown}
use Rattle.version_store.specs.Rows.{Found, rows_found}

-- the places are the same ones, and more words of their rows may be known
pub record Grown (ks ls : List KnownPlace) : Type 0 where
  pub on : (k : KnownPlace) → In k ks → (l : KnownPlace) × In l ls × IsLater k l
  pub back : (l : KnownPlace) → In l ls → (k : KnownPlace) × In k ks × IsLater k l

-- the words of a row are known wherever it stands
abbrev pub Shows : List KnownPlace → ℕ → List ℕ → Type 0
Shows ls row words = (l : KnownPlace) → In l ls → l.met ≡ suc row → (index : ℕ) → index < length words → In (index, slice_index words index) l.words

-- the first places were read
pub record Learns (ks ls : List KnownPlace) (found : List (Option Found)) : Type 0 where
  pub on : (k : KnownPlace) → In k ks → (l : KnownPlace) × In l ls × IsLater k l
  pub covers : (place : ℕ) → place < length found → (l : KnownPlace) × In l ls × (l.place ≡ place)
  pub only : (l : KnownPlace) → In l ls → (l.place < length found) ⊎ ((k : KnownPlace) × In k ks × (k.place ≡ l.place))
  pub empty : (place : ℕ) (l : KnownPlace) → get_elem? found place ≡ maybe.some None → In l ls → l.place ≡ place → l.met ≡ 0
  pub rows : (place : ℕ) (f : Found) (l : KnownPlace) → get_elem? found place ≡ maybe.some (Some f) → In l ls → l.place ≡ place
      → (l.met ≡ suc f.row) × ((index : ℕ) → index < length f.words → In (index, slice_index f.words index) l.words)

-- each place of the page is known, and its rows are those that were found
pub record KnowsFound (z : Sizes) (ls : List KnownPlace) (found : List (Option Found)) : Type 0 where
  pub all_known : IsWholeKnown z ls
  pub known : (row : List ℕ) → In row (rows_known ls) → In row (rows_found found)
  pub every : (row : List ℕ) → In row (rows_found found) → In row (rows_known ls)
