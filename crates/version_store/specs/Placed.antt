-- Where the rows of a bench's page stand, and what the answer for a place tells of that.
use Rattle.std.specs.Prelude.{◌≡◌, ◌≢◌, ◌↔◌, ℕ, ◌<◌, List, Option, Some, None}
use Rattle.std.specs.Borrow.{Bor}
use Rattle.pin_rule.specs.declared.content.Entry.{Entry}
use Rattle.pin_rule.specs.declared.view.KnownPlace.{KnownPlace}
use Rattle.pin_rule.specs.Lists.{In}
use Rattle.slot_store.specs.Keys.{row_of}
use Rattle.version_store.specs.Graphs.{row_known}
use Rattle.version_store.specs.Meaning.{BenchMeaning}

-- the row stands at the place, among those that are known
abbrev pub StandsKnownAt : List KnownPlace → ℕ → List ℕ → Type 0
StandsKnownAt ks place row = (k : KnownPlace) × In k ks × (k.place ≡ place) × (k.met ≢ 0) × (row ≡ row_known k)

-- the rows that stand at the places are those of the graph: one at a place at most, and no key at two places
pub record IsByPlaces (Stands : ℕ → List ℕ → Type 0) (places : ℕ) (graph : List (List ℕ)) : Type 0 where
  pub only : (place : ℕ) (row : List ℕ) → Stands place row → In row graph
  pub every : (row : List ℕ) → In row graph → (place : ℕ) × (place < places) × Stands place row
  pub one_row : (place : ℕ) (a b : List ℕ) → Stands place a → Stands place b → a ≡ b
  pub keys_once : (p q : ℕ) (key a b : List ℕ) → Stands p (row_of key a) → Stands q (row_of key b) → p ≡ q

-- no row stands at the place, or the one that was lent, which fits
abbrev pub MeetsAt : (ℕ → List ℕ → Type 0) → (List ℕ → Type 0) → ℕ → Option (Bor (List ℕ)) → Type 0
MeetsAt Stands fits place None = (row : List ℕ) → ¬ (Stands place row)
MeetsAt Stands fits place (Some words) = Stands place words.now × fits words.now

-- a place was read: the answer is what stands there, and each row stands where it stood
pub record ReadsAt (fits : List Entry → List ℕ → Type 0) (m n : BenchMeaning) (Stood Stands : ℕ → List ℕ → Type 0) (place : ℕ)
    (answer : Option (Bor (List ℕ))) : Type 0 where
  pub meets : MeetsAt Stood (fits m.log) place answer
  pub stays : (at : ℕ) (row : List ℕ) → Stood at row ↔ Stands at row
  pub by_places : IsByPlaces Stands n.sizes.places n.graph
