-- Which rows a chooser is asked about, and what becomes of it.
use Rattle.std.specs.Prelude.{◌≡◌, ◌≤◌, ℕ, List, [], ◌∷◌, length}
use Rattle.pin_rule.specs.Lists.{In}
use Rattle.slot_store.specs.GraphAnswers.{AllDiffer}

-- the chooser was asked about these rows, one after the other
abbrev pub AsksEach : {S : Type 0} → (S → List ℕ → S → Type 0) → S → List (List ℕ) → S → Type 0
AsksEach moves first [] last = last ≡ first
AsksEach moves first (row ∷ rows) last = (next : _) × moves first row next × AsksEach moves next rows last

-- the chooser was asked about each row of the graph once, in some order, and about no others; these are no more than so many
pub record AsksRows {S : Type 0} (moves : S → List ℕ → S → Type 0) (first last : S) (graph : List (List ℕ)) (most : ℕ) : Type 0 where
  pub asked : List (List ℕ)
  pub each : AsksEach moves first asked last
  pub once : AllDiffer asked
  pub only : (row : List ℕ) → In row asked → In row graph
  pub every : (row : List ℕ) → In row graph → In row asked
  pub few : length asked ≤ most
