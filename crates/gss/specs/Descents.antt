-- How a walk goes from one trail to the next one.
use Rattle.std.specs.Prelude.{◌≡◌, ◌⊎◌, ◌↔◌, ℕ, ◌≤◌, List, length, take, Option, Bool, IsTrue, false, true}
use Rattle.gss.specs.declared.stack_graph.Edge.{Edge}
use Rattle.gss.specs.declared.trails.Walk.{Walk}
use Rattle.gss.specs.Trails.{PassesLink, IsTrailOf, IsPartOfTrail, IsTrailBefore, IsFrom}

-- A part has met the link, if one is named, after so many links; or after more than it has, where it has not met it.
abbrev pub IsMetAfter : Option ℕ → List ℕ → ℕ → Type 0
IsMetAfter through part met = (n : ℕ) → n ≤ length part → (met ≤ n) ↔ PassesLink through (take n part)

-- the walk has gone from one part to another, which is whole or leads no further, and has come past no trail
pub record GoesTo (links : List Edge) (walk : Walk) (old new : List ℕ) (is_whole : Bool) : Type 0 where
  pub part : IsPartOfTrail links walk new
  pub from : IsFrom old new
  pub whole : IsTrue is_whole → IsTrailOf links walk new
  pub rest : (trail : List ℕ) → IsTrailOf links walk trail → IsFrom old trail → (IsTrue is_whole × (trail ≡ new)) ⊎ IsTrailBefore new trail

-- the walk has turned from one part to the next one that does not go on from it, if there is one
abbrev pub TurnsTo : List Edge → Walk → (old new : List ℕ) → Bool → Type 0
TurnsTo links walk old new true = IsTrailBefore old new × ((trail : List ℕ) → IsPartOfTrail links walk trail → IsTrailBefore old trail → IsFrom new trail)
TurnsTo links walk old new false = (trail : List ℕ) → IsPartOfTrail links walk trail → IsTrailBefore old trail → ⊥

-- the first of the trails from the part on, if there is one
pub record IsFirstFrom (links : List Edge) (walk : Walk) (part trail : List ℕ) : Type 0 where
  pub is : IsTrailOf links walk trail
  pub from : IsFrom part trail
  pub first : (other : List ℕ) → IsTrailOf links walk other → IsFrom part other → (other ≡ trail) ⊎ IsTrailBefore trail other

abbrev pub FindsTrail : List Edge → Walk → (part trail : List ℕ) → Bool → Type 0
FindsTrail links walk part trail true = IsFirstFrom links walk part trail
FindsTrail links walk part trail false = (other : List ℕ) → IsTrailOf links walk other → IsFrom part other → ⊥
