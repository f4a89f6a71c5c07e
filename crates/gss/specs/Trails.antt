-- Trails: links by number, one after the other down from a top node, the upper one first.
use Rattle.std.specs.Prelude.{◌≡◌, ◌⊎◌, ℕ, ◌<◌, ◌≤◌, List, [], ◌∷◌, ◌++◌, length, slice_get, Option, None, Some, Bool, IsTrue, Contains}
use Rattle.gss.specs.declared.stack_graph.Edge.{Edge}
use Rattle.gss.specs.declared.trails.Walk.{Walk}

-- none of them behind the last one, the links lead from the top down to the node, one after the other
abbrev pub LeadsDown : List Edge → (last top : ℕ) → (trail : List ℕ) → (node : ℕ) → Type 0
LeadsDown links last top [] node = top ≡ node
LeadsDown links last top (link ∷ trail) node = (edge : Edge) × (slice_get links link ≡ Some edge) × (edge.upper ≡ top) × (link ≤ last)
    × LeadsDown links last edge.lower trail node

-- the trail goes through the link, if one is named
abbrev pub PassesLink : Option ℕ → List ℕ → Type 0
PassesLink None trail = Unit {0}
PassesLink (Some through) trail = Contains trail through

-- where the trail goes on from a node before it has gone through the link that is named, the node is not below the floor
abbrev pub StaysAbove : List Edge → Walk → List ℕ → Type 0
StaysAbove links walk trail = (front rest : List ℕ) (link node : ℕ) → trail ≡ front ++ link ∷ rest → LeadsDown links walk.last walk.top front node
    → (PassesLink walk.through front → ⊥) → walk.floor ≤ node

-- the trail is one of those that the walk is for
pub record IsTrailOf (links : List Edge) (walk : Walk) (trail : List ℕ) : Type 0 where
  pub node : ℕ
  pub down : LeadsDown links walk.last walk.top trail node
  pub size : length trail ≡ walk.length
  pub passes : PassesLink walk.through trail
  pub above : StaysAbove links walk trail

-- where the two first differ, the trail has the older link
abbrev pub IsTrailBefore : List ℕ → List ℕ → Type 0
IsTrailBefore [] other = ⊥
IsTrailBefore (link ∷ trail) [] = ⊥
IsTrailBefore (link ∷ trail) (other ∷ others) = (link < other) ⊎ ((link ≡ other) × IsTrailBefore trail others)

-- the trail goes on from the part, or has a newer link where the two first differ
abbrev pub IsFrom : List ℕ → List ℕ → Type 0
IsFrom [] trail = Unit {0}
IsFrom (link ∷ part) [] = ⊥
IsFrom (link ∷ part) (other ∷ trail) = (link < other) ⊎ ((link ≡ other) × IsFrom part trail)

-- a walk, and the trail that it stands at; before it has begun, the part that it begins with
pub record Standing : Type 0 where
  pub walk : Walk
  pub is_begun : Bool
  pub trail : List ℕ

-- what the walk stands at leads down from its top
pub record IsPartOfTrail (links : List Edge) (walk : Walk) (trail : List ℕ) : Type 0 where
  pub node : ℕ
  pub down : LeadsDown links walk.last walk.top trail node
  pub few : length trail ≤ walk.length
  pub above : StaysAbove links walk trail

-- the walk stands at links of these
abbrev pub IsOn : List Edge → Standing → Type 0
IsOn links at = IsPartOfTrail links at.walk at.trail

-- the walk has not come to the trail yet: from the part on that it begins with, and behind the trail that it stands at once it has begun
abbrev pub IsToCome : Standing → List ℕ → Type 0
IsToCome at trail = IsFrom at.trail trail × (IsTrue at.is_begun → IsTrailBefore at.trail trail)

-- the first of the trails that the walk has not come to
pub record IsNextTrail (links : List Edge) (at : Standing) (trail : List ℕ) : Type 0 where
  pub is : IsTrailOf links at.walk trail
  pub to_come : IsToCome at trail
  pub first : (other : List ℕ) → IsTrailOf links at.walk other → IsToCome at other → (other ≡ trail) ⊎ IsTrailBefore trail other

-- the walk has come to all trails
abbrev pub IsAtEnd : List Edge → Standing → Type 0
IsAtEnd links at = (trail : List ℕ) → IsTrailOf links at.walk trail → IsToCome at trail → ⊥
