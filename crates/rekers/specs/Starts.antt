-- Where walks begin.
use Rattle.std.specs.Prelude.{◌≡◌, ◌⊎◌, ◌<◌, ℕ, List, [], ◌∷◌, Some, slice_get, Bool, false, IsTrue}
use Rattle.forest.specs.declared.rules.Rule.{Rule}
use Rattle.gss.specs.declared.stack_graph.Edge.{Edge}
use Rattle.gss.specs.declared.trails.Walk.{Walk as TrailWalk}
use Rattle.gss.specs.Trails.{Standing}
use Rattle.rekers.specs.declared.walk.Walk.{Walk}
use Rattle.rekers.specs.Found.{Findings}
use Rattle.rekers.specs.Reductions.{IsPartial}

-- the reduction's rule is finished in the top node, and has some symbols
pub record IsTop (rules : List Rule) (f : Findings) (walk : Walk) (at : ℕ) : Type 0 where
  pub partial : IsPartial rules f walk.reduction walk.top walk.reduction.length [] [] walk.top at
  pub some : 0 < walk.reduction.length

-- the walk over the trails through the link, and through none behind it
abbrev pub trails_for : Walk → (first_node : ℕ) → TrailWalk
trails_for walk first_node =
    record { top = walk.top; length = walk.reduction.length; last = walk.through; through = Some walk.through; floor = first_node }

-- with the link to go through, which leads down from the top
pub record IsWithLink (links : List Edge) (flat : Bool) (walk : Walk) (trail : List ℕ) : Type 0 where
  pub is_flat : IsTrue flat
  pub edge : Edge
  pub there : slice_get links walk.through ≡ Some edge
  pub upper : edge.upper ≡ walk.top
  pub is : trail ≡ walk.through ∷ []

-- the walk is to begin at its top, or with the link where all trails through it begin with it
pub record IsStart (links : List Edge) (flat : Bool) (walk : Walk) (first_node : ℕ) (at : Standing) : Type 0 where
  pub walk_is : at.walk ≡ trails_for walk first_node
  pub not_begun : at.is_begun ≡ false
  pub begins : (at.trail ≡ []) ⊎ IsWithLink links flat walk at.trail
