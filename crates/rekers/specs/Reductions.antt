-- Reductions along trails of links, and which of them are made.
use Rattle.std.specs.Prelude.{◌≡◌, ℕ, ◌<◌, ◌≤◌, List, [], ◌∷◌, length, drop, Some, slice_get, Contains}
use Rattle.std.specs.List.{AllByRecursion}
use Rattle.forest.specs.declared.symbols.SymbolId.{SymbolId}
use Rattle.forest.specs.declared.rules.Rule.{Rule}
use Rattle.item_sets.specs.declared.item.Item.{Item}
use Rattle.item_sets.specs.Prefixes.{item_at}
use Rattle.item_sets.specs.Expansions.{InClosure}
use Rattle.gss.specs.PlaceGraphs.{place_with, edge_of}
use Rattle.packed_spans.specs.Packed.{PackedSplit}
use Rattle.parser_states.specs.declared.reduction.Reduction.{Reduction}
use Rattle.parser_states.specs.Reductions.{reduction_by}
use Rattle.rekers.specs.Found.{Findings, IsNode, IsTrail}

-- The rule is finished in the top node, and from the node up to it leads a trail by what stands behind the dot, where so many symbols
-- are left before it.
pub record IsPartial (rules : List Rule) (f : Findings) (reduction : Reduction) (node left : ℕ) (trail labels : List ℕ) (top at : ℕ) : Type 0 where
  pub rule : Rule
  pub live : Contains rules rule
  pub made : reduction_by rule ≡ reduction
  pub upper : List Item
  pub top_is : IsNode f top upper at
  pub finished : InClosure rules (Contains upper) (item_at rule.number (length rule.right))
  pub within : left ≤ length rule.right
  pub along : IsTrail f.links node trail (drop left rule.right) labels top
  pub kernel : List Item
  pub from : ℕ
  pub node_is : IsNode f node kernel from
  pub dotted : InClosure rules (Contains kernel) (item_at rule.number left)

-- the whole right side stands on the trail
abbrev pub IsReducible : List Rule → Findings → Reduction → (lower : ℕ) → (trail labels : List ℕ) → (top at : ℕ) → Type 0
IsReducible rules f reduction lower trail labels top at = IsPartial rules f reduction lower 0 trail labels top at

-- the link leads from the lower node by the symbol up to a node at the place
pub record IsLinkTo (f : Findings) (link lower : ℕ) (x : SymbolId) (at label : ℕ) : Type 0 where
  pub upper : ℕ
  pub state : ℕ
  pub there : slice_get f.links link ≡ Some (edge_of upper x lower label)
  pub upper_is : slice_get f.nodes upper ≡ Some (place_with state at)

-- The reduction is made: its link is there, and, where that link made its span, the span has the split.
pub record IsReduced (f : Findings) (reduction : Reduction) (lower : ℕ) (labels : List ℕ) (at : ℕ) : Type 0 where
  pub link : ℕ
  pub label : ℕ
  pub link_is : IsLinkTo f link lower reduction.left at label
  pub split : slice_get f.owners label ≡ Some link → Contains f.splits (record { span = label; rule = reduction.rule; parts = labels })

-- the split was found along the trail, over the lower node of the link that made its span
pub record IsFoundAlong (rules : List Rule) (f : Findings) (split : PackedSplit) (trail : List ℕ) (top : ℕ) : Type 0 where
  pub reduction : Reduction
  pub number : reduction.rule ≡ split.rule
  pub owner : ℕ
  pub lower : ℕ
  pub at : ℕ
  pub owns : slice_get f.owners split.span ≡ Some owner
  pub owner_is : IsLinkTo f owner lower reduction.left at split.span
  pub reducible : IsReducible rules f reduction lower trail split.parts top at

-- links below one number are worked, and of the nodes below another the empty rules are: the trail is among those
abbrev pub IsBelow : (links nodes : ℕ) → List ℕ → (top : ℕ) → Type 0
IsBelow links nodes [] top = top < nodes
IsBelow links nodes (link ∷ trail) top = AllByRecursion (λ other. other < links) (link ∷ trail)

-- exactly the reductions along the trails below are made
pub record IsWorked (rules : List Rule) (f : Findings) (links nodes : ℕ) : Type 0 where
  pub all : (reduction : Reduction) (lower : ℕ) (trail labels : List ℕ) (top at : ℕ) → IsReducible rules f reduction lower trail labels top at
      → IsBelow links nodes trail top → IsReduced f reduction lower labels at
  pub only : (split : PackedSplit) (trail : List ℕ) (top : ℕ) → Contains f.splits split → IsFoundAlong rules f split trail top → IsBelow links nodes trail top
