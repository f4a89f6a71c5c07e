-- Where walks begin: no trail is left out, and the parser has changed nothing but its walk.
use Rattle.std.proofs.Common.{◌≡◌, ℕ, ◌≤◌, ◌⊎◌, inl, inr, List, [], ◌∷◌, ◌++◌, reverse}
use Rattle.std.proofs.Common.{refl, sym, ◌∙◌, ap, subst, arith, Contains, slice_get, Some}
use Rattle.std.proofs.lemmas.Bool.{cases_lt}
use Rattle.std.proofs.lemmas.List.{reverse-append}
use Rattle.forest.specs.declared.symbols.SymbolId.{SymbolId}
use Rattle.forest.specs.declared.rules.Rule.{Rule}
use Rattle.forest.proofs.Ascending.{contains_cases}
use Rattle.gss.specs.declared.stack_graph.Edge.{Edge}
use Rattle.gss.specs.PlaceGraphs.{edge_of}
use Rattle.gss.specs.Trails.{IsPartOfTrail, IsFrom, IsOn, Standing}
use Rattle.gss.proofs.TrailParts.{above_none, above_pushed}
use Rattle.gss.proofs.TrailSteps.{part_none}
use Rattle.rekers.specs.declared.parser.Parser.{Parser}
use Rattle.rekers.specs.declared.walk.Walk.{Walk}
use Rattle.rekers.specs.Found.{Findings, found, IsTrail, here, over}
use Rattle.rekers.specs.Sound.{IsSoundParser, IsSoundGraph, IsLevel, IsFlat}
use Rattle.rekers.specs.Starts.{trails_for, IsWithLink, IsStart, IsTop}
use Rattle.rekers.specs.Steps.{IsOfLevel, IsWithinLimit, IsThrough}
use Rattle.rekers.proofs.Growth.{one_at}
use Rattle.rekers.proofs.Trails.{between, link_rises}

-- ---- flat levels

-- a trail ends with the link, and leads up to where the link does
pub record EndsUp (trail : List ℕ) (link upper top : ℕ) : Type 0 where
  pub front : List ℕ
  pub ends : trail ≡ front ++ link ∷ []
  pub is_top : upper ≡ top

-- a link leads down to the node
pub record LeadsUp (links : List Edge) (node : ℕ) : Type 0 where
  pub next : ℕ
  pub edge : Edge
  pub there : slice_get links next ≡ Some edge
  pub leads : edge.lower ≡ node

-- a trail is empty, or begins with a link up from its node
nothing_or_more : {links : List Edge} {node top : ℕ} {trail labels : List ℕ} {xs : List SymbolId} → IsTrail links node trail xs labels top
    → ((trail ≡ []) × (node ≡ top)) ⊎ LeadsUp links node
nothing_or_more here = inl (refl, refl)
nothing_or_more (over {lower = lower} {middle = middle} {link = link} {x = x} {label = label} edge on) =
    inr (record { next = link; edge = edge_of middle x lower label; there = edge; leads = refl })

module _ (rules : List Rule) (tokens : List SymbolId) (f : Findings) (graph : IsSoundGraph rules tokens f) (at first_node first_link : ℕ)
    (level : IsLevel f at first_node first_link) (flat : IsFlat f first_node first_link) where
  -- no link leads down to a node of the level
  none_above : (link lower : ℕ) (edge : Edge) → slice_get f.links link ≡ Some edge → edge.lower ≡ lower → first_node ≤ lower → ⊥
  none_above link lower edge there is of_level = elim (cases_lt link first_link) [
    | inl before ↦
        let b = between rules tokens f graph link {upper = edge.upper} {x = edge.symbol} {lower = edge.lower} {label = edge.label} there in
        let rises = link_rises rules tokens f graph link {upper = edge.upper} {x = edge.symbol} {lower = edge.lower} {label = edge.label} there b.lower_is
        b.upper_is in
        let low = level.nodes_here edge.lower _ b.lower_is.there (omega (arith, is, of_level)) in
        let high = level.nodes_before edge.upper _ b.upper_is.there (level.links_before link edge there before) in
        omega (arith, rises, low, high)
    | inr behind ↦ omega (arith, flat link edge there behind, is, of_level)
  ]

  -- a trail through a link of the level ends with it
  pub ends_up : {lower top : ℕ} {trail labels : List ℕ} {xs : List SymbolId} → IsTrail f.links lower trail xs labels top
      → (through : ℕ) (edge : Edge) → slice_get f.links through ≡ Some edge → first_link ≤ through → Contains trail through → EndsUp trail through
      edge.upper top
  ends_up here through edge there of_level (k, l, e) = absurd (omega (arith, l))
  ends_up {top = top} (over {lower = lower} {middle = middle} {link = link} {x = x} {label = label} {trail = rest} first on) through edge there of_level c =
      elim (contains_cases link rest through c) [
        | inl same ↦
            let is : edge.upper ≡ middle = ap (λ (e : Edge). e.upper)
            (one_at f.links through edge _ there (subst (λ n. slice_get f.links n ≡ Some (edge_of middle x lower label)) same first)) in
            elim (nothing_or_more on) [
              | inl none ↦ record {
                front = [];
                ends = ap (λ n. n ∷ rest) same ∙ ap (λ ns. through ∷ ns) none.0;
                is_top = is ∙ none.1;
              }
              | inr more ↦ absurd (none_above more.next middle more.edge more.there more.leads
                  (omega (arith, level.links_here through edge there of_level, is)))
            ]
        | inr behind ↦
            let up = ends_up on through edge there of_level behind in
            record { front = link ∷ up.front; ends = ap (λ ns. link ∷ ns) up.ends; is_top = up.is_top }
      ]

-- ---- starts

module _ (rules : List Rule) (tokens : List SymbolId) (p : Parser) (sound : IsSoundParser rules tokens p) (walk : Walk)
    (of_level : IsOfLevel (found p) p.level.first_link walk.through) (at : Standing)
    (is : IsStart p.stacks.links p.is_flat walk p.level.first_node at) where
  -- the part that the walk begins with leads down from its top
  pub start_on : IsTop rules (found p) walk p.level.at → IsOn p.stacks.links at
  start_on top = subst (λ w. IsPartOfTrail p.stacks.links w at.trail) (sym is.walk_is) (elim is.begins [
    | inl none ↦ subst (λ ts. IsPartOfTrail p.stacks.links (trails_for walk p.level.first_node) ts) (sym none)
        (part_none p.stacks.links (trails_for walk p.level.first_node))
    | inr with_link ↦ subst (λ ts. IsPartOfTrail p.stacks.links (trails_for walk p.level.first_node) ts) (sym with_link.is) (link_part with_link)
  ])
    where
      link_part : IsWithLink p.stacks.links p.is_flat walk at.trail
          → IsPartOfTrail p.stacks.links (trails_for walk p.level.first_node) (walk.through ∷ [])
      link_part case =
          let here_is = sound.level.links_here walk.through case.edge case.there of_level.of_level in
          record {
            node = case.edge.lower;
            down = (case.edge, case.there, case.upper, omega arith, refl);
            few = omega (arith, top.some);
            above = above_pushed p.stacks.links (trails_for walk p.level.first_node) [] walk.top walk.through
                (above_none p.stacks.links (trails_for walk p.level.first_node)) refl (λ unmet. omega (arith, here_is, case.upper));
          }

  -- all trails through the link come from that part on
  pub start_before : {lower : ℕ} {trail labels : List ℕ} {xs : List SymbolId} → IsTrail p.stacks.links lower trail xs labels walk.top
      → IsThrough walk.through trail → IsFrom at.trail (reverse trail)
  start_before {trail = trail} on through = elim is.begins [
    | inl none ↦ subst (λ ts. IsFrom ts (reverse trail)) (sym none) tt
    | inr case ↦
        let up = ends_up rules tokens (found p) sound.graph p.level.at p.level.first_node p.level.first_link sound.level (sound.flat case.is_flat) on
        walk.through case.edge case.there of_level.of_level through.has in
        let turned : reverse trail ≡ walk.through ∷ reverse up.front = ap (λ ns. reverse ns) up.ends ∙ reverse-append up.front (walk.through ∷ []) in
        subst (λ ts. IsFrom ts (reverse trail)) (sym case.is) (subst (λ ts. IsFrom (walk.through ∷ []) ts) (sym turned) (inr (refl, tt)))
  ]

-- ---- a parser whose walk alone is new

pub sound_walk : (rules : List Rule) (tokens : List SymbolId) (p : Parser) (at : Standing) → IsSoundParser rules tokens p
    → IsSoundParser rules tokens (record p { trails = at })
sound_walk rules tokens p at sound = record {
  numbered = sound.numbered;
  terminals = sound.terminals;
  expanded = sound.expanded;
  graph = sound.graph;
  level = sound.level;
  openers = sound.openers;
  flat = sound.flat;
  spans_below = sound.spans_below;
}

pub within_walk : (p : Parser) (at : Standing) → IsWithinLimit p → IsWithinLimit (record p { trails = at })
within_walk p at within = record { few = within.few; limit = within.limit }
