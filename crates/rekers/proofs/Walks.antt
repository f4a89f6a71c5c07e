-- Trails: their parts, and what stays of them as more is found.
use Rattle.std.proofs.Common.{◌≡◌, ℕ, suc, ◌<◌, inl, inr, List, [], ◌∷◌, ◌++◌, length, refl, sym, ◌∙◌, ap, subst, arith, Contains, slice_get, Some}
use Rattle.std.proofs.lemmas.Option.{slice_get_within}
use Rattle.forest.specs.declared.symbols.SymbolId.{SymbolId}
use Rattle.forest.specs.declared.rules.Rule.{Rule}
use Rattle.forest.specs.Derivation.{IsNonterminal}
use Rattle.item_sets.specs.declared.item.Item.{Item}
use Rattle.item_sets.proofs.Numbering.{IsNumbered}
use Rattle.gss.specs.declared.stack_graph.Edge.{Edge}
use Rattle.gss.specs.PlaceGraphs.{edge_of}
use Rattle.packed_spans.specs.Packed.{PackedSplit}
use Rattle.parser_states.specs.declared.reduction.Reduction.{Reduction}
use Rattle.rekers.specs.Found.{Findings, IsNode, Grows, IsTrail, here, over}
use Rattle.rekers.specs.Reductions.{IsPartial, IsReduced, IsFoundAlong}
use Rattle.rekers.specs.Sound.{IsSoundGraph}
use Rattle.rekers.proofs.Growth.{one_at, one_kernel, trail_back, reduced_grows, told_grows, node_grows}
use Rattle.rekers.proofs.Trails.{between, part_cases, one_told}

-- ---- trails

pub trail_size : {links : List Edge} {node top : ℕ} {trail labels : List ℕ} {xs : List SymbolId} → IsTrail links node trail xs labels top
    → length trail ≡ length xs
trail_size here = refl
trail_size (over edge on) = ap suc (trail_size on)

-- a trail's links tell where it begins and its labels
pub one_labels : {links : List Edge} {a b top : ℕ} {trail labels others : List ℕ} {xs ys : List SymbolId} → IsTrail links a trail xs labels top
    → IsTrail links b trail ys others top → (a ≡ b) × (labels ≡ others)
one_labels here here = (refl, refl)
one_labels {links} (over {link = link} {labels = labels} edge on) (over {label = label} edge' on') =
    let same = one_at links link _ _ edge edge' in
    let (middle, rest) = one_labels on on' in
    (ap (λ (e : Edge). e.lower) same, ap (λ n. n ∷ labels) (ap (λ (e : Edge). e.label) same) ∙ ap (λ ns. label ∷ ns) rest)

-- the trail's first links lead up to where its others begin
pub record IsParted (links : List Edge) (lower : ℕ) (front end : List ℕ) (top : ℕ) : Type 0 where
  pub middle : ℕ
  pub labels : List ℕ
  pub symbols : List SymbolId
  pub below : IsTrail links lower front symbols labels middle
  pub others : List ℕ
  pub others_by : List SymbolId
  pub above : IsTrail links middle end others_by others top

pub parted : {links : List Edge} {lower top : ℕ} {trail labels : List ℕ} {xs : List SymbolId} (front end : List ℕ)
    → IsTrail links lower trail xs labels top → trail ≡ front ++ end → IsParted links lower front end top
parted {links} {lower} {top} {labels = labels} {xs = xs} [] end t e = record {
  middle = lower;
  labels = [];
  symbols = [];
  below = here;
  others = labels;
  others_by = xs;
  above = subst (λ ts. IsTrail links lower ts xs labels top) e t;
}
parted (n ∷ front) end here e = absurd cc
parted {links} {top = top} (n ∷ front) end (over {lower = lower} {middle = middle} {link = link} {x = x} {label = label} {trail = rest} edge on) e =
    let head : link ≡ n = cc in
    let tail : rest ≡ front ++ end = cc in
    let part = parted front end on tail in
    record {
      middle = part.middle;
      labels = label ∷ part.labels;
      symbols = x ∷ part.symbols;
      below = over (subst (λ l. slice_get links l ≡ Some (edge_of middle x lower label)) head edge) part.below;
      others = part.others;
      others_by = part.others_by;
      above = part.above;
    }

-- the lower end of a trail is a node, as its top is
pub trail_node : {rules : List Rule} {tokens : List SymbolId} {f : Findings} → IsSoundGraph rules tokens f → {node top : ℕ} {trail labels : List ℕ}
    {xs : List SymbolId} → IsTrail f.links node trail xs labels top → {w : List Item} {j : ℕ} → IsNode f top w j
    → (s : List Item) × (i : ℕ) × IsNode f node s i
trail_node graph here {w} {j} n = (w, j, n)
trail_node {rules} {tokens} {f} graph (over {link = link} edge on) n = let b = between rules tokens f graph link edge in (b.below, b.from, b.lower_is)

-- ---- reductions

pub partial_size : {rules : List Rule} {f : Findings} {reduction : Reduction} {node left : ℕ} {trail labels : List ℕ} {top at : ℕ}
    → (p : IsPartial rules f reduction node left trail labels top at) → length p.rule.right ≡ reduction.length
partial_size p = ap (λ (r : Reduction). r.length) p.made

pub partial_left : {rules : List Rule} {f : Findings} {reduction : Reduction} {node left : ℕ} {trail labels : List ℕ} {top at : ℕ}
    → IsPartial rules f reduction node left trail labels top at → IsNonterminal rules reduction.left
partial_left p = (p.rule, p.live, ap (λ (r : Reduction). r.left) p.made)

module _ (rules : List Rule) (tokens : List SymbolId) (f g : Findings) (graph : IsSoundGraph rules tokens f) (grows : Grows f g) where
  -- along old links to an old top the reduction was there before
  pub partial_back : {reduction : Reduction} {node left : ℕ} {trail labels : List ℕ} {top at : ℕ} → IsPartial rules g reduction node left trail labels top at
      → ((link : ℕ) → Contains trail link → link < length f.links) → {w : List Item} {i : ℕ} → IsNode f top w i
      → IsPartial rules f reduction node left trail labels top at
  partial_back {node = node} {top = top} {at = at} p below n =
      let (kernel, place) = one_kernel (node_grows f g grows n) p.top_is in
      let along = trail_back grows.links p.along below in
      let (s, i, lower) = trail_node graph along n in
      let (kernel', place') = one_kernel (node_grows f g grows lower) p.node_is in
      record {
        rule = p.rule;
        live = p.live;
        made = p.made;
        upper = p.upper;
        top_is = subst (λ k. IsNode f top p.upper k) place (subst (λ t. IsNode f top t _) kernel n);
        finished = p.finished;
        within = p.within;
        along = along;
        kernel = p.kernel;
        from = p.from;
        node_is = subst (λ k. IsNode f node p.kernel k) place' (subst (λ t. IsNode f node t i) kernel' lower);
        dotted = p.dotted;
      }

  -- a made reduction stays made
  pub reduced_on : {reduction : Reduction} {lower : ℕ} {labels : List ℕ} {at : ℕ} → IsNonterminal rules reduction.left
      → IsReduced f reduction lower labels at → IsReduced g reduction lower labels at
  reduced_on {reduction} x r =
      let b = between rules tokens f graph r.link r.link_is.there in
      let owned : r.label < length f.owners = elim (part_cases b.part) [
        | inl t ↦ absurd (t.0 x)
        | inr s ↦ omega (arith, slice_get_within f.spans r.label _ s.1, graph.owned)
      ] in
      reduced_grows f g grows r owned

  -- how an old split was found was known before
  pub told_back : IsNumbered rules → IsSoundGraph rules tokens g → (split : PackedSplit) (trail : List ℕ) (top : ℕ) → Contains f.splits split
      → IsFoundAlong rules g split trail top → IsFoundAlong rules f split trail top
  told_back numbers graph' split trail top c t =
      let (trail', top', told) = graph.told split c in
      let (same, tops) = one_told rules tokens g graph' numbers t (told_grows f g grows told) in
      subst (λ n. IsFoundAlong rules f split trail n) (sym tops) (subst (λ ts. IsFoundAlong rules f split ts top') (sym same) told)
