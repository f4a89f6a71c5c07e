-- What was found stays, and what is found of it holds on.
use Rattle.std.proofs.Common.{◌≡◌, ℕ, ◌<◌, inl, inr, List, ◌++◌, length, sym, ◌∙◌, ap, subst, arith, Contains, slice_get, Some}
use Rattle.std.proofs.lemmas.Option.{slice_get_within, same_Some}
use Rattle.forest.specs.declared.symbols.SymbolId.{SymbolId}
use Rattle.forest.specs.declared.rules.Rule.{Rule}
use Rattle.forest.proofs.Ascending.{contains_here, contains_there, contains_cases}
use Rattle.edit_log.proofs.Texts.{slice_get-append}
use Rattle.item_sets.specs.declared.item.Item.{Item}
use Rattle.item_sets.proofs.Chains.{at_below}
use Rattle.gss.specs.declared.stack_graph.Place.{Place}
use Rattle.gss.specs.declared.stack_graph.Edge.{Edge}
use Rattle.gss.specs.PlaceGraphs.{place_with}
use Rattle.packed_spans.specs.Packed.{PackedSplit}
use Rattle.parser_states.specs.declared.reduction.Reduction.{Reduction}
use Rattle.forest.specs.Numbers.{KeepsNumbers}
use Rattle.rekers.specs.Found.{Findings, IsNode, Grows, IsTrail, here, over}
use Rattle.rekers.specs.Reductions.{IsPartial, IsLinkTo, IsReduced, IsFoundAlong}

-- ---- lists

pub keeps_same : {X : Type 0} (xs : List X) → KeepsNumbers xs xs
keeps_same xs place x e = e

pub keeps_on : {X : Type 0} (xs ys zs : List X) → KeepsNumbers xs ys → KeepsNumbers ys zs → KeepsNumbers xs zs
keeps_on xs ys zs f g place x e = g place x (f place x e)

pub keeps_append : {X : Type 0} (xs more : List X) → KeepsNumbers xs (xs ++ more)
keeps_append xs more place x e = slice_get-append xs more place x e

pub keeps_equal : {X : Type 0} (xs ys : List X) → ys ≡ xs → KeepsNumbers xs ys
keeps_equal xs ys e = subst (λ zs. KeepsNumbers xs zs) (sym e) (keeps_same xs)

-- what stands below the old length stood there before
pub keeps_back : {X : Type 0} (xs ys : List X) → KeepsNumbers xs ys → (place : ℕ) (x : X) → place < length xs → slice_get ys place ≡ Some x
    → slice_get xs place ≡ Some x
keeps_back xs ys k place x l e =
    let (y, there) = at_below xs place l in
    let same : y ≡ x = same_Some y x (sym (k place y there) ∙ e) in
    subst (λ z. slice_get xs place ≡ Some z) same there

-- at one place stands one element
pub one_at : {X : Type 0} (xs : List X) (place : ℕ) (x y : X) → slice_get xs place ≡ Some x → slice_get xs place ≡ Some y → x ≡ y
one_at xs place x y e f = same_Some x y (sym e ∙ f)

-- ---- what was found

pub grows_same : (f : Findings) → Grows f f
grows_same f = record {
  kernels = keeps_same f.kernels;
  nodes = keeps_same f.nodes;
  links = keeps_same f.links;
  spans = keeps_same f.spans;
  splits = λ split c. c;
  owners = keeps_same f.owners;
}

pub grows_on : (f g h : Findings) → Grows f g → Grows g h → Grows f h
grows_on f g h a b = record {
  kernels = λ place x e. b.kernels place x (a.kernels place x e);
  nodes = λ place x e. b.nodes place x (a.nodes place x e);
  links = λ place x e. b.links place x (a.links place x e);
  spans = λ place x e. b.spans place x (a.spans place x e);
  splits = λ split c. b.splits split (a.splits split c);
  owners = λ place x e. b.owners place x (a.owners place x e);
}

-- a node has one kernel and one place
pub one_kernel : {f : Findings} {node : ℕ} {s t : List Item} {i j : ℕ} → IsNode f node s i → IsNode f node t j → (s ≡ t) × (i ≡ j)
one_kernel {f} {node} {s} {t} {i} {j} a b =
    let same : place_with a.state i ≡ place_with b.state j = one_at f.nodes node _ _ a.there b.there in
    let state : a.state ≡ b.state = ap (λ (p : Place). p.state) same in (
      one_at f.kernels a.state s t a.is_kernel (subst (λ n. slice_get f.kernels n ≡ Some t) (sym state) b.is_kernel),
      ap (λ (p : Place). p.at) same,
    )

-- the state of a node has its kernel
pub kernel_at : {f : Findings} {node : ℕ} {s : List Item} {i : ℕ} {place : Place} → IsNode f node s i → slice_get f.nodes node ≡ Some place
    → (slice_get f.kernels place.state ≡ Some s) × (place.at ≡ i)
kernel_at {f} {node} {s} {i} {place} n e =
    let same : place_with n.state i ≡ place = one_at f.nodes node _ _ n.there e in
    (subst (λ (p : Place). slice_get f.kernels p.state ≡ Some s) same n.is_kernel, ap (λ (p : Place). p.at) (sym same))

pub node_below : {f : Findings} {node : ℕ} {s : List Item} {i : ℕ} → IsNode f node s i → node < length f.nodes
node_below {f} {node} {s} {i} n = slice_get_within f.nodes node (place_with n.state i) n.there

pub trail_grows : {links more : List Edge} {node top : ℕ} {trail labels : List ℕ} {xs : List SymbolId} → KeepsNumbers links more
    → IsTrail links node trail xs labels top → IsTrail more node trail xs labels top
trail_grows k here = here
trail_grows k (over e t) = over (k _ _ e) (trail_grows k t)

-- a trail of old links was there before
pub trail_back : {links more : List Edge} {node top : ℕ} {trail labels : List ℕ} {xs : List SymbolId} → KeepsNumbers links more
    → IsTrail more node trail xs labels top → ((link : ℕ) → Contains trail link → link < length links) → IsTrail links node trail xs labels top
trail_back k here below = here
trail_back {links} {more} k (over {link = link} {trail = trail} e t) below =
    over (keeps_back links more k link _ (below link (contains_here link trail)) e)
    (trail_back k t (λ other c. below other (contains_there link trail other c)))

pub trail_links : {links : List Edge} {node top : ℕ} {trail labels : List ℕ} {xs : List SymbolId} → IsTrail links node trail xs labels top
    → (link : ℕ) → Contains trail link → link < length links
trail_links here link (k, l, e) = absurd (omega arith)
trail_links {links} (over {link = link} {trail = trail} e t) other c = elim (contains_cases link trail other c) [
  | inl same ↦ subst (λ n. n < length links) same (slice_get_within links link _ e)
  | inr d ↦ trail_links t other d
]

module _ (f g : Findings) (grows : Grows f g) where
  pub node_grows : {node : ℕ} {s : List Item} {i : ℕ} → IsNode f node s i → IsNode g node s i
  node_grows n = record { state = n.state; there = grows.nodes _ _ n.there; is_kernel = grows.kernels _ _ n.is_kernel }

  pub partial_grows : {rules : List Rule} {reduction : Reduction} {node left : ℕ} {trail labels : List ℕ} {top at : ℕ}
      → IsPartial rules f reduction node left trail labels top at → IsPartial rules g reduction node left trail labels top at
  partial_grows p = record {
    rule = p.rule;
    live = p.live;
    made = p.made;
    upper = p.upper;
    top_is = node_grows p.top_is;
    finished = p.finished;
    within = p.within;
    along = trail_grows grows.links p.along;
    kernel = p.kernel;
    from = p.from;
    node_is = node_grows p.node_is;
    dotted = p.dotted;
  }

  pub link_grows : {link lower : ℕ} {x : SymbolId} {at label : ℕ} → IsLinkTo f link lower x at label → IsLinkTo g link lower x at label
  link_grows l = record { upper = l.upper; state = l.state; there = grows.links _ _ l.there; upper_is = grows.nodes _ _ l.upper_is }

  pub told_grows : {rules : List Rule} {split : PackedSplit} {trail : List ℕ} {top : ℕ} → IsFoundAlong rules f split trail top
      → IsFoundAlong rules g split trail top
  told_grows t = record {
    reduction = t.reduction;
    number = t.number;
    owner = t.owner;
    lower = t.lower;
    at = t.at;
    owns = grows.owners _ _ t.owns;
    owner_is = link_grows t.owner_is;
    reducible = partial_grows t.reducible;
  }

  -- a made reduction stays made, where each span of a link has its owner
  pub reduced_grows : {reduction : Reduction} {lower : ℕ} {labels : List ℕ} {at : ℕ} (r : IsReduced f reduction lower labels at) → r.label < length f.owners
      → IsReduced g reduction lower labels at
  reduced_grows r owned = record {
    link = r.link;
    label = r.label;
    link_is = link_grows r.link_is;
    split = λ e. grows.splits _ (r.split (keeps_back f.owners g.owners grows.owners r.label r.link owned e));
  }
