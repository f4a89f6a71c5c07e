-- More states and one more node keep what is found sound.
use Rattle.std.proofs.Common.{◌≡◌, ℕ, ◌+◌, ◌<◌, ◌≤◌, ◌⊎◌, inl, inr, List, [], ◌∷◌, ◌++◌, length, refl, sym, ◌∙◌, ap, subst, arith, slice_get, Some}
use Rattle.std.proofs.Common.{length-append}
use Rattle.std.proofs.lemmas.Bool.{cases_lt}
use Rattle.std.proofs.lemmas.Option.{slice_get_within}
use Rattle.forest.specs.declared.symbols.SymbolId.{SymbolId}
use Rattle.forest.specs.declared.rules.Rule.{Rule}
use Rattle.item_sets.specs.declared.item.Item.{Item}
use Rattle.gss.specs.declared.stack_graph.Place.{Place}
use Rattle.gss.specs.declared.stack_graph.Edge.{Edge}
use Rattle.gss.specs.PlaceGraphs.{place_with, HasNode}
use Rattle.packed_spans.specs.Complete.{IsPartAt, of_token, of_span}
use Rattle.parser_states.specs.Reductions.{Opens}
use Rattle.rekers.specs.States.{IsStateAt}
use Rattle.forest.specs.Numbers.{KeepsNumbers}
use Rattle.rekers.specs.Found.{Findings, IsNode, Grows}
use Rattle.rekers.specs.Sound.{IsSoundGraph, IsSoundLink, IsFirstMover, IsOwner, IsLevel, IsOpener, AreOpeners}
use Rattle.rekers.proofs.Growth.{one_at, keeps_same, keeps_back, keeps_append, node_grows, one_kernel, node_below, told_grows}

-- ---- the last element

pub at_end : {X : Type 0} (xs : List X) (x : X) → slice_get (xs ++ x ∷ []) (length xs) ≡ Some x
at_end [] x = refl
at_end (y ∷ ys) x = at_end ys x

-- an element of a longer list stood there before, or is the last
pub old_or_last : {X : Type 0} (xs : List X) (x : X) (place : ℕ) (y : X) → slice_get (xs ++ x ∷ []) place ≡ Some y
    → (slice_get xs place ≡ Some y) ⊎ ((place ≡ length xs) × (y ≡ x))
old_or_last xs x place y e = elim (cases_lt place (length xs)) [
  | inl below ↦ inl (keeps_back xs (xs ++ x ∷ []) (keeps_append xs (x ∷ [])) place y below e)
  | inr past ↦
      let within : place < length (xs ++ x ∷ []) = slice_get_within (xs ++ x ∷ []) place y e in
      let here : place ≡ length xs = omega (arith, within, length-append xs (x ∷ [])) in
      let last : slice_get (xs ++ x ∷ []) place ≡ Some x = subst (λ n. slice_get (xs ++ x ∷ []) n ≡ Some x) (sym here) (at_end xs x) in
      inr (here, one_at (xs ++ x ∷ []) place y x e last)
]

-- ---- states and nodes join

-- the same but for more kernels and more nodes
abbrev pub with_nodes : Findings → List (List Item) → List Place → Findings
with_nodes f kernels nodes = record { kernels = kernels; nodes = nodes; links = f.links; spans = f.spans; splits = f.splits; owners = f.owners }

pub nodes_grow : (f : Findings) (kernels : List (List Item)) (nodes : List Place) → KeepsNumbers f.kernels kernels → KeepsNumbers f.nodes nodes
    → Grows f (with_nodes f kernels nodes)
nodes_grow f kernels nodes k n = record {
  kernels = k;
  nodes = n;
  links = keeps_same f.links;
  spans = keeps_same f.spans;
  splits = λ split c. c;
  owners = keeps_same f.owners;
}

-- a node of old number was there before
pub node_back : (rules : List Rule) (tokens : List SymbolId) (f g : Findings) → IsSoundGraph rules tokens f → Grows f g → {node : ℕ} {s : List Item} {i : ℕ}
    → node < length f.nodes → IsNode g node s i → IsNode f node s i
node_back rules tokens f g sound grows {node} {s} {i} below n =
    let there = keeps_back f.nodes g.nodes grows.nodes node (place_with n.state i) below n.there in
    let (kernel, is, reached) = sound.nodes node (place_with n.state i) there in
    let same : kernel ≡ s = one_at g.kernels n.state kernel s (grows.kernels n.state kernel is) n.is_kernel in
    record { state = n.state; there = there; is_kernel = subst (λ t. slice_get f.kernels n.state ≡ Some t) same is }

module _ (rules : List Rule) (tokens : List SymbolId) (f g : Findings) (sound : IsSoundGraph rules tokens f) (grows : Grows f g) where
  pub link_stays : {edge : Edge} → IsSoundLink rules tokens f edge → IsSoundLink rules tokens g edge
  link_stays {edge} is = record {
    ends = record {
      lower = is.ends.lower;
      from = is.ends.from;
      lower_is = node_grows f g grows is.ends.lower_is;
      upper = is.ends.upper;
      to = is.ends.to;
      upper_is = node_grows f g grows is.ends.upper_is;
    };
    link = is.link;
    label = part_grows is.label;
  }
    where
      part_grows : {x : SymbolId} {i label j : ℕ} → IsPartAt rules tokens f.spans x i label j → IsPartAt rules tokens g.spans x i label j
      part_grows (of_token e n) = of_token e n
      part_grows (of_span y e) = of_span y (grows.spans _ _ e)

  -- the first node that moves on the symbol stays the first, since new ones have greater numbers
  pub first_stays : {node : ℕ} {x : SymbolId} → node < length f.nodes → IsFirstMover rules f node x → IsFirstMover rules g node x
  first_stays {node} {x} below first = λ other i kernel own there at less moves.
      first other i kernel own (node_back rules tokens f g sound grows (omega (arith, below, less)) there) (node_back rules tokens f g sound grows below at)
      less moves

  pub owner_stays : {span owner : ℕ} → IsOwner rules f span owner → IsOwner rules g span owner
  owner_stays {span} {owner} is = record {
    edge = is.edge;
    there = grows.links owner is.edge is.there;
    label = is.label;
    nonterminal = is.nonterminal;
    first = first_stays (node_below (sound.links owner is.edge is.there).ends.lower_is) is.first;
  }

-- ---- more states

-- the states have more kernels, each once
module _ (rules : List Rule) (tokens : List SymbolId) (f : Findings) (sound : IsSoundGraph rules tokens f) (kernels : List (List Item))
    (keeps : KeepsNumbers f.kernels kernels)
    (one : (a b : ℕ) (kernel : List Item) → slice_get kernels a ≡ Some kernel → slice_get kernels b ≡ Some kernel → a ≡ b) where
  with_states : Findings
  with_states = with_nodes f kernels f.nodes

  states_grow : Grows f with_states
  unfolding with_states
  states_grow = nodes_grow f kernels f.nodes keeps (keeps_same f.nodes)

  pub states_join : IsSoundGraph rules tokens (with_nodes f kernels f.nodes)
  unfolding with_states
  states_join = record {
    one_state = one;
    one_node = sound.one_node;
    begun = node_grows f with_states states_grow sound.begun;
    nodes = λ node place e. let (kernel, is, reached) = sound.nodes node place e in (kernel, keeps place.state kernel is, reached);
    rising = sound.rising;
    links = λ link edge e. link_stays rules tokens f with_states sound states_grow (sound.links link edge e);
    one_link = sound.one_link;
    owned = sound.owned;
    owners = λ span owner e. owner_stays rules tokens f with_states sound states_grow (sound.owners span owner e);
    told = λ split c. let (trail, top, is) = sound.told split c in (trail, top, told_grows f with_states states_grow is);
    distinct = sound.distinct;
  }

  -- what is noted of openers holds of the old nodes' states
  pub opener_stays : (i node : ℕ) → IsOpener rules f i node → IsOpener rules (with_nodes f kernels f.nodes) i node
  unfolding with_states
  opener_stays i node is = record {
    within = is.within;
    behind = is.behind;
    none_before = λ other kernel n l. is.none_before other kernel (node_back rules tokens f with_states sound states_grow (node_below n) n) l;
  }

-- ---- one more node

module _ (rules : List Rule) (tokens : List SymbolId) (f : Findings) (sound : IsSoundGraph rules tokens f) (state at : ℕ) (kernel : List Item)
    (named : slice_get f.kernels state ≡ Some kernel) (reached : IsStateAt rules tokens kernel at)
    (highest : (node : ℕ) (place : Place) → slice_get f.nodes node ≡ Some place → place.at ≤ at) (new : HasNode f.nodes state at → ⊥) where
  longer : List Place
  longer = f.nodes ++ place_with state at ∷ []

  with_node : Findings
  with_node = with_nodes f f.kernels (f.nodes ++ place_with state at ∷ [])

  node_grows_by : Grows f with_node
  unfolding with_node
  node_grows_by = nodes_grow f f.kernels (f.nodes ++ place_with state at ∷ []) (keeps_same f.kernels) (keeps_append f.nodes (place_with state at ∷ []))

  old_upper : (link : ℕ) (edge : Edge) (place : Place) → slice_get f.links link ≡ Some edge
      → slice_get (f.nodes ++ place_with state at ∷ []) edge.upper ≡ Some place
      → slice_get f.nodes edge.upper ≡ Some place
  old_upper link edge place e there =
      keeps_back f.nodes (f.nodes ++ place_with state at ∷ []) (keeps_append f.nodes (place_with state at ∷ [])) edge.upper place
      (node_below (sound.links link edge e).ends.upper_is) there

  pub node_joins : IsSoundGraph rules tokens (with_nodes f f.kernels (f.nodes ++ place_with state at ∷ []))
  unfolding with_node
  node_joins = record {
    one_state = sound.one_state;
    one_node = λ a b place e g. elim (old_or_last f.nodes (place_with state at) a place e) [
      | inl old ↦ elim (old_or_last f.nodes (place_with state at) b place g) [
        | inl same ↦ sound.one_node a b place old same
        | inr last ↦ absurd (new (a, subst (λ p. slice_get f.nodes a ≡ Some p) last.1 old))
      ]
      | inr last ↦ elim (old_or_last f.nodes (place_with state at) b place g) [
        | inl old ↦ absurd (new (b, subst (λ p. slice_get f.nodes b ≡ Some p) last.1 old))
        | inr also ↦ last.0 ∙ sym also.0
      ]
    ];
    begun = node_grows f with_node node_grows_by sound.begun;
    nodes = λ node place e. elim (old_or_last f.nodes (place_with state at) node place e) [
      | inl old ↦ sound.nodes node place old
      | inr last ↦ subst (λ (p : Place). (k : List Item) × (slice_get f.kernels p.state ≡ Some k) × IsStateAt rules tokens k p.at) (sym last.1)
          (kernel, named, reached)
    ];
    rising = λ a b low high e g l. elim (old_or_last f.nodes (place_with state at) b high g) [
      | inl old ↦ elim (old_or_last f.nodes (place_with state at) a low e) [
        | inl older ↦ sound.rising a b low high older old l
        | inr last ↦ absurd (omega (arith, l, last.0, slice_get_within f.nodes b high old))
      ]
      | inr last ↦
          let top : high.at ≡ at = ap (λ (p : Place). p.at) last.1 in
          elim (old_or_last f.nodes (place_with state at) a low e) [
            | inl old ↦ omega (arith, highest a low old, top)
            | inr also ↦ let same : low.at ≡ at = ap (λ (p : Place). p.at) also.1 in omega (arith, same, top)
          ]
    ];
    links = λ link edge e. link_stays rules tokens f with_node sound node_grows_by (sound.links link edge e);
    one_link = λ a b edge other upper above e g low x up up' level. sound.one_link a b edge other upper above e g low x (old_upper a edge upper e up)
        (old_upper b other above g up') level;
    owned = sound.owned;
    owners = λ span owner e. owner_stays rules tokens f with_node sound node_grows_by (sound.owners span owner e);
    told = λ split c. let (trail, top, is) = sound.told split c in (trail, top, told_grows f with_node node_grows_by is);
    distinct = sound.distinct;
  }

  -- the level has one node more
  pub level_joins : (first_node first_link : ℕ) → IsLevel f at first_node first_link
      → IsLevel (with_nodes f f.kernels (f.nodes ++ place_with state at ∷ [])) at first_node first_link
  level_joins first_node first_link level = record {
    nodes_within = omega (arith, level.nodes_within, length-append f.nodes (place_with state at ∷ []));
    links_within = level.links_within;
    nodes_before = λ node place e l. elim (old_or_last f.nodes (place_with state at) node place e) [
      | inl old ↦ level.nodes_before node place old l
      | inr last ↦ absurd (omega (arith, l, last.0, level.nodes_within))
    ];
    nodes_here = λ node place e l. elim (old_or_last f.nodes (place_with state at) node place e) [
      | inl old ↦ level.nodes_here node place old l
      | inr last ↦ ap (λ (p : Place). p.at) last.1
    ];
    links_before = level.links_before;
    links_here = level.links_here;
  }

  -- what is noted of openers holds on, where the new node opens or was passed over
  pub openers_join : (openers openers' : List ℕ) → AreOpeners rules f openers at → length openers' ≡ length openers
      → ((i node : ℕ) → slice_get openers' i ≡ Some node
      → (slice_get openers i ≡ Some node)
      ⊎ ((i ≡ at) × (node ≡ length f.nodes + 1) × (slice_get openers at ≡ Some (length f.nodes)) × (Opens rules kernel → ⊥)))
      → AreOpeners rules (with_nodes f f.kernels (f.nodes ++ place_with state at ∷ [])) openers' at
  unfolding with_node
  openers_join openers openers' are size noted = record { size = size ∙ are.size; each = each }
    where
      longer_by : length (f.nodes ++ place_with state at ∷ []) ≡ length f.nodes + 1
      longer_by = omega (arith, length-append f.nodes (place_with state at ∷ []))

      new_node : {other : ℕ} {own : List Item} {i : ℕ} → IsNode with_node other own i → other ≡ length f.nodes → (own ≡ kernel) × (i ≡ at)
      new_node {other} {own} {i} n e =
          let last : slice_get (f.nodes ++ place_with state at ∷ []) other ≡ Some (place_with state at) =
          subst (λ m. slice_get (f.nodes ++ place_with state at ∷ []) m ≡ Some (place_with state at)) (sym e) (at_end f.nodes (place_with state at)) in
          let is : IsNode with_node other kernel at = record { state = state; there = last; is_kernel = named } in
          one_kernel n is

      kept : (i node : ℕ) → IsOpener rules f i node → i ≤ at → IsOpener rules with_node i node
      kept i node is l = record {
        within = omega (arith, is.within, longer_by);
        behind = λ other place e m. elim (old_or_last f.nodes (place_with state at) other place e) [
          | inl old ↦ is.behind other place old m
          | inr last ↦ let same : place.at ≡ at = ap (λ (p : Place). p.at) last.1 in omega (arith, l, same)
        ];
        none_before = λ other own n m. is.none_before other own
            (node_back rules tokens f with_node sound node_grows_by (omega (arith, m, is.within)) n) m;
      }

      each : (i node : ℕ) → slice_get openers' i ≡ Some node → IsOpener rules with_node i node
      each i node e = elim (noted i node e) [
        | inl old ↦ kept i node (are.each i node old) (omega (arith, are.size, slice_get_within openers i node old))
        | inr (here, past, was, closed) ↦
            let is = are.each at (length f.nodes) was in
            record {
              within = omega (arith, past, longer_by);
              behind = λ other place e m. absurd (omega (arith, past, m, longer_by, slice_get_within (f.nodes ++ place_with state at ∷ []) other place e));
              none_before = λ other own n m. elim (cases_lt other (length f.nodes)) [
                | inl below ↦ is.none_before other own
                    (subst (λ k. IsNode f other own k) here (node_back rules tokens f with_node sound node_grows_by below n)) below
                | inr above ↦
                    let same = (new_node n (omega (arith, past, m, above))).0 in
                    λ opens. closed (subst (λ k. Opens rules k) same opens)
              ];
            }
      ]
