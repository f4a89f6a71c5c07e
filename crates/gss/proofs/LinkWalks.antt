-- Walks over the links down from a node, from the oldest on.
use Rattle.std.proofs.Common.{◌≡◌, inl, inr, ◌⊎◌, ℕ, ◌-◌, ◌<◌, ◌≤◌, List, length, Option, None, Some, IfSome, IfNone, slice_get, Contains, sym}
use Rattle.std.proofs.Common.{ap, ◌∙◌, subst, arith}
use Rattle.std.proofs.lemmas.Bool.{cases_lt}
use Rattle.std.proofs.lemmas.Option.{slice_get_within, slice_get-get_or, same_Some}
use Rattle.forest.specs.declared.symbols.SymbolId.{SymbolId}
use Rattle.gss.specs.declared.stack_graph.Edge.{Edge}
use Rattle.gss.specs.Numbers.{IsLeast, HasNone}
use Rattle.gss.specs.PlaceGraphs.{LeadsDownFrom, LeadsFromSame}
use Rattle.gss.specs.KernelGraphs.{Link, link_of}
use Rattle.gss.specs.Views.{link_in, links_in, IsEdge, IsToCome}
use Rattle.gss.proofs.Columns.{to_column, from_column}

-- how many links may come yet
abbrev pub left_of : List Edge → Option ℕ → ℕ
left_of links None = 0
left_of links (Some next) = length links - next

-- the walk stands at a link down from the node
pub record IsOnWay (links : List Edge) (node : ℕ) (next : Option ℕ) : Type 0 where
  pub is : IfSome next (LeadsDownFrom links node)

pub leads_within : (links : List Edge) (node l : ℕ) → LeadsDownFrom links node l → l < length links
leads_within links node l (link, at, is) = slice_get_within links l link at

module _ (links : List Edge) (node : ℕ) where
  pub starts : (next : Option ℕ) → IfSome next (IsLeast (LeadsDownFrom links node)) → IsOnWay links node next
  starts None first = record { is = tt }
  starts (Some l) first = record { is = first.is }

  -- at first all are to come
  pub all_to_come : (next : Option ℕ) → IfSome next (IsLeast (LeadsDownFrom links node)) → IfNone next (HasNone (LeadsDownFrom links node))
      → (k : ℕ) → LeadsDownFrom links node k → IsToCome next k
  all_to_come None first none k leads = none k leads
  all_to_come (Some l) first none k leads = elim (cases_lt k l) [ inl less ↦ absurd (first.least k less leads) | inr le ↦ le ]

  module _ (link : ℕ) (edge : Edge) (at : slice_get links link ≡ Some edge) (here : LeadsDownFrom links node link) where
    same_upper : edge.upper ≡ node
    same_upper = ap (λ (e : Edge). e.upper) (same_Some _ _ (sym at ∙ here.1)) ∙ here.2

    from_same : (l : ℕ) → LeadsFromSame links link l → LeadsDownFrom links node l
    from_same l (behind, e, at_e, leads) =
        let is : e.upper ≡ node = ap (λ (f : Edge). f.upper) (same_Some _ _ (sym at_e ∙ at)) ∙ same_upper in
        (leads.0, leads.1, leads.2 ∙ is)

    to_same : (l : ℕ) → link < l → LeadsDownFrom links node l → LeadsFromSame links link l
    to_same l behind leads = (behind, edge, at, (leads.0, leads.1, leads.2 ∙ sym same_upper))

    pub goes_on : (next : Option ℕ) → IfSome next (IsLeast (LeadsFromSame links link)) → IsOnWay links node next
    goes_on None first = record { is = tt }
    goes_on (Some l) first = record { is = from_same l first.is }

    later : (next : Option ℕ) → IfSome next (IsLeast (LeadsFromSame links link)) → IfNone next (HasNone (LeadsFromSame links link))
        → (k : ℕ) → link < k → LeadsDownFrom links node k → IsToCome next k
    later None first none k behind leads = none k (to_same k behind leads)
    later (Some l) first none k behind leads = elim (cases_lt k l) [
      | inl less ↦ absurd (first.least k less (to_same k behind leads))
      | inr le ↦ le
    ]

    -- what was to come is this link, or is to come yet
    pub came : (next : Option ℕ) → IfSome next (IsLeast (LeadsFromSame links link)) → IfNone next (HasNone (LeadsFromSame links link))
        → (k : ℕ) → LeadsDownFrom links node k → link ≤ k → (k ≡ link) ⊎ IsToCome next k
    came next first none k leads le = elim (cases_lt link k) [
      | inl behind ↦ inr (later next first none k behind leads)
      | inr above ↦ inl (omega (arith, above, le))
    ]

    pub fewer : (next : Option ℕ) → IfSome next (IsLeast (LeadsFromSame links link)) → left_of links next < length links - link
    fewer None first = let within : link < length links = slice_get_within links link edge at in omega (arith, within)
    fewer (Some l) first =
        let leads = from_same l first.is in
        let within : l < length links = slice_get_within links l leads.0 leads.1 in
        let behind : link < l = first.is.0 in
        omega (arith, within, behind)

-- ---- one link

-- the link is none of those that the walk has passed
pub record IsNotFound (links : List Edge) (link : Link) (next : Option ℕ) : Type 0 where
  pub on_way : IsOnWay links link.upper next
  pub rest : (k : ℕ) → IsEdge links link k → IsToCome next k

module _ (links : List Edge) (link : Link) where
  edge_leads : (k : ℕ) → IsEdge links link k → LeadsDownFrom links link.upper k
  edge_leads k is = let edge = from_column link_in links k link is in (edge.0, edge.1, ap (λ (q : Link). q.upper) edge.2)

  pub not_found_first : (next : Option ℕ) → IfSome next (IsLeast (LeadsDownFrom links link.upper)) → IfNone next (HasNone (LeadsDownFrom links link.upper))
      → IsNotFound links link next
  not_found_first next first none = record {
    on_way = starts links link.upper next first;
    rest = λ k is. all_to_come links link.upper next first none k (edge_leads k is);
  }

  pub not_found_next : (l : ℕ) (edge : Edge) (next : Option ℕ) → slice_get links l ≡ Some edge
      → (edge.lower ≡ link.lower → ⊥) ⊎ (edge.symbol.0 ≡ link.symbol.0 → ⊥) → IsNotFound links link (Some l)
      → IfSome next (IsLeast (LeadsFromSame links l)) → IfNone next (HasNone (LeadsFromSame links l)) → IsNotFound links link next
  not_found_next l edge next at differs so_far first none = record {
    on_way = goes_on links link.upper l edge at so_far.on_way.is next first;
    rest = λ k is. elim (came links link.upper l edge at so_far.on_way.is next first none k (edge_leads k is) (so_far.rest k is)) [
      | inr later ↦ later
      | inl now ↦
          let here : slice_get (links_in links) l ≡ Some link = subst (λ n. slice_get (links_in links) n ≡ Some link) now is in
          let same : link_in edge ≡ link = same_Some _ _ (sym (to_column link_in links l edge at) ∙ here) in
          absurd (elim differs [
            | inl other ↦ other (ap (λ (q : Link). q.lower) same)
            | inr other ↦ other (ap (λ (q : Link). q.symbol.0) same)
          ])
    ];
  }

  pub not_there : IsNotFound links link None → Contains (links_in links) link → ⊥
  not_there so_far (k, within, is) = so_far.rest k (slice_get-get_or (links_in links) k link within ∙ ap (λ q. Some q) is)

pub found_edge : (links : List Edge) (upper lower l : ℕ) (symbol : SymbolId) (edge : Edge) → slice_get links l ≡ Some edge → LeadsDownFrom links upper l
    → edge.lower ≡ lower → edge.symbol.0 ≡ symbol.0 → IsEdge links (link_of upper symbol lower) l
found_edge links upper lower l symbol edge at leads low by =
    let up : edge.upper ≡ upper = same_upper links upper l edge at leads in
    let sym_is : edge.symbol ≡ symbol = ap (λ n. let s : SymbolId = record { 0 = n } in s) by in
    to_column link_in links l edge at
    ∙ ap (λ n. Some (link_of n edge.symbol edge.lower)) up ∙ ap (λ s. Some (link_of upper s edge.lower)) sym_is ∙ ap (λ n. Some (link_of upper symbol n)) low
