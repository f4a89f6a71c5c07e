-- The links down to a node, from the newest on.
use Rattle.std.proofs.Common.{◌≡◌, inl, inr, ◌⊎◌, ℕ, ◌+◌, ◌<◌, ◌≤◌, List, length, cond, nat_eq, get_or, Some, slice_get, sym, ap, ◌∙◌, subst, arith}
use Rattle.std.proofs.lemmas.Bool.{cases_lt, eq-eqb, ne_eqb}
use Rattle.std.proofs.lemmas.List.{length-map}
use Rattle.std.proofs.lemmas.Option.{slice_get_within, same_Some}
use Rattle.forest.specs.declared.symbols.SymbolId.{SymbolId}
use Rattle.gss.specs.declared.stack_graph.Edge.{Edge}
use Rattle.gss.specs.declared.rows.LinkRow.{LinkRow}
use Rattle.gss.specs.Numbers.{IsGreatest}
use Rattle.gss.specs.PlaceGraphs.{LeadsToBy}
use Rattle.gss.specs.Chains.{none, IsKeyAt, IsEarlier, AreOlders, TellsGreatest, greatest, no_greatest}
use Rattle.gss.specs.Rows.{edges, lowers, olders}
use Rattle.gss.proofs.Chains.{cases_same}
use Rattle.gss.proofs.Columns.{to_column, read_column}

-- where a search stands: at a link down to the node, or at none, with no link that is looked for behind it
pub record IsAbove (links : List LinkRow) (lower : ℕ) (symbol : SymbolId) (from r : ℕ) : Type 0 where
  pub is : (r ≡ none) ⊎ IsKeyAt (lowers (edges links)) lower r
  pub rest : (k : ℕ) → LeadsToBy (edges links) lower symbol from k → (k ≤ r) × (r ≡ none → ⊥)

-- how far it has to go
abbrev pub left_above : ℕ → ℕ
left_above r = cond (nat_eq r none) 0 (r + 1)

left_less : (a b : ℕ) → (b ≡ none → ⊥) → (a ≡ none) ⊎ (a < b) → left_above a < left_above b
left_less a b some (inl is) = rw (eq-eqb a none is, ne_eqb b none some) (omega arith)
left_less a b some (inr less) = elim (cases_same a none) [
  | inl is ↦ rw (eq-eqb a none is, ne_eqb b none some) (omega arith)
  | inr other ↦ rw (ne_eqb a none other, ne_eqb b none some) (omega arith)
]

module _ (links : List LinkRow) (lower from : ℕ) (symbol : SymbolId) where
  pub key_within : (l : ℕ) → IsKeyAt (lowers (edges links)) lower l → l < length links
  key_within l key = omega (
    arith,
    slice_get_within (lowers (edges links)) l lower key,
    length-map (edges links) (λ (e : Edge). e.lower),
    length-map links (λ (r : LinkRow). r.edge),
  )

  leads_key : (k : ℕ) → LeadsToBy (edges links) lower symbol from k → IsKeyAt (lowers (edges links)) lower k
  leads_key k (order, link, at, low, by) = to_column (λ (e : Edge). e.lower) (edges links) k link at ∙ ap (λ n. Some n) low

  pub above_start : (r : ℕ) → TellsGreatest (IsKeyAt (lowers (edges links)) lower) r → IsAbove links lower symbol from r
  above_start r (greatest small is) = record {
    is = inr is.is;
    rest = λ k leads. (
      elim (cases_lt r k) [ inl above ↦ absurd (is.greatest k above (leads_key k leads)) | inr le ↦ le ],
      λ e. omega (arith, small, e),
    );
  }
  above_start r (no_greatest e nothing) = record { is = inl e; rest = λ k leads. absurd (nothing k (leads_key k leads)) }

  module _ (are : AreOlders (lowers (edges links)) (olders links)) (r : ℕ) (d : LinkRow) (key : IsKeyAt (lowers (edges links)) lower r) where
    tells : TellsGreatest (IsEarlier (lowers (edges links)) lower r) (get_or links r d).older
    tells = are r (get_or links r d).older lower (read_column (λ (w : LinkRow). w.older) links r d (key_within r key)) key

    edge_is : slice_get (edges links) r ≡ Some (get_or links r d).edge
    edge_is = read_column (λ (w : LinkRow). w.edge) links r d (key_within r key)

    pub above_found : ((k : ℕ) → LeadsToBy (edges links) lower symbol from k → (k ≤ r) × (r ≡ none → ⊥)) → from ≤ r
        → (get_or links r d).edge.symbol.0 ≡ symbol.0 → IsGreatest (LeadsToBy (edges links) lower symbol from) r
    above_found rest order same = record {
      is = (
        order,
        (get_or links r d).edge,
        edge_is,
        same_Some _ _ (sym (to_column (λ (e : Edge). e.lower) (edges links) r (get_or links r d).edge edge_is) ∙ key),
        ap (λ n. let s : SymbolId = record { 0 = n } in s) same,
      );
      greatest = λ k above leads. let le : k ≤ r = (rest k leads).0 in omega (arith, le, above);
    }

    -- a link by another symbol is not looked for
    before : ((k : ℕ) → LeadsToBy (edges links) lower symbol from k → (k ≤ r) × (r ≡ none → ⊥)) → ((get_or links r d).edge.symbol.0 ≡ symbol.0 → ⊥)
        → (k : ℕ) → LeadsToBy (edges links) lower symbol from k → k < r
    before rest differs k leads = elim (cases_lt k r) [
      | inl less ↦ less
      | inr above ↦
          let le : k ≤ r = (rest k leads).0 in
          let same : k ≡ r = omega (arith, le, above) in
          let (order, link, at, low, by) = leads in
          let here : slice_get (edges links) r ≡ Some link = subst (λ n. slice_get (edges links) n ≡ Some link) same at in
          let is : (get_or links r d).edge ≡ link = same_Some _ _ (sym edge_is ∙ here) in
          absurd (differs (ap (λ (e : Edge). e.symbol.0) is ∙ ap (λ (s : SymbolId). s.0) by))
    ]

    pub above_next : ((k : ℕ) → LeadsToBy (edges links) lower symbol from k → (k ≤ r) × (r ≡ none → ⊥)) → ((get_or links r d).edge.symbol.0 ≡ symbol.0 → ⊥)
        → IsAbove links lower symbol from (get_or links r d).older
    above_next rest differs = by (get_or links r d).older tells
      where
        by : (older : ℕ) → TellsGreatest (IsEarlier (lowers (edges links)) lower r) older → IsAbove links lower symbol from older
        by older (greatest small is) = record {
          is = inr is.is.1;
          rest = λ k leads. (
            elim (cases_lt older k) [
              | inl above ↦ absurd (is.greatest k above (before rest differs k leads, leads_key k leads))
              | inr le ↦ le
            ],
            λ e. omega (arith, small, e),
          );
        }
        by older (no_greatest e nothing) = record {
          is = inl e;
          rest = λ k leads. absurd (nothing k (before rest differs k leads, leads_key k leads));
        }

    pub above_smaller : (r ≡ none → ⊥) → left_above (get_or links r d).older < left_above r
    above_smaller some = left_less (get_or links r d).older r some (by (get_or links r d).older tells)
      where
        by : (older : ℕ) → TellsGreatest (IsEarlier (lowers (edges links)) lower r) older → (older ≡ none) ⊎ (older < r)
        by older (greatest small is) = inr is.is.0
        by older (no_greatest e nothing) = inl e
