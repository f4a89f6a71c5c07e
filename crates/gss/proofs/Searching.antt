-- A search over all nodes.
use Rattle.std.proofs.Common.{◌≡◌, inl, inr, ◌⊎◌, ℕ, ◌+◌, ◌<◌, List, length, get_or, Some, slice_get, sym, ap, ◌∙◌, subst, arith}
use Rattle.std.proofs.lemmas.Bool.{cases_lt}
use Rattle.std.proofs.lemmas.Option.{same_Some}
use Rattle.gss.specs.declared.stack_graph.Place.{Place}
use Rattle.gss.specs.declared.rows.NodeRow.{NodeRow}
use Rattle.gss.specs.PlaceGraphs.{place_with}
use Rattle.gss.specs.Rows.{places}
use Rattle.gss.proofs.Columns.{read_column}

pub none_yet : (nodes : List NodeRow) (n state at : ℕ) (d : NodeRow) → n < length nodes
    → ((get_or nodes n d).place.at ≡ at → ⊥) ⊎ ((get_or nodes n d).place.state ≡ state → ⊥)
    → ((k : ℕ) → k < n → slice_get (places nodes) k ≡ Some (place_with state at) → ⊥)
    → (k : ℕ) → k < n + 1 → slice_get (places nodes) k ≡ Some (place_with state at) → ⊥
none_yet nodes n state at d within differs before k less is = elim (cases_lt k n) [
  | inl below ↦ before k below is
  | inr above ↦
      let same : k ≡ n = omega (arith, less, above) in
      let here : slice_get (places nodes) n ≡ Some (place_with state at) = subst (λ m. slice_get (places nodes) m ≡ Some (place_with state at)) same is in
      let equal : (get_or nodes n d).place ≡ place_with state at = same_Some _ _ (sym (read_column (λ (r : NodeRow). r.place) nodes n d within) ∙ here) in
      elim differs [ inl other ↦ other (ap (λ (p : Place). p.at) equal) | inr other ↦ other (ap (λ (p : Place). p.state) equal) ]
]
