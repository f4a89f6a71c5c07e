-- Along the links of a span's splits.
use Rattle.std.proofs.Common.{◌≡◌, ℕ, ◌+◌, ◌-◌, ◌<◌, ◌≤◌, ◌⊎◌, inl, inr, List, length, sym, ◌∙◌, subst, arith, slice_get, Some}
use Rattle.std.proofs.lemmas.Bool.{cases_lt, cases_eq}
use Rattle.packed_spans.specs.declared.table.SplitRow.{SplitRow}
use Rattle.packed_spans.specs.Tables.{IsSplitLink}
use Rattle.packed_spans.proofs.Lists.{one_at}

-- so far along the links of the span
pub record IsAlong (splits : List SplitRow) (span link : ℕ) : Type 0 where
  pub low : link ≤ length splits
  pub here : (k : ℕ) (row : SplitRow) → k + 1 ≡ link → slice_get splits k ≡ Some row → row.span ≡ span

module _ (splits : List SplitRow) (span : ℕ) where
  pub begins : (limit link : ℕ) → limit ≤ length splits → IsSplitLink splits span limit link → IsAlong splits span link
  begins limit link l i = record { low = omega (arith, i.low); here = i.here }

  pub of_span : (link : ℕ) (row : SplitRow) → IsAlong splits span link → 0 < link → slice_get splits (link - 1) ≡ Some row → row.span ≡ span
  of_span link row a l e = a.here (link - 1) row (omega arith) e

  pub goes_on : (link : ℕ) (row : SplitRow) → IsAlong splits span link → 0 < link → slice_get splits (link - 1) ≡ Some row
      → IsSplitLink splits row.span (link - 1) row.older → IsAlong splits span row.older
  goes_on link row a l e i =
      begins (link - 1) row.older (omega (arith, a.low)) (subst (λ s. IsSplitLink splits s (link - 1) row.older) (of_span link row a l e) i)

  -- a split of the span from the next link on is one from this link on, or the one right below it
  pub cases : (link : ℕ) (row : SplitRow) → IsAlong splits span link → 0 < link → slice_get splits (link - 1) ≡ Some row
      → IsSplitLink splits row.span (link - 1) row.older → (k : ℕ) (r : SplitRow) → row.older ≤ k → slice_get splits k ≡ Some r → r.span ≡ span
      → (link ≤ k) ⊎ (r ≡ row)
  cases link row a l e i k r over at of = elim (cases_lt k link) [
    | inr later ↦ inl later
    | inl before ↦ elim (cases_eq k (link - 1)) [
      | inl same ↦ inr (one_at splits k r row at (subst (λ n. slice_get splits n ≡ Some row) (sym same) e))
      | inr other ↦ absurd (i.above k r over (omega arith) at (of ∙ sym (of_span link row a l e)))
    ]
  ]
