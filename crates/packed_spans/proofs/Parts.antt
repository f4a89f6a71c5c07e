-- The parts of a split, and those of a span's splits, one after the other.
use Rattle.std.proofs.Common.{◌≡◌, ℕ, ◌+◌, ◌-◌, ◌<◌, inl, inr, List, Bool, length, sym, ◌∙◌, ap, subst, arith, slice_get, Some}
use Rattle.std.proofs.lemmas.Bool.{cases_lt}
use Rattle.std.proofs.lemmas.Option.{slice_get_within}
use Rattle.packed_spans.specs.declared.span.TheConstants.{TOKEN_PART}
use Rattle.packed_spans.specs.declared.table.SplitRow.{SplitRow}
use Rattle.packed_spans.specs.declared.table.TheConstants.{INLINE_PARTS}
use Rattle.packed_spans.specs.Tables.{parts_in, IsSplitLink}
use Rattle.packed_spans.specs.Marks.{IsPartNumber, IsPartBelow, MarksExactly}
use Rattle.packed_spans.proofs.Lists.{one_at}
use Rattle.packed_spans.proofs.Links.{IsAlong, of_span, cases}
use Rattle.packed_spans.proofs.Rows.{two_parts}
use Rattle.packed_spans.proofs.Marking.{nothing_marked, joined}

module _ (parts : List ℕ) (row : SplitRow) (limit : ℕ) (m0 : List Bool) (w0 : List ℕ) where
  pub no_parts_marked : MarksExactly (IsPartNumber parts row 0) limit m0 w0 m0 w0
  no_parts_marked = nothing_marked (IsPartNumber parts row 0) limit m0 w0 (λ n p. let low = p.first in absurd (omega arith))

  pub part_marked : (index part : ℕ) (m1 m2 : List Bool) (w1 w2 : List ℕ) → slice_get (parts_in parts row) index ≡ Some part
      → MarksExactly (IsPartNumber parts row index) limit m0 w0 m1 w1
      → MarksExactly (λ n. (n ≡ part) × (n ≡ TOKEN_PART → ⊥)) limit m1 w1 m2 w2
      → MarksExactly (IsPartNumber parts row (index + 1)) limit m0 w0 m2 w2
  part_marked index part m1 m2 w1 w2 at a b = joined a b
      (λ n p. record { place = p.place; first = (let low = p.first in omega arith); at = p.at; no_token = p.no_token })
      (λ n p. record { place = index; first = omega arith; at = at ∙ ap Some (sym p.0); no_token = p.1 })
      (λ n p. elim (cases_lt p.place index) [
        | inl before ↦ inl (record { place = p.place; first = before; at = p.at; no_token = p.no_token })
        | inr later ↦
            let low = p.first in
            let same : p.place ≡ index = omega arith in
            let is : n ≡ part = one_at (parts_in parts row) index n part (ap (slice_get (parts_in parts row)) (sym same) ∙ p.at) at in
            inr (is, p.no_token)
      ])

  pub both_marked : (m1 m2 : List Bool) (w1 w2 : List ℕ) → row.length ≡ INLINE_PARTS
      → MarksExactly (λ n. (n ≡ row.first) × (n ≡ TOKEN_PART → ⊥)) limit m0 w0 m1 w1
      → MarksExactly (λ n. (n ≡ row.second) × (n ≡ TOKEN_PART → ⊥)) limit m1 w1 m2 w2
      → MarksExactly (IsPartNumber parts row row.length) limit m0 w0 m2 w2
  both_marked m1 m2 w1 w2 two a b =
      let at = two_parts parts row two in
      let one = part_marked 0 row.first m0 m1 w0 w1 (ap (λ ps. slice_get ps 0) at) no_parts_marked a in
      let both = part_marked 1 row.second m1 m2 w1 w2 (ap (λ ps. slice_get ps 1) at) one b in
      subst (λ k. MarksExactly (IsPartNumber parts row k) limit m0 w0 m2 w2) (sym two) both

module _ (splits : List SplitRow) (parts : List ℕ) (span limit : ℕ) (m0 : List Bool) (w0 : List ℕ) where
  pub no_splits_marked : (link : ℕ) → IsSplitLink splits span (length splits) link → MarksExactly (IsPartBelow splits parts span link) limit m0 w0 m0 w0
  no_splits_marked link i = nothing_marked (IsPartBelow splits parts span link) limit m0 w0
      (λ n b. i.above b.number b.row b.later (slice_get_within splits b.number b.row b.at) b.at b.of)

  pub split_marked : (link : ℕ) (row : SplitRow) (m1 m2 : List Bool) (w1 w2 : List ℕ) → IsAlong splits span link → 0 < link
      → slice_get splits (link - 1) ≡ Some row → IsSplitLink splits row.span (link - 1) row.older
      → MarksExactly (IsPartBelow splits parts span link) limit m0 w0 m1 w1
      → MarksExactly (IsPartNumber parts row row.length) limit m1 w1 m2 w2
      → MarksExactly (IsPartBelow splits parts span row.older) limit m0 w0 m2 w2
  split_marked link row m1 m2 w1 w2 along l e i a b = joined a b
      (λ n p. record { number = p.number; row = p.row; later = (let from = p.later in omega (arith, i.low)); at = p.at; of = p.of; part = p.part })
      (λ n p. record { number = link - 1; row = row; later = i.low; at = e; of = of_span splits span link row along l e; part = p })
      (λ n p. elim (cases splits span link row along l e i p.number p.row p.later p.at p.of) [
        | inl later ↦ inl (record { number = p.number; row = p.row; later = later; at = p.at; of = p.of; part = p.part })
        | inr same ↦ inr (subst (λ (r : SplitRow). IsPartNumber parts r r.length n) same p.part)
      ])
