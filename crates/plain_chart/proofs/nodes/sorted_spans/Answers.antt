use Rattle.std.proofs.lemmas.List.Filters.{dedup_is}
use Rattle.std.proofs.lemmas.List.Kept.{Contains-dedup, Contains-from_dedup, IsStrictlySortedBy-dedup}
use Rattle.std.proofs.lemmas.List.Sorted.{Contains-permutation, IsPermutation-sym}
use Rattle.plain_chart.specs.contracts.spans.SpanOrd.TheImpl.Laws.{total-law, matches_eq-law}
use Rattle.plain_chart.proofs.SameSpans.{span_equiv, same_spans}
use Rattle.plain_chart.proofs.nodes.sorted_spans.Goals as goal

pub returns-clause-ordered : goal.returns-clause-ordered
returns-clause-ordered c =
    let is = dedup_is _ _ _ c.dedup.ensures.filtered in
    rw is (IsStrictlySortedBy-dedup total-law matches_eq-law _ c.in_ok-sort.ensures.sorted)

pub returns-clause-same : goal.returns-clause-same
returns-clause-same c =
    let is = dedup_is _ _ _ c.dedup.ensures.filtered in
    let moved = rw c.into_vec-items.ensures at c.in_ok-sort.ensures.permutation in
    λ x. (
      λ h. Contains-permutation _ _ x (IsPermutation-sym _ _ moved) (Contains-from_dedup _ _ x (rw is at h)),
      λ h. rw is (Contains-dedup span_equiv same_spans _ x (Contains-permutation _ _ x moved h)),
    )
