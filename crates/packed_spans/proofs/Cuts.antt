-- The cuts of a split, one after the other, and what the rows of a span tell.
use Rattle.std.proofs.Common.{◌≡◌, ℕ, ◌+◌, ◌-◌, ◌<◌, ◌≤◌, nat_le, ◌↔◌, inl, inr, Bool, true, false, cond, List}
use Rattle.std.proofs.Common.{[], ◌∷◌, ◌++◌, take, drop, length, length-take, refl, sym, ◌∙◌, ap, subst, arith, Contains, slice_get, Some}
use Rattle.std.proofs.lemmas.Option.{slice_get_within}
use Rattle.std.proofs.lemmas.List.Elements.{Contains-append_left, Contains-push, Contains-push_cases}
use Rattle.std.specs.List.Sorted.{IsStrictlySortedBy}
use Rattle.forest.specs.declared.nodes.Split.{Split}
use Rattle.forest.specs.Orders.{split_cmp}
use Rattle.packed_spans.specs.declared.table.SpanRow.{SpanRow}
use Rattle.packed_spans.specs.declared.table.SplitRow.{SplitRow}
use Rattle.packed_spans.specs.declared.table.TheConstants.{INLINE_PARTS}
use Rattle.packed_spans.specs.Tables.{parts_in, IsSplitLink}
use Rattle.packed_spans.specs.Told.{end_at, ends_of, last_end_of, told, AreSplitsTold, AreSplitsOf}
use Rattle.packed_spans.proofs.Lists.{take_push}
use Rattle.packed_spans.proofs.Links.{IsAlong, begins, of_span, cases}
use Rattle.packed_spans.proofs.Orders.{no_splits_ascend, one_ascends}

module _ (spans : List SpanRow) where
  ends_push : (at : ℕ) (ps : List ℕ) (p : ℕ) → ends_of spans at (ps ++ p ∷ []) ≡ ends_of spans at ps ++ end_at spans (last_end_of spans at ps) p ∷ []
  ends_push at [] p = refl
  ends_push at (q ∷ ps) p = ap (λ zs. end_at spans at q ∷ zs) (ends_push (end_at spans at q) ps p)

  last_push : (at : ℕ) (ps : List ℕ) (p : ℕ) → last_end_of spans at (ps ++ p ∷ []) ≡ end_at spans (last_end_of spans at ps) p
  last_push at [] p = refl
  last_push at (q ∷ ps) p = last_push (end_at spans at q) ps p

  -- one more cut
  pub cuts_more : (from k p : ℕ) (ps : List ℕ) → slice_get ps k ≡ Some p
      → (from ∷ ends_of spans from (take k ps)) ++ end_at spans (last_end_of spans from (take k ps)) p ∷ [] ≡ from ∷ ends_of spans from (take (k + 1) ps)
  cuts_more from k p ps e = ap (λ zs. from ∷ zs) (sym (ap (ends_of spans from) (take_push ps k p e) ∙ ends_push from (take k ps) p))

  pub last_more : (from k p : ℕ) (ps : List ℕ) → slice_get ps k ≡ Some p
      → end_at spans (last_end_of spans from (take k ps)) p ≡ last_end_of spans from (take (k + 1) ps)
  last_more from k p ps e = sym (ap (last_end_of spans from) (take_push ps k p e) ∙ last_push from (take k ps) p)

module _ (spans : List SpanRow) (splits : List SplitRow) (parts : List ℕ) (span from : ℕ) where
  -- at the newest split nothing is told yet
  pub none_told : (link : ℕ) → IsSplitLink splits span (length splits) link → AreSplitsTold spans splits parts span from link []
  none_told link i = record {
    sound = λ s c. absurd (omega (arith, c.1));
    whole = λ k row over at of. absurd (i.above k row over (within k row at) at of);
  }
    where
      within : (k : ℕ) (row : SplitRow) → slice_get splits k ≡ Some row → k < length splits
      within k row at = slice_get_within splits k row at

  -- one more split
  pub told_more : (link : ℕ) (row : SplitRow) (found : List Split) → IsAlong splits span link → 0 < link → slice_get splits (link - 1) ≡ Some row
      → IsSplitLink splits row.span (link - 1) row.older → AreSplitsTold spans splits parts span from link found
      → AreSplitsTold spans splits parts span from row.older (found ++ told spans parts from row ∷ [])
  told_more link row found a l e i t = record {
    sound = λ s c. elim (Contains-push_cases found (told spans parts from row) s c) [
      | inl d ↦ t.sound s d
      | inr same ↦ (row, record { number = link - 1; at = e; of = of_span splits span link row a l e }, same)
    ];
    whole = λ k r over at of. elim (cases splits span link row a l e i k r over at of) [
      | inl later ↦ Contains-append_left found (told spans parts from row ∷ []) (told spans parts from r) (t.whole k r later at of)
      | inr same ↦ subst (λ q. Contains (found ++ told spans parts from row ∷ []) (told spans parts from q)) (sym same)
          (Contains-push found (told spans parts from row))
    ];
  }

module _ (spans : List SpanRow) (splits : List SplitRow) (parts : List ℕ) (span from : ℕ) where
  -- the splits of a span that has none
  pub no_splits : (link : ℕ) → link ≡ 0 → IsSplitLink splits span (length splits) link → AreSplitsOf spans splits parts span from []
  no_splits link zero i = record {
    order = no_splits_ascend;
    exact = subst (λ k. AreSplitsTold spans splits parts span from k []) zero (none_told spans splits parts span from link i);
  }

  -- the splits of a span that has one
  pub one_split : (link : ℕ) (row : SplitRow) → 0 < link → IsSplitLink splits span (length splits) link → slice_get splits (link - 1) ≡ Some row
      → IsSplitLink splits row.span (link - 1) row.older → row.older ≡ 0 → AreSplitsOf spans splits parts span from (told spans parts from row ∷ [])
  one_split link row l i e o zero =
      let along : IsAlong splits span link = begins splits span (length splits) link (omega arith) i in
      record {
        order = one_ascends (told spans parts from row);
        exact = subst (λ k. AreSplitsTold spans splits parts span from k (told spans parts from row ∷ [])) zero
            (told_more spans splits parts span from link row [] along l e o (none_told spans splits parts span from link i));
      }

  -- the same splits in order
  pub in_order : (found sorted : List Split) → AreSplitsTold spans splits parts span from 0 found → IsStrictlySortedBy split_cmp sorted
      → ((split : Split) → Contains sorted split ↔ Contains found split) → AreSplitsOf spans splits parts span from sorted
  in_order found sorted t order same = record {
    order = order;
    exact = record { sound = λ s c. t.sound s ((same s).0 c); whole = λ k row over at of. (same (told spans parts from row)).1 (t.whole k row over at of) };
  }

-- a row has no more parts than its length
pub few_parts : (parts : List ℕ) (row : SplitRow) → length (parts_in parts row) ≤ row.length
few_parts parts row = by (nat_le row.length INLINE_PARTS)
  where
    by : (few : Bool) → length (cond few (take row.length (row.first ∷ row.second ∷ [])) (take row.length (drop row.first parts))) ≤ row.length
    by true = omega (arith, length-take row.length (row.first ∷ row.second ∷ []))
    by false = omega (arith, length-take row.length (drop row.first parts))
