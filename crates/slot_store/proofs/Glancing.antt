-- What a look found.
use Rattle.std.proofs.Common.{◌≡◌, ℕ, ◌+◌, ◌<◌, ◌≤◌, List, ◌++◌, length, take, slice_index, sym, ◌∙◌, subst, arith}
use Rattle.std.proofs.lemmas.List.{length-take-le, get_or-take}
use Rattle.slot_store.specs.declared.site.Site.{Site}
use Rattle.pin_rule.specs.declared.content.Entry.{Entry}
use Rattle.pin_rule.specs.declared.view.View.{View}
use Rattle.pin_rule.specs.declared.view.Step.{Step}
use Rattle.pin_rule.specs.Rows.{on_path}
use Rattle.pin_rule.specs.Told.{IsTold}
use Rattle.pin_rule.proofs.Lists.{in_left}
use Rattle.slot_store.specs.declared.finding.Seen.TheVariants as seen
use Rattle.slot_store.specs.declared.finding.Glance.TheVariants as glance
use Rattle.slot_store.specs.Keys.{row_of}
use Rattle.slot_store.specs.Answers.{HoldsOther}
use Rattle.slot_store.proofs.LaterPlaces.{lacks_back, filled_back}
use Rattle.slot_store.proofs.Lacking.{sole_on, others, holds, lacks_at_empty, all_lack, all_filled}
use Rattle.slot_store.specs.Walks.{IsAtWork, IsEmptyIn, Reads, Passed, Walks, Copies, Glances}
use Rattle.slot_store.proofs.ByWord.{by_parts, length_row, content_is}
use Rattle.slot_store.proofs.Growing.{work_on, moves_on, earlier, later, reads_on}
use Rattle.slot_store.proofs.Passing.{full}
use Rattle.slot_store.proofs.Reading.{head_at}
use Rattle.slot_store.proofs.Single.{knows_row}

-- what was passed holds other keys
pub holds_others : (z : Site) (w : View) (added : List Step) (key : List ℕ) (steps : ℕ) → Passed z w added key steps → (before : ℕ) → before < steps
    → HoldsOther z.sizes z.page added key (on_path z.sizes key before)
holds_others z w added key steps passed before lt = let p = passed before lt in let o = p.3 in (p.0, o.0, o.1, p.1, o.2.0, o.3, o.4)

module _ (z : Site) (F : List Entry → List ℕ → Type 0) (v w : View) (key buffer : List ℕ) (work : IsAtWork z v) where
  pub initial : (place : ℕ) → Walks z v w key (seen.Empty place) → IsTold (F w.log) w z.version → Glances z (F v.log) v w key buffer (glance.Initial place)
  initial place k told = let i = k.is in record {
    added = k.added;
    moves = k.moves;
    own = k.own;
    is = record { step = i.0; inside = i.1; at = i.2; before = i.3.0; empty = i.3.1; passed = holds_others z w i.3.0 key i.0 i.3.2 };
    knows = λ sole. let after = work_on z v w k.added work k.moves in
        lacks_back v.known w.known key (k.moves.known sole.share sole.every) (lacks_at_empty (F w.log) z w after told (sole_on z v w k.added k.moves sole) key
        i.0 i.1 (others z w i.3.0 key i.0 i.3.2) (subst (IsEmptyIn w.known) (sym i.2) (i.3.3 sole)));
  }

  pub page_full : Walks z v w key seen.Full → IsTold (F w.log) w z.version → Glances z (F v.log) v w key buffer glance.PageFull
  page_full k told = record {
    added = k.added;
    moves = k.moves;
    own = k.own;
    is = full z w k.added key k.is;
    knows = λ sole. let after = work_on z v w k.added work k.moves in let alone = sole_on z v w k.added k.moves sole in
        let later = k.moves.known sole.share sole.every in let passed = others z w k.added key z.sizes.places k.is in (
          lacks_back v.known w.known key later (all_lack (F w.log) z w after told alone key passed),
          filled_back v.known w.known later (all_filled (F w.log) z w after told alone key passed),
        );
  }

  module _ (x : View) (row n : ℕ) (k : Walks z v w key (seen.Same row)) (c : Copies z w x row (length key + 2) n n buffer) (room : n ≤ length buffer) where
    abbrev payload : List ℕ
    payload = take n buffer

    count : n ≡ length (take n buffer)
    count = sym (length-take-le n buffer room)

    abbrev all : List Step
    all = k.added ++ c.added

    before : (index word : ℕ) → Reads z w k.added row index word → Reads z x (k.added ++ c.added) row index word
    before index word h = reads_on z w x k.added (k.added ++ c.added) (earlier w x k.added c.added c.moves) row index word h

    after_it : (index word : ℕ) → Reads z x c.added row index word → Reads z x (k.added ++ c.added) row index word
    after_it index word h = reads_on z x x c.added (k.added ++ c.added) (later x k.added c.added) row index word h

    read : (index : ℕ) → index < length (row_of key (take n buffer)) → Reads z x (k.added ++ c.added) row index (slice_index (row_of key (take n buffer)) index)
    read = let has = k.is.3 in by_parts key (take n buffer) (Reads z x (k.added ++ c.added) row)
        (before 0 (length key) (has 0 (omega arith, λ e. omega arith)))
        (subst (Reads z x (k.added ++ c.added) row 1) count (after_it 1 n c.size_read))
        (λ i lt. before (i + 2) (slice_index key i) (subst (Reads z w k.added row (i + 2)) (head_at key i) (has (i + 2) (omega arith, λ e. omega arith))))
        (λ j lt. let few = count in let inside : j < n = omega arith in subst (Reads z x (k.added ++ c.added) row (length key + 2 + j))
        (sym (get_or-take n buffer j 0 inside)) (after_it (length key + 2 + j) (slice_index buffer j) (c.words j inside)))

    pub found : IsTold (F x.log) x z.version → Glances z (F v.log) v x key buffer (glance.Found n)
    found told = let long = length_row key (take n buffer) in record {
      added = k.added ++ c.added;
      moves = moves_on v w x k.added c.added k.moves c.moves;
      own = c.own ∙ k.own;
      is = (
        room,
        record {
          place = k.is.2.0;
          row = row;
          inside = k.is.2.1;
          row_in = k.is.0;
          entry = in_left _ k.added c.added k.is.2.2;
          words = λ index lt. (read index lt).0;
          fitting = subst (λ (log : List Entry). F log (row_of key (take n buffer))) (c.moves.log ∙ k.moves.log)
              (subst (F x.log) (content_is key (take n buffer)) (told.fitting row (slice_index (row_of key (take n buffer))) (knows_row z x row c.version)
              (λ index lt. (read index (omega arith)).1)));
        },
      );
      knows = λ sole. let all = k.added ++ c.added in let m = moves_on v w x k.added c.added k.moves c.moves in
          holds (F x.log) z x (work_on z v x all work m) told (sole_on z v x all m sole) (λ index. index < length (row_of key (take n buffer)))
          (row_of key (take n buffer)) k.is.2.0 row k.is.2.1 (c.moves.entries _ k.is.2.3) (λ index lt. (read index lt).1);
    }
