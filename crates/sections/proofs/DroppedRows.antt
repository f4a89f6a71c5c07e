-- The rows that an edit's choice refuses are counted by their kinds, and these are the counts of the keys that lose their rows.
use Rattle.std.proofs.Common.{◌≡◌, ◌↔◌, ℕ, suc, ◌+◌, ◌≤◌, Bool, true, false, IsTrue, List, [], ◌∷◌, length, inl, inr, Contains, refl, sym, ap, ◌∙◌}
use Rattle.std.proofs.Common.{Some, None, subst, arith}
use Rattle.std.proofs.Math.Nat.{min-eq_left}
use Rattle.grammar_text.specs.declared.edit.Edit.{Edit as AnEdit}
use Rattle.forest.specs.Distinct.{IsDistinct}
use Rattle.forest.proofs.Ascending.{contains_here, contains_there, contains_cases}
use Rattle.edit_log.specs.declared.refusal.Refusal.{Refusal}
use Rattle.edit_log.specs.declared.touch.Touch.{Touch}
use Rattle.edit_log.specs.History.{Grammar, after_edit}
use Rattle.edit_log.specs.Touches.{IsTouchOf}
use Rattle.edit_log.specs.Verdict.{IsAccepted, verdict}
use Rattle.pin_rule.specs.declared.content.Entry.{Entry}
use Rattle.pin_rule.specs.Lists.{In}
use Rattle.row_coding.specs.Rows.{Key, kernel, scan, kind_of_key}
use Rattle.slot_store.specs.GraphAnswers.{AllDiffer}
use Rattle.graph_content.specs.Affected.{IsUnaffected}
use Rattle.graph_content.specs.Changes.{IsChange}
use Rattle.graph_content.specs.Rows.{IsRowOf}
use Rattle.graph_content.specs.Contents.{IsLogOfGrammar, IsUntouched, CountsRow}
use Rattle.graph_content.specs.Modifications.{Modification, after_row, counted_on}
use Rattle.graph_content.proofs.Choices.{left_exact, left_told, same_grammar, same_touch}
use Rattle.live_graph.specs.Growing.{HasRowOf}
use Rattle.version_store.specs.Asking.{AsksEach, AsksRows}
use Rattle.sections.specs.Held.{IsCount}
use Rattle.sections.specs.Laziness.{DropsCounts, DropsBy}
use Rattle.sections.proofs.HeldRows.{one_kernel, one_scan}
use Rattle.sections.proofs.RowsHeld.{one_row, one_key_for}

-- ---- the keys of one kind

-- so many keys of one kind have rows among these that are not kept
pub record CountsRefused {X : Type 0} (grammar : Grammar) (Kept : List ℕ → Type 0) (as_key : X → Key) (rows : List (List ℕ)) (count : ℕ) : Type 0 where
  pub members : List X
  pub many : length members ≡ count
  pub once : IsDistinct members
  pub from : (x : X) → Contains members x → (row : List ℕ) × In row rows × IsRowOf grammar (as_key x) row × (Kept row → ⊥)
  pub every : (x : X) (row : List ℕ) → In row rows → IsRowOf grammar (as_key x) row → (Kept row → ⊥) → Contains members x

module _ {X : Type 0} (grammar : Grammar) (Kept : List ℕ → Type 0) (as_key : X → Key) where
  none_refused : CountsRefused grammar Kept as_key [] 0
  none_refused = record {
    members = [];
    many = refl;
    once = tt;
    from = λ x there. absurd (omega (arith, there.1));
    every = λ x row never is refused. absurd never;
  }

  module _ (row : List ℕ) (rows : List (List ℕ)) (count : ℕ) (so_far : CountsRefused grammar Kept as_key rows count) where
    from_more : (x : X) → Contains so_far.members x → (other : List ℕ) × In other (row ∷ rows) × IsRowOf grammar (as_key x) other × (Kept other → ⊥)
    from_more x there = let f = so_far.from x there in (f.0, inr f.1, f.2, f.3)

    -- one row more, which is kept or of no such key
    passes_by : ((x : X) → IsRowOf grammar (as_key x) row → (Kept row → ⊥) → ⊥) → CountsRefused grammar Kept as_key (row ∷ rows) count
    passes_by none = record {
      members = so_far.members;
      many = so_far.many;
      once = so_far.once;
      from = from_more;
      every = λ x other there is refused. elim there [
        | inl same ↦ absurd (none x (subst (IsRowOf grammar (as_key x)) same is) (λ kept. refused (subst Kept (sym same) kept)))
        | inr later ↦ so_far.every x other later is refused
      ];
    }

    -- one row more, which is refused
    counts_one : (log : List Entry) → IsLogOfGrammar log grammar → ((a b : X) → as_key a ≡ as_key b → a ≡ b) → (In row rows → ⊥) → (key : X)
        → IsRowOf grammar (as_key key) row → (Kept row → ⊥) → CountsRefused grammar Kept as_key (row ∷ rows) (suc count)
    counts_one log is_log same_key new key is not_kept = record {
      members = key ∷ so_far.members;
      many = ap suc so_far.many;
      once = (
        λ there. let f = so_far.from key there in new (subst (λ r. In r rows) (one_row grammar (as_key key) f.0 row f.2 is) f.1),
        so_far.once,
      );
      from = λ x there. elim (contains_cases key so_far.members x there) [
        | inl e ↦ (row, inl refl, subst (λ y. IsRowOf grammar (as_key y) row) e is, not_kept)
        | inr t ↦ from_more x t
      ];
      every = λ x other there its refused. elim there [
        | inl same ↦
            let one = same_key key x (one_key_for log grammar is_log row (as_key key) (as_key x) is (subst (IsRowOf grammar (as_key x)) same its)) in
            subst (Contains (key ∷ so_far.members)) one (contains_here key so_far.members)
        | inr later ↦ contains_there key so_far.members x (so_far.every x other later its refused)
      ];
    }

-- ---- both kinds

pub record CountsBoth (grammar : Grammar) (Kept : List ℕ → Type 0) (rows : List (List ℕ)) (counts : ℕ × ℕ) : Type 0 where
  pub kernels : CountsRefused grammar Kept kernel rows counts.0
  pub scans : CountsRefused grammar Kept scan rows counts.1

-- the counts with one row more of this key, which is kept or not
abbrev with_row : Key → Bool → ℕ × ℕ → ℕ × ℕ
with_row key true counts = counts
with_row (kernel items) false counts = (suc counts.0, counts.1)
with_row (scan key) false counts = (counts.0, suc counts.1)

module _ (log : List Entry) (grammar : Grammar) (is_log : IsLogOfGrammar log grammar) (Kept : List ℕ → Type 0) (row : List ℕ) (rows : List (List ℕ))
    (counts : ℕ × ℕ) (so_far : CountsBoth grammar Kept rows counts) (new : In row rows → ⊥) where
  counts_row : (key : Key) (kept : Bool) → IsRowOf grammar key row → (IsTrue kept ↔ Kept row)
      → CountsBoth grammar Kept (row ∷ rows) (with_row key kept counts)
  counts_row key true is exact = record {
    kernels = passes_by grammar Kept kernel row rows counts.0 so_far.kernels (λ x its refused. refused (exact.0 refl));
    scans = passes_by grammar Kept scan row rows counts.1 so_far.scans (λ x its refused. refused (exact.0 refl));
  }
  counts_row (kernel items) false is exact = record {
    kernels = counts_one grammar Kept kernel row rows counts.0 so_far.kernels log is_log one_kernel new items is
        (λ kept. let never = exact.1 kept in cc never);
    scans = passes_by grammar Kept scan row rows counts.1 so_far.scans
        (λ x its refused. let e = one_key_for log grammar is_log row (kernel items) (scan x) is its in absurd (cc e));
  }
  counts_row (scan key) false is exact = record {
    kernels = passes_by grammar Kept kernel row rows counts.0 so_far.kernels
        (λ x its refused. let e = one_key_for log grammar is_log row (scan key) (kernel x) is its in absurd (cc e));
    scans = counts_one grammar Kept scan row rows counts.1 so_far.scans log is_log one_scan new key is
        (λ kept. let never = exact.1 kept in cc never);
  }

-- ---- row by row

-- no count is so high that it stands still
pub record HasRoom (m : Modification) (rows : List (List ℕ)) : Type 0 where
  pub items : m.items + length rows ≤ 4294967295
  pub scans : m.scan + length rows ≤ 4294967295

-- the counts rose by these
pub record RisesBy (m n : Modification) (counts : ℕ × ℕ) : Type 0 where
  pub items : n.items ≡ m.items + counts.0
  pub scans : n.scan ≡ m.scan + counts.1

counted_up : (count : ℕ) → count + 1 ≤ 4294967295 → counted_on count ≡ count + 1
counted_up count room = min-eq_left room

module _ (m : Modification) (row : List ℕ) (rows : List (List ℕ)) (room : HasRoom m (row ∷ rows)) where
  items_up : counted_on m.items ≡ m.items + 1
  items_up = let i = room.items in counted_up m.items (omega (arith, i))

  scan_up : counted_on m.scan ≡ m.scan + 1
  scan_up = let s = room.scans in counted_up m.scan (omega (arith, s))

  room_after : (key : Key) (kept : Bool) → HasRoom (after_row m (kind_of_key key) kept) rows
  room_after key true = let i = room.items in let s = room.scans in record { items = omega (arith, i); scans = omega (arith, s) }
  room_after (kernel items) false = let i = room.items in let s = room.scans in let more : m.items + 1 + length rows ≤ 4294967295 = omega (arith, i) in
      record { items = subst (λ (k : ℕ). k + length rows ≤ 4294967295) (sym items_up) more; scans = omega (arith, s) }
  room_after (scan key) false = let i = room.items in let s = room.scans in let more : m.scan + 1 + length rows ≤ 4294967295 = omega (arith, s) in
      record { items = omega (arith, i); scans = subst (λ (k : ℕ). k + length rows ≤ 4294967295) (sym scan_up) more }

  rises_more : (key : Key) (kept : Bool) (n : Modification) (counts : ℕ × ℕ) → RisesBy (after_row m (kind_of_key key) kept) n counts
      → RisesBy m n (with_row key kept counts)
  rises_more key true n counts rises = rises
  rises_more (kernel items) false n counts rises = let r : n.items ≡ m.items + 1 + counts.0 = rises.items ∙ ap (λ (k : ℕ). k + counts.0) items_up in
      record { items = omega (arith, r); scans = rises.scans }
  rises_more (scan key) false n counts rises = let r : n.scan ≡ m.scan + 1 + counts.1 = rises.scans ∙ ap (λ (k : ℕ). k + counts.1) scan_up in
      record { items = rises.items; scans = omega (arith, r) }

-- how much the counts rise by these rows
pub record Refused (grammar : Grammar) (touch : Touch) (m n : Modification) (rows : List (List ℕ)) : Type 0 where
  pub counts : ℕ × ℕ
  pub rises : RisesBy m n counts
  pub are : CountsBoth grammar (IsUntouched grammar touch) rows counts

module _ (log : List Entry) (grammar : Grammar) (is_log : IsLogOfGrammar log grammar) (touch : Touch) where
  one_more : (m next n : Modification) (row : List ℕ) (rows : List (List ℕ)) (key : Key) (kept : Bool) → next ≡ after_row m (kind_of_key key) kept
      → HasRoom m (row ∷ rows) → IsRowOf grammar key row → (IsTrue kept ↔ IsUntouched grammar touch row) → (In row rows → ⊥)
      → Refused grammar touch next n rows → Refused grammar touch m n (row ∷ rows)
  one_more m next n row rows key kept e room is exact new rest = record {
    counts = with_row key kept rest.counts;
    rises = rises_more m row rows room key kept n rest.counts (subst (λ k. RisesBy k n rest.counts) e rest.rises);
    are = counts_row log grammar is_log (IsUntouched grammar touch) row rows rest.counts rest.are new key kept is exact;
  }

  pub counts_each : (m n : Modification) (rows : List (List ℕ)) → m.grammar ≡ grammar → m.touch ≡ touch → AsksEach CountsRow m rows n → AllDiffer rows
      → HasRoom m rows → Refused grammar touch m n rows
  counts_each m n [] same at asks once room = record {
    counts = (0, 0);
    rises = record {
      items = let e = ap (λ (k : Modification). k.items) asks in omega (arith, e);
      scans = let e = ap (λ (k : Modification). k.scan) asks in omega (arith, e);
    };
    are = record {
      kernels = none_refused grammar (IsUntouched grammar touch) kernel;
      scans = none_refused grammar (IsUntouched grammar touch) scan;
    };
  }
  counts_each m n (row ∷ rows) same at (next, moved, asks) once room =
      let key = moved.fits.0 in
      let e = moved.counted key moved.fits.1 in
      let its = ap (λ (k : Modification). k.grammar) e ∙ same_grammar m (kind_of_key key) moved.kept ∙ same in
      let still = ap (λ (k : Modification). k.touch) e ∙ same_touch m (kind_of_key key) moved.kept ∙ at in
      let exact = subst (λ t. IsTrue moved.kept ↔ IsUntouched grammar t row) at
      (subst (λ g. IsTrue moved.kept ↔ IsUntouched g m.touch row) same moved.exact) in
      one_more m next n row rows key moved.kept e room (subst (λ g. IsRowOf g key row) same moved.fits.1) exact once.0
      (counts_each next n rows its still asks once.1 (subst (λ k. HasRoom k rows) (sym e) (room_after m row rows room key moved.kept)))

-- ---- the whole graph

module _ (grammar : Grammar) (touch : Touch) (next : Grammar) (change : IsChange grammar touch next)
    (graph asked : List (List ℕ)) (only : (row : List ℕ) → In row asked → In row graph) (every : (row : List ℕ) → In row graph → In row asked) where
  is_count : {X : Type 0} (as_key : X → Key) (count : ℕ) → CountsRefused grammar (IsUntouched grammar touch) as_key asked count
      → IsCount (λ x. HasRowOf grammar (as_key x) graph × (¬ (IsUnaffected grammar next (as_key x)))) count
  is_count as_key count counted = record {
    members = counted.members;
    are_all = record {
      distinct = counted.once;
      within = λ x there. let f = counted.from x there in (
        (f.0, only f.0 f.1, f.2),
        λ unaffected. f.3 (left_exact grammar next touch (as_key x) change f.0 f.2 unaffected),
      );
      all = λ x has. counted.every x has.0.0 (every has.0.0 has.0.1) has.0.2
          (λ kept. has.1 (left_told grammar next touch (as_key x) has.0.0 change has.0.2 kept));
    };
    many = counted.many;
  }

module _ (log : List Entry) (grammar : Grammar) (is_log : IsLogOfGrammar log grammar) (edit : AnEdit) (accepted : IsAccepted grammar edit)
    (graph : List (List ℕ)) where
  change_by : (touch : Touch) → IsTouchOf grammar edit touch → IsChange grammar touch (after_edit grammar edit)
  change_by touch touches = record {
    history = is_log.history;
    is_history = is_log.is.is_history;
    made = is_log.made;
    edit = edit;
    accepted = accepted;
    touches = touches;
    leads = refl;
  }

  -- what a choice that began with no count counted
  pub drops_counts : (m n : Modification) (most : ℕ) → m.grammar ≡ grammar → IsTouchOf grammar edit m.touch → m.items ≡ 0 → m.scan ≡ 0
      → AsksRows CountsRow m n graph most → most ≤ 4294967295 → DropsCounts grammar edit graph (n.items, n.scan)
  drops_counts m n most same touches items scans asks few =
      let short = asks.few in
      let refused = counts_each log grammar is_log m.touch m n asks.asked same refl asks.each asks.once
      (record { items = omega (arith, items, short, few); scans = omega (arith, scans, short, few) }) in
      let change = change_by m.touch touches in
      let rise = refused.rises.items in let rise_scans = refused.rises.scans in
      let kernels : refused.counts.0 ≡ n.items = omega (arith, rise, items) in
      let scan_keys : refused.counts.1 ≡ n.scan = omega (arith, rise_scans, scans) in
      record {
        kernels = subst (IsCount (λ x. HasRowOf grammar (kernel x) graph × (¬ (IsUnaffected grammar (after_edit grammar edit) (kernel x)))))
            kernels
            (is_count grammar m.touch (after_edit grammar edit) change graph asks.asked asks.only asks.every kernel refused.counts.0 refused.are.kernels);
        scans = subst (IsCount (λ x. HasRowOf grammar (scan x) graph × (¬ (IsUnaffected grammar (after_edit grammar edit) (scan x)))))
            scan_keys
            (is_count grammar m.touch (after_edit grammar edit) change graph asks.asked asks.only asks.every scan refused.counts.1 refused.are.scans);
      }

-- ---- by the verdict on the edit

pub drops_taken : (grammar : Grammar) (edit : AnEdit) (graph : List (List ℕ)) (dropped : ℕ × ℕ) → verdict grammar edit ≡ None
    → DropsCounts grammar edit graph dropped → DropsBy (verdict grammar edit) grammar edit graph dropped
drops_taken grammar edit graph dropped is counts = subst (λ v. DropsBy v grammar edit graph dropped) (sym is) counts

pub drops_refused : (grammar : Grammar) (edit : AnEdit) (why : Refusal) (graph : List (List ℕ)) (dropped : ℕ × ℕ) → verdict grammar edit ≡ Some why
    → dropped ≡ (0, 0) → DropsBy (verdict grammar edit) grammar edit graph dropped
drops_refused grammar edit why graph dropped is none = subst (λ v. DropsBy v grammar edit graph dropped) (sym is) none
