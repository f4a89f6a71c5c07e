-- The loop that writes words to an own row.
use Rattle.std.proofs.Common.{◌≡◌, ◌≢◌, ℕ, ◌+◌, ◌<◌, List, [], ◌∷◌, ◌++◌, inl, inr, length, slice_index, ne_eqb, eq-eqb, sym, refl, ap, ◌∙◌, subst, arith}
use mathlib.Core.Bool.{cond}
use mathlib.Core.Logic.{dite}
use native.Mathlib.Decide.{ℕ_discrete}
use Rattle.std.specs.Prelude.{Option, Some}
use Rattle.pin_rule.specs.declared.sizes.Sizes.{Sizes}
use Rattle.slot_store.specs.declared.site.Site.{Site}
use Rattle.pin_rule.specs.declared.content.Entry.{Entry}
use Rattle.pin_rule.specs.declared.view.View.{View}
use Rattle.pin_rule.specs.declared.view.OwnRow.{OwnRow}
use Rattle.pin_rule.specs.declared.view.Step.{Step}
use Rattle.pin_rule.specs.declared.ops.Op.TheVariants as op
use Rattle.pin_rule.specs.Lists.{In}
use Rattle.pin_rule.specs.Steps.{without, written, wrote_row, after_write_row}
use Rattle.pin_rule.specs.Keeps.{Keeps}
use Rattle.pin_rule.specs.Lists.{Each}
use Rattle.pin_rule.proofs.Lists.{each_map, each_append, in_left, in_right}
use Rattle.pin_rule.proofs.KindWriteRow.{keeps_write_row}
use Rattle.slot_store.specs.Keys.{row_of}
use Rattle.slot_store.specs.Quiet.{IsQuiet}
use Rattle.slot_store.specs.Answers.{IsWordOf}
use Rattle.slot_store.specs.Walks.{IsAtWork, MovesBy, OwnsRow, HasWritten, IsPartOf, Writes, WritesRow}
use Rattle.slot_store.proofs.LaterPlaces.{learns_same}
use Rattle.slot_store.proofs.ByWord.{by_parts, lengths_in, key_in, payload_in}
use Rattle.slot_store.proofs.Growing.{stays, moves_on}

pub may_write : (L : List Entry → Type 0) (F : List Entry → List ℕ → Type 0) (v : View) (row index x : ℕ) → OwnsRow v row → index < v.sizes.width
    → Keeps L F v (op.WriteRow row index x)
may_write L F v row index x o inside = subst (λ (r : ℕ). Keeps L F v (op.WriteRow r index x)) o.2 (keeps_write_row L F v o.0 o.1 index x inside)

in_without : (index : ℕ) (w : ℕ × ℕ) (l : List (ℕ × ℕ)) → w.0 ≢ index → In w l → In w (without index l)
in_without index w [] n i = absurd i
in_without index w (x ∷ xs) n i = dite (ℕ_discrete x.0 index)
    (λ e. subst (λ b. In w (cond b (without index xs) (x ∷ without index xs))) (sym (eq-eqb x.0 index e)) (elim i [
      | inl same ↦
          absurd (n (ap (λ (y : ℕ × ℕ). y.0) same ∙ e))
      | inr t ↦ in_without index w xs n t
    ]))
    (λ m. subst (λ b. In w (cond b (without index xs) (x ∷ without index xs))) (sym (ne_eqb x.0 index m)) (elim i [
      | inl same ↦ inl same
      | inr t ↦
          inr (in_without index w xs n t)
    ]))

pub starts : (z : Site) (v : View) (row from : ℕ) (words : List ℕ) → OwnsRow v row → Writes z v v row from words 0
starts z v row from words owns = record {
  added = [];
  moves = stays v;
  owns = owns;
  earlier = λ _ _ _ h. h;
  wrote = λ i lt. absurd (omega arith);
  stores = λ i lt. absurd (omega arith);
  only = tt;
}

module _ (z : Site) (v w u : View) (work : IsAtWork z v) (row from : ℕ) (words : List ℕ) (i x : ℕ) (is : u ≡ after_write_row w row (from + i) x)
    (r : Writes z v w row from words i) where
  index : ℕ
  index = from + i

  owned : (o : OwnRow) → w.own ≡ Some o → u.own ≡ Some (record { row = o.row; wrote = (from + i, x) ∷ without (from + i) o.wrote })
  owned o own = ap (λ (y : View). y.own) is ∙ ap (λ (p : Option OwnRow). written p (from + i) x) own

  other : (j y : ℕ) → j ≢ from + i → HasWritten w row j y → HasWritten u row j y
  other j y n h = (
    record { row = h.0.row; wrote = (from + i, x) ∷ without (from + i) h.0.wrote },
    owned h.0 h.1,
    h.2,
    inr (in_without (from + i) (j, y) h.0.wrote n h.3),
  )

  here : HasWritten u row (from + i) x
  here = (record { row = r.owns.0.row; wrote = (from + i, x) ∷ without (from + i) r.owns.0.wrote }, owned r.owns.0 r.owns.1, r.owns.2, inl refl)

  pub goes_on : i < length words → x ≡ slice_index words i → Writes z v u row from words (i + 1)
  goes_on inside same = let b : List Step = wrote_row z.sizes row (from + i) x ∷ [] in
      let sizes : w.sizes ≡ z.sizes = r.moves.sizes ∙ work.sizes in let h = here in
      record {
        added = r.added ++ b;
        moves = subst (λ (y : View). MovesBy IsQuiet v y (r.added ++ b)) (sym is) (moves_on v w (after_write_row w row (from + i) x) r.added b r.moves (record {
          sizes = refl;
          log = refl;
          share = refl;
          pins_left = refl;
          log_words = refl;
          quiet = (tt, tt);
          pinned = refl;
          role = refl;
          steps = ap (λ (y : Sizes). w.steps ++ wrote_row y row (from + i) x ∷ []) sizes;
          entries = λ _ e. e;
          words = λ _ e. e;
          known = learns_same w (after_write_row w row (from + i) x) refl;
        }));
        owns = (h.0, h.1, h.2);
        earlier = λ j y lt had. other j y (λ e. omega arith) (r.earlier j y lt had);
        wrote = λ j lt. dite (ℕ_discrete j i)
            (λ e. subst (λ (k : ℕ). HasWritten u row (from + k) (slice_index words k)) (sym e) (subst (HasWritten u row (from + i)) same h))
            (λ n. other (from + j) (slice_index words j) (λ e. n (omega arith)) (r.wrote j (omega arith)));
        stores = λ j lt. dite (ℕ_discrete j i)
            (λ e. subst (λ (k : ℕ). In (wrote_row z.sizes row (from + k) (slice_index words k)) (r.added ++ b)) (sym e)
            (subst (λ (y : ℕ). In (wrote_row z.sizes row (from + i) y) (r.added ++ b)) same (in_right (wrote_row z.sizes row (from + i) x) r.added b
            (inl refl))))
            (λ n. in_left _ r.added b (r.stores j (omega arith)));
        only = each_append (IsPartOf z.sizes row from words) r.added b r.only ((λ _. (i, inside, ap (wrote_row z.sizes row (from + i)) same)), tt);
      }

-- words that stand in a row from an index on are words of the row
part_of_row : (z : Sizes) (row from : ℕ) (part words : List ℕ)
    → ((i : ℕ) → i < length part → (from + i < length words) × (slice_index part i ≡ slice_index words (from + i)))
    → (steps : List Step) → Each (IsPartOf z row from part) steps → Each (IsWordOf z row words) steps
part_of_row z row from part words h steps = each_map (IsPartOf z row from part) (IsWordOf z row words)
    (λ s p e. let t = p e in let w = h t.0 t.1 in (from + t.0, w.0, t.2 ∙ ap (wrote_row z row (from + t.0)) w.1)) steps

-- two lengths, a key and a payload make a row
pub whole_row : (z : Site) (u v w x : View) (row : ℕ) (key payload : List ℕ) → Writes z u v row 0 (length key ∷ length payload ∷ []) 2
    → Writes z v w row 2 key (length key) → Writes z w x row (length key + 2) payload (length payload)
    → WritesRow z u x row (row_of key payload)
whole_row z u v w x row key payload a b c =
    let early : (index word : ℕ) → index < 2 → HasWritten v row index word → HasWritten x row index word = λ index word lt h. c.earlier index word (omega arith)
    (b.earlier index word lt h) in
    let first : (s : Step) → In s a.added → In s (a.added ++ (b.added ++ c.added)) = λ s i. in_left s a.added (b.added ++ c.added) i in
    let second : (s : Step) → In s b.added → In s (a.added ++ (b.added ++ c.added)) = λ s i. in_right s a.added (b.added ++ c.added)
    (in_left s b.added c.added i) in
    let third : (s : Step) → In s c.added → In s (a.added ++ (b.added ++ c.added)) = λ s i. in_right s a.added (b.added ++ c.added)
    (in_right s b.added c.added i) in
    let swap : (i : ℕ) → 2 + i ≡ i + 2 = λ i. omega arith in
    record {
      added = a.added ++ (b.added ++ c.added);
      moves = moves_on u v x a.added (b.added ++ c.added) a.moves (moves_on v w x b.added c.added b.moves c.moves);
      owns = c.owns;
      wrote = by_parts key payload (HasWritten x row) (early 0 (length key) (omega arith) (a.wrote 0 (omega arith)))
          (early 1 (length payload) (omega arith) (a.wrote 1 (omega arith)))
          (λ i lt. c.earlier (i + 2) (slice_index key i) (omega arith) (subst (λ (n : ℕ). HasWritten w row n (slice_index key i)) (swap i) (b.wrote i lt)))
          c.wrote;
      stores = by_parts key payload (λ index word. In (wrote_row z.sizes row index word) (a.added ++ (b.added ++ c.added))) (first _ (a.stores 0 (omega arith)))
          (first _ (a.stores 1 (omega arith)))
          (λ i lt. second _ (subst (λ (n : ℕ). In (wrote_row z.sizes row n (slice_index key i)) b.added) (swap i) (b.stores i lt)))
          (λ j lt. third _ (c.stores j lt));
      only = each_append (IsWordOf z.sizes row (row_of key payload)) a.added (b.added ++ c.added)
          (part_of_row z.sizes row 0 (length key ∷ length payload ∷ []) (row_of key payload) (lengths_in key payload) a.added a.only)
          (each_append (IsWordOf z.sizes row (row_of key payload)) b.added c.added
          (part_of_row z.sizes row 2 key (row_of key payload) (key_in key payload) b.added b.only)
          (part_of_row z.sizes row (length key + 2) payload (row_of key payload) (payload_in key payload) c.added c.only));
    }
