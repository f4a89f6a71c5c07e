-- The loop that writes an entry.
use Rattle.std.proofs.Common.{◌≡◌, ℕ, ◌+◌, ◌<◌, List, [], ◌∷◌, ◌++◌, length, length-append, take, slice_index, sym, refl, ap, ◌∙◌, subst, arith}
use Rattle.std.proofs.lemmas.List.{length-take-le, take_more, take_all}
use Rattle.std.specs.Prelude.{Option, Some, None}
use Rattle.pin_rule.specs.declared.sizes.Sizes.{Sizes}
use Rattle.pin_rule.specs.declared.content.Entry.{Entry}
use Rattle.pin_rule.specs.declared.view.View.{View}
use Rattle.pin_rule.specs.declared.view.Role.{Role}
use Rattle.pin_rule.specs.declared.view.Making.{Making}
use Rattle.pin_rule.specs.declared.ops.Op.TheVariants as op
use Rattle.pin_rule.specs.Views.{pages_taken}
use Rattle.pin_rule.specs.Making.{making_of, spare_page, with_entry_word}
use Rattle.pin_rule.specs.Steps.{wrote_log, after_write_log}
use Rattle.pin_rule.specs.Keeps.{Keeps}
use Rattle.pin_rule.proofs.KindWriteLog.{keeps_write_log}
use Rattle.version_store.specs.declared.current.Current.{Current}
use Rattle.version_store.specs.Roles.{role_of}
use Rattle.version_store.specs.Edits.{entry_stores}
use Rattle.version_store.specs.Stages.{IsEditorOf, Goes, WritesEntry, with_making, making_entry}
use Rattle.version_store.proofs.Going.{goes_nowhere, goes_on, goes_as, entry_next}

-- the entry in the making has one word more
more_made : (r : Role) (page : ℕ) (xs : List ℕ) (x : ℕ) → spare_page r ≡ page
    → with_entry_word (Some (with_making r (making_entry page xs))) x ≡ Some (with_making r (making_entry page (xs ++ x ∷ [])))
more_made r page [] x e = ap (λ (p : ℕ). Some (with_making r (Some (record { page = p; entry = x ∷ []; places = [] })))) e
more_made r page (y ∷ ys) x e = refl

made_length : (r : Role) (page : ℕ) (xs : List ℕ) → length xs ≡ length (making_of (with_making r (making_entry page xs))).entry
made_length r page [] = refl
made_length r page (y ∷ ys) = refl

pub made_is : (r : Role) (page : ℕ) (xs : List ℕ) → (making_of (with_making r (making_entry page xs))).entry ≡ xs
made_is r page [] = refl
made_is r page (y ∷ ys) = refl

module _ (c : Current) (v : View) (editor : IsEditorOf c v) where
  pub begins : (role_of v).making ≡ None → WritesEntry c v v []
  begins idle = record {
    goes = goes_nowhere v;
    known = refl;
    role = editor.has ∙ ap (λ (m : Option Making). Some (with_making (role_of v) m)) idle;
  }

  module _ (w : View) (xs : List ℕ) (x : ℕ) (so_far : WritesEntry c v w xs) where
    pub more : (u : View) (index : ℕ) → index ≡ length xs → u ≡ after_write_log w c.version index x → spare_page (role_of v) ≡ c.next
        → WritesEntry c v u (xs ++ x ∷ [])
    more u index at is spare = let same : w.sizes ≡ c.sizes = so_far.goes.stays.sizes ∙ editor.sizes in
        let one : Goes w (after_write_log w c.version (length xs) x) (wrote_log c.sizes c.version (length xs) x ∷ []) = record {
          stays = record { sizes = refl; share = refl; pins_left = refl; log_words = refl; pinned = refl; own = refl };
          log = refl;
          steps = ap (λ (z : Sizes). w.steps ++ wrote_log z c.version (length xs) x ∷ []) same;
        } in
        subst (λ (t : View). WritesEntry c v t (xs ++ x ∷ [])) (sym (is ∙ ap (λ (n : ℕ). after_write_log w c.version n x) at)) (record {
          goes = goes_as v (after_write_log w c.version (length xs) x) _ (entry_stores c.sizes c.version 0 (xs ++ x ∷ []))
              (sym (entry_next c.sizes c.version xs x))
              (goes_on v w (after_write_log w c.version (length xs) x) (entry_stores c.sizes c.version 0 xs) _ so_far.goes one);
          known = so_far.known;
          role = ap (λ (o : Option Role). with_entry_word o x) so_far.role ∙ more_made (role_of v) c.next xs x spare;
        })

    pub may : (L : List Entry → Type 0) (F : List Entry → List ℕ → Type 0) (entry : List ℕ) → c.version < c.sizes.log
        → length (pages_taken (role_of v)) < c.sizes.versions → L (v.log ++ record { words = entry } ∷ [])
        → (length (xs ++ x ∷ []) ≡ 32 → xs ++ x ∷ [] ≡ entry) → length xs < 32
        → Keeps L F w (op.WriteLog c.version (length xs) x)
    may L F entry short room lawful whole few = let r = with_making (role_of v) (making_entry c.next xs) in
        let same : w.sizes ≡ c.sizes = so_far.goes.stays.sizes ∙ editor.sizes in
        keeps_write_log L F w r c.version (length xs) x (record {
          has = so_far.role;
          entry_is = editor.at ∙ ap length (sym so_far.goes.log);
          index_is = made_length (role_of v) c.next xs;
          spare = λ _. subst (λ (z : Sizes). length (pages_taken (role_of v)) < z.versions) (sym same) room;
          lawful_next = λ next n. let words = ap (λ (l : List ℕ). l ++ x ∷ []) (made_is (role_of v) c.next xs) in
              let is : n.1.words ≡ entry = n.2 ∙ words ∙ whole (ap length (sym words) ∙ n.0) in
              subst L (sym (n.3 ∙ (λ i. so_far.goes.log i ++ record { words = is i } ∷ []))) lawful;
        }) (subst (λ (z : Sizes). c.version < z.log) (sym same) short) few

-- the words so far and the next one
module _ (entry : List ℕ) (long : length entry ≡ 32) (index : ℕ) (inside : index < 32) where
  pub taken : length (take index entry) ≡ index
  taken = length-take-le index entry (omega arith)

  pub next_taken : take (index + 1) entry ≡ take index entry ++ slice_index entry index ∷ []
  next_taken = take_more entry index 0 (omega arith)

  pub all_taken : (x : ℕ) → x ≡ slice_index entry index → length (take index entry ++ x ∷ []) ≡ 32 → take index entry ++ x ∷ [] ≡ entry
  all_taken x is e = ap (λ (y : ℕ). take index entry ++ y ∷ []) is ∙ sym next_taken ∙ take_all (index + 1) entry
      (let n = length-append (take index entry) (x ∷ []) in let t = taken in omega arith)
