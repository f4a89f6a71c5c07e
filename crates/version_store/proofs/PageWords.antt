-- The loop that writes the page in the making.
use Rattle.std.proofs.Common.{◌≡◌, ◌⊎◌, ℕ, zero, suc, ◌<◌, List, [], ◌∷◌, ◌++◌, inl, inr, length, sym, refl, ap, ◌∙◌, subst}
use Rattle.std.specs.Prelude.{Option, Some}
use Rattle.pin_rule.specs.declared.sizes.Sizes.{Sizes}
use Rattle.pin_rule.specs.declared.content.Entry.{Entry}
use Rattle.pin_rule.specs.declared.view.View.{View}
use Rattle.pin_rule.specs.declared.view.Role.{Role}
use Rattle.pin_rule.specs.declared.view.Making.{Making}
use Rattle.pin_rule.specs.declared.view.WordFact.{WordFact}
use Rattle.pin_rule.specs.declared.ops.Op.TheVariants as op
use Rattle.pin_rule.specs.Lists.{In}
use Rattle.pin_rule.specs.Rows.{content_of}
use Rattle.pin_rule.specs.Making.{with_place_word}
use Rattle.pin_rule.specs.Steps.{wrote_place, after_write_place}
use Rattle.pin_rule.specs.Keeps.{Keeps}
use Rattle.pin_rule.specs.NextVersion.{IsKeepable}
use Rattle.pin_rule.proofs.KindWritePlace.{keeps_write_place}
use Rattle.version_store.specs.declared.current.Current.{Current}
use Rattle.version_store.specs.Roles.{role_of}
use Rattle.version_store.specs.Edits.{page_stores}
use Rattle.version_store.specs.Stages.{IsEditorOf, Goes, WritesPage, with_making}
use Rattle.version_store.proofs.Going.{goes_nowhere, goes_on, goes_as, stores_next}

-- a row that may be kept may be kept by a view that knows the same words
keepable_on : (F : List Entry → List ℕ → Type 0) (v w : View) (m n : Making) (row : ℕ) → w.words ≡ v.words → w.log ≡ v.log → n.entry ≡ m.entry
    → IsKeepable F v m row → IsKeepable F w n row
keepable_on F v w m n row words log entry k = (
  k.0,
  λ index lt. subst (λ (t : List WordFact × List Entry). In (let x : WordFact = record {
    version = length t.1;
    row = row;
    index = index;
    word =
        k.0 index;
  } in x) t.0) (λ i. (sym words i, sym log i)) (k.1 index lt),
  subst (λ (t : List Entry × List ℕ). F (t.0 ++ record { words = t.1 } ∷ []) (content_of k.0)) (λ i. (sym log i, sym entry i)) k.2,
)

-- a word is 0, or names a row
zero_or : (P : ℕ → Type 0) (n : ℕ) → ((row : ℕ) → n ≡ suc row → P row) → (n ≡ 0) ⊎ ((row : ℕ) × (n ≡ suc row) × P row)
zero_or P zero f = inl refl
zero_or P (suc n) f = inr (n, refl, f n refl)

module _ (c : Current) (v : View) (editor : IsEditorOf c v) where
  pub begins : (m : Making) → (role_of v).making ≡ Some m → WritesPage c v v []
  begins m is = record {
    goes = goes_nowhere v;
    known = refl;
    entries = refl;
    words = refl;
    role = λ n making empty. editor.has ∙ ap (λ (o : Option Making). Some (with_making (role_of v) o)) making
        ∙ (λ i. Some (with_making (role_of v) (Some (record { page = n.page; entry = n.entry; places = empty i }))));
  }

  module _ (w : View) (xs : List ℕ) (place x : ℕ) (at : place ≡ length xs) (so_far : WritesPage c v w xs) where
    pub more : (u : View) → u ≡ after_write_place w c.next place x → WritesPage c v u (xs ++ x ∷ [])
    more u is = let t : View = after_write_place w c.next (length xs) x in let same : w.sizes ≡ c.sizes = so_far.goes.stays.sizes ∙ editor.sizes in
        let one : Goes w t (wrote_place c.sizes c.next (length xs) x ∷ []) = record {
          stays = record { sizes = refl; share = refl; pins_left = refl; log_words = refl; pinned = refl; own = refl };
          log = refl;
          steps = ap (λ (z : Sizes). w.steps ++ wrote_place z c.next (length xs) x ∷ []) same;
        } in
        subst (λ (y : View). WritesPage c v y (xs ++ x ∷ [])) (sym (is ∙ ap (λ (n : ℕ). after_write_place w c.next n x) at)) (record {
          goes = goes_as v t _ (page_stores c.sizes c.next 0 (xs ++ x ∷ [])) (sym (stores_next c.sizes c.next xs x))
              (goes_on v w t (page_stores c.sizes c.next 0 xs) _ so_far.goes one);
          known = so_far.known;
          entries = so_far.entries;
          words = so_far.words;
          role = λ m making empty. ap (λ (o : Option Role). with_place_word o x) (so_far.role m making empty);
        })

    pub may : (L : List Entry → Type 0) (F : List Entry → List ℕ → Type 0) (m : Making) → (role_of v).making ≡ Some m → length m.entry ≡ 32 → m.page ≡ c.next
        → m.places ≡ [] → ((row : ℕ) → x ≡ suc row → IsKeepable F v m row) → place < c.sizes.places → Keeps L F w (op.WritePlace c.next place x)
    may L F m making whole page empty keepable inside = let n : Making = record { page = m.page; entry = m.entry; places = xs } in
        let same : w.sizes ≡ c.sizes = so_far.goes.stays.sizes ∙ editor.sizes in
        keeps_write_place L F w (with_making (role_of v) (Some n)) n c.next place x (record {
          has = so_far.role m making empty;
          making = refl;
          entry_whole = whole;
          page_is = sym page;
          place_is = at;
          word_is = zero_or (IsKeepable F w n) x (λ row e. keepable_on F v w m n row so_far.words so_far.goes.log refl (keepable row e));
        }) (subst (λ (z : Sizes). place < z.places) (sym same) inside)
