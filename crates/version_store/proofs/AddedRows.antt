-- A row that was put to an empty place is added to the graph, and each place is known still.
use Rattle.std.proofs.Common.{◌≡◌, ◌≢◌, ◌⊎◌, ℕ, suc, ◌<◌, List, [], ◌∷◌, inl, inr, length, slice_index, eqb, eq-eqb, ne_eqb, sym, refl, ap, ◌∙◌, subst}
use Rattle.std.proofs.Common.{arith}
use mathlib.Core.Bool.{cond}
use mathlib.Core.Logic.{dite}
use native.Mathlib.Decide.{ℕ_discrete}
use Rattle.std.specs.Prelude.{Bool, true, false}
use Rattle.pin_rule.specs.declared.sizes.Sizes.{Sizes}
use Rattle.pin_rule.specs.declared.view.KnownPlace.{KnownPlace}
use Rattle.pin_rule.specs.Lists.{In}
use Rattle.pin_rule.specs.Steps.{without_place}
use Rattle.pin_rule.specs.Told.{IsOfOnePage}
use Rattle.slot_store.specs.Keys.{row_of}
use Rattle.slot_store.specs.Known.{PutsRow}
use Rattle.slot_store.specs.GraphAnswers.{AddsRow}
use Rattle.slot_store.proofs.ByWord.{length_row}
use Rattle.version_store.specs.Graphs.{word_in, row_known, rows_known, IsReadWhole, IsWholeKnown}
use Rattle.version_store.proofs.GraphRows.{word_in_is, row_is, read_whole, row_from, row_to}
use Rattle.version_store.proofs.LaterRows.{grown_later, same_rows, row_of_met}
use Rattle.version_store.proofs.PlaceRead.{still_whole}

of_cond : (b : Bool) (k x : KnownPlace) (ks rest : List KnownPlace) → (In k rest → In k ks) → In k (cond b rest (x ∷ rest)) → In k (x ∷ ks)
of_cond true k x ks rest on i = inr (on i)
of_cond false k x ks rest on i = elim i [ inl e ↦ inl e | inr t ↦ inr (on t) ]

of_others : (place : ℕ) (k : KnownPlace) (ks : List KnownPlace) → In k (without_place place ks) → In k ks
of_others place k [] i = absurd i
of_others place k (x ∷ ks) i = of_cond (eqb x.place place) k x ks (without_place place ks) (of_others place k ks) i

to_others : (place : ℕ) (k : KnownPlace) (ks : List KnownPlace) → In k ks → k.place ≢ place → In k (without_place place ks)
to_others place k [] i ne = absurd i
to_others place k (x ∷ ks) i ne = dite (ℕ_discrete x.place place)
    (λ e. subst (λ (b : Bool). In k (cond b (without_place place ks) (x ∷ without_place place ks))) (sym (eq-eqb x.place place e)) (elim i [
      | inl same ↦ absurd (ne (ap (λ (y : KnownPlace). y.place) same ∙ e))
      | inr t ↦ to_others place k ks t ne
    ]))
    (λ n. subst (λ (b : Bool). In k (cond b (without_place place ks) (x ∷ without_place place ks))) (sym (ne_eqb x.place place n)) (elim i [
      | inl same ↦ inl same
      | inr t ↦ inr (to_others place k ks t ne)
    ]))

module _ (z : Sizes) (ks ls : List KnownPlace) (key payload : List ℕ) (known : IsWholeKnown z ks) (puts : PutsRow z ks ls (row_of key payload))
    (one : IsOfOnePage z ls) where
  abbrev new : KnownPlace
  new = record { place = puts.place; met = suc puts.row; words = puts.wrote }

  new_there : In (record { place = puts.place; met = suc puts.row; words = puts.wrote }) ls
  new_there = subst (In new) (sym puts.is) (inl refl)

  others_there : (k : KnownPlace) → In k puts.before → k.place ≢ puts.place → In k ls
  others_there k i ne = subst (In k) (sym puts.is) (inr (to_others puts.place k puts.before i ne))

  come_from : (k : KnownPlace) → In k ls → (k ≡ record { place = puts.place; met = suc puts.row; words = puts.wrote }) ⊎ In k puts.before
  come_from k i = elim (subst (In k) puts.is i) [ inl e ↦ inl e | inr t ↦ inr (of_others puts.place k puts.before t) ]

  -- a place with a row is another one
  elsewhere : (k : KnownPlace) (row : ℕ) → In k puts.before → k.met ≡ suc row → k.place ≢ puts.place
  elsewhere k row i met at = let e : 0 ≡ suc row = sym (puts.empty k i at) ∙ met in omega arith

  once_before : (k : KnownPlace) (row index a b : ℕ) → In k puts.before → k.met ≡ suc row → In (index, a) k.words → In (index, b) k.words → a ≡ b
  once_before k row index a b i met x y = let there = others_there k i (elsewhere k row i met) in one.words k k row index a b there there met met x y

  before_whole : IsWholeKnown z puts.before
  before_whole = still_whole z ks puts.before known (grown_later ks puts.before puts.later) once_before

  before_rows : rows_known puts.before ≡ rows_known ks
  before_rows = same_rows ks puts.before puts.later known.rows once_before

  new_word : (index : ℕ) → index < length (row_of key payload) → word_in puts.wrote index ≡ slice_index (row_of key payload) index
  new_word index lt = let there = puts.written index lt in one.words new new puts.row index (word_in puts.wrote index) (slice_index (row_of key payload) index)
      new_there new_there refl refl (word_in_is puts.wrote index (slice_index (row_of key payload) index) there) there

  new_row : row_known (record { place = puts.place; met = suc puts.row; words = puts.wrote }) ≡ row_of key payload
  new_row = row_is new (row_of key payload) (length_row key payload) new_word

  new_read : IsReadWhole puts.wrote
  new_read = read_whole new (row_of key payload) (length_row key payload) new_word puts.written

  pub after_whole : IsWholeKnown z ls
  after_whole = record {
    every = λ place lt. let k = before_whole.every place lt in dite (ℕ_discrete place puts.place) (λ e. (new, new_there, sym e))
        (λ ne. (k.0, others_there k.0 k.1 (λ e. ne (sym k.2 ∙ e)), k.2));
    inside = λ k i. elim (come_from k i) [
      | inl e ↦ subst (λ (p : ℕ). p < z.places) (ap (λ (y : KnownPlace). y.place) (sym e)) puts.inside
      | inr t ↦ before_whole.inside k t
    ];
    rows = λ k row i met. elim (come_from k i) [
      | inl e ↦ subst (λ (y : KnownPlace). IsReadWhole y.words) (sym e) new_read
      | inr t ↦ before_whole.rows k row t met
    ];
  }

  pub adds : AddsRow (rows_known ks) (rows_known ls) (row_of key payload)
  adds = record {
    added = subst (λ (r : List ℕ). In r (rows_known ls)) new_row (row_to ls new new_there (λ e. let s : suc puts.row ≡ 0 = e in omega arith));
    kept = λ r i. let k = row_from puts.before r (subst (In r) (sym before_rows) i) in let row = row_of_met k.0.met k.2 in
        subst (λ (y : List ℕ). In y (rows_known ls)) (sym k.3) (row_to ls k.0 (others_there k.0 k.1 (elsewhere k.0 row.0 k.1 row.1)) k.2);
    only = λ r i. let k = row_from ls r i in elim (come_from k.0 k.1) [
      | inl e ↦ inr (k.3 ∙ ap row_known e ∙ new_row)
      | inr t ↦ inl (subst (In r) before_rows (subst (λ (y : List ℕ). In y (rows_known puts.before)) (sym k.3) (row_to puts.before k.0 t k.2)))
    ];
  }
