-- One place of the page is read.
use Rattle.std.proofs.Common.{◌≡◌, ◌≢◌, ℕ, zero, suc, ◌+◌, ◌<◌, List, [], ◌∷◌, ◌++◌, length, slice_index, eq-eqb, sym, refl}
use Rattle.std.proofs.Common.{ap, ◌∙◌, subst, arith}
use mathlib.Core.Bool.{cond}
use Rattle.std.specs.Prelude.{Option, Some, None, Bool}
use Rattle.pin_rule.specs.declared.sizes.Sizes.{Sizes}
use Rattle.pin_rule.specs.declared.content.Entry.{Entry}
use Rattle.pin_rule.specs.declared.view.View.{View}
use Rattle.pin_rule.specs.declared.view.KnownPlace.{KnownPlace}
use Rattle.pin_rule.specs.Lists.{In}
use Rattle.pin_rule.specs.Views.{whole, version_at, version_pinned, version_of_role, version_given_up}
use Rattle.pin_rule.specs.Steps.{met_entry, version_of, loaded_place, after_load_place}
use Rattle.pin_rule.specs.Told.{Tells, IsAsKnown}
use Rattle.pin_rule.proofs.Seats.{none_some, same_some}
use Rattle.pin_rule.proofs.Frames.{content_same}
use Rattle.pin_rule.proofs.Passing.{load_keeps_role}
use Rattle.slot_store.proofs.LaterPlaces.{learned_same}
use Rattle.slot_store.proofs.Single.{names_it, names_known}
use Rattle.version_store.specs.declared.current.Current.{Current}
use Rattle.version_store.specs.Roles.{role_of}
use Rattle.version_store.specs.Rows.{Found, IsWholeRow}
use Rattle.version_store.specs.Edits.{place_loads, row_loads}
use Rattle.version_store.specs.Graphs.{word_in, row_known, rows_known, IsReadWhole, IsWholeKnown}
use Rattle.slot_store.specs.Known.{IsLater}
use Rattle.version_store.specs.Learning.{Grown, Shows}
use Rattle.version_store.specs.Stages.{IsEditorOf, Goes, ReadsRow}
use Rattle.version_store.specs.Placed.{StandsKnownAt}
use Rattle.version_store.specs.PlaceReading.{ReadsPlace}
use Rattle.version_store.proofs.Going.{goes_on, goes_as, editor_on}
use Rattle.version_store.proofs.KnownPlaces.{grown_still, met_is}
use Rattle.version_store.proofs.RowWords.{told_of}
use Rattle.version_store.proofs.GraphRows.{word_in_is, row_is, row_from, row_to}

module _ (c : Current) (v : View) (editor : IsEditorOf c v) (place n : ℕ) (u : View) (is : u ≡ after_load_place v c.page place n) where
  -- the editor may speak of the page
  speaks : version_at v c.page ≡ Some c.version
  speaks = let r = role_of v in ap (λ p. version_pinned p (version_of_role v.role c.page) c.page) editor.unpinned
      ∙ ap (λ o. version_of_role o c.page) editor.has
      ∙ ap (λ (b : Bool). cond b (Some r.newest.version) (version_given_up r.giving_up c.page)) (eq-eqb r.newest.page c.page editor.page_is)
      ∙ ap (λ (k : ℕ). Some k) editor.version_is

  loads : Goes v u (loaded_place c.sizes c.page place n ∷ [])
  loads = subst (λ (t : View). Goes v t (loaded_place c.sizes c.page place n ∷ [])) (sym is) (record {
    stays = record { sizes = refl; share = refl; pins_left = refl; log_words = refl; pinned = refl; own = refl };
    log = refl;
    steps = ap (λ (z : Sizes). v.steps ++ loaded_place z c.page place n ∷ []) editor.sizes;
  })

  same_role : u.role ≡ v.role
  same_role = ap (λ (y : View). y.role) is ∙ load_keeps_role v (role_of v) c.page place n editor.has editor.keeps_all

  pub editor_at : IsEditorOf c u
  editor_at = editor_on c v u _ editor loads (role_of v) (same_role ∙ editor.has) refl refl

  still_known : v.share ≡ whole → ((k : KnownPlace) × In k v.known × (k.place ≡ place)) → u.known ≡ v.known
  still_known all k = ap (λ (y : View). y.known) is ∙ met_is v (role_of v) c.page place n all editor.has editor.page_is ∙ learned_same place n v.known k

  is_known : IsAsKnown v c.page place n → v.share ≡ whole → (k : KnownPlace) → In k v.known → k.place ≡ place → n ≡ k.met
  is_known as_known all k i at = as_known all (role_of v) k editor.has editor.page_is i at

  pub reads_none : IsAsKnown v c.page place n → n ≡ 0 → ReadsPlace c v u place None
  reads_none as_known e = record {
    goes = goes_as v u _ (place_loads c.sizes c.page place None) (ap (λ (k : ℕ). loaded_place c.sizes c.page place k ∷ []) e) loads;
    role = same_role;
    is_whole = λ f some. absurd (none_some f some);
    knew = λ all k. record {
      grown = subst (Grown v.known) (sym (still_known all k)) (grown_still v.known);
      met = λ l i at. sym (is_known as_known all l i at) ∙ e;
      shows = λ f some. absurd (none_some f some);
    };
  }

  module _ (row : ℕ) (met : n ≡ suc row) where
    pub named : version_of u.entries row ≡ Some c.version
    named = ap (λ es. version_of es row) (ap (λ (y : View). y.entries) is ∙ ap (λ (o : Option ℕ). met_entry o v.entries place n) speaks
        ∙ ap (met_entry (Some c.version) v.entries place) met) ∙ names_it c.version v.entries place row

    pub row_in : (L : List Entry → Type 0) (F : List Entry → List ℕ → Type 0) → Tells L F u → row < c.sizes.rows
    row_in L F told = subst (λ (z : Sizes). row < z.rows) editor_at.sizes
        ((told_of L F c u editor_at told).1.range row (names_known u c.version row named))

    pub reads_row : IsAsKnown v c.page place n → (x : View) (words : List ℕ) → ReadsRow c u x row words → IsWholeRow words
        → ReadsPlace c v x place (Some record { row = row; words = words })
    reads_row as_known x words reads whole_row = record {
      goes = goes_as v x _ (place_loads c.sizes c.page place (Some record { row = row; words = words }))
          (ap (λ (k : ℕ). loaded_place c.sizes c.page place k ∷ row_loads c.sizes row 0 words) met)
          (goes_on v u x (loaded_place c.sizes c.page place n ∷ []) (row_loads c.sizes row 0 words) loads reads.goes);
      role = reads.role ∙ same_role;
      is_whole = λ f some. subst (λ (y : Found). IsWholeRow y.words) (same_some (record { row = row; words = words }) f some) whole_row;
      knew = λ all k. record {
        grown = subst (λ (ks : List KnownPlace). Grown ks x.known) (still_known all k) reads.grown;
        met = λ l i at. sym (is_known as_known all l i at) ∙ met;
        shows = λ f some. subst (λ (y : Found). Shows x.known y.row y.words) (same_some (record { row = row; words = words }) f some)
            (reads.shows (loads.stays.share ∙ all));
      };
    }

-- More is known of the same rows

module _ (z : Sizes) (ks ls : List KnownPlace) (before : IsWholeKnown z ks) (g : Grown ks ls)
    (once : (l : KnownPlace) (row index a b : ℕ) → In l ls → l.met ≡ suc row → In (index, a) l.words → In (index, b) l.words → a ≡ b) where
  same_word : (k l : KnownPlace) (row : ℕ) → In k ks → In l ls → IsLater k l → k.met ≡ suc row → (index : ℕ)
      → index < 2 + (word_in k.words 0 + word_in k.words 1) → word_in l.words index ≡ word_in k.words index
  same_word k l row i j later met index lt = let there = later.2 _ (before.rows k row i met index lt) in
      once l row index (word_in l.words index) (word_in k.words index) j (later.1 ∙ met) (word_in_is l.words index (word_in k.words index) there) there

  pub same_row : (k l : KnownPlace) (row : ℕ) → In k ks → In l ls → IsLater k l → k.met ≡ suc row → (row_known l ≡ row_known k) × IsReadWhole l.words
  same_row k l row i j later met = let s = same_word k l row i j later met in let a = s 0 (omega arith) in let b = s 1 (omega arith) in (
    content_same (word_in l.words) (word_in k.words) (2 + (word_in k.words 0 + word_in k.words 1)) (omega arith) (λ index lt. s index lt),
    λ index lt. let inside : index < 2 + (word_in k.words 0 + word_in k.words 1) = omega arith in
        word_in_is l.words index (word_in k.words index) (later.2 _ (before.rows k row i met index inside)),
  )

  some_row : (n : ℕ) → n ≢ 0 → (row : ℕ) × (n ≡ suc row)
  some_row zero ne = absurd (ne refl)
  some_row (suc n) ne = (n, refl)

  pub still_whole : IsWholeKnown z ls
  still_whole = record {
    every = λ place lt. let k = before.every place lt in let l = g.on k.0 k.1 in (l.0, l.1, l.2.0 ∙ k.2);
    inside = λ l i. let k = g.back l i in subst (λ (p : ℕ). p < z.places) (sym k.2.0) (before.inside k.0 k.1);
    rows = λ l row i met. let k = g.back l i in (same_row k.0 l row k.1 i k.2 (sym k.2.1 ∙ met)).1;
  }

  pub rows_kept : (r : List ℕ) → In r (rows_known ls) → In r (rows_known ks)
  rows_kept r i = let l = row_from ls r i in let k = g.back l.0 l.1 in let row = some_row l.0.met l.2 in let met : k.0.met ≡ suc row.0 = sym k.2.1 ∙ row.1 in
      subst (λ (x : List ℕ). In x (rows_known ks)) (sym ((l.3) ∙ (same_row k.0 l.0 row.0 k.1 l.1 k.2 met).0))
      (row_to ks k.0 k.1 (λ e. l.2 (k.2.1 ∙ e)))

  pub rows_every : (r : List ℕ) → In r (rows_known ks) → In r (rows_known ls)
  rows_every r i = let k = row_from ks r i in let l = g.on k.0 k.1 in let row = some_row k.0.met k.2 in
      subst (λ (x : List ℕ). In x (rows_known ls)) ((same_row k.0 l.0 row.0 k.1 l.1 l.2 row.1).0 ∙ sym k.3)
      (row_to ls l.0 l.1 (λ e. k.2 (sym l.2.1 ∙ e)))

  -- the row that was read stands at the place
  pub read_there : (place row : ℕ) (words : List ℕ) → IsWholeRow words → place < z.places → Shows ls row words
      → ((k : KnownPlace) → In k ks → k.place ≡ place → k.met ≡ suc row) → StandsKnownAt ks place words
  read_there place row words whole_row lt shows met = let k = before.every place lt in let l = g.on k.0 k.1 in let at = met k.0 k.1 k.2 in
      let there = shows l.0 l.1 (l.2.1 ∙ at) in
      let same : (index : ℕ) → index < length words → word_in l.0.words index ≡ slice_index words index
      = λ index i. once l.0 row index (word_in l.0.words index) (slice_index words index) l.1 (l.2.1 ∙ at)
      (word_in_is l.0.words index (slice_index words index) (there index i)) (there index i) in (
        k.0,
        k.1,
        k.2,
        (λ e. let s : 0 ≡ suc row = sym e ∙ at in omega arith),
        sym (sym (same_row k.0 l.0 row k.1 l.1 l.2 at).0 ∙ row_is l.0 words whole_row same),
      )

  -- so it is of the graph
  pub read_known : (place row : ℕ) (words : List ℕ) → IsWholeRow words → place < z.places → Shows ls row words
      → ((k : KnownPlace) → In k ks → k.place ≡ place → k.met ≡ suc row) → In words (rows_known ks)
  read_known place row words whole_row lt shows met = let s = read_there place row words whole_row lt shows met in
      subst (λ (x : List ℕ). In x (rows_known ks)) (sym s.4) (row_to ks s.0 s.1 s.3)
