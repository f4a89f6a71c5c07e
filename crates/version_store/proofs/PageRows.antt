-- The loop over the places of the page, as far as it reads.
use Rattle.std.proofs.Common.{
  ◌≡◌,
  ◌≢◌,
  ◌⊎◌,
  ℕ,
  zero,
  suc,
  ◌+◌,
  ◌<◌,
  List,
  [],
  ◌∷◌,
  ◌++◌,
  inl,
  inr,
  length,
  slice_index,
  eq-eqb,
  sym,
  refl,
  ap,
  ◌∙◌,
  subst,
  arith,
}
use mathlib.Core.Option as maybe
use mathlib.Core.Bool.{cond}
use Rattle.std.specs.Prelude.{Option, Some, None}
use Rattle.atomic_table.proofs.Lists.{at_last}
use Rattle.pin_rule.specs.declared.sizes.Sizes.{Sizes}
use Rattle.pin_rule.specs.declared.content.Entry.{Entry}
use Rattle.pin_rule.specs.declared.view.View.{View}
use Rattle.pin_rule.specs.declared.view.EntryFact.{EntryFact}
use Rattle.pin_rule.specs.declared.view.WordFact.{WordFact}
use Rattle.pin_rule.specs.declared.view.KnownPlace.{KnownPlace}
use Rattle.pin_rule.specs.Lists.{In}
use Rattle.pin_rule.specs.Views.{whole, version_at, version_pinned, version_of_role, version_given_up}
use Rattle.pin_rule.specs.Making.{making_of, next_log}
use Rattle.pin_rule.specs.Steps.{met_entry, version_of, learned_place, loaded_place, after_load_place}
use Rattle.pin_rule.specs.Told.{KnowsKey, IsTold, Tells, IsAsKnown}
use Rattle.pin_rule.proofs.Lists.{at_end}
use Rattle.pin_rule.proofs.Seats.{none_some, same_some}
use Rattle.pin_rule.proofs.Frames.{same_key}
use Rattle.pin_rule.proofs.Passing.{load_keeps_role}
use Rattle.slot_store.proofs.Single.{entry_grows, names_it, names_known}
use Rattle.version_store.specs.declared.current.Current.{Current}
use Rattle.version_store.specs.Roles.{role_of, role_or_first}
use Rattle.version_store.specs.Learning.{Grown, Learns}
use Rattle.version_store.specs.Rows.{Found, IsWholeRow}
use Rattle.version_store.specs.Edits.{page_loads, row_loads}
use Rattle.version_store.specs.Stages.{IsEditorOf, Goes, next_log_of, IsFoundAt, key_in, ReadsRow, IsKnownRow, FindsRows}
use Rattle.version_store.proofs.Going.{goes_nowhere, goes_on, goes_as, editor_on, loads_next}
use Rattle.version_store.proofs.KnownPlaces.{met_is, learns_none, learns_empty, learns_row}
use Rattle.version_store.proofs.RowWords.{told_of}

-- the log that comes next is the same for a view with the same log and role
next_stays : (v w : View) → w.log ≡ v.log → w.role ≡ v.role → next_log_of w ≡ next_log_of v
next_stays v w log role = λ i. next_log (log i) (making_of (role_or_first (role i)))

-- Places of a list that one was added to

pub at_none : (found : List (Option Found)) (o : ℕ) (f : Found) → IsFoundAt (found ++ None ∷ []) o f → IsFoundAt found o f
at_none found o f e = elim (at_end found None (Some f) o e) [ inl t ↦ t | inr t ↦ absurd (none_some f t.1) ]

pub at_some : (found : List (Option Found)) (g : Found) (o : ℕ) (f : Found) → IsFoundAt (found ++ Some g ∷ []) o f → (IsFoundAt found o f)
    ⊎ ((o ≡ length found) × (g ≡ f))
at_some found g o f e = elim (at_end found (Some g) (Some f) o e) [ inl t ↦ inl t | inr t ↦ inr (t.0, same_some g f t.1) ]

pub at_new : (found : List (Option Found)) (g : Found) → IsFoundAt (found ++ Some g ∷ []) (length found) g
at_new found g = at_last found (Some g) (length found) refl

-- A view that knows more

known_on : (c : Current) (w u : View) (place : ℕ) (f : Found) → ((e : EntryFact) → In e w.entries → In e u.entries)
    → ((x : WordFact) → In x w.words → In x u.words)
    → IsKnownRow c w place f → IsKnownRow c u place f
known_on c w u place f entries words k = record { at = entries _ k.at; words = λ i lt. words _ (k.words i lt); is_whole = k.is_whole }

-- the words that tell a row's key are known
knows_key : (c : Current) (w : View) (place : ℕ) (f : Found) → IsKnownRow c w place f → KnowsKey w c.version f.row (slice_index f.words)
knows_key c w place f k index of = let lt = of.0 in let whole = k.is_whole in k.words index (omega arith)

agrees : (f g : Found) → key_in f.words ≡ key_in g.words → (index : ℕ) → index < 2 + slice_index f.words 0 → index ≢ 1
    → slice_index f.words index ≡ slice_index g.words index
agrees f g e zero lt ne = (same_key (slice_index f.words) (slice_index g.words) e).0
agrees f g e (suc zero) lt ne = absurd (ne refl)
agrees f g e (suc (suc i)) lt ne = let to : 2 + i ≡ suc (suc i) = omega arith in
    ap (slice_index f.words) (sym to) ∙ (same_key (slice_index f.words) (slice_index g.words) e).1 i (omega arith) ∙ ap (slice_index g.words) to

-- a row with the same key is known by the same words
knows_same : (c : Current) (w : View) (place : ℕ) (f g : Found) → IsKnownRow c w place g → key_in f.words ≡ key_in g.words
    → KnowsKey w c.version g.row (slice_index f.words)
knows_same c w place f g k e index of = let n = (same_key (slice_index f.words) (slice_index g.words) e).0 in
    subst (λ (x : ℕ). In (let y : WordFact = record { version = c.version; row = g.row; index = index; word = x } in y) w.words)
    (sym (agrees f g e index of.0 of.1)) (knows_key c w place g k index (let lt = of.0 in omega arith, of.1))

-- the rule tells that no key stands twice, and so no row
module _ (c : Current) (F : List ℕ → Type 0) (w : View) (told : IsTold F w c.version) (o p : ℕ) (f g : Found) (a : IsKnownRow c w o f) (b : IsKnownRow c w p g)
  where
    pub row_once : f.row ≡ g.row → o ≡ p
    row_once e = told.keys_once o p f.row g.row (slice_index f.words) a.at b.at (knows_key c w o f a)
        (subst (λ (row : ℕ). KnowsKey w c.version row (slice_index f.words)) e (knows_key c w o f a))

    pub key_once : key_in f.words ≡ key_in g.words → o ≡ p
    key_once e = told.keys_once o p f.row g.row (slice_index f.words) a.at b.at (knows_key c w o f a) (knows_same c w p f g b e)

-- what is known of the rows that were found, and the rest by the rule
finds : (c : Current) (v w : View) (found : List (Option Found)) (F : List ℕ → Type 0) → IsEditorOf c w → Goes v w (page_loads c.sizes c.page 0 found)
    → w.role ≡ v.role → ((place : ℕ) (f : Found) → IsFoundAt found place f → IsKnownRow c w place f) → (v.share ≡ whole → Learns v.known w.known found)
    → IsTold F w c.version → FindsRows c v w found
finds c v w found F editor goes role known learns told = record {
  goes = goes;
  role = role;
  known = known;
  rows_in = λ place f a. subst (λ (z : Sizes). f.row < z.rows) editor.sizes (told.range f.row (place, (known place f a).at));
  words_once = λ place f index word a fact lt. told.words_once f.row index word (slice_index f.words index) fact ((known place f a).words index lt);
  learns = learns;
  inside = λ all some l i. subst (λ (z : Sizes). l.place < z.places) editor.sizes
      ((told.alike (goes.stays.share ∙ all) (role_of w) editor.has editor.version_is).inside l i);
  alike = λ all place f l index word a i e there lt. (told.alike (goes.stays.share ∙ all) (role_of w) editor.has editor.version_is).words l f.row index word
      (slice_index f.words index) i e there ((known place f a).words index lt);
  rows_once = λ o p f g a b. row_once c F w told o p f g (known o f a) (known p g b);
  keys_once = λ o p f g a b. key_once c F w told o p f g (known o f a) (known p g b);
}

-- nothing was found yet
pub begins : (c : Current) (v : View) → FindsRows c v v []
begins c v = record {
  goes = goes_nowhere v;
  role = refl;
  known = λ place f e. absurd (maybe.some-ne-none (Some f) (sym e));
  rows_in = λ place f e. absurd (maybe.some-ne-none (Some f) (sym e));
  words_once = λ place f index word e fact lt. absurd (maybe.some-ne-none (Some f) (sym e));
  learns = λ all. learns_none v.known;
  inside = λ all some. absurd (omega arith);
  alike = λ all place f l index word e i is there lt. absurd (maybe.some-ne-none (Some f) (sym e));
  rows_once = λ o p f g a b _. absurd (maybe.some-ne-none (Some f) (sym a));
  keys_once = λ o p f g a b _. absurd (maybe.some-ne-none (Some f) (sym a));
}

module _ (c : Current) (v w : View) (editor : IsEditorOf c v) (found : List (Option Found)) (so_far : FindsRows c v w found) where
  pub editor_then : IsEditorOf c w
  editor_then = editor_on c v w _ editor so_far.goes (role_of v) (so_far.role ∙ editor.has) refl refl

  -- the editor may speak of the page
  speaks : version_at w c.page ≡ Some c.version
  speaks = let e = editor_then in let r = role_of w in
      ap (λ p. version_pinned p (version_of_role w.role c.page) c.page) e.unpinned ∙ ap (λ o. version_of_role o c.page) e.has
      ∙ ap (λ b. cond b (Some r.newest.version) (version_given_up r.giving_up c.page)) (eq-eqb r.newest.page c.page e.page_is)
      ∙ ap (λ (n : ℕ). Some n) e.version_is

  module _ (place n : ℕ) (at : place ≡ length found) (u : View) (is : u ≡ after_load_place w c.page place n) where
    loads : Goes w u (loaded_place c.sizes c.page (length found) n ∷ [])
    loads = subst (λ (t : View). Goes w t (loaded_place c.sizes c.page (length found) n ∷ []))
        (sym (is ∙ ap (λ (p : ℕ). after_load_place w c.page p n) at)) (record {
          stays = record { sizes = refl; share = refl; pins_left = refl; log_words = refl; pinned = refl; own = refl };
          log = refl;
          steps = ap (λ (z : Sizes). w.steps ++ loaded_place z c.page (length found) n ∷ []) editor_then.sizes;
        })

    same_role : u.role ≡ w.role
    same_role = ap (λ (y : View). y.role) is ∙ load_keeps_role w (role_of w) c.page place n editor_then.has editor_then.keeps_all

    more_entries : (e : EntryFact) → In e w.entries → In e u.entries
    more_entries e i = subst (λ (y : View). In e y.entries) (sym is) (entry_grows (version_at w c.page) w.entries place n e i)

    more_words : (x : WordFact) → In x w.words → In x u.words
    more_words x i = subst (λ (y : View). In x y.words) (sym is) i

    pub editor_at : IsEditorOf c u
    editor_at = editor_on c w u _ editor_then loads (role_of w) (same_role ∙ editor_then.has) refl refl

    pub next_at : next_log_of u ≡ next_log_of v
    next_at = next_stays v u (loads.log ∙ so_far.goes.log) (same_role ∙ so_far.role)

    known_at : v.share ≡ whole → u.known ≡ learned_place place n w.known
    known_at all = let e = editor_then in ap (λ (y : View). y.known) is
        ∙ met_is w (role_of w) c.page place n (so_far.goes.stays.share ∙ all) e.has e.page_is

    is_known : IsAsKnown w c.page place n → v.share ≡ whole → (l : KnownPlace) → In l w.known → l.place ≡ place → n ≡ l.met
    is_known as_known all l i there = let e = editor_then in as_known (so_far.goes.stays.share ∙ all) (role_of w) l e.has e.page_is i there

    -- the place was empty
    pub empty : (L : List Entry → Type 0) (F : List Entry → List ℕ → Type 0) → Tells L F u → IsAsKnown w c.page place n → n ≡ 0
        → FindsRows c v u (found ++ None ∷ [])
    empty L F told as_known e = let goes = goes_on v w u (page_loads c.sizes c.page 0 found) _ so_far.goes loads in
        finds c v u (found ++ None ∷ []) (F u.log) editor_at
        (goes_as v u _ (page_loads c.sizes c.page 0 (found ++ None ∷ [])) (ap (λ (k : ℕ). page_loads c.sizes c.page 0 found
        ++ loaded_place c.sizes c.page (length found) k ∷ []) e ∙ sym (loads_next c.sizes c.page found None)) goes)
        (same_role ∙ so_far.role)
        (λ p f a. known_on c w u p f more_entries more_words (so_far.known p f (at_none found p f a)))
        (λ all. subst (λ (ks : List KnownPlace). Learns v.known ks (found ++ None ∷ [])) (sym (known_at all))
        (learns_empty v.known w.known found (so_far.learns all) place n at (is_known as_known all) e)) (told_of L F c u editor_at told).1

    -- a row was met
    module _ (row : ℕ) (met : n ≡ suc row) where
      entries : u.entries ≡ record { version = c.version; place = place; row = row } ∷ w.entries
      entries = ap (λ (y : View). y.entries) is ∙ ap (λ (o : Option ℕ). met_entry o w.entries place n) speaks
          ∙ ap (met_entry (Some c.version) w.entries place) met

      pub named : version_of u.entries row ≡ Some c.version
      named = ap (λ es. version_of es row) entries ∙ names_it c.version w.entries place row

      pub row_in : (L : List Entry → Type 0) (F : List Entry → List ℕ → Type 0) → Tells L F u → row < c.sizes.rows
      row_in L F told = let e = editor_at in subst (λ (z : Sizes). row < z.rows) e.sizes
          ((told_of L F c u e told).1.range row (names_known u c.version row named))

      -- and read whole
      module _ (x : View) (words : List ℕ) (reads : ReadsRow c u x row words) (whole : IsWholeRow words) where
        abbrev f : Found
        f = record { row = row; words = words }

        new_known : IsKnownRow c x (length found) (record { row = row; words = words })
        new_known = record {
          at = subst (λ (es : List EntryFact). In (let e : EntryFact = record { version = c.version; place = length found; row = row } in e) es)
              (sym (reads.entries ∙ entries))
              (inl (λ i. record { version = c.version; place = sym at i; row = row }));
          words = reads.known;
          is_whole = whole;
        }

        all_known : (p : ℕ) (g : Found) → IsFoundAt (found ++ Some (record { row = row; words = words }) ∷ []) p g → IsKnownRow c x p g
        all_known p g a = elim (at_some found (record { row = row; words = words }) p g a) [
          | inl old ↦ known_on c w x p g (λ e i. subst (In e) (sym reads.entries) (more_entries e i)) (λ y i. reads.earlier y (more_words y i))
              (so_far.known p g old)
          | inr new ↦ subst (λ (t : ℕ × Found). IsKnownRow c x t.0 t.1) (λ i. (sym new.0 i, new.1 i)) new_known
        ]

        pub editor_after : IsEditorOf c x
        editor_after = editor_on c u x _ editor_at reads.goes (role_of u) (reads.role ∙ editor_at.has) refl refl

        pub found_row : (L : List Entry → Type 0) (F : List Entry → List ℕ → Type 0) → Tells L F x → IsAsKnown w c.page place n
            → FindsRows c v x (found ++ Some (record { row = row; words = words }) ∷ [])
        found_row L F told as_known =
            let a = page_loads c.sizes c.page 0 found in let b = loaded_place c.sizes c.page (length found) n ∷ [] in let d = row_loads c.sizes row 0 words in
            let goes = goes_on v w x a (b ++ d) so_far.goes (goes_on w u x b d loads reads.goes) in
            finds c v x (found ++ Some (record { row = row; words = words }) ∷ []) (F x.log) editor_after
            (goes_as v x _ (page_loads c.sizes c.page 0 (found ++ Some (record { row = row; words = words }) ∷ []))
            (ap (λ (k : ℕ). a ++ loaded_place c.sizes c.page (length found) k ∷ d) met ∙ sym (loads_next c.sizes c.page found (Some (record {
              row = row;
              words =
                  words;
            })))) goes)
            (reads.role ∙ same_role ∙ so_far.role) all_known
            (λ all. learns_row v.known w.known found (so_far.learns all) place n at (is_known as_known all) row words met x.known
            (subst (λ (ks : List KnownPlace). Grown ks x.known) (known_at all) reads.grown)
            (reads.shows (loads.stays.share ∙ so_far.goes.stays.share ∙ all))) (told_of L F c x editor_after told).1
