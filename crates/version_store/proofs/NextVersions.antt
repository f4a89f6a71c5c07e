-- The parts of an edit together make the next version.
use Rattle.std.proofs.Common.{◌≡◌, ◌≢◌, ℕ, suc, ◌+◌, ◌<◌, List, [], ◌∷◌, ◌++◌, length, slice_index, append_assoc, eq-eqb, sym, refl, ap, ◌∙◌, subst, arith}
use Rattle.std.specs.Prelude.{Option, Some, None, Bool}
use mathlib.Core.Option as maybe
use mathlib.Core.Bool.{cond}
use lib.ListN.{get_elem?}
use Rattle.pin_rule.specs.declared.sizes.Sizes.{Sizes}
use Rattle.pin_rule.specs.declared.content.Entry.{Entry}
use Rattle.pin_rule.specs.declared.view.View.{View}
use Rattle.pin_rule.specs.declared.view.Step.{Step}
use Rattle.pin_rule.specs.declared.view.Role.{Role}
use Rattle.pin_rule.specs.declared.view.Making.{Making}
use Rattle.pin_rule.specs.declared.view.WordFact.{WordFact}
use Rattle.pin_rule.specs.declared.view.KnownPlace.{KnownPlace}
use Rattle.pin_rule.specs.declared.ops.Op.TheVariants as op
use Rattle.pin_rule.specs.Layout.{version_named, page_named, taken_named}
use Rattle.pin_rule.specs.Lists.{In}
use Rattle.pin_rule.specs.Rows.{key_of, on_path}
use Rattle.pin_rule.specs.Views.{whole, now}
use Rattle.pin_rule.specs.Making.{making_of, making_in, by_making, next_log, rows_of, places_known, with_version, role_with_version}
use Rattle.pin_rule.specs.PartLive.{known_release}
use Rattle.pin_rule.specs.Steps.{swapped, known_after, after_swap_current}
use Rattle.pin_rule.specs.Told.{KnowsKey}
use Rattle.pin_rule.specs.Keeps.{Keeps}
use Rattle.pin_rule.specs.NextVersion.{IsKeepable, IsWritten, IsWholePage}
use Rattle.pin_rule.proofs.Lists.{in_at, at_in}
use Rattle.pin_rule.proofs.Seats.{same_some}
use Rattle.pin_rule.proofs.KindSwapCurrent.{keeps_swap_current}
use Rattle.version_store.specs.declared.current.Current.{Current}
use Rattle.version_store.specs.Roles.{role_of, role_or_first}
use Rattle.version_store.specs.Rows.{Found, IsWholeRow}
use Rattle.version_store.specs.Edits.{KeepsExactly, entry_stores, page_loads, page_stores}
use Rattle.version_store.specs.Stages.{IsFoundAt, IsEditorOf, Stays, next_log_of, with_making, making_entry, WritesEntry, FindsRows, WritesPage}
use Rattle.version_store.specs.Graphs.{IsWholeKnown}
use Rattle.version_store.specs.Choices.{HasChosen, KeepsRows, MakesNext}
use Rattle.version_store.proofs.Going.{stays_on, editor_on}
use Rattle.version_store.proofs.EntryWords.{made_is}
use Rattle.version_store.proofs.WholeRows.{content_is}
use Rattle.version_store.proofs.GraphRows.{was_found, is_found, keeps_rows}
use Rattle.version_store.proofs.PageRows as rows
use Rattle.version_store.proofs.RowsByNumber.{words_by, words_at, in_slice, slice_in}

-- an entry that has words is in the making
some_entry : (page : ℕ) (entry : List ℕ) → length entry ≡ 32 → making_entry page entry ≡ Some record { page = page; entry = entry; places = [] }
some_entry page [] e = absurd (omega arith)
some_entry page (x ∷ xs) e = refl

-- The entry is written

module _ (c : Current) (v w : View) (entry : List ℕ) (editor : IsEditorOf c v) (wrote : WritesEntry c v w entry) (long : length entry ≡ 32) where
  role_is : role_of w ≡ with_making (role_of v) (making_entry c.next entry)
  role_is = ap role_or_first wrote.role

  pub editor_written : IsEditorOf c w
  editor_written = editor_on c v w _ editor wrote.goes (with_making (role_of v) (making_entry c.next entry)) wrote.role refl refl

  pub next_is : next_log_of w ≡ v.log ++ record { words = entry } ∷ []
  next_is = (λ i. next_log (wrote.goes.log i) (making_of (role_is i))) ∙ ap (λ (ws : List ℕ). v.log ++ record { words = ws } ∷ [])
      (made_is (role_of v) c.next entry)

  pub making_is : (role_of w).making ≡ Some record { page = c.next; entry = entry; places = [] }
  making_is = ap (λ (r : Role). r.making) role_is ∙ some_entry c.next entry long

-- The rows are chosen

module _ (c : Current) (F : List Entry → List ℕ → Type 0) (keeps : List ℕ → Type 0) (v w : View) (entry : List ℕ) (found : List (Option Found))
    (places : List ℕ)
    (next : List Entry) (editor : IsEditorOf c v) (finds : FindsRows c v w found) (chosen : HasChosen keeps (F next) c.sizes found places) where
  pub editor_chosen : IsEditorOf c w
  editor_chosen = rows.editor_then c v w editor found finds

  -- a row that stands in the page may be kept
  pub keepable : (m : Making) → next_log w.log m ≡ next → (place row : ℕ) → slice_index places place ≡ suc row → IsKeepable F w m row
  keepable m same place row is = let k = chosen.kept place row is in let f = k.1 in let known = finds.known k.0 k.1 k.2 in (
    slice_index f.words,
    λ index lt. subst (λ (t : ℕ × ℕ). In (let x : WordFact = record {
      version = t.0;
      row = t.1;
      index = index;
      word =
          slice_index f.words index;
    } in x) w.words) (λ i. (editor_chosen.at i, k.3 i)) (known.words index (let whole = known.is_whole in omega arith)),
    subst (λ (t : List Entry × List ℕ). F t.0 t.1) (λ i. (sym same i, sym (content_is f.words known.is_whole) i)) k.5,
  )

  -- what stands in the page is whole, on its path and there once
  module _ (u : View) (m : Making) (entries : u.words ≡ w.words) (log : u.log ≡ w.log) (sizes : u.sizes ≡ c.sizes) (made : m.places ≡ places)
      (entry_whole : length m.entry ≡ 32) where
    stands : (place row : ℕ) → IsWritten m place row → slice_index places place ≡ suc row
    stands place row is = ap (λ (l : List ℕ). slice_index l place) (sym made) ∙ is.1

    words_are : (place row : ℕ) (is : IsWritten m place row) → words_by found row ≡ slice_index (chosen.kept place row (stands place row is)).1.words
    words_are place row is = let k = chosen.kept place row (stands place row is) in
        ap (words_by found) (sym k.3) ∙ words_at found finds.rows_once k.0 k.1 k.2

    version_is : c.version ≡ now u
    version_is = editor_chosen.at ∙ ap length (sym log)

    key_known : (place row : ℕ) → IsWritten m place row → KnowsKey u (now u) row (words_by found row)
    key_known place row is index of = let k = chosen.kept place row (stands place row is) in let known = finds.known k.0 k.1 k.2 in
        let same = words_are place row is in
        let lt : index < length k.1.words = (let whole = known.is_whole in let a = of.0 in let b = ap (λ (g : ℕ → ℕ). g 0) same in omega arith) in
        subst (λ (t : (ℕ × ℕ) × (ℕ × List WordFact)). In (let x : WordFact = record { version = t.0.0; row = t.0.1; index = index; word = t.1.0 } in x) t.1.1)
        (λ i. ((version_is i, k.3 i), (sym same i index, sym entries i))) (known.words index lt)

    pub whole_page : IsWholePage u m
    whole_page = record {
      entry_whole = entry_whole;
      places_whole = ap length made ∙ chosen.room ∙ ap (λ (z : Sizes). z.places) (sym sizes);
      words = words_by found;
      keys = key_known;
      paths = λ place row is. let k = chosen.kept place row (stands place row is) in let p = k.6 in let same = sym (words_are place row is) in (
        p.0,
        subst (λ (z : Sizes). p.0 < z.places) (sym sizes) p.1,
        subst (λ (t : Sizes × (ℕ → ℕ)). on_path t.0 (key_of t.1) p.0 ≡ place) (λ i. (sym sizes i, same i)) p.2,
        subst (λ (t : (Sizes × (ℕ → ℕ)) × List ℕ). (before : ℕ) → before < p.0 → slice_index t.1 (on_path t.0.0 (key_of t.0.1) before) ≢ 0)
            (λ i. ((sym sizes i, same i), sym made i)) p.3,
      );
      keys_once = λ p q a b x y e. let j = chosen.kept p a (stands p a x) in let k = chosen.kept q b (stands q b y) in
          let same = finds.keys_once j.0 k.0 j.1 k.1 j.2 k.2 (ap key_of (sym (words_are p a x)) ∙ e ∙ ap key_of (words_are q b y)) in
          let one = same_some j.1 k.1 (maybe.some-injective (Some j.1) (Some k.1) (sym j.2 ∙ ap (get_elem? found) same ∙ k.2)) in
          chosen.once p q a (stands p a x) (stands q b y ∙ ap suc (sym k.3 ∙ ap (λ (f : Found). f.row) (sym one) ∙ j.3));
    }

-- the rows that were found and kept are those of the page
pub keeps_exactly : (keeps next : List ℕ → Type 0) (z : Sizes) (found : List (Option Found)) (places : List ℕ) → HasChosen keeps next z found places
    → KeepsExactly keeps found places
keeps_exactly keeps next z found places h = record {
  every = λ f i keep. let a = in_at (Some f) found i in let e = h.every a.0 f a.1 keep in let room = h.room in let lt = e.1 in
      subst (λ (n : ℕ). In n places) e.2 (slice_in places e.0 (omega arith));
  only = λ row i. let s = in_slice (suc row) places i in let k = h.kept s.0 row s.2 in (k.1, at_in (Some k.1) found k.0 k.2, k.3, k.4);
  once = h.once;
}

-- The swap

module _ (u x : View) (r : Role) (m : Making) (version page met : ℕ) (has : u.role ≡ Some r) (making : r.making ≡ Some m)
    (is : x ≡ after_swap_current u version page met) where
  role_after : x.role ≡ Some (with_version r m version page met)
  role_after = ap (λ (y : View). y.role) is ∙ ap (λ (o : Option Role). role_with_version o version page met) has
      ∙ ap (λ (o : Option Making). Some (by_making o r (λ (n : Making). with_version r n version page met))) making

  log_after : x.log ≡ next_log u.log m
  log_after = ap (λ (y : View). y.log) is
      ∙ ap (λ (o : Option Making). by_making o u.log (λ (n : Making). next_log u.log n)) (ap making_in has ∙ making)

  stays_after : Stays u x
  stays_after = subst (Stays u) (sym is) (record { sizes = refl; share = refl; pins_left = refl; log_words = refl; pinned = refl; own = refl })

  steps_after : x.steps ≡ u.steps ++ swapped version page met ∷ []
  steps_after = ap (λ (y : View). y.steps) is

-- four lists of steps, one after the other
four : (s a b d e t : List Step) (t1 t2 t3 : List Step) → t1 ≡ s ++ a → t2 ≡ t1 ++ b → t3 ≡ t2 ++ d → t ≡ t3 ++ e → t ≡ s ++ (a ++ (b ++ (d ++ e)))
four s a b d e t t1 t2 t3 p q r w = w ∙ ap (λ (l : List Step). l ++ e) r ∙ append_assoc t2 d e ∙ ap (λ (l : List Step). l ++ (d ++ e)) q
    ∙ append_assoc t1 b (d ++ e) ∙ ap (λ (l : List Step). l ++ (b ++ (d ++ e))) p ∙ append_assoc s a (b ++ (d ++ e))

-- The whole edit

-- the role once the rows are chosen
module _ (c : Current) (v v1 v2 : View) (entry : List ℕ) (found : List (Option Found)) (wrote : WritesEntry c v v1 entry) (finds : FindsRows c v1 v2 found)
  where
    role_chosen : role_of v2 ≡ with_making (role_of v) (making_entry c.next entry)
    role_chosen = ap role_or_first (finds.role ∙ wrote.role)

    pub making_chosen : length entry ≡ 32 → (role_of v2).making ≡ Some record { page = c.next; entry = entry; places = [] }
    making_chosen long = ap (λ (y : Role). y.making) role_chosen ∙ some_entry c.next entry long

module _ (c : Current) (F : List Entry → List ℕ → Type 0) (keeps : List ℕ → Type 0) (v v1 v2 v3 : View) (entry : List ℕ) (found : List (Option Found))
    (places : List ℕ) (editor : IsEditorOf c v) (long : length entry ≡ 32) (wrote : WritesEntry c v v1 entry) (finds : FindsRows c v1 v2 found)
    (chosen : HasChosen keeps (F (next_log_of v1)) c.sizes found places) (wrote_page : WritesPage c v2 v3 places) (every : length found ≡ c.sizes.places) where
  abbrev m : Making
  m = record { page = c.next; entry = entry; places = places }

  role_before : role_of v2 ≡ with_making (role_of v) (making_entry c.next entry)
  role_before = role_chosen c v v1 v2 entry found wrote finds

  has : v3.role ≡ Some (with_making (role_of v) (Some (record { page = c.next; entry = entry; places = places })))
  has = wrote_page.role (record { page = c.next; entry = entry; places = [] }) (making_chosen c v v1 v2 entry found wrote finds long) refl
      ∙ ap (λ (y : Role). Some (with_making y (Some (record { page = c.next; entry = entry; places = places })))) role_before

  editor_first : IsEditorOf c v1
  editor_first = editor_written c v v1 entry editor wrote long

  editor_second : IsEditorOf c v2
  editor_second = editor_chosen c F keeps v1 v2 entry found places (next_log_of v1) editor_first finds chosen

  editor_third : IsEditorOf c v3
  editor_third = editor_on c v2 v3 _ editor_second wrote_page.goes (with_making (role_of v) (Some m)) has (ap (λ (y : Role). y.newest) (sym role_before))
      (ap (λ (y : Role). y.giving_up) (sym role_before))

  -- the new version may be made the current one
  pub may_swap : (L : List Entry → Type 0) → Keeps L F v3 (op.SwapCurrent (c.version + 1) c.next)
  may_swap L = let e = editor_third in keeps_swap_current L F v3 (with_making (role_of v) (Some m)) m (c.version + 1) c.next (record {
    has = has;
    making = refl;
    version_is = (let a = e.at in omega arith);
    page_is = refl;
    whole = whole_page c F keeps v1 v2 entry found places
        (next_log_of v1) editor_first finds chosen v3 m wrote_page.words wrote_page.goes.log e.sizes refl long;
  }) e.share

  -- with the whole share

  sharing : v3.share ≡ v.share
  sharing = (stays_on v v1 v3 wrote.goes.stays (stays_on v1 v2 v3 finds.goes.stays wrote_page.goes.stays)).share

  known_is : (x : View) (met : ℕ) → x ≡ after_swap_current v3 (c.version + 1) c.next met → v3.share ≡ whole
      → x.known ≡ places_known c.version v2.words 0 places
  known_is x met is all = ap (λ (y : View). y.known) is ∙ ap (λ (o : Option Making). by_making o [] (known_after v3)) (ap making_in has)
      ∙ ap (λ (b : Bool). cond b (places_known (now v3) v3.words 0 places) []) (eq-eqb v3.share whole all)
      ∙ (λ i. places_known (sym editor_third.at i) (wrote_page.words i) 0 places)

  rows_kept : v1.share ≡ whole → IsWholeKnown c.sizes v1.known → KeepsRows keeps c.sizes v.known (places_known c.version v2.words 0 places)
  rows_kept all before = let wholes : (o : ℕ) (f : Found) → IsFoundAt found o f → IsWholeRow f.words = λ o f e. (finds.known o f e).is_whole in
      subst (λ (ks : List KnownPlace). KeepsRows keeps c.sizes ks
      (places_known c.version v2.words 0 places)) wrote.known
      (keeps_rows c.sizes keeps (F (next_log_of v1)) v1.known found places c.version v2.words chosen wholes (λ o f index e lt.
      (finds.known o f e).words index lt)
      (λ o f index word e there lt. finds.words_once o f index word e there lt)
      (was_found c.sizes v1.known v2.known found every (finds.learns all) wholes (finds.alike all) before)
      (is_found c.sizes v1.known v2.known found every (finds.learns all) wholes (finds.alike all) before))

  pub makes : (x : View) (met : ℕ) → x ≡ after_swap_current v3 (c.version + 1) c.next met
      → ((y : Role) → v3.role ≡ Some y → (version_named met ≡ y.newest.version) × (page_named met ≡ y.newest.page)) → MakesNext keeps c v x entry places met
  makes x met is named = let e = editor_third in let n : ℕ = c.version + 1 in let next : n ≡ suc c.version = omega arith in
      let said = named (with_making (role_of v) (Some m)) has in record {
        found = found;
        stays = stays_on v v1 x wrote.goes.stays (stays_on v1 v2 x finds.goes.stays (stays_on v2 v3 x wrote_page.goes.stays
            (stays_after v3 x (with_making (role_of v) (Some m)) m n c.next met has refl is)));
        steps = four v.steps (entry_stores c.sizes c.version 0 entry) (page_loads c.sizes c.page 0 found) (page_stores c.sizes c.next 0 places)
            (swapped (suc c.version) c.next met ∷ []) x.steps v1.steps v2.steps v3.steps wrote.goes.steps finds.goes.steps wrote_page.goes.steps
            (steps_after v3 x (with_making (role_of v) (Some m)) m n c.next met has refl is ∙ ap (λ (k : ℕ). v3.steps ++ swapped k c.next met ∷ []) next);
        log = log_after v3 x (with_making (role_of v) (Some m)) m n c.next met has refl is
            ∙ ap (λ (l : List Entry). l ++ record { words = entry } ∷ []) (wrote_page.goes.log ∙ finds.goes.log ∙ wrote.goes.log);
        every_place = every;
        whole_rows = λ f i. let a = in_at (Some f) found i in (finds.known a.0 f a.1).is_whole;
        every_new_place = chosen.room;
        kept = keeps_exactly keeps (F (next_log_of v1)) c.sizes found places chosen;
        version_before = said.0 ∙ editor.version_is;
        page_before = said.1 ∙ editor.page_is;
        rows_in = λ place row is. let k = chosen.kept place row is in subst (λ (i : ℕ). i < c.sizes.rows) k.3 (finds.rows_in k.0 k.1 k.2);
        graph = λ all before. subst (KeepsRows keeps c.sizes v.known) (sym (known_is x met is (sharing ∙ all)))
            (rows_kept (wrote.goes.stays.share ∙ all) (subst (IsWholeKnown c.sizes) (sym wrote.known) before));
        role = role_after v3 x (with_making (role_of v) (Some m)) m n c.next met has refl is ∙ (λ i. Some (record (role_of v) {
          newest = record { version = next i; page = c.next; base = known_release (role_of v).released c.next; carried = rows_of places };
          older = record { live = (role_of v).newest; taken = taken_named met } ∷ (role_of v).older;
          making = None;
        }));
      }
