-- A place of the page in the making keeps the rule.
use Rattle.std.proofs.Common.{
  ◌≡◌,
  ◌≢◌,
  ℕ,
  suc,
  ◌+◌,
  ◌<◌,
  List,
  [],
  ◌∷◌,
  ◌++◌,
  inl,
  inr,
  length,
  length-append,
  set,
  length-set,
  slice_index,
  sym,
  refl,
  ap,
  ◌∙◌,
}
use Rattle.std.proofs.Common.{subst, arith}
use Rattle.std.proofs.lemmas.Bool.{cases_lt}
use Rattle.std.proofs.Math.ListN.{get_or-append}
use Rattle.std.proofs.Math.Seq.{get_or-append_seam}
use mathlib.Core.Option as maybe
use lib.ListN.{get_elem?}
use Rattle.std.specs.Prelude.{Some, Option}
use Rattle.pin_rule.specs.declared.content.Entry.{Entry}
use Rattle.pin_rule.specs.declared.view.View.{View}
use Rattle.pin_rule.specs.declared.view.Live.{Live}
use Rattle.pin_rule.specs.declared.view.Making.{Making}
use Rattle.pin_rule.specs.declared.view.Role.{Role}
use Rattle.pin_rule.specs.declared.ops.Op.TheVariants as op
use Rattle.pin_rule.specs.Layout.{place_word, entry, row_at}
use Rattle.pin_rule.specs.Rows.{content_of}
use Rattle.pin_rule.specs.Views.{now, IsLiveVersion}
use Rattle.pin_rule.specs.Pages.{IsHeld}
use Rattle.pin_rule.specs.PartCurrent.{IsMaking, IsCurrent, IsNextLog}
use Rattle.pin_rule.specs.PartFacts.{WordStands}
use Rattle.pin_rule.specs.Lawful.{Lawful}
use Rattle.pin_rule.specs.Steps.{after_write_place}
use Rattle.pin_rule.specs.Making.{begun, next_log, with_place_word}
use Rattle.pin_rule.specs.NextVersion.{IsKeepable, IsPlaceWord}
use Rattle.pin_rule.specs.Keeps.{Keeps}
use Rattle.pin_rule.proofs.Lists.{each_in}
use Rattle.pin_rule.proofs.Frames.{Same, content_same, wrote, place_in, place-cur, place-release, place-claim, place-entry, place-page, place-row, place-logged}
use Rattle.pin_rule.proofs.Seats.{none_some, same_some}
use Rattle.pin_rule.proofs.Versions.{newest_live, making_apart, given_apart, is_role, log_of_editor}
use Rattle.pin_rule.proofs.Parts.{Kept, held_on, content_stays}
use Rattle.pin_rule.proofs.MakingOn.{role_making, makes}

-- there is one log with this entry
pub one_next_log : (log next : List Entry) (m : Making) → IsNextLog log m.entry next → next ≡ next_log log m
one_next_log log next m n = n.3 ∙ (λ i. log ++ record { words = n.2 i } ∷ [])

module _ (L : List Entry → Type 0) (F : List Entry → List ℕ → Type 0) (v : View) (m : Making) (words : List ℕ) (views : List View) (id page place word : ℕ)
    (at : get_elem? views id ≡ maybe.some v) (h : Lawful L F v.sizes words views) (new : IsPlaceWord F v h.role m page place word)
    (inside : place < v.sizes.places) where
  abbrev words' : List ℕ
  words' = set words (place_word v.sizes page place) word

  abbrev m' : Making
  m' = record m { places = m.places ++ word ∷ [] }

  log_is : v.log ≡ h.log
  log_is = log_of_editor L F v.sizes words views id v at h h.role new.has

  before : IsMaking v.sizes words h.log m
  before = h.current.making m new.making

  page_in : page < v.sizes.versions
  page_in = let b = before.page_in in let same = new.page_is in omega arith

  -- no live version has the page
  apart : (l : Live) → IsLiveVersion h.role l → l.page ≢ page
  apart l i e = making_apart v.sizes h.role h.live m l new.making i (e ∙ new.page_is)

  same : (r : ℕ) → Same v.sizes.width (row_at v.sizes words r) (row_at v.sizes words' r)
  same r i _ = sym (place-row v.sizes words word page place r i page_in inside)

  kept : Kept v.sizes words words' h.role
  kept = record {
    places = λ l p i pi. place-page v.sizes words word page place l.page p inside pi (apart l i);
    in_use = λ r ri c _. place-claim v.sizes words word page place r ri ∙ c;
    rows = λ r _ _ _. same r;
    given = λ g p is pi. place-page v.sizes words word page place g.page p inside pi
        (λ e. given_apart v.sizes h.role h.live m g new.making is (e ∙ new.page_is));
  }

  has_making : with_place_word (Some h.role) word ≡ Some (role_making h.role m')
  has_making = ap (λ (o : Option Making). Some (role_making h.role (let b = begun h.role o in record b { places = b.places ++ word ∷ [] }))) new.making

  place_words : (p : ℕ) → p < length m'.places → entry v.sizes words' m.page p ≡ slice_index m'.places p
  place_words p lt = let ns = m.places in let next = new.place_is in let long = length-append ns (word ∷ []) in
      ap (λ (q : ℕ). entry v.sizes words' q p) (sym new.page_is) ∙ elim (cases_lt p (length ns)) [
        | inl below ↦ place-entry v.sizes words word page place p (λ e. omega arith) ∙ ap (λ (q : ℕ). entry v.sizes words q p) new.page_is
            ∙ before.places_are p below ∙ sym (get_or-append ns (word ∷ []) 0 p below)
        | inr above ↦ let here : p ≡ length ns = omega arith in
            ap (λ (q : ℕ). entry v.sizes words' page q) (here ∙ sym next)
            ∙ wrote v.sizes words word (place_word v.sizes page place) h.long (place_in v.sizes page place page_in inside)
            ∙ sym (get_or-append_seam ns word [] 0) ∙ ap (slice_index m'.places) (sym here)
      ]

  making' : IsMaking v.sizes words' h.log m'
  making' = let b = before in let next = new.place_is in let long = length-append m.places (word ∷ []) in record {
    room = b.room;
    page_in = b.page_in;
    entry_in = b.entry_in;
    entry_is = λ i lt. place-logged v.sizes words word page place (length h.log) i page_in inside ∙ b.entry_is i lt;
    places_in = omega arith;
    places_after = λ _. new.entry_whole;
    places_are = place_words;
  }

  current' : IsCurrent L v.sizes words' h.log (role_making h.role m') h.taken
  current' = let c = h.current in record {
    cur = place-cur v.sizes words word page place ∙ c.cur;
    version = c.version;
    log_in = c.log_in;
    log_wide = c.log_wide;
    log_is = λ i j e is lt. place-logged v.sizes words word page place i j page_in inside ∙ c.log_is i j e is lt;
    lawful_log = c.lawful_log;
    making = λ o is. subst (IsMaking v.sizes words' h.log) (same_some m' o is) making';
    next_log = λ o next is to. c.next_log m next new.making (subst (λ (x : Making). IsNextLog h.log x.entry next) (sym (same_some m' o is)) to);
  }

  -- a row whose words are known stands in the newest page, and fits the next log
  fitting : (row : ℕ) (next : List Entry) → IsNextLog h.log m.entry next → IsKeepable F v m row
      → IsHeld v.sizes words h.role.newest.page row × F next (content_of (row_at v.sizes words row))
  fitting row next to k = let g = k.0 in let f = row_at v.sizes words row in
      let stands : (i : ℕ) → i < 2 + (g 0 + g 1) → WordStands v.sizes words h.role (record { version = now v; row = row; index = i; word = g i })
      = λ i lt. each_in (WordStands v.sizes words h.role) _ v.words (h.facts id v at).1 (k.1 i lt) in
      let newest : h.role.newest.version ≡ now v = sym h.current.version ∙ sym (ap length log_is) in
      let is : Same (2 + (g 0 + g 1)) f g = λ i lt. ((stands i lt).live h.role.newest (newest_live h.role) newest).1.1 in
      let a : f 0 ≡ g 0 = is 0 (omega arith) in let b : f 1 ≡ g 1 = is 1 (omega arith) in (
        ((stands 0 (omega arith)).live h.role.newest (newest_live h.role) newest).0,
        subst (λ (log : List Entry). F log (content_of f)) (ap (λ (log : List Entry). next_log log m) log_is ∙ sym (one_next_log h.log next m to))
            (subst (F (next_log v.log m)) (sym (content_same f g (2 + (g 0 + g 1)) (omega arith) is)) k.2),
      )

  kept_before : (next : List Entry) (p row : ℕ) → IsNextLog h.log m.entry next → p < length m'.places → slice_index m'.places p ≡ suc row
      → IsHeld v.sizes words h.role.newest.page row × F next (content_of (row_at v.sizes words row))
  kept_before next p row to lt e = let ns = m.places in let long = length-append ns (word ∷ []) in elim (cases_lt p (length ns)) [
    | inl below ↦ h.carried.kept m next p row new.making to below (sym (get_or-append ns (word ∷ []) 0 p below) ∙ e)
    | inr above ↦ let here : p ≡ length ns = omega arith in
        let is : word ≡ suc row = sym (get_or-append_seam ns word [] 0) ∙ ap (slice_index m'.places) (sym here) ∙ e in elim new.word_is [
          | inl none ↦ absurd (omega arith)
          | inr k ↦ let word_is = k.1 in let same_row : k.0 ≡ row = omega arith in
              fitting row next to (subst (IsKeepable F v m) same_row k.2)
        ]
  ]

  writes_place : Lawful L F v.sizes words' (set views id (after_write_place v page place word))
  writes_place = let z = v.sizes in let role = h.role in
      makes L F z words words' views id v (after_write_place v page place word) at h m'
      (record {
        long = length-set words (place_word z page place) word;
        releases = λ q qi. place-release z words word page place q qi;
        claims = λ r ri. place-claim z words word page place r ri;
        rows = λ r _. same r;
        kept = kept;
      })
      (record {
        sizes = refl;
        share = refl;
        own = refl;
        steady = record { log = refl; log_words = refl; pinned = refl; pins_left = refl };
        knows = h.facts id v at;
        whole = h.known id v at;
        right = (let right = h.shares.rightful id v at in (λ e. let r = right.0 e in absurd (none_some h.role (sym r.2 ∙ new.has)), right.1));
      })
      (record {
        was = new.has;
        is = ap (λ (o : Option Role). with_place_word o word) new.has ∙ has_making;
        current = current';
        room = h.live.room m new.making;
        apart = h.live.making m new.making;
        keeps = λ next p row to lt e. let k = kept_before next p row to lt e in let i = newest_live role in (
          held_on z words words' role kept role.newest row i k.0,
          content_stays z words words' role F h.log h.live h.pages kept next role.newest row i k.0 k.1,
        );
      })

module _ (L : List Entry → Type 0) (F : List Entry → List ℕ → Type 0) (v : View) (r : Role) (m : Making) (page place word : ℕ)
    (next : IsPlaceWord F v r m page place word) where
  pub keeps_write_place : place < v.sizes.places → Keeps L F v (op.WritePlace page place word)
  keeps_write_place inside words views id n h at _ = writes_place L F v m words views id page place word at h
      (subst (λ (x : Role). IsPlaceWord F v x m page place word) (is_role L F v.sizes words views id v at h r next.has) next) inside
