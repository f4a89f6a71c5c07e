-- A publication keeps the rule.
use Rattle.std.proofs.Common.{◌≡◌, ◌≢◌, ℕ, zero, suc, ◌+◌, ◌-◌, ◌<◌, List, [], ◌∷◌, inl, inr, ◌⊎◌, set, take, length-set, eq-eqb, ne_eqb, sym, refl, ap, ◌∙◌}
use Rattle.std.proofs.Common.{subst, arith}
use Rattle.std.proofs.lemmas.Bool.{cases_lt}
use mathlib.Core.Option as maybe
use mathlib.Core.Bool.{cond}
use mathlib.Core.Logic.{dite}
use native.Mathlib.Decide.{ℕ_discrete}
use lib.ListN.{get_elem?}
use Rattle.std.specs.Prelude.{Some, None, Option, Bool, true, false}
use Rattle.pin_rule.specs.declared.sizes.Sizes.{Sizes}
use Rattle.pin_rule.specs.declared.content.Entry.{Entry}
use Rattle.pin_rule.specs.declared.view.View.{View}
use Rattle.pin_rule.specs.declared.view.Pin.{Pin}
use Rattle.pin_rule.specs.declared.view.Live.{Live}
use Rattle.pin_rule.specs.declared.view.Role.{Role}
use Rattle.pin_rule.specs.declared.view.OwnRow.{OwnRow}
use Rattle.pin_rule.specs.declared.view.WordFact.{WordFact}
use Rattle.pin_rule.specs.declared.view.KnownPlace.{KnownPlace}
use Rattle.pin_rule.specs.declared.view.GivingUp.{GivingUp}
use Rattle.pin_rule.specs.declared.ops.Op.TheVariants as op
use Rattle.pin_rule.specs.Layout.{place_word, claim, entry, row_at}
use Rattle.pin_rule.specs.Lists.{Each}
use Rattle.pin_rule.specs.Rows.{key_of, content_of, on_path}
use Rattle.pin_rule.specs.Views.{whole, now, OwnsAt, IsLiveVersion, version_at}
use Rattle.pin_rule.specs.Pages.{StandsOnPath, IsEntry, IsPage, IsHeld, IsLeft, IsToFree}
use Rattle.pin_rule.specs.PartClaims.{StandsIn, IsOwned, Claims}
use Rattle.pin_rule.specs.PartCarried.{Carried}
use Rattle.pin_rule.specs.PartFacts.{EntryStands, WordStands, Knows, IsKnown, KnowsWhole}
use Rattle.pin_rule.specs.Lawful.{Lawful, ArePages}
use Rattle.pin_rule.specs.Steps.{after_publish, own_words, published_words, without_place, keeps_page, words_of_own}
use Rattle.pin_rule.specs.Ready.{IsReady}
use Rattle.pin_rule.specs.Keeps.{Keeps}
use Rattle.pin_rule.proofs.Lists.{each_map, each_in, each_append, each_mapped, not_zero, same_row, total_two}
use Rattle.pin_rule.proofs.Frames.{Same, key_same, content_same, same_key, place_in, wrote, place-claim, place-entry, place-page, place-row, place-cur}
use Rattle.pin_rule.proofs.Frames.{place-release, place-logged}
use Rattle.pin_rule.proofs.Moves.{entry_moves, page_moves}
use Rattle.pin_rule.proofs.Paths.{on_page}
use Rattle.pin_rule.proofs.Versions.{Speaks, speaks, same_live, my_log, newest_live, making_apart}
use Rattle.pin_rule.proofs.Known.{keeps_newest, known_meets}
use Rattle.pin_rule.proofs.Learning.{learns_met, met_stands}
use Rattle.pin_rule.proofs.Settling.{settles_with, right_free}
use Rattle.pin_rule.proofs.Seats.{IsAlike, none_some, owner_row, each_set, each_other, owns_cases, owns_else}

each_without : (P Q : KnownPlace → Type 0) (place : ℕ) → ((k : KnownPlace) → k.place ≢ place → P k → Q k) → (l : List KnownPlace) → Each P l
    → Each Q (without_place place l)
each_without P Q place f [] h = tt
each_without P Q place f (k ∷ ks) h = dite (ℕ_discrete k.place place)
    (λ e. subst (λ b. Each Q (cond b (without_place place ks) (k ∷ without_place place ks))) (sym (eq-eqb k.place place e)) (each_without P Q place f ks h.1))
    (λ n. subst (λ b. Each Q (cond b (without_place place ks) (k ∷ without_place place ks))) (sym (ne_eqb k.place place n)) (
      f k n h.0,
      each_without P Q place f ks h.1,
    ))

module _ (L : List Entry → Type 0) (F : List Entry → List ℕ → Type 0) (v : View) (o : OwnRow) (g : ℕ → ℕ) (place : ℕ)
    (ready : IsReady (F v.log) v.sizes v (now v) o g place)
    (words : List ℕ) (views : List View) (id : ℕ) (h : Lawful L F v.sizes words views) (at : get_elem? views id ≡ maybe.some v) (l : Live)
    (live : IsLiveVersion h.role l) (version_is : l.version ≡ now v) where
  abbrev z : Sizes
  z = v.sizes

  abbrev page : ℕ
  page = l.page

  abbrev role : Role
  role = h.role

  abbrev row : ℕ
  row = o.row

  abbrev Row : ℕ → ℕ → ℕ
  Row = row_at z words

  abbrev Fits : List ℕ → Type 0
  Fits = F (take l.version h.log)

  my_page : IsPage z words Fits page
  my_page = h.pages l live

  was : OwnsAt views id o
  was = (v, at, ready.owns)

  mine : IsOwned z words role o
  mine = h.claims.owned id o was

  inside : place < z.places
  inside = let n = ready.step_in in subst (λ (p : ℕ). p < z.places) ready.at (on_page z (key_of g) (omega arith) ready.step)

  page_in : page < z.versions
  page_in = h.live.page_in l live

  fitting : Fits (content_of g)
  fitting = subst (λ (log : List Entry). F log (content_of g)) (sym (ap (λ (n : ℕ). take n h.log) version_is
      ∙ my_log L F z words views id v at h)) ready.fitting

  -- the row's words are those of g
  reads : Same (2 + (g 0 + g 1)) (Row row) g
  reads i lt = (each_in (StandsIn z words row) (i, g i) o.wrote mine.written (ready.wrote i lt)).1

  key_is : key_of (Row row) ≡ key_of g
  key_is = let a : Row row 0 ≡ g 0 = reads 0 (omega arith) in key_same (Row row) g (2 + (g 0 + g 1)) (omega arith) reads

  -- the row met at a place of the path before this one
  passed : (before : ℕ) → before < ready.step → (r : ℕ) × (entry z words page (on_path z (key_of g) before) ≡ suc r) × (index : ℕ) × (index < 2 + g 0) ×
      (index ≢ 1) × (Row r index ≢ g index)
  passed before lt = let m = ready.passed before lt in let k = h.facts id v at in
      let f = (each_in (EntryStands z words role) _ v.entries k.0 m.3).live l live version_is in
      let u = (each_in (WordStands z words role) _ v.words k.1 m.4).live l live version_is in
      (m.0, f.1, m.1, m.5, m.6, λ e. m.7 (sym u.1.1 ∙ e))

  differs : (index b : ℕ) → index < 2 + g 0 → index ≢ 1 → Row b index ≢ g index → key_of g ≡ key_of (Row b) → ⊥
  differs index b lt n1 ne k = let both = same_key g (Row b) k in ne (dite (ℕ_discrete index 0)
      (λ zero_at. ap (Row b) zero_at ∙ sym both.0 ∙ ap g (sym zero_at))
      (λ more. let i : ℕ = index - 2 in let is : 2 + i ≡ index = omega arith in ap (Row b) (sym is) ∙ sym (both.1 i (omega arith)) ∙ ap g is))

  -- no entry has the key of g: it would stand on the path before this place, at it, or past it
  fresh : entry z words page place ≡ 0 → (q b : ℕ) → q < z.places → entry z words page q ≡ suc b → key_of g ≡ key_of (Row b) → ⊥
  fresh free q b qi eb k =
      let e = my_page.entries q b qi eb in let path : StandsOnPath z words page q (key_of g) = subst (StandsOnPath z words page q) (sym k) e.path in
      let d : ℕ = path.0 in let n : ℕ = ready.step in
      elim (cases_lt d n) [
        | inl lt ↦ let m = passed d lt in let r : m.0 ≡ b = same_row (entry z words page q) m.0 b (ap (entry z words page) (sym path.2) ∙ m.1) eb in
            differs m.2 b m.3 m.4 (λ x. m.5 (ap (λ (y : ℕ). Row y m.2) r ∙ x)) k
        | inr ge ↦ dite (ℕ_discrete d n)
            (λ same. not_zero (entry z words page place) b free (ap (entry z words page) (sym ready.at ∙ ap (on_path z (key_of g)) (sym same) ∙ path.2) ∙ eb))
            (λ more. path.3 n (omega arith) (ap (entry z words page) ready.at ∙ free))
      ]

  module _ (free : entry v.sizes words l.page place ≡ 0) where
    abbrev words' : List ℕ
    words' = set words (place_word z page place) (suc row)

    abbrev w : View
    w = after_publish v page place row 0

    abbrev views' : List View
    views' = set views id w

    alike : IsAlike v w
    alike = record { sizes = refl; share = refl; role = refl }

    here : entry z words' page place ≡ suc row
    here = wrote z words (suc row) (place_word z page place) h.long (place_in z page place page_in inside)

    else_ : (p : ℕ) → p ≢ place → entry z words' page p ≡ entry z words page p
    else_ p n = place-entry z words (suc row) page place p n

    up : (p r : ℕ) → entry z words page p ≡ suc r → entry z words' page p ≡ suc r
    up p r e = else_ p (λ x. not_zero (entry z words page place) r free (ap (entry z words page) (sym x) ∙ e)) ∙ e

    up_some : (p : ℕ) → p < z.places → entry z words page p ≢ 0 → entry z words' page p ≢ 0
    up_some p _ ne e' = dite (ℕ_discrete p place) (λ x. not_zero (entry z words' page place) row (ap (entry z words' page) (sym x) ∙ e') here)
        (λ n. ne (sym (else_ p n) ∙ e'))

    stays : (r : ℕ) → r < z.rows → claim z words' r ≡ claim z words r
    stays r ri = place-claim z words (suc row) page place r ri

    same : (r : ℕ) → Same z.width (Row r) (row_at z words' r)
    same r i _ = sym (place-row z words (suc row) page place r i page_in inside)

    new_entry : IsEntry z words' Fits page place row
    new_entry =
        let Row' = row_at z words' row in let s : Same (2 + (g 0 + g 1)) Row' g = λ i lt. sym (same row i (let r = ready.room in omega arith)) ∙ reads i lt in
        let a : Row' 0 ≡ g 0 = s 0 (omega arith) in let b : Row' 1 ≡ g 1 = s 1 (omega arith) in
        let k : key_of Row' ≡ key_of g = key_same Row' g (2 + (g 0 + g 1)) (omega arith) s in
        record {
          in_range = mine.in_range;
          in_use = stays row mine.in_range ∙ mine.in_use;
          room = (let r = ready.room in omega arith);
          fitting = subst Fits (sym (content_same Row' g (2 + (g 0 + g 1)) (omega arith) s)) fitting;
          path = subst (StandsOnPath z words' page place) (sym k) (
            ready.step,
            ready.step_in,
            ready.at,
            λ e lt x. let m =
                passed e lt in not_zero (entry z words' page (on_path z (key_of g) e)) m.0 x (up (on_path z (key_of g) e) m.0 m.1),
          );
        }

    old_row : (p r : ℕ) → p < z.places → entry z words page p ≡ suc r → key_of (Row r) ≡ key_of (row_at z words' r)
    old_row p r pi e = let m = (my_page.entries p r pi e).room in key_same (Row r) (row_at z words' r) z.width (omega arith) (same r)

    new_row : key_of g ≡ key_of (row_at z words' row)
    new_row = let r = ready.room in let a : Row row 0 ≡ g 0 = reads 0 (omega arith) in
        sym key_is ∙ key_same (Row row) (row_at z words' row) z.width (omega arith) (same row)

    entries' : (p r : ℕ) → p < z.places → entry z words' page p ≡ suc r → IsEntry z words' Fits page p r
    entries' p r pi e = dite (ℕ_discrete p place)
        (λ x. subst (λ (t : ℕ × ℕ). IsEntry z words' Fits page t.0 t.1) (λ i. (
          sym x i,
          same_row (entry z words' page place) row r here
              (ap (entry z words' page) (sym x) ∙ e) i,
        )) new_entry)
        (λ n. let e0 : entry z words page p ≡ suc r = sym (else_ p n) ∙ e in let i = my_page.entries p r pi e0 in entry_moves Fits z words words' page p r pi i
        (stays r i.in_range ∙ i.in_use) (same r) up_some)

    once : (p q a b : ℕ) → p < z.places → q < z.places → entry z words' page p ≡ suc a → entry z words' page q ≡ suc b
        → key_of (row_at z words' a) ≡ key_of (row_at z words' b) → p ≡ q
    once p q a b pi qi ea eb k =
        let clash : (q b : ℕ) → q < z.places → q ≢ place → entry z words' page q ≡ suc b → (a : ℕ) → row ≡ a
        → key_of (row_at z words' a) ≡ key_of (row_at z words' b) → ⊥ = λ q b qi n eb a is k.
        let eb0 : entry z words page q ≡ suc b = sym (else_ q n) ∙ eb in
        fresh free q b qi eb0 (new_row ∙ ap (λ (r : ℕ). key_of (row_at z words' r)) is ∙ k ∙ sym (old_row q b qi eb0)) in
        dite (ℕ_discrete p place)
        (λ x. dite (ℕ_discrete q place) (λ y. x ∙ sym y) (λ n. absurd (clash q b qi n eb a (same_row (entry z words' page place) row a here
        (ap (entry z words' page) (sym x) ∙ ea)) k)))
        (λ m. dite (ℕ_discrete q place) (λ y. absurd (clash p a pi m ea b (same_row (entry z words' page place) row b here (ap (entry z words' page) (sym y)
        ∙ eb)) (sym k)))
        (λ n. let ea0 : entry z words page p ≡ suc a = sym (else_ p m) ∙ ea in let eb0 : entry z words page q ≡ suc b =
        sym (else_ q n) ∙ eb in my_page.keys_once p q a b pi qi ea0 eb0 (old_row p a pi ea0 ∙ k ∙ sym (old_row q b qi eb0))))

    -- The live pages: only this place of this page is another

    only : (m : Live) → IsLiveVersion role m → m.page ≡ page → l ≡ m
    only m i e = sym (same_live z role h.live m l i live (h.live.pages_differ m l i live e))

    other_place : (m : Live) (p : ℕ) → p < z.places → p ≢ place → entry z words' m.page p ≡ entry z words m.page p
    other_place m p pi n = dite (ℕ_discrete m.page page) (λ e. ap (λ (q : ℕ). entry z words' q p) e ∙ else_ p n ∙ ap (λ (q : ℕ). entry z words q p) (sym e))
        (λ n'. place-page z words (suc row) page place m.page p inside pi n')

    up_live : (m : Live) (p r : ℕ) → p < z.places → entry z words m.page p ≡ suc r → entry z words' m.page p ≡ suc r
    up_live m p r pi e = dite (ℕ_discrete m.page page) (λ is. ap (λ (q : ℕ). entry z words' q p) is ∙ up p r (ap (λ (q : ℕ). entry z words q p) (sym is) ∙ e))
        (λ n. place-page z words (suc row) page place m.page p inside pi n ∙ e)

    pages' : ArePages F z words' h.log role
    pages' m i = dite (ℕ_discrete m.page page)
        (λ e. subst (λ (x : Live). IsPage z words' (F (take x.version h.log)) x.page) (only m i e) (record { entries = entries'; keys_once = once }))
        (λ n. page_moves (F (take m.version h.log)) z words words' m.page (h.pages m i)
        (record {
          places = λ p pi. place-page z words (suc row) page place m.page p inside pi n;
          in_use = λ r ri c _. stays r ri ∙ c;
          rows =
              λ r _ _ _. same r;
        }))

    -- The page that is being given up is another

    given_place : (b : GivingUp) (p : ℕ) → role.giving_up ≡ Some b → p < z.places → entry z words' b.page p ≡ entry z words b.page p
    given_place b p is pi = place-page z words (suc row) page place b.page p inside pi (λ e. (h.live.given_up b is).apart l live (sym e))

    left_back : (b : GivingUp) (r : ℕ) → role.giving_up ≡ Some b → IsLeft z words' b r → IsLeft z words b r
    left_back b r is x = (x.0, x.1, x.2, sym (given_place b x.0 is x.1) ∙ x.3)

    not_left : (b : GivingUp) (r : ℕ) → role.giving_up ≡ Some b → r ≡ row → IsLeft z words b r → ⊥
    not_left b r is e x = mine.not_to_free (b, is, subst (IsLeft z words b) e x, mine.in_no_page)

    held_on : (m : Live) (r : ℕ) → IsHeld z words m.page r → IsHeld z words' m.page r
    held_on m r x = (x.0, x.1, up_live m x.0 r x.1 x.2)

    now_held : IsHeld z words' page row
    now_held = (place, inside, here)

    held_cases : (m : Live) (r : ℕ) → IsHeld z words' m.page r → IsHeld z words m.page r ⊎ ((m.page ≡ page) × (r ≡ row))
    held_cases m r x = dite (ℕ_discrete m.page page)
        (λ e. dite (ℕ_discrete x.0 place)
        (λ p. inr (
          e,
          same_row (entry z words' page place) r row (ap (λ (q : ℕ). entry z words' q place) (sym e) ∙ ap (entry z words' m.page) (sym p)
              ∙ x.2) here,
        ))
        (λ n. inl (x.0, x.1, sym (other_place m x.0 x.1 n) ∙ x.2)))
        (λ n. inl (x.0, x.1, sym (place-page z words (suc row) page place m.page x.0 inside x.1 n) ∙ x.2))

    nowhere : (m : Live) (r : ℕ) → IsLiveVersion role m → r ≡ row → IsHeld z words m.page r → ⊥
    nowhere m r i e x = mine.in_no_page (m, i, subst (IsHeld z words m.page) e x)

    carried' : Carried F z words' h.log role
    carried' = let c = h.carried in record {
      between = λ a b d r ia ib id lt le x y. elim (held_cases a r x) [
        | inl x0 ↦ elim (held_cases d r y) [ inl y0 ↦ c.between a b d r ia ib id lt le x0 y0 | inr t ↦ absurd (nowhere a r ia t.1 x0) ]
        | inr s ↦ elim (held_cases d r y) [
          | inl y0 ↦ absurd (nowhere d r id s.1 y0)
          | inr t ↦ absurd (let e =
              h.live.pages_differ a d ia id (s.0 ∙ sym t.0) in omega arith)
        ]
      ];
      after_left = λ a b d r e ib id le x y. let x0 = left_back a r e x in elim (held_cases d r y) [
        | inl y0 ↦ c.after_left a b d r e ib id le x0 y0
        | inr t ↦ absurd (not_left a r e t.1 x0)
      ];
      range = λ a p r is pi e. c.range a p r is pi (sym (given_place a p is pi) ∙ e);
      once = λ a p q r is pi qi ep eq. c.once a p q r is pi qi (sym (given_place a p is pi) ∙ ep) (sym (given_place a q is qi) ∙ eq);
      stands = λ m r i x. held_on m r (c.stands m r i x);
      kept = λ m next p r is to lt e. let k = c.kept m next p r is to lt e in let i = newest_live role in (
        held_on role.newest r k.0,
        subst (F next) (content_same (Row r) (row_at z words' r) z.width
            ((h.pages role.newest i).entries k.0.0 r k.0.1 k.0.2).room (same r)) k.1,
      );
    }

    stands_on : (r : ℕ) (u : ℕ × ℕ) → StandsIn z words r u → StandsIn z words' r u
    stands_on r u s = (s.0, sym (same r u.0 s.0) ∙ s.1)

    moved : (u : View) → Knows z words role u → Knows z words' role u
    moved u k = (
      each_map (EntryStands z words role) (EntryStands z words' role)
          (λ e x. record {
            known = x.known;
            live = λ m i is. let y = x.live m i is in (y.0, up_live m e.place e.row y.0 y.1);
            given_up = λ b is ev. let y = x.given_up b is ev in (y.0, given_place b e.place is y.0 ∙ y.1);
          }) u.entries k.0,
      each_map (WordStands z words role) (WordStands z words' role) (λ q x. record {
        known = x.known;
        live = λ m i is. let y =
            x.live m i is in (held_on m q.row y.0, stands_on q.row (q.index, q.word) y.1);
      }) u.words k.1,
    )

    my_words : (version : ℕ) → Speaks role page version → Each (WordStands z words' role) (own_words version v.own)
    my_words version s = subst (λ (u : Option OwnRow). Each (WordStands z words' role) (own_words version u)) (sym ready.owns)
        (each_mapped (StandsIn z words row) (WordStands z words' role) (λ u. record { version = version; row = row; index = u.0; word = u.1 })
        (λ u x. record {
          known = s.0;
          live = λ m i is. (
            subst (λ (q : ℕ). IsHeld z words' q row) (sym (s.1 m i is)) now_held,
            stands_on row u x,
          );
        }) o.wrote mine.written)

    all_words : (version : Option ℕ) → ((m : ℕ) → version ≡ Some m → Speaks role page m) → Each (WordStands z words' role) v.words
        → Each (WordStands z words' role) (published_words version v.own v.words 0)
    all_words None s k = k
    all_words (Some version) s k = each_append (WordStands z words' role) (own_words version v.own) v.words (my_words version (s version refl)) k

    known' : (u : View) → KnowsWhole z words role u → u.share ≡ whole → Each (IsKnown z words' role) (without_place place u.known)
    known' u k all = each_without (IsKnown z words role) (IsKnown z words' role) place
        (λ p n x. (
          x.0,
          other_place role.newest p.place x.0 n ∙ x.1,
          λ r e. each_map (StandsIn z words r) (StandsIn z words' r) (stands_on r) p.words
              (x.2 r e),
        )) u.known (k all)

    -- this one knows the row that it published, where the page is the newest
    new_known : (b : Bool) → keeps_page v page ≡ b
        → Each (IsKnown z words' role) (cond b (record { place = place; met = suc row; words = words_of_own v.own } ∷ []) [])
    new_known false is = tt
    new_known true is = (
      (
        inside,
        ap (λ (q : ℕ). entry z words' q place) (keeps_newest L F z words views id v at h page is) ∙ here,
        λ r e. subst (λ (u : Option OwnRow). Each (StandsIn z words' r) (words_of_own u)) (sym ready.owns)
            (let same : row ≡ r = (let two : suc row ≡ suc r = e in omega arith) in
            subst (λ (q : ℕ). Each (StandsIn z words' q) o.wrote) same (each_map (StandsIn z words row) (StandsIn z words' row) (stands_on row) o.wrote
            mine.written)),
      ),
      tt,
    )

    my_known : KnowsWhole z words' role w
    my_known all = each_append (IsKnown z words' role) (cond (keeps_page v page) (record {
      place = place;
      met = suc row;
      words = words_of_own v.own;
    } ∷ []) []) (without_place place v.known) (new_known (keeps_page v page) refl) (known' v (h.known id v at) all)

    others : (i : ℕ) (p : OwnRow) → i ≢ id → OwnsAt views i p → p.row ≢ row
    others i p n y e = n (h.claims.one_owner i id p o y was e)

    theirs : (i : ℕ) (p : OwnRow) → OwnsAt views' i p → (i ≢ id) × OwnsAt views i p
    theirs i p y = elim (owns_cases views id v w at i p y) [ inl t ↦ absurd (none_some p t.1) | inr t ↦ t ]

    free_on : (r : ℕ) → IsToFree z words role r → IsToFree z words' role r
    free_on r t = let x = t.2 in (
      t.0,
      t.1,
      (x.0, x.1, x.2, given_place t.0 x.0 t.1 x.1 ∙ x.3),
      λ y. elim (held_cases y.0 r y.2) [ inl y0 ↦ t.3 (y.0, y.1, y0) | inr s ↦ not_left t.0 r t.1 s.1 x ],
    )

    free_back : (r : ℕ) → IsToFree z words' role r → IsToFree z words role r
    free_back r t = (t.0, t.1, left_back t.0 r t.1 t.2, λ y. t.3 (y.0, y.1, held_on y.0 r y.2))

    claims' : Claims z words' views' role
    claims' = record {
      bit = λ r ri. let b = h.claims.bit r ri in let e = stays r ri in omega arith;
      in_use = λ r ri c'. dite (ℕ_discrete r row) (λ e. inr (inl (l, live, subst (IsHeld z words' page) (sym e) now_held)))
          (λ n. elim (h.claims.in_use r ri (sym (stays r ri) ∙ c')) [
            | inl y ↦ inl (
              y.0,
              y.1,
              owns_else views id v w at y.0 y.1 (λ e. n (sym y.3
                  ∙ sym (owner_row views id v o y.1 at ready.owns (subst (λ (j : ℕ). OwnsAt views j y.1) e y.2)))) y.2,
              y.3,
            )
            | inr y ↦ elim y [ inl t ↦ inr (inl (t.0, t.1, held_on t.0 r t.2)) | inr t ↦ inr (inr (free_on r t)) ]
          ]);
      owned = λ i p y. let t = theirs i p y in let q = h.claims.owned i p t.1 in record {
        in_range = q.in_range;
        in_use = stays p.row q.in_range ∙ q.in_use;
        in_no_page = λ st. elim (held_cases st.0 p.row st.2) [ inl x ↦ q.in_no_page (st.0, st.1, x) | inr x ↦ others i p t.0 t.1 x.1 ];
        not_to_free = λ st. q.not_to_free (free_back p.row st);
        written = each_map (StandsIn z words p.row) (StandsIn z words' p.row) (stands_on p.row) p.wrote q.written;
      };
      one_owner = λ i j p q y y' e. h.claims.one_owner i j p q (theirs i p y).1 (theirs j q y').1 e;
      to_free = λ r t. let k = h.claims.to_free r (free_back r t) in (k.0, stays r k.0 ∙ k.1);
    }

    publishes : v.share ≢ 0 → Lawful L F v.sizes words' views'
    publishes some = settles_with L F z words words' views id v w at h (length-set words (place_word z page place) (suc row)) alike
        (right_free v w alike refl refl (h.shares.rightful id v at)) (record { log = refl; log_words = refl; pinned = refl; pins_left = refl })
        (record {
          cur = place-cur z words (suc row) page place;
          releases = λ p pi. place-release z words (suc row) page place p pi;
          log = record {
            logs = λ e i _ _. place-logged z words (suc row) page place e i page_in inside;
            made =
                λ m p is _ pi. place-page z words (suc row) page place m.page p inside pi (λ e. making_apart z role h.live m l is live (sym e));
          };
        })
        claims' pages' carried'
        (let k = moved v (h.facts id v at) in let s = speaks L F z words views id v at h page in each_set views id v w at (Knows z words' role)
        (met_stands z words' role (version_at v page) v.entries page place (suc row) inside s here k.0, all_words (version_at v page) s k.1)
        (λ j u e. moved u (h.facts j u e)))
        (each_other views id v w at (KnowsWhole z words' role) my_known
        (λ j u n e all. absurd (some (let t = total_two (λ (x : View). x.share) views j id u v e at n in let s = h.shares.sum in omega arith))))

words_stay : (version : Option ℕ) (own : Option OwnRow) (ws : List WordFact) (m : ℕ) → published_words version own ws (suc m) ≡ ws
words_stay None own ws m = refl
words_stay (Some version) own ws m = refl

module _ (L : List Entry → Type 0) (F : List Entry → List ℕ → Type 0) (v : View) (o : OwnRow) (g : ℕ → ℕ) (place : ℕ)
    (ready : IsReady (F v.log) v.sizes v (now v) o g place) (some : v.share ≢ 0) (p : Pin) (pinned : v.pinned ≡ Some p) (caught_up : p.version ≡ now v) where
  pub keeps_publish : Keeps L F v (op.Publish p.page place o.row)
  keeps_publish words views id zero h at e = let k = h.pinned id v at p pinned in
      subst (λ (page : ℕ). Lawful L F v.sizes (set words (place_word v.sizes page place) (suc o.row)) (set views id (after_publish v page place o.row 0))) k.3
      (publishes L F v o g place ready words views id h at k.0 k.1 (k.2 ∙ caught_up) (ap (λ (page : ℕ). entry v.sizes words page place) k.3 ∙ e) some)
  keeps_publish words views id (suc m) h at e = let z = v.sizes in let w = after_publish v p.page place o.row (suc m) in let k = h.facts id v at in
      let n = ready.step_in in
      let inside : place < z.places = subst (λ (q : ℕ). q < z.places) ready.at (on_page z (key_of g) (omega arith) ready.step) in
      learns_met L F z words views id v w at h (place_word z p.page place) (suc m) e (record { sizes = refl; share = refl; role = refl }) (record {
        log = refl;
        log_words = refl;
        pinned = refl;
        pins_left = refl;
      }) refl (λ all. known_meets L F z words views id v at h all p.page place (suc m) inside e) (
        met_stands z words h.role (version_at v p.page) v.entries p.page place (suc m) inside (speaks L F z words views id v at h p.page) e k.0,
        subst (Each (WordStands z words h.role)) (sym (words_stay (version_at v p.page) v.own v.words m)) k.1,
      )
