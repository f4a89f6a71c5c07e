-- The oldest version leaves the live ones, and is given up from its first place on: the rule for the role without it, while no word changes.
use Rattle.std.proofs.Common.{◌≡◌, ◌≢◌, ℕ, zero, suc, ◌+◌, ◌<◌, List, ◌∷◌, ◌⊎◌, map, inl, inr, length, length-append, set, eq-eqb, ne_eqb, sym, refl, ap}
use Rattle.std.proofs.Common.{◌∙◌, subst, arith}
use Rattle.std.proofs.lemmas.List.{length-map}
use mathlib.Core.Option as maybe
use mathlib.Core.Bool.{cond}
use mathlib.Core.Logic.{dite}
use native.Mathlib.Decide.{ℕ_discrete}
use lib.ListN.{get_elem?}
use Rattle.std.specs.Prelude.{Some, None, Option}
use Rattle.atomic_table.proofs.Lists.{at_set}
use Rattle.pin_rule.specs.declared.sizes.Sizes.{Sizes}
use Rattle.pin_rule.specs.declared.content.Entry.{Entry}
use Rattle.pin_rule.specs.declared.view.View.{View}
use Rattle.pin_rule.specs.declared.view.Pin.{Pin}
use Rattle.pin_rule.specs.declared.view.Live.{Live}
use Rattle.pin_rule.specs.declared.view.Older.{Older}
use Rattle.pin_rule.specs.declared.view.Role.{Role}
use Rattle.pin_rule.specs.declared.view.GivingUp.{GivingUp}
use Rattle.pin_rule.specs.declared.view.Making.{Making}
use Rattle.pin_rule.specs.Layout.{release, entry}
use Rattle.pin_rule.specs.Lists.{In}
use Rattle.pin_rule.specs.Views.{lives, IsLiveVersion, given_page, pages_taken}
use Rattle.pin_rule.specs.GivingUp.{last_of, before_last, without_oldest, oldest}
use Rattle.pin_rule.specs.Pages.{IsHeld, IsHeldLive, IsLeft, IsToFree}
use Rattle.pin_rule.specs.PartCurrent.{IsCurrent, KnowsLog}
use Rattle.pin_rule.specs.PartLive.{IsEditor, IsVersions, IsGivenUp, PinsLive, Pins, HasTaken, pins_on, pinning, known_release}
use Rattle.pin_rule.specs.PartClaims.{Claims}
use Rattle.pin_rule.specs.PartCarried.{Carried}
use Rattle.pin_rule.specs.PartFacts.{HasEntry, EntryStands, WordStands, Knows, KnowsWhole}
use Rattle.pin_rule.specs.PartShares.{IsRightful}
use Rattle.pin_rule.specs.Lawful.{Lawful, IsMeasured}
use Rattle.pin_rule.proofs.Lists.{each_map, in_at, at_in, total_alike, total_at}
use Rattle.pin_rule.proofs.Seats.{IsSteady, none_some, same_some, each_set, here, owned_before, owned_after, claims_by}
use Rattle.pin_rule.proofs.Spare.{is_in_tells}
use Rattle.pin_rule.proofs.Counts.{pins_here}
use Rattle.pin_rule.proofs.Versions.{log_of_editor, making_apart}
use Rattle.pin_rule.proofs.Settling.{knows_log, pins_stay, budget_stays}
use Rattle.pin_rule.proofs.Oldest.{lives_of, oldest_live, oldest_first, in_whole, last_in, last_place, at_before, fewer, live_whole, live_split, page_of_one}

module _ (L : List Entry → Type 0) (F : List Entry → List ℕ → Type 0) (z : Sizes) (words : List ℕ) (views : List View) (id : ℕ) (v w : View)
    (at : get_elem? views id ≡ maybe.some v) (h : Lawful L F z words views) (a : Older) (os : List Older) (n : ℕ)
    (older : h.role.older ≡ a ∷ os) (idle : h.role.giving_up ≡ None) (read : release z words (last_of a os).live.page ≡ n)
    (dropped : n ≡ (last_of a os).live.base + (last_of a os).taken) where
  abbrev role : Role
  role = h.role

  abbrev gone : Live
  gone = (last_of a os).live

  abbrev role' : Role
  role' = without_oldest role (last_of a os) (before_last a os) n

  abbrev given : GivingUp
  given = record { version = gone.version; page = gone.page; reached = 0 }

  -- The live versions

  live_back : (l : Live) → IsLiveVersion role' l → IsLiveVersion role l
  live_back l i = elim i [ inl e ↦ inl e | inr t ↦ inr (subst (λ (ls : List Older). In l (lives_of ls)) (sym older) (live_whole a l os t)) ]

  live_cases : (l : Live) → IsLiveVersion role l → IsLiveVersion role' l ⊎ (l ≡ gone)
  live_cases l i = elim i [
    | inl e ↦ inl (inl e)
    | inr t ↦ elim (live_split a l os (subst (λ (ls : List Older). In l (lives_of ls)) older t)) [ inl u ↦ inl (inr u) | inr e ↦ inr e ]
  ]

  at_back : (i : ℕ) (l : Live) → get_elem? (lives role') i ≡ maybe.some l → (get_elem? (lives role) i ≡ maybe.some l) × (i < suc (length os))
  at_back zero l e = (e, omega arith)
  at_back (suc i) l e = let r = at_before a os i l e in
      (subst (λ (ls : List Older). get_elem? (lives_of ls) i ≡ maybe.some l) (sym older) r.0, (let lt = r.1 in omega arith))

  gone_at : get_elem? (lives role) (suc (length os)) ≡ maybe.some gone
  gone_at = subst (λ (ls : List Older). get_elem? (lives_of ls) (length os) ≡ maybe.some gone) (sym older) (last_place a os)

  gone_live : IsLiveVersion role gone
  gone_live = at_in gone (lives role) (suc (length os)) gone_at

  consecutive' : (i : ℕ) (l : Live) → get_elem? (lives role') i ≡ maybe.some l → l.version + i ≡ role.newest.version
  consecutive' i l e = h.live.consecutive i l (at_back i l e).0

  gone_first : (l : Live) → IsLiveVersion role' l → gone.version < l.version
  gone_first l i = let r = in_at l (lives role') i in let b = at_back r.0 l r.1 in let x = h.live.consecutive r.0 l b.0 in
      let y = h.live.consecutive (suc (length os)) gone gone_at in let lt = b.1 in omega arith

  given_is : (g : GivingUp) → role'.giving_up ≡ Some g → given ≡ g
  given_is g e = same_some given g e

  not_taken : (m : Making) → role.making ≡ Some m → ¬ (In m.page (pages_taken role'))
  not_taken m is i = elim i [
    | inl e ↦ making_apart z role h.live m gone is gone_live (sym e)
    | inr t ↦ let r = page_of_one m.page (lives role') t in making_apart z role h.live m r.0 is (live_back r.0 r.1) r.2
  ]

  fewer_lives : length (lives_of role.older) ≡ suc (length (lives_of (before_last a os)))
  fewer_lives = ap (λ (ls : List Older). length (lives_of ls)) older ∙ fewer a os

  live' : IsVersions z role'
  live' = let was = h.live in let less = fewer_lives in record {
    consecutive = consecutive';
    few = (let few = was.few in omega arith);
    page_in = λ l i. was.page_in l (live_back l i);
    pages_differ = λ b d i j e. was.pages_differ b d (live_back b i) (live_back d j) e;
    room = λ m is. let r = was.room m is in let pages = map (λ (l : Live). l.page) (lives role) in let x = length-append (given_page role.giving_up) pages in
        let y = ap (λ (o : Option GivingUp). length (given_page o)) idle in let p = length-map (lives role) (λ (l : Live). l.page) in
        let q = length-map (lives role') (λ (l : Live). l.page) in omega arith;
    making = not_taken;
    given_up = λ g e. subst (IsGivenUp z role') (given_is g e) (record {
      below = gone_first;
      page_in = was.page_in gone gone_live;
      apart = λ l i same. let lt = gone_first l i in let one = was.pages_differ l gone (live_back l i) gone_live same in omega arith;
      reached_in = (let some_places = z.places_in in omega arith);
    });
  }

  -- Pins

  gone_taken : HasTaken role h.taken gone (last_of a os).taken
  gone_taken = inr (last_of a os, subst (In (last_of a os)) (sym older) (last_in a os), refl, refl)

  taken_back : (l : Live) (t : ℕ) → HasTaken role' h.taken l t → HasTaken role h.taken l t
  taken_back l t k = elim k [ inl x ↦ inl x | inr x ↦ inr (x.0, subst (In x.0) (sym older) (in_whole a x.0 os x.1), x.2, x.3) ]

  -- no view pins the version: all pins taken on it were dropped
  unpinned : pinning views gone.version ≡ 0
  unpinned = let c = h.pins.counted gone (last_of a os).taken gone_taken in omega arith

  not_gone : (j : ℕ) (u : View) (p : Pin) → get_elem? views j ≡ maybe.some u → u.pinned ≡ Some p → p.version ≢ gone.version
  not_gone j u p e is same = let most = total_at (λ (x : View). pins_on gone.version x.pinned) views j u e in
      let one = ap (pins_on gone.version) is ∙ pins_here gone.version p same in let none = unpinned in omega arith

  pins_live : (j : ℕ) (u : View) → get_elem? views j ≡ maybe.some u → PinsLive role' u
  pins_live j u e p is = let k = h.pinned j u e p is in elim (live_cases k.0 k.1) [
    | inl i ↦ (k.0, i, k.2, k.3)
    | inr same ↦ absurd (not_gone j u p e is (sym k.2 ∙ ap (λ (l : Live). l.version) same))
  ]

  -- Rows

  held_back : (row : ℕ) → IsHeldLive z words role' row → IsHeldLive z words role row
  held_back row x = (x.0, live_back x.0 x.1, x.2)

  held_gone : (row : ℕ) → IsToFree z words role' row → IsHeld z words gone.page row
  held_gone row t = let x = subst (λ (g : GivingUp). IsLeft z words g row) (sym (given_is t.0 t.1)) t.2 in (x.0, x.1, x.3)

  -- a row of the version is to be freed, unless it was carried on
  to_free : (row : ℕ) → IsHeld z words gone.page row → IsHeldLive z words role' row ⊎ IsToFree z words role' row
  to_free row x = let old = oldest role' in let i = oldest_live z role' live' in elim (is_in_tells row old.carried) [
    | inl t ↦ inl (old, i, h.carried.stands old row (live_back old i) t.1)
    | inr t ↦ inr (
      given,
      refl,
      (x.0, x.1, omega arith, x.2),
      λ y. t.1 (h.carried.between gone old y.0 row gone_live (live_back old i) (live_back y.0 y.1)
          (gone_first old i) (oldest_first z role' live' y.0 y.1) x y.2),
    )
  ]

  claims' : Claims z words views role'
  claims' = let c = h.claims in record {
    bit = c.bit;
    in_use = λ r ri e. elim (c.in_use r ri e) [
      | inl y ↦ inl y
      | inr y ↦ elim y [
        | inl x ↦ elim (live_cases x.0 x.1) [
          | inl i ↦ inr (inl (x.0, i, x.2))
          | inr same ↦ inr (to_free r (subst (λ (l : Live). IsHeld z words l.page r) same x.2))
        ]
        | inr t ↦ absurd (none_some t.0 (sym idle ∙ t.1))
      ]
    ];
    owned = λ i o y. let q = c.owned i o y in record {
      in_range = q.in_range;
      in_use = q.in_use;
      in_no_page = λ x. q.in_no_page (held_back o.row x);
      not_to_free = λ t. q.in_no_page (gone, gone_live, held_gone o.row t);
      written = q.written;
    };
    one_owner = c.one_owner;
    to_free = λ r t. let x = held_gone r t in let e = (h.pages gone gone_live).entries x.0 r x.1 x.2 in (e.in_range, e.in_use);
  }

  -- a row stands once in the page, since a key does
  once : (p q row : ℕ) → p < z.places → q < z.places → entry z words gone.page p ≡ suc row → entry z words gone.page q ≡ suc row → p ≡ q
  once p q row pi qi ep eq = (h.pages gone gone_live).keys_once p q row row pi qi ep eq refl

  carried' : Carried F z words h.log role'
  carried' = let c = h.carried in record {
    between = λ b d f row ib id if lt le x y. c.between b d f row (live_back b ib) (live_back d id) (live_back f if) lt le x y;
    after_left = λ g b d row e ib id le x y. let k = subst (λ (o : GivingUp). IsLeft z words o row) (sym (given_is g e)) x in
        c.between gone b d row gone_live (live_back b ib) (live_back d id) (gone_first b ib) le (k.0, k.1, k.3) y;
    range = λ g p row is pi e. ((h.pages gone gone_live).entries p row pi (ap (λ (o : GivingUp). entry z words o.page p) (given_is g is) ∙ e)).in_range;
    once = λ g p q row is pi qi ep eq. let same = given_is g is in once p q row pi qi (ap (λ (o : GivingUp). entry z words o.page p) same ∙ ep)
        (ap (λ (o : GivingUp). entry z words o.page q) same ∙ eq);
    stands = λ l row i k. c.stands l row (live_back l i) k;
    kept = c.kept;
  }

  facts' : (u : View) → Knows z words role u → Knows z words role' u
  facts' u k = (
    each_map (EntryStands z words role) (EntryStands z words role') (λ e x. record {
      known = x.known;
      live = λ l i is. x.live l (live_back l i) is;
      given_up = λ g is same. let one = given_is g is in subst (λ (o : GivingUp). HasEntry z words role o.page e) one
          (x.live gone gone_live (ap (λ (o : GivingUp). o.version) one ∙ same));
    }) u.entries k.0,
    each_map (WordStands z words role) (WordStands z words role') (λ q x. record { known = x.known; live = λ l i is. x.live l (live_back l i) is })
        u.words k.1,
  )

  current' : IsCurrent L z words h.log role' h.taken
  current' = let c = h.current in record {
    cur = c.cur;
    version = c.version;
    log_in = c.log_in;
    log_wide = c.log_wide;
    log_is = c.log_is;
    lawful_log = λ l i. c.lawful_log l (live_back l i);
    making = c.making;
    next_log = c.next_log;
  }

  -- what the view keeps
  pub record Remains : Type 0 where
    pub sizes : w.sizes ≡ v.sizes
    pub share : w.share ≡ v.share
    pub own : w.own ≡ v.own
    pub steady : IsSteady v w
    pub right : IsRightful w
    pub knows : Knows z words role w
    pub whole : KnowsWhole z words role w
    pub was : v.role ≡ Some role
    pub is : w.role ≡ Some role'

  module _ (remains : Remains) where
    editor' : IsEditor (set views id w) h.log role'
    editor' = record {
      seat = id;
      view = w;
      at = here views id v w at;
      has = remains.is;
      log_is = remains.steady.log ∙ log_of_editor L F z words views id v at h role remains.was;
      one = λ i u r e is. elim (at_set views id i w u e) [
        | inl t ↦ t.0
        | inr t ↦ h.editor.one i u r t.1 is ∙ sym (h.editor.one id v role at remains.was)
      ];
    }

    pins' : Pins z words (set views id w) role' h.taken
    pins' = let p = pins_stay L F z words words views id v w at h remains.steady.pinned (λ _ _. refl) in record {
      counted = λ l t k. p.counted l t (taken_back l t k);
      from_base = λ l i. p.from_base l (live_back l i);
      released = λ q inside none. dite (ℕ_discrete gone.page q)
          (λ e. ap (release z words) (sym e) ∙ read ∙ sym (ap (λ b. cond b n (known_release role.released q)) (eq-eqb gone.page q e)))
          (λ other. p.released q inside (λ l i same. elim (live_cases l i) [
            | inl j ↦ none l j same
            | inr is ↦ other (ap (λ (x : Live). x.page) (sym is) ∙ same)
          ]) ∙ sym (ap (λ b. cond b n (known_release role.released q)) (ne_eqb gone.page q other)));
    }

    pub leaves : Lawful L F z words (set views id w)
    leaves = record {
      long = h.long;
      sizes = each_set views id v w at (IsMeasured z) (λ k. remains.sizes ∙ h.sizes id v at (λ e. k (remains.share ∙ e))) h.sizes;
      log = h.log;
      role = role';
      taken = h.taken;
      editor = editor';
      current = current';
      logs = each_set views id v w at (KnowsLog h.log) (knows_log h.log v w remains.steady.log remains.steady.log_words (h.logs id v at)) h.logs;
      live = live';
      pinned = each_set views id v w at (PinsLive role') (λ p e. pins_live id v at p (sym remains.steady.pinned ∙ e)) pins_live;
      pins = pins';
      budget = budget_stays L F z words words views id v w at h remains.steady.pinned (λ _ _. refl) remains.steady.pins_left;
      pages = λ l i. h.pages l (live_back l i);
      claims = claims_by z words role' views (set views id w) (owned_before views id v w at remains.own) (owned_after views id v w at remains.own) claims';
      carried = carried';
      facts = each_set views id v w at (Knows z words role') (facts' w remains.knows) (λ j u e. facts' u (h.facts j u e));
      shares = record {
        sum = total_alike (λ (u : View). u.share) views id v w at remains.share ∙ h.shares.sum;
        rightful = each_set views id v w at IsRightful remains.right h.shares.rightful;
      };
      known = each_set views id v w at (KnowsWhole z words role') remains.whole h.known;
    }
