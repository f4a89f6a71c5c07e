-- A new version keeps the rule.
use Rattle.std.proofs.Common.{◌≡◌, ◌≢◌, ℕ, zero, suc, ◌+◌, ◌<◌, ◌≤◌, List, [], ◌∷◌, ◌++◌, map, take, inl, inr, length, length-append, append_assoc}
use Rattle.std.proofs.Common.{append-nil, set, length-set, slice_index, sym, refl, ap, ◌∙◌, subst, arith}
use Rattle.std.proofs.Math.Seq.{take-length}
use Rattle.std.proofs.lemmas.List.{length-map, take-append-le}
use mathlib.Core.Option as maybe
use lib.Dec.{eqb}
use lib.ListN.{get_elem?}
use Rattle.std.specs.Prelude.{Some, None, Option}
use Rattle.atomic_table.proofs.Lists.{at_set, at_longer}
use Rattle.pin_rule.specs.declared.sizes.Sizes.{Sizes}
use Rattle.pin_rule.specs.declared.content.Entry.{Entry}
use Rattle.pin_rule.specs.declared.view.View.{View}
use Rattle.pin_rule.specs.declared.view.Pin.{Pin}
use Rattle.pin_rule.specs.declared.view.Live.{Live}
use Rattle.pin_rule.specs.declared.view.Older.{Older}
use Rattle.pin_rule.specs.declared.view.Making.{Making}
use Rattle.pin_rule.specs.declared.view.Role.{Role}
use Rattle.pin_rule.specs.declared.view.EntryFact.{EntryFact}
use Rattle.pin_rule.specs.declared.view.WordFact.{WordFact}
use Rattle.pin_rule.specs.declared.ops.Op.TheVariants as op
use Rattle.pin_rule.specs.Layout.{word_count, naming, taken_named, release, entry, logged, row_at}
use Rattle.pin_rule.specs.Lists.{Each, In}
use Rattle.pin_rule.specs.Views.{whole, now, EachView, lives, IsLiveVersion, given_page, Names, IsPrefix}
use Rattle.pin_rule.specs.Pages.{IsPage, IsHeld, IsHeldLive}
use Rattle.pin_rule.specs.PartCurrent.{IsCurrent, KnowsLog}
use Rattle.pin_rule.specs.PartLive.{IsEditor, IsVersions, PinsLive, Pins, pins_on, pinning}
use Rattle.pin_rule.specs.PartClaims.{StandsIn, Claims}
use Rattle.pin_rule.specs.PartCarried.{Carried}
use Rattle.pin_rule.specs.PartFacts.{EntryStands, WordStands, Knows, IsKnown, KnowsWhole}
use Rattle.pin_rule.specs.PartShares.{IsRightful}
use Rattle.pin_rule.specs.Lawful.{Lawful, ArePages, IsMeasured}
use Rattle.pin_rule.specs.Making.{making_in, by_making, next_log, rows_of, new_version, with_version, role_with_version, entries_of, facts_on, facts_carried}
use Rattle.pin_rule.specs.Making.{words_on, places_known}
use Rattle.pin_rule.specs.Steps.{known_after, after_swap_current}
use Rattle.pin_rule.specs.NextVersion.{IsWritten, IsNewVersion}
use Rattle.pin_rule.specs.Keeps.{Keeps}
use Rattle.pin_rule.proofs.Lists.{each_map, each_in, each_append, each_mapped, at_short, at_end, total_alike, total_two, total_zero}
use Rattle.pin_rule.proofs.Frames.{Same, wrote, cur-release, cur-claim, cur-entry, cur-logged, cur-row}
use Rattle.pin_rule.proofs.Numbers.{taken_is}
use Rattle.pin_rule.proofs.Moves.{page_moves}
use Rattle.pin_rule.proofs.Seats.{none_some, each_set, each_other, here, owned_before, owned_after, claims_by}
use Rattle.pin_rule.proofs.Counts.{pins_else}
use Rattle.pin_rule.proofs.Versions.{newest_live, live_version, making_apart, given_apart, is_role, log_of_editor}
use Rattle.pin_rule.proofs.Parts.{Kept, held_on, pages_move, carried_moves, knows_on, claims_keep}
use Rattle.pin_rule.proofs.Settling.{pins_stay, budget_stays}
use Rattle.pin_rule.proofs.Telling.{few}
use Rattle.pin_rule.proofs.Known.{each_cond}
use Rattle.pin_rule.proofs.Places.{row_place, place_row, each_entry, each_fact, each_place}
use Rattle.pin_rule.proofs.WholePage.{is_written, writes, is_next, from_newest, whole_page}

-- a log that grew begins as it did
prefix_on : (l log : List Entry) (e : Entry) → IsPrefix l log → IsPrefix l (log ++ e ∷ [])
prefix_on l log e p = (p.0 ++ e ∷ [], ap (λ (k : List Entry). k ++ e ∷ []) p.1 ∙ append_assoc l p.0 (e ∷ []))

knows_longer : (log : List Entry) (e : Entry) (v : View) → KnowsLog log v → KnowsLog (log ++ e ∷ []) v
knows_longer log e v k = record {
  prefix = prefix_on v.log log e k.prefix;
  few = k.few;
  words = λ i lt. let w = k.words i lt in (w.0, at_longer log (e ∷ []) (length v.log) w.0 w.1, w.2);
}

module _ (L : List Entry → Type 0) (F : List Entry → List ℕ → Type 0) (v : View) (m : Making) (version page : ℕ) (words : List ℕ) (views : List View)
    (id : ℕ) (at : get_elem? views id ≡ maybe.some v) (h : Lawful L F v.sizes words views) (new : IsNewVersion v h.role m version page)
    (some : v.share ≢ 0) where
  abbrev z : Sizes
  z = v.sizes

  abbrev role : Role
  role = h.role

  abbrev met : ℕ
  met = slice_index words 0

  abbrev words' : List ℕ
  words' = set words 0 (naming version page)

  abbrev w : View
  w = after_swap_current v version page met

  abbrev views' : List View
  views' = set views id w

  abbrev log' : List Entry
  log' = next_log h.log m

  abbrev newest' : Live
  newest' = new_version role m version page

  abbrev role' : Role
  role' = with_version role m version page met

  log_is : v.log ≡ h.log
  log_is = log_of_editor L F z words views id v at h role new.has

  version_is : version ≡ suc role.newest.version
  version_is = new.version_is ∙ ap suc (ap length log_is ∙ h.current.version)

  page_in : page < z.versions
  page_in = let b = (h.current.making m new.making).page_in in let same = new.page_is in omega arith

  -- The view afterwards, field by field

  made : making_in v.role ≡ Some m
  made = ap making_in new.has ∙ new.making

  has' : w.role ≡ Some role'
  has' = ap (λ (o : Option Role). role_with_version o version page met) new.has
      ∙ ap (λ (o : Option Making). Some (by_making o role (λ (x : Making). with_version role x version page met))) new.making

  log_is' : w.log ≡ log'
  log_is' = ap (λ (o : Option Making). by_making o v.log (λ (x : Making). next_log v.log x)) made ∙ ap (λ (l : List Entry). next_log l m) log_is

  entries_is : w.entries ≡ entries_of version 0 m.places ++ v.entries
  entries_is = ap (λ (o : Option Making). by_making o v.entries (λ (x : Making). entries_of version 0 x.places ++ v.entries)) made

  words_is : w.words ≡ facts_carried (now v) version (rows_of m.places) v.words ++ v.words
  words_is = ap (λ (o : Option Making). by_making o v.words (λ (x : Making). facts_carried (now v) version (rows_of x.places) v.words ++ v.words)) made

  known_is : w.known ≡ known_after v m
  known_is = ap (λ (o : Option Making). by_making o [] (known_after v)) made

  -- Nothing but CUR is written

  same : (r : ℕ) → Same z.width (row_at z words r) (row_at z words' r)
  same r i _ = sym (cur-row z words (naming version page) r i)

  kept : Kept z words words' role
  kept = record {
    places = λ l p _ _. cur-entry z words (naming version page) l.page p;
    in_use = λ r _ c _. cur-claim z words (naming version page) r ∙ c;
    rows = λ r _ _ _. same r;
    given = λ g p _ _. cur-entry z words (naming version page) g.page p;
  }

  stands_on : (r : ℕ) (u : ℕ × ℕ) → StandsIn z words r u → StandsIn z words' r u
  stands_on r u s = (s.0, sym (same r u.0 s.0) ∙ s.1)

  -- The page of the new version

  holds : (row : ℕ) → In row (rows_of m.places) → IsHeld z words' page row
  holds row i = let p = row_place m.places row i in let all = new.whole.places_whole in let lt = p.1 in let inside : p.0 < z.places = omega arith in (
    p.0,
    inside,
    ap (λ (q : ℕ). entry z words' q p.0) new.page_is ∙ cur-entry z words (naming version page) m.page p.0
        ∙ is_written L F v m words views id at h new.has new.making new.whole p.0 inside ∙ p.2,
  )

  held_written : (row : ℕ) → IsHeld z words' page row → (p : ℕ) × IsWritten m p row
  held_written row x = (
    x.0,
    writes L F v m words views id at h new.has new.making new.whole x.0 row x.1 (sym (cur-entry z words (naming version page) m.page x.0)
        ∙ ap (λ (q : ℕ). entry z words' q x.0) (sym new.page_is) ∙ x.2),
  )

  held_row : (row : ℕ) → IsHeld z words' page row → In row (rows_of m.places)
  held_row row x = let p = held_written row x in place_row m.places p.0 row p.1.0 p.1.1

  -- its rows stand in the page before it
  held_newest : (row : ℕ) → IsHeld z words' page row → IsHeld z words' role.newest.page row
  held_newest row x = let p = held_written row x in held_on z words words' role kept role.newest row (newest_live role)
      (from_newest L F v m words views id at h new.has new.making new.whole p.0 row p.1).0

  live_back : (row : ℕ) → IsHeldLive z words' role' row → IsHeldLive z words' role row
  live_back row x = elim x.1 [
    | inl e ↦ (role.newest, newest_live role, held_newest row (subst (λ (l : Live). IsHeld z words' l.page row) e x.2))
    | inr i ↦ (x.0, i, x.2)
  ]

  live_still : (row : ℕ) → IsHeldLive z words' role row → IsHeldLive z words' role' row
  live_still row x = (x.0, inr x.1, x.2)

  below : (l : Live) → IsLiveVersion role l → l.version < version
  below l i = let top = live_version z role h.live l i in let same = version_is in omega arith

  -- The parts

  editor' : IsEditor views' log' role'
  editor' = record {
    seat = id;
    view = w;
    at = here views id v w at;
    has = has';
    log_is = log_is';
    one = λ i u r e is. elim (at_set views id i w u e) [
      | inl t ↦ t.0
      | inr t ↦ h.editor.one i u r t.1 is ∙ sym (h.editor.one id v role at new.has)
    ];
  }

  current' : IsCurrent L z words' log' role' 0
  current' = let c = h.current in let k = c.making m new.making in
      let long : length log' ≡ length h.log + 1 = length-append h.log (record { words = m.entry } ∷ []) in
      let is = version_is in let was = c.version in record {
        cur = (let some_words : 0 < word_count z = omega arith in wrote z words (naming version page) 0 h.long some_words
            ∙ (let n : ℕ = naming version page in let r : n ≡ n + 0 = omega arith in r));
        version = omega arith;
        log_in = (let room = k.room in omega arith);
        log_wide = λ i e is_e. elim (at_end h.log (record { words = m.entry }) e i is_e) [
          | inl t ↦ c.log_wide i e t
          | inr t ↦ subst (λ (x : Entry). length x.words ≡ 32) t.1 new.whole.entry_whole
        ];
        log_is = λ i j e is_e lt. cur-logged z words (naming version page) i j ∙ elim (at_end h.log (record { words = m.entry }) e i is_e) [
          | inl t ↦ c.log_is i j e t lt
          | inr t ↦ let all = new.whole.entry_whole in ap (λ (n : ℕ). logged z words n j) t.0 ∙ k.entry_is j (omega arith)
              ∙ ap (λ (x : Entry). slice_index x.words j) t.1
        ];
        lawful_log = λ l i. elim i [
          | inl e ↦ let n : l.version ≡ length log' = ap (λ (x : Live). x.version) e ∙ (let r : version ≡ length log' = omega arith in r) in
              subst L (sym (ap (λ (q : ℕ). take q log') n ∙ take-length log'))
              (c.next_log m log' new.making (is_next L F v m words views id at h new.has new.making new.whole))
          | inr t ↦ let top = live_version z role h.live l t in
              subst L (sym (take-append-le l.version h.log (record { words = m.entry } ∷ []) (omega arith))) (c.lawful_log l t)
        ];
        making = λ o e. absurd (none_some o e);
        next_log = λ o next e _. absurd (none_some o e);
      }

  my_log : KnowsLog log' w
  my_log = let k = h.logs id v at in record {
    prefix = ([], sym log_is' ∙ sym (append-nil w.log));
    few = k.few;
    words = λ i lt. let x = k.words i lt in let short = at_short h.log (length v.log) x.0 x.1 in let same = ap length log_is in absurd (omega arith);
  }

  consecutive' : (i : ℕ) (l : Live) → get_elem? (lives role') i ≡ maybe.some l → l.version + i ≡ version
  consecutive' zero l e = let is = ap (λ (x : Live). x.version) (maybe.some-injective newest' l e) in omega arith
  consecutive' (suc i) l e = let was = h.live.consecutive i l e in let is = version_is in omega arith

  live' : IsVersions z role'
  live' = let was = h.live in let is = version_is in record {
    consecutive = consecutive';
    few = (let room = was.room m new.making in let ls = map (λ (l : Live). l.page) (lives role) in let a = length-append (given_page role.giving_up) ls in
        let b = length-map (lives role) (λ (l : Live). l.page) in omega arith);
    page_in = λ l i. elim i [ inl e ↦ subst (λ (x : Live). x.page < z.versions) (sym e) page_in | inr t ↦ was.page_in l t ];
    pages_differ = λ a b i j e. elim i [
      | inl x ↦ elim j [
        | inl y ↦ ap (λ (l : Live). l.version) (x ∙ sym y)
        | inr t ↦ absurd (making_apart z role was m b new.making t (sym e ∙ ap (λ (l : Live). l.page) x ∙ new.page_is))
      ]
      | inr s ↦ elim j [
        | inl y ↦ absurd (making_apart z role was m a new.making s (e ∙ ap (λ (l : Live). l.page) y ∙ new.page_is))
        | inr t ↦ was.pages_differ a b s t e
      ]
    ];
    room = λ o e. absurd (none_some o e);
    making = λ o e. absurd (none_some o e);
    given_up = λ g e. let b = was.given_up g e in record {
      below = λ l i. elim i [
        | inl n ↦ (let lt = b.below role.newest (newest_live role) in let at_new = ap (λ (x : Live). x.version) n in omega arith)
        | inr t ↦ b.below l t
      ];
      page_in = b.page_in;
      apart = λ l i. elim i [
        | inl n ↦ λ same. given_apart z role was m g new.making e (sym same ∙ ap (λ (x : Live). x.page) n ∙ new.page_is)
        | inr t ↦ b.apart l t
      ];
      reached_in = b.reached_in;
    };
  }

  names_on : (p : Pin) → Names role p → Names role' p
  names_on p n = (n.0, inr n.1, n.2, n.3)

  pins_live : EachView views' (PinsLive role)
  pins_live = each_set views id v w at (PinsLive role) (h.pinned id v at) h.pinned

  none_on : (o : Option Pin) → ((p : Pin) → o ≡ Some p → Names role p) → pins_on version o ≡ 0
  none_on None k = refl
  none_on (Some p) k = let n = k p refl in pins_else version p (λ e. let lt = below n.0 n.1 in let is = n.2 in omega arith)

  taken_met : taken_named met ≡ h.taken
  taken_met = ap taken_named h.current.cur ∙ taken_is role.newest.version role.newest.page h.taken (few L F z words views h)

  none_pins : (u : View) → PinsLive role u → pins_on version u.pinned ≡ 0
  none_pins u k = none_on u.pinned k

  pins' : Pins z words' views' role' 0
  pins' = let p = pins_stay L F z words words' views id v w at h refl (λ q _. cur-release z words (naming version page) q) in record {
    counted = λ l t k. elim k [
      | inl x ↦ let none = total_zero (λ (u : View). pins_on version u.pinned) views' (λ i u e. none_pins u (pins_live i u e)) in
          let free = p.released page page_in (λ o i e. making_apart z role h.live m o new.making i (e ∙ new.page_is)) in
          subst (λ (o : Live). release z words' o.page + pinning views' o.version ≡ o.base + t) (sym x.0) (let no = x.1 in omega arith)
      | inr x ↦ elim x.1 [
        | inl e ↦ let old = p.counted role.newest h.taken (inl (refl, refl)) in
            let is : l ≡ role.newest = sym x.2 ∙ ap (λ (o : Older). o.live) e in
            let t_is : t ≡ h.taken = sym x.3 ∙ ap (λ (o : Older). o.taken) e ∙ taken_met in
            subst (λ (o : Live). release z words' o.page + pinning views' o.version ≡ o.base + t) (sym is) (omega arith)
        | inr i ↦ p.counted l t (inr (x.0, i, x.2, x.3))
      ]
    ];
    from_base = λ l i. elim i [
      | inl e ↦ let free = p.released page page_in (λ o j is. making_apart z role h.live m o new.making j (is ∙ new.page_is)) in
          subst (λ (o : Live). o.base ≤ release z words' o.page) (sym e) (omega arith)
      | inr t ↦ p.from_base l t
    ];
    released = λ q inside none. p.released q inside (λ l i. none l (inr i));
  }

  pages' : ArePages F z words' log' role'
  pages' l i = elim i [
    | inl e ↦ let n : l.version ≡ length log' = ap (λ (x : Live). x.version) e ∙ (let long : length log' ≡ length h.log + 1 =
        length-append h.log (record { words = m.entry } ∷ []) in let is = version_is in let was = h.current.version in
        let r : version ≡ length log' = omega arith in r) in
        subst (λ (log : List Entry). IsPage z words' (F log) l.page) (sym (ap (λ (q : ℕ). take q log') n ∙ take-length log'))
        (subst (λ (q : ℕ). IsPage z words' (F log') q) (sym (ap (λ (x : Live). x.page) e ∙ new.page_is))
        (page_moves (F log') z words words' m.page (whole_page L F v m words views id at h new.has new.making new.whole) (record {
          places = λ p _. cur-entry z words (naming version page) m.page p;
          in_use = λ r _ c _. cur-claim z words (naming version page) r ∙ c;
          rows = λ r _ _ _. same r;
        })))
    | inr t ↦ let top = live_version z role h.live l t in let was = h.current.version in
        subst (λ (log : List Entry). IsPage z words' (F log) l.page)
        (sym (take-append-le l.version h.log (record { words = m.entry } ∷ []) (omega arith))) (pages_move z words words' role F h.log h.live h.pages kept l t)
  ]

  claims' : Claims z words' views' role'
  claims' = let c = claims_by z words' role views views' (owned_before views id v w at refl) (owned_after views id v w at refl)
      (claims_keep z words words' role F h.log h.live h.pages kept views (λ r _. cur-claim z words (naming version page) r) (λ r _. same r) h.claims) in
      record {
        bit = c.bit;
        in_use = λ r ri e. elim (c.in_use r ri e) [
          | inl y ↦ inl y
          | inr y ↦ elim y [
            | inl x ↦ inr (inl (live_still r x))
            | inr t ↦ inr (inr (t.0, t.1, t.2, λ x. t.3 (live_back r x)))
          ]
        ];
        owned = λ i o y. let q = c.owned i o y in record {
          in_range = q.in_range;
          in_use = q.in_use;
          in_no_page = λ x. q.in_no_page (live_back o.row x);
          not_to_free = λ t. q.not_to_free (t.0, t.1, t.2, λ x. t.3 (live_still o.row x));
          written = q.written;
        };
        one_owner = c.one_owner;
        to_free = λ r t. c.to_free r (t.0, t.1, t.2, λ x. t.3 (live_still r x));
      }

  carried' : Carried F z words' log' role'
  carried' = let c = carried_moves z words words' role F h.log h.live h.pages kept h.carried in let top = newest_live role in
      let in_new : (b d : Live) (row : ℕ) → b ≡ newest' → d ≡ newest' → IsHeld z words' d.page row → In row b.carried = λ b d row eb ed y.
      subst (λ (l : Live). In row l.carried) (sym eb) (held_row row (subst (λ (l : Live). IsHeld z words' l.page row) ed y)) in
      let before : (d : Live) (row : ℕ) → d ≡ newest' → IsHeld z words' d.page row → IsHeld z words' role.newest.page row = λ d row ed y.
      held_newest row (subst (λ (l : Live). IsHeld z words' l.page row) ed y) in
      let late : (b d : Live) → b ≡ newest' → IsLiveVersion role d → b.version ≤ d.version → ⊥ = λ b d eb id le. let lt = below d id in
      let is = ap (λ (l : Live). l.version) eb in omega arith in
      record {
        between = λ a b d row ia ib id lt le x y. elim id [
          | inl ed ↦ elim ib [
            | inl eb ↦ in_new b d row eb ed y
            | inr jb ↦ elim ia [
              | inl ea ↦ absurd (late a b ea jb (omega arith))
              | inr ja ↦ c.between a b role.newest row ja jb top lt (live_version z role h.live b jb) x (before d row ed y)
            ]
          ]
          | inr jd ↦ elim ib [
            | inl eb ↦ absurd (late b d eb jd le)
            | inr jb ↦ elim ia [
              | inl ea ↦ absurd (late a b ea jb (omega arith))
              | inr ja ↦ c.between a b d row ja jb jd lt le x y
            ]
          ]
        ];
        after_left = λ g b d row is ib id le x y. elim id [
          | inl ed ↦ elim ib [
            | inl eb ↦ in_new b d row eb ed y
            | inr jb ↦ c.after_left g b role.newest row is jb top (live_version z role h.live b jb) x (before d row ed y)
          ]
          | inr jd ↦ elim ib [ inl eb ↦ absurd (late b d eb jd le) | inr jb ↦ c.after_left g b d row is jb jd le x y ]
        ];
        range = c.range;
        once = c.once;
        stands = λ l row i k. elim i [
          | inl e ↦ subst (λ (x : Live). IsHeld z words' x.page row) (sym e) (holds row (subst (λ (x : Live). In row x.carried) e k))
          | inr j ↦ c.stands l row j k
        ];
        kept = λ o next p row e _ _ _. absurd (none_some o e);
      }

  entries_on : (e : EntryFact) → EntryStands z words' role e → EntryStands z words' role' e
  entries_on e x = record {
    known = (let top = x.known in let is = version_is in omega arith);
    live = λ l i is. elim i [
      | inl n ↦ absurd (let top = x.known in let same = version_is in let at_new = ap (λ (y : Live). y.version) n in omega arith)
      | inr j ↦ x.live l j is
    ];
    given_up = x.given_up;
  }

  words_on' : (u : WordFact) → WordStands z words' role u → WordStands z words' role' u
  words_on' u x = record {
    known = (let top = x.known in let is = version_is in omega arith);
    live = λ l i is. elim i [
      | inl n ↦ absurd (let top = x.known in let same = version_is in let at_new = ap (λ (y : Live). y.version) n in omega arith)
      | inr j ↦ x.live l j is
    ];
  }

  moved : (u : View) → Knows z words role u → Knows z words' role' u
  moved u k = let on = knows_on z words words' role F h.log h.live h.pages kept u k in (
    each_map (EntryStands z words' role) (EntryStands z words' role') entries_on u.entries on.0,
    each_map (WordStands z words' role) (WordStands z words' role') words_on' u.words on.1,
  )

  -- what was written becomes what is known of the new version
  my_entries : Each (EntryStands z words' role') (entries_of version 0 m.places)
  my_entries = each_entry (EntryStands z words' role') version 0 m.places (λ i row lt e. let all = new.whole.places_whole in let inside : i < z.places =
      omega arith in record {
        known = omega arith;
        live = λ l il is. elim il [
          | inl n ↦ (
            omega arith,
            ap (λ (q : ℕ). entry z words' q (0 + i)) (ap (λ (x : Live). x.page) n ∙ new.page_is)
                ∙ ap (entry z words' m.page) (let r : 0 + i ≡ i = omega arith in r)
                ∙ cur-entry z words (naming version page) m.page i ∙ is_written L F v m words views id at h new.has new.making new.whole i inside ∙ e,
          )
          | inr j ↦ absurd (let lt = below l j in omega arith)
        ];
        given_up = λ g is same. absurd (let b = (h.live.given_up g is).below role.newest (newest_live role) in let top = version_is in omega arith);
      })

  newest_now : role.newest.version ≡ now v
  newest_now = sym h.current.version ∙ sym (ap length log_is)

  -- a fact of the version before on a row
  fact_stands : (u : WordFact) → In u v.words → u.version ≡ now v → StandsIn z words' u.row (u.index, u.word)
  fact_stands u i e = let f = each_in (WordStands z words role) u v.words (h.facts id v at).1 i in
      stands_on u.row (u.index, u.word) (f.live role.newest (newest_live role) (newest_now ∙ sym e)).1

  my_words : Each (WordStands z words' role') (facts_carried (now v) version (rows_of m.places) v.words)
  my_words = let P : WordFact → Type 0 = λ u. WordStands z words' role' (record u { version = version }) in
      each_mapped P (WordStands z words' role') (λ (u : WordFact). record u { version = version }) (λ u x. x) (facts_on (now v) (rows_of m.places) v.words)
      (each_fact P (now v) (rows_of m.places) v.words (λ u i e row_in. record {
        known = omega arith;
        live = λ l il is. elim il [
          | inl n ↦ (subst (λ (x : Live). IsHeld z words' x.page u.row) (sym n) (holds u.row row_in), fact_stands u i e)
          | inr j ↦ absurd (let lt = below l j in omega arith)
        ];
      }))

  my_facts : Knows z words' role' w
  my_facts = let k = moved v (h.facts id v at) in (
    subst (Each (EntryStands z words' role')) (sym entries_is)
        (each_append (EntryStands z words' role') (entries_of version 0 m.places) v.entries my_entries k.0),
    subst (Each (WordStands z words' role')) (sym words_is)
        (each_append (WordStands z words' role') (facts_carried (now v) version (rows_of m.places) v.words) v.words my_words k.1),
  )

  row_words : (n row : ℕ) → n ≡ suc row → Each (StandsIn z words' row) (words_on (now v) v.words n)
  row_words n row e = subst (λ (k : ℕ). Each (StandsIn z words' row) (words_on (now v) v.words k)) (sym e)
      (let P : WordFact → Type 0 = λ u. StandsIn z words' row (u.index, u.word) in
      each_mapped P (StandsIn z words' row) (λ (u : WordFact). (u.index, u.word)) (λ u x. x) (facts_on (now v) (row ∷ []) v.words)
      (each_fact P (now v) (row ∷ []) v.words (λ u i is row_in. elim row_in [
        | inl r ↦ subst (λ (k : ℕ). StandsIn z words' k (u.index, u.word)) r (fact_stands u i is)
        | inr t ↦ absurd t
      ])))

  my_known : KnowsWhole z words' role' w
  my_known _ = subst (Each (IsKnown z words' role')) (sym known_is)
      (each_cond (IsKnown z words' role') (eqb v.share whole) (places_known (now v) v.words 0 m.places) []
      (each_place (IsKnown z words' role') (now v) v.words 0 m.places (λ i lt. let all = new.whole.places_whole in let inside : i < z.places = omega arith in (
        omega arith,
        ap (λ (q : ℕ). entry z words' q (0 + i)) new.page_is ∙ ap (entry z words' m.page) (let r : 0 + i ≡ i = omega arith in r)
            ∙ cur-entry z words (naming version page) m.page i ∙ is_written L F v m words views id at h new.has new.making new.whole i inside,
        λ row e. row_words (slice_index m.places i) row e,
      ))) tt)

  swaps : Lawful L F z words' views'
  swaps = record {
    long = length-set words 0 (naming version page) ∙ h.long;
    sizes = each_set views id v w at (IsMeasured z) (λ _. refl) h.sizes;
    log = log';
    role = role';
    taken = 0;
    editor = editor';
    current = current';
    logs = each_set views id v w at (KnowsLog log') my_log (λ j u e. knows_longer h.log (record { words = m.entry }) u (h.logs j u e));
    live = live';
    pinned = λ j u e p is. names_on p (pins_live j u e p is);
    pins = pins';
    budget = budget_stays L F z words words' views id v w at h refl (λ q _. cur-release z words (naming version page) q) refl;
    pages = pages';
    claims = claims';
    carried = carried';
    facts = each_set views id v w at (Knows z words' role') my_facts (λ j u e. moved u (h.facts j u e));
    shares = record {
      sum = total_alike (λ (u : View). u.share) views id v w at refl ∙ h.shares.sum;
      rightful = each_set views id v w at IsRightful (let right = h.shares.rightful id v at in (λ e. absurd (some e), right.1)) h.shares.rightful;
    };
    known = each_other views id v w at (KnowsWhole z words' role') my_known
        (λ j u n e all. absurd (some (let t = total_two (λ (x : View). x.share) views j id u v e at n in let s = h.shares.sum in omega arith)));
  }

module _ (L : List Entry → Type 0) (F : List Entry → List ℕ → Type 0) (v : View) (r : Role) (m : Making) (version page : ℕ)
    (new : IsNewVersion v r m version page) where
  pub keeps_swap_current : v.share ≢ 0 → Keeps L F v (op.SwapCurrent version page)
  keeps_swap_current some words views id n h at e =
      subst (λ (x : ℕ). Lawful L F v.sizes (set words 0 (naming version page)) (set views id (after_swap_current v version page x))) e
      (swaps L F v m version page words views id at h
      (subst (λ (x : Role). IsNewVersion v x m version page) (is_role L F v.sizes words views id v at h r new.has) new) some)
