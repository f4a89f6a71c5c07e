-- What the parts of the rule keep after a write, by the words that they read: CUR and the log, the pages, rows in several pages, and facts.
use Rattle.std.proofs.Common.{◌≡◌, ℕ, ◌<◌, List, length, take, slice_index, inl, inr, sym, ◌∙◌, subst, arith}
use Rattle.std.specs.Prelude.{Some}
use Rattle.pin_rule.specs.declared.sizes.Sizes.{Sizes}
use Rattle.pin_rule.specs.declared.content.Entry.{Entry}
use Rattle.pin_rule.specs.declared.view.View.{View}
use Rattle.pin_rule.specs.declared.view.OwnRow.{OwnRow}
use Rattle.pin_rule.specs.declared.view.Live.{Live}
use Rattle.pin_rule.specs.declared.view.Making.{Making}
use Rattle.pin_rule.specs.declared.view.GivingUp.{GivingUp}
use Rattle.pin_rule.specs.declared.view.Role.{Role}
use Rattle.pin_rule.specs.Layout.{release, claim, entry, row_at, logged}
use Rattle.pin_rule.specs.Rows.{content_of}
use Rattle.pin_rule.specs.Views.{IsLiveVersion}
use Rattle.pin_rule.specs.Pages.{IsHeld, IsHeldLive, IsLeft, IsToFree}
use Rattle.pin_rule.specs.PartCurrent.{IsCurrent, current_of}
use Rattle.pin_rule.specs.PartLive.{IsVersions}
use Rattle.pin_rule.specs.PartClaims.{StandsIn, IsOwned, Claims}
use Rattle.pin_rule.specs.PartCarried.{Carried}
use Rattle.pin_rule.specs.PartFacts.{EntryStands, WordStands, Knows, IsKnown, KnowsWhole}
use Rattle.pin_rule.specs.Lawful.{ArePages}
use Rattle.pin_rule.proofs.Lists.{at_short, each_map}
use Rattle.pin_rule.proofs.Frames.{Same, content_same}
use Rattle.pin_rule.proofs.Moves.{page_moves}
use Rattle.pin_rule.proofs.Versions.{newest_live}

module _ (z : Sizes) (words words' : List ℕ) (role : Role) where
  -- the log and the page in the making are as they were
  pub record LogStays : Type 0 where
    pub logs : (e i : ℕ) → e < z.log → i < 32 → logged z words' e i ≡ logged z words e i
    pub made : (m : Making) (p : ℕ) → role.making ≡ Some m → m.page < z.versions → p < z.places → entry z words' m.page p ≡ entry z words m.page p

  -- so are CUR and the release words
  pub record Quiet : Type 0 where
    pub cur : slice_index words' 0 ≡ slice_index words 0
    pub releases : (page : ℕ) → page < z.versions → release z words' page ≡ release z words page
    pub log : LogStays

  pub current_moves : (L : List Entry → Type 0) (log : List Entry) (taken taken' : ℕ) → LogStays → slice_index words' 0 ≡ current_of role taken'
      → IsCurrent L z words log role taken → IsCurrent L z words' log role taken'
  current_moves L log taken taken' q cur h = record {
    cur = cur;
    version = h.version;
    log_in = h.log_in;
    log_wide = h.log_wide;
    log_is = λ i index e at lt. let n = at_short log i e at in let few = h.log_in in q.logs i index (omega arith) lt ∙ h.log_is i index e at lt;
    lawful_log = h.lawful_log;
    making = λ m is. let k = h.making m is in record {
      room = k.room;
      page_in = k.page_in;
      entry_in = k.entry_in;
      entry_is = λ index lt. let few = k.entry_in in q.logs (length log) index k.room (omega arith) ∙ k.entry_is index lt;
      places_in = k.places_in;
      places_after = k.places_after;
      places_are = λ place lt. let few = k.places_in in q.made m place is k.page_in (omega arith) ∙ k.places_are place lt;
    };
    next_log = h.next_log;
  }

  -- each live page has the entries that it had, and the rows that it names are in use and as they were
  pub record Kept : Type 0 where
    pub places : (l : Live) (p : ℕ) → IsLiveVersion role l → p < z.places → entry z words' l.page p ≡ entry z words l.page p
    pub in_use : (r : ℕ) → r < z.rows → claim z words r ≡ 1 → IsHeldLive z words role r → claim z words' r ≡ 1
    pub rows : (r : ℕ) → r < z.rows → claim z words r ≡ 1 → IsHeldLive z words role r → Same z.width (row_at z words r) (row_at z words' r)
    -- the page that is being given up has its entries
    pub given : (g : GivingUp) (p : ℕ) → role.giving_up ≡ Some g → p < z.places → entry z words' g.page p ≡ entry z words g.page p

  pub held_on : Kept → (l : Live) (r : ℕ) → IsLiveVersion role l → IsHeld z words l.page r → IsHeld z words' l.page r
  held_on kept l r i x = (x.0, x.1, kept.places l x.0 i x.1 ∙ x.2)

  pub held_back : Kept → (l : Live) (r : ℕ) → IsLiveVersion role l → IsHeld z words' l.page r → IsHeld z words l.page r
  held_back kept l r i x = (x.0, x.1, sym (kept.places l x.0 i x.1) ∙ x.2)

  pub live_on : Kept → (r : ℕ) → IsHeldLive z words role r → IsHeldLive z words' role r
  live_on kept r x = (x.0, x.1, held_on kept x.0 r x.1 x.2)

  pub live_back : Kept → (r : ℕ) → IsHeldLive z words' role r → IsHeldLive z words role r
  live_back kept r x = (x.0, x.1, held_back kept x.0 r x.1 x.2)

  pub left_back : Kept → (g : GivingUp) (r : ℕ) → role.giving_up ≡ Some g → IsLeft z words' g r → IsLeft z words g r
  left_back kept g r is x = (x.0, x.1, x.2, sym (kept.given g x.0 is x.1) ∙ x.3)

  pub free_on : Kept → (r : ℕ) → IsToFree z words role r → IsToFree z words' role r
  free_on kept r t = let x = t.2 in (t.0, t.1, (x.0, x.1, x.2, kept.given t.0 x.0 t.1 x.1 ∙ x.3), λ y. t.3 (live_back kept r y))

  pub free_back : Kept → (r : ℕ) → IsToFree z words' role r → IsToFree z words role r
  free_back kept r t = (t.0, t.1, left_back kept t.0 r t.1 t.2, λ y. t.3 (live_on kept r y))

  module _ (F : List Entry → List ℕ → Type 0) (log : List Entry) (live : IsVersions z role) (h : ArePages F z words log role) (kept : Kept) where
    -- the words of a held row stay
    pub row_stays : (l : Live) (r : ℕ) → IsLiveVersion role l → IsHeld z words l.page r → Same z.width (row_at z words r) (row_at z words' r)
    row_stays l r i x = let e = (h l i).entries x.0 r x.1 x.2 in kept.rows r e.in_range e.in_use (l, i, x)

    pub pages_move : ArePages F z words' log role
    pages_move l i = page_moves (F (take l.version log)) z words words' l.page (h l i) (record {
      places = λ p pi. kept.places l p i pi;
      in_use = λ r ri c x. kept.in_use r ri c (l, i, x);
      rows = λ r ri c x. kept.rows r ri c (l, i, x);
    })

    pub content_stays : (next : List Entry) (l : Live) (r : ℕ) → IsLiveVersion role l → IsHeld z words l.page r → F next (content_of (row_at z words r))
        → F next (content_of (row_at z words' r))
    content_stays next l r i x = subst (F next) (content_same (row_at z words r) (row_at z words' r) z.width ((h l i).entries x.0 r x.1 x.2).room
        (row_stays l r i x))

    pub carried_moves : Carried F z words log role → Carried F z words' log role
    carried_moves c = record {
      between = λ a b d row ia ib id lt le x y. c.between a b d row ia ib id lt le (held_back kept a row ia x) (held_back kept d row id y);
      after_left = λ g b d row e ib id le x y. c.after_left g b d row e ib id le (left_back kept g row e x) (held_back kept d row id y);
      range = λ g p row is pi e. c.range g p row is pi (sym (kept.given g p is pi) ∙ e);
      once = λ g p q row is pi qi ep eq. c.once g p q row is pi qi (sym (kept.given g p is pi) ∙ ep) (sym (kept.given g q is qi) ∙ eq);
      stands = λ l row i x. held_on kept l row i (c.stands l row i x);
      kept = λ m next place row is to lt e. let k = c.kept m next place row is to lt e in let i = newest_live role in
          (held_on kept role.newest row i k.0, content_stays next role.newest row i k.0 k.1);
    }

    stands_on : (l : Live) (r : ℕ) → IsLiveVersion role l → IsHeld z words l.page r → (w : ℕ × ℕ) → StandsIn z words r w → StandsIn z words' r w
    stands_on l r i x w s = (s.0, sym (row_stays l r i x w.0 s.0) ∙ s.1)

    pub knows_on : (v : View) → Knows z words role v → Knows z words' role v
    knows_on v k = (
      each_map (EntryStands z words role) (EntryStands z words' role)
          (λ e x. record {
            known = x.known;
            live = λ l i is. let y = x.live l i is in (y.0, kept.places l e.place i y.0 ∙ y.1);
            given_up = λ g is same. let y = x.given_up g is same in (y.0, kept.given g e.place is y.0 ∙ y.1);
          }) v.entries k.0,
      each_map (WordStands z words role) (WordStands z words' role)
          (λ w x. record {
            known = x.known;
            live = λ l i is. let y = x.live l i is in (
              held_on kept l w.row i y.0,
              stands_on l w.row i y.0 (
                w.index,
                w.word,
              ) y.1,
            );
          }) v.words k.1,
    )

    pub known_on : (v : View) → KnowsWhole z words role v → KnowsWhole z words' role v
    known_on v k all = each_map (IsKnown z words role) (IsKnown z words' role)
        (λ p x. let i = newest_live role in (
          x.0,
          kept.places role.newest p.place i x.0 ∙ x.1,
          λ row e. each_map (StandsIn z words row) (StandsIn z words' row)
              (stands_on role.newest row i (p.place, x.0, x.1 ∙ e)) p.words (x.2 row e),
        ))
        v.known (k all)

    pub owned_moves : (o : OwnRow) → IsOwned z words role o → claim z words' o.row ≡ 1 → Same z.width (row_at z words o.row) (row_at z words' o.row)
        → IsOwned z words' role o
    owned_moves o i c s = record {
      in_range = i.in_range;
      in_use = c;
      in_no_page = λ x. i.in_no_page (live_back kept o.row x);
      not_to_free = λ x. i.not_to_free (free_back kept o.row x);
      written = each_map (StandsIn z words o.row) (StandsIn z words' o.row) (λ w x. (x.0, sym (s w.0 x.0) ∙ x.1)) o.wrote i.written;
    }

    -- the claim words stay as well, and all rows
    pub claims_keep : (views : List View) → ((r : ℕ) → r < z.rows → claim z words' r ≡ claim z words r)
        → ((r : ℕ) → r < z.rows → Same z.width (row_at z words r) (row_at z words' r)) → Claims z words views role → Claims z words' views role
    claims_keep views stays same c = record {
      bit = λ r ri. let b = c.bit r ri in let e = stays r ri in omega arith;
      in_use = λ r ri e. elim (c.in_use r ri (sym (stays r ri) ∙ e)) [
        | inl y ↦ inl y
        | inr y ↦ elim y [
          | inl t ↦ inr (inl (live_on kept r t))
          | inr t ↦ inr (inr (free_on kept r t))
        ]
      ];
      owned = λ i o y. let q = c.owned i o y in owned_moves o q (stays o.row q.in_range ∙ q.in_use) (same o.row q.in_range);
      one_owner = c.one_owner;
      to_free = λ r t. let k = c.to_free r (free_back kept r t) in (k.0, stays r k.0 ∙ k.1);
    }
