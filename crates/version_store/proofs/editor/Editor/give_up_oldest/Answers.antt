use Rattle.std.proofs.Common.{◌≡◌, ◌≢◌, ◌<◌, ◌-◌, ◌+◌, ◌∷◌, ℕ, List, length, get_or, ◌≤◌, refl, sym, ap, ◌∙◌, subst, arith}
use Rattle.std.specs.Prelude.{Some, None}
use Rattle.atomic_table.specs.Seated.{TableId}
use Rattle.pin_rule.specs.declared.sizes.Sizes.{Sizes}
use Rattle.pin_rule.specs.declared.view.View.{View}
use Rattle.pin_rule.specs.declared.view.Role.{Role}
use Rattle.pin_rule.specs.declared.view.Older.{Older}
use Rattle.pin_rule.specs.declared.view.GivingUp.{GivingUp}
use Rattle.pin_rule.specs.Hands.{view_of, table_of}
use Rattle.pin_rule.specs.GivingUp.{before_last, last_of, last_live}
use Rattle.pin_rule.specs.Steps.{loaded_release, after_load_release}
use Rattle.pin_rule.specs.Told.{Meets, IsReleaseOf}
use Rattle.pin_rule.specs.declared.ops.Op.TheVariants as op
use Rattle.pin_rule.proofs.KindLoadRelease.{keeps_load_release}
use Rattle.version_store.specs.declared.live_version.LiveVersion.{LiveVersion}
use Rattle.version_store.specs.declared.live_version.OlderVersion.{OlderVersion}
use Rattle.version_store.specs.declared.lives.Lives.{Lives}
use Rattle.version_store.specs.declared.leaving.Leaving.{Leaving}
use Rattle.version_store.specs.Roles.{role_of, role_or_first}
use Rattle.version_store.specs.Marks.{is_marked}
use Rattle.version_store.specs.Meaning.{editor_meaning}
use Rattle.version_store.specs.Notes.{IsNoted, IsNotedIn}
use Rattle.version_store.specs.GivingUp.{page_frees, KeepsOldest, GivesUpOldest}
use Rattle.version_store.specs.Stages.{Goes}
use Rattle.version_store.specs.Freeing.{IsGiving, FreesPage}
use Rattle.version_store.specs.LivePages.{first_page}
use Rattle.version_store.proofs.Noting.{oldest_in}
use Rattle.version_store.proofs.OldestNoted as old
use Rattle.version_store.proofs.GivenUp as given
use Rattle.version_store.proofs.GivenUp.{role_left}
use Rattle.version_store.proofs.editor.Editor.give_up_oldest.Goals as goal

-- what the load of the release word of the noted version tells of the oldest one
module _ (v : View) (l : Lives) (h : IsNotedIn (role_of v) l) (some : 0 < length l.older.items) (x : OlderVersion)
    (first : x ≡ get_or l.older.items 0 x) (n : ℕ) (u : View) (has : v.role ≡ Some (role_of v)) (met : Meets v (op.LoadRelease x.live.page) n)
    (is : u ≡ after_load_release v x.live.page n) where
  abbrev a : Older
  a = (old.parts (role_of v) l h some x first).0

  abbrev os : List Older
  os = (old.parts (role_of v) l h some x first).1

  older : (role_of v).older ≡ a ∷ os
  older = (old.parts (role_of v) l h some x first).2

  release : IsReleaseOf v (role_of v) (last_of a os) n
  release = met (role_of v) (last_of a os) has (old.among (role_of v) l h some x first) (old.page_is (role_of v) l h some x first)

  loaded : u ≡ after_load_release v (last_of a os).live.page n
  loaded = is ∙ ap (λ (p : ℕ). after_load_release v p n) (sym (old.page_is (role_of v) l h some x first))

  from_base : x.live.base ≤ n
  from_base = let b = old.base_is (role_of v) l h some x first in let f = release.from_base in omega arith

  few : n - x.live.base ≤ x.taken
  few = let b = old.base_is (role_of v) l h some x first in let t = old.taken_is (role_of v) l h some x first in let f = release.from_base in
      let m = release.at_most in omega arith

  not_dropped : n - x.live.base < x.taken → n ≢ (last_of a os).live.base + (last_of a os).taken
  not_dropped lt e = let b = old.base_is (role_of v) l h some x first in let t = old.taken_is (role_of v) l h some x first in omega arith

  dropped : x.taken ≤ n - x.live.base → n ≡ (last_of a os).live.base + (last_of a os).taken
  dropped le = let b = old.base_is (role_of v) l h some x first in let t = old.taken_is (role_of v) l h some x first in let f = release.from_base in
      let m = release.at_most in omega arith

pub load_release-met-requires-clause-page : goal.load_release-met-requires-clause-page
load_release-met-requires-clause-page g c = let e = c.args.self.now in let v = view_of e.hand in
    let lt = old.page_in (role_of v) e.lives e.noted c.requires c.index-oldest.result.now c.index-oldest.ensures in
    subst (λ (z : Sizes). c.index-oldest.result.now.live.page < z.versions) (e.lives_measured ∙ sym e.measured) lt

pub load_release-met-requires-clause-keeps : goal.load_release-met-requires-clause-keeps
load_release-met-requires-clause-keeps g c = keeps_load_release g.C.Content.lawful g.C.Content.fits (view_of c.args.self.now.hand)
    c.index-oldest.result.now.live.page

pub overflow_sub-released : goal.overflow_sub-released
overflow_sub-released g c = let e = c.args.self.now in let k = c.load_release-met in
    from_base (view_of e.hand) e.lives e.noted c.requires c.index-oldest.result.now c.index-oldest.ensures k.result (view_of k.new.self) e.editor k.ensures.met
    k.ensures.view

pub invariant_of-self : goal.invariant_of-self
invariant_of-self g c = let e = c.args.self.now in let k = c.load_release-met in let v = view_of e.hand in let u = view_of k.new.self in
    let x = c.index-oldest.result.now in let p = old.parts (role_of v) e.lives e.noted c.requires x c.index-oldest.ensures in
    let is = loaded v e.lives e.noted c.requires x c.index-oldest.ensures k.result u e.editor k.ensures.met k.ensures.view in
    let stays = given.role_stays v (role_of v) p.0 p.1 k.result u e.editor e.keeps_all p.2 is
    (not_dropped v e.lives e.noted c.requires x c.index-oldest.ensures k.result u e.editor k.ensures.met k.ensures.view c.if-released-oldest.true) in
    let goes = given.loads v (role_of v) p.0 p.1 k.result u e.editor e.keeps_all p.2 is in
    let same : role_of u ≡ role_of v = ap role_or_first stays in record {
      measured = goes.stays.sizes ∙ e.measured;
      shared = λ none. e.shared (sym goes.stays.share ∙ none);
      unpinned = goes.stays.pinned ∙ e.unpinned;
      free = goes.stays.own ∙ e.free;
      editor = stays ∙ ap (λ (r : Role). Some r) (sym same);
      idle = ap (λ (r : Role). r.making) same ∙ e.idle;
      keeps_all = ap (λ (r : Role). r.giving_up) same ∙ e.keeps_all;
      current = e.current ∙ ap length (sym goes.log);
      noted = subst (λ (r : Role). IsNotedIn r e.lives) (sym same) e.noted;
      lives_measured = e.lives_measured;
      log_in = e.log_in;
      counted = e.counted ∙ sym goes.stays.pins_left;
      row_room = e.row_room;
      places_empty = e.places_empty;
    }

pub returns-then-released-oldest-clause-stays : goal.returns-then-released-oldest-clause-stays
returns-then-released-oldest-clause-stays g c = let e = c.args.self.now in let k = c.load_release-met in let v = view_of e.hand in let u = view_of k.new.self in
    let x = c.index-oldest.result.now in let p = old.parts (role_of v) e.lives e.noted c.requires x c.index-oldest.ensures in
    let is = loaded v e.lives e.noted c.requires x c.index-oldest.ensures k.result u e.editor k.ensures.met k.ensures.view in
    let b = old.base_is (role_of v) e.lives e.noted c.requires x c.index-oldest.ensures in
    let t = old.taken_is (role_of v) e.lives e.noted c.requires x c.index-oldest.ensures in
    let f = from_base v e.lives e.noted c.requires x c.index-oldest.ensures k.result u e.editor k.ensures.met k.ensures.view in
    let less = c.if-released-oldest.true in
    subst (λ (i : TableId × ℕ). KeepsOldest (editor_meaning v (table_of e.hand)) (editor_meaning u i) (k.result - x.live.base)) (sym k.ensures.table)
    (given.keeps v (role_of v) p.0 p.1 k.result u e.editor e.keeps_all p.2 is (table_of e.hand) (k.result - x.live.base) refl (omega arith) (omega arith))

pub returns-then-released-oldest-clause-shared : goal.returns-then-released-oldest-clause-shared
returns-then-released-oldest-clause-shared g c = λ all. let e = c.args.self.now in let k = c.load_release-met in let v = view_of e.hand in
    let u = view_of k.new.self in let x = c.index-oldest.result.now in
    not_dropped v e.lives e.noted c.requires x c.index-oldest.ensures k.result u e.editor k.ensures.met k.ensures.view c.if-released-oldest.true
    ((release v e.lives e.noted c.requires x c.index-oldest.ensures k.result u e.editor k.ensures.met k.ensures.view).all_dropped all e.unpinned)

pub invariant_of-leaving : goal.invariant_of-leaving
invariant_of-leaving g c = let e = c.args.self.now in let v = view_of e.hand in let n = c.drop_oldest.new.self in record {
  page_in = subst (λ (z : Sizes). c.index-oldest.result.now.live.page < z.versions) e.lives_measured
      (old.page_in (role_of v) e.lives e.noted c.requires c.index-oldest.result.now c.index-oldest.ensures);
  next_in = subst (λ (t : ℕ × Sizes). t.0 < t.1.versions) (λ i. (sym c.oldest_page.ensures i, (c.drop_oldest.ensures.sizes ∙ e.lives_measured) i))
      (n.pages_in _ (old.first_in n.newest n.older.items));
}

-- the page of the oldest version is gone through from its first place on
module _ (v : View) (l n : Lives) (h : IsNotedIn (role_of v) l) (some : 0 < length l.older.items) (x : OlderVersion)
    (first : x ≡ get_or l.older.items 0 x) (met : ℕ) (u : View) (has : v.role ≡ Some (role_of v)) (idle : (role_of v).giving_up ≡ None)
    (meets : Meets v (op.LoadRelease x.live.page) met) (is : u ≡ after_load_release v x.live.page met) (all : x.taken ≤ met - x.live.base)
    (left : IsNoted (role_of v).newest (before_last (a v l h some x first met u has meets is) (os v l h some x first met u has meets is))
    (((last_of (a v l h some x first met u has meets is) (os v l h some x first met u has meets is)).live.page, met) ∷ (role_of v).released) n)
    (share : v.share ≢ 0) (unpinned : v.pinned ≡ None) where
  abbrev first_ : Older
  first_ = a v l h some x first met u has meets is

  abbrev rest : List Older
  rest = os v l h some x first met u has meets is

  loads : u ≡ after_load_release v (last_of first_ rest).live.page met
  loads = loaded v l h some x first met u has meets is

  all_dropped : met ≡ (last_of first_ rest).live.base + (last_of first_ rest).taken
  all_dropped = dropped v l h some x first met u has meets is all

  abbrev gone : Role
  gone = given.gone v (role_of v) first_ rest met u has idle (older v l h some x first met u has meets is) loads all_dropped

  abbrev giving : GivingUp
  giving = given.giving v (role_of v) first_ rest met u has idle (older v l h some x first met u has meets is) loads all_dropped

  module _ (c : Leaving) (sizes : v.sizes ≡ c.sizes) (marked : n.carried.sizes ≡ c.sizes) (page : x.live.page ≡ c.page)
      (next : first_page n.newest n.older.items ≡ c.next) where
    next_is : (last_live (role_of v).newest (before_last first_ rest)).page ≡ c.next
    next_is = old.next_page (role_of v).newest (before_last first_ rest) (((last_of first_ rest).live.page, met) ∷ (role_of v).released) n left ∙ next

    begins : IsGiving c n.carried gone giving 0 u
    begins = given.begins v (role_of v) first_ rest met u has idle (older v l h some x first met u has meets is) loads all_dropped c n.carried sizes marked
        share
        unpinned (old.page_is (role_of v) l h some x first ∙ page) next_is (release v l h some x first met u has meets is).apart
        (λ row lt. ap (λ (i : ℕ). is_marked n.carried.sizes n.carried.marks.items i row) (sym next_is)
        ∙ left.carried_are (last_live (role_of v).newest (before_last first_ rest)) row (oldest_in (role_of v).newest (before_last first_ rest))
        (subst (λ (z : Sizes). row < z.rows) (sym marked) lt))

    -- and was gone through
    module _ (w : View) (places : List ℕ) (many : length places ≡ c.sizes.places) (freed : FreesPage c n.carried gone giving places u w) where
      role_is : w.role ≡ Some (role_left (role_of v) first_ rest met)
      role_is = given.role_after v (role_of v) first_ rest met u has idle (older v l h some x first met u has meets is) loads all_dropped c n.carried w places
          sizes
          (old.page_is (role_of v) l h some x first ∙ page) many freed

      role_now : role_of w ≡ role_left (role_of v) first_ rest met
      role_now = ap role_or_first role_is

      goes_all : Goes v w (loaded_release v.sizes (last_of first_ rest).live.page met
          ∷ page_frees c.sizes (last_live (role_of v).newest (before_last first_ rest)).carried c.page 0 places)
      goes_all = given.goes v (role_of v) first_ rest met u has idle (older v l h some x first met u has meets is) loads all_dropped c n.carried w places sizes
          (old.page_is (role_of v) l h some x first ∙ page) many freed

      noted_now : IsNotedIn (role_of w) n
      noted_now = old.noted_for (role_of v).newest (before_last first_ rest) (((last_of first_ rest).live.page, met) ∷ (role_of v).released) n left (role_of w)
          (ap (λ (r : Role). r.newest) role_now) (ap (λ (r : Role). r.older) role_now) (ap (λ (r : Role). r.released) role_now)

      gives_up : (t : TableId × ℕ) → GivesUpOldest (editor_meaning v t) (editor_meaning w t)
      gives_up t = given.gives_up v (role_of v) first_ rest met u has idle (older v l h some x first met u has meets is) loads all_dropped c n.carried w places
          sizes
          (old.page_is (role_of v) l h some x first ∙ page) many freed t refl

pub free_page-requires : goal.free_page-requires
free_page-requires g c = let e = c.args.self.now in let k = c.load_release-met in let v = view_of e.hand in let u = view_of k.new.self in
    let x = c.index-oldest.result.now in let n = c.drop_oldest.new.self in let first = c.index-oldest.ensures in
    let p = old.parts (role_of v) e.lives e.noted c.requires x first in
    let left = c.drop_oldest.ensures.noted (role_of v).newest p.0 p.1 (role_of v).released (old.noted_parts (role_of v) e.lives e.noted c.requires x first) in
    let marked : n.carried.sizes ≡ e.sizes = n.measured ∙ c.drop_oldest.ensures.sizes ∙ e.lives_measured in (
      gone v e.lives n e.noted c.requires x first k.result u e.editor e.keeps_all k.ensures.met k.ensures.view c.if-released-oldest.false left e.shared
          e.unpinned,
      giving v e.lives n e.noted c.requires x first k.result u e.editor e.keeps_all k.ensures.met k.ensures.view c.if-released-oldest.false left e.shared
          e.unpinned,
      begins v e.lives n e.noted c.requires x first k.result u e.editor e.keeps_all k.ensures.met k.ensures.view c.if-released-oldest.false left e.shared
          e.unpinned
          _ e.measured marked refl (sym c.oldest_page.ensures),
    )

pub invariant_of-self-3 : goal.invariant_of-self-3
invariant_of-self-3 g c = let e = c.args.self.now in let k = c.load_release-met in let v = view_of e.hand in let u = view_of k.new.self in
    let x = c.index-oldest.result.now in let n = c.drop_oldest.new.self in let first = c.index-oldest.ensures in
    let p = old.parts (role_of v) e.lives e.noted c.requires x first in
    let left = c.drop_oldest.ensures.noted (role_of v).newest p.0 p.1 (role_of v).released (old.noted_parts (role_of v) e.lives e.noted c.requires x first) in
    let marked : n.carried.sizes ≡ e.sizes = n.measured ∙ c.drop_oldest.ensures.sizes ∙ e.lives_measured in
    let q = begins v e.lives n e.noted c.requires x first k.result u e.editor e.keeps_all k.ensures.met k.ensures.view c.if-released-oldest.false left
    e.shared e.unpinned _ e.measured marked refl (sym c.oldest_page.ensures) in
    let f = c.free_page.ensures.freed _ _ q in let w = view_of c.free_page.new.hand in
    let now = role_now v e.lives n e.noted c.requires x first k.result u e.editor e.keeps_all k.ensures.met k.ensures.view c.if-released-oldest.false left
    e.shared e.unpinned _ e.measured marked refl (sym c.oldest_page.ensures) w f.0 f.1 f.2 in
    let goes = goes_all v e.lives n e.noted c.requires x first k.result u e.editor e.keeps_all k.ensures.met k.ensures.view c.if-released-oldest.false left
    e.shared e.unpinned _ e.measured marked refl (sym c.oldest_page.ensures) w f.0 f.1 f.2 in
    let noted = noted_now v e.lives n e.noted c.requires x first k.result u e.editor e.keeps_all k.ensures.met k.ensures.view c.if-released-oldest.false left
    e.shared e.unpinned _ e.measured marked refl (sym c.oldest_page.ensures) w f.0 f.1 f.2 in record {
      measured = goes.stays.sizes ∙ e.measured;
      shared = λ none. e.shared (sym goes.stays.share ∙ none);
      unpinned = goes.stays.pinned ∙ e.unpinned;
      free = goes.stays.own ∙ e.free;
      editor = role_is v e.lives n e.noted c.requires x first k.result u e.editor e.keeps_all k.ensures.met k.ensures.view c.if-released-oldest.false left
          e.shared e.unpinned _ e.measured marked refl (sym c.oldest_page.ensures) w f.0 f.1 f.2 ∙ ap (λ (r : Role). Some r) (sym now);
      idle = ap (λ (r : Role). r.making) now ∙ e.idle;
      keeps_all = ap (λ (r : Role). r.giving_up) now;
      current = ap (λ (y : LiveVersion). y.version) (sym left.newest_is ∙ e.noted.newest_is) ∙ e.current ∙ ap length (sym goes.log);
      noted = record {
        newest_is = noted.newest_is;
        older_is = noted.older_is;
        releases_are = noted.releases_are;
        carried_are = noted.carried_are;
      };
      lives_measured = c.drop_oldest.ensures.sizes ∙ e.lives_measured;
      log_in = subst (λ (y : LiveVersion). y.version ≤ e.sizes.log) (sym e.noted.newest_is ∙ left.newest_is) e.log_in;
      counted = e.counted ∙ sym goes.stays.pins_left;
      row_room = e.row_room;
      places_empty = e.places_empty;
    }

pub returns-clause-gone : goal.returns-clause-gone
returns-clause-gone g c = let e = c.args.self.now in let k = c.load_release-met in let v = view_of e.hand in let u = view_of k.new.self in
    let x = c.index-oldest.result.now in let n = c.drop_oldest.new.self in let first = c.index-oldest.ensures in
    let p = old.parts (role_of v) e.lives e.noted c.requires x first in
    let left = c.drop_oldest.ensures.noted (role_of v).newest p.0 p.1 (role_of v).released (old.noted_parts (role_of v) e.lives e.noted c.requires x first) in
    let marked : n.carried.sizes ≡ e.sizes = n.measured ∙ c.drop_oldest.ensures.sizes ∙ e.lives_measured in
    let q = begins v e.lives n e.noted c.requires x first k.result u e.editor e.keeps_all k.ensures.met k.ensures.view c.if-released-oldest.false left
    e.shared e.unpinned _ e.measured marked refl (sym c.oldest_page.ensures) in
    let f = c.free_page.ensures.freed _ _ q in let w = view_of c.free_page.new.hand in
    subst (λ (i : TableId × ℕ). GivesUpOldest (editor_meaning v (table_of e.hand)) (editor_meaning w i)) (sym (c.free_page.ensures.table ∙ k.ensures.table))
    (gives_up v e.lives n e.noted c.requires x first k.result u e.editor e.keeps_all k.ensures.met k.ensures.view c.if-released-oldest.false left
    e.shared e.unpinned _ e.measured marked refl (sym c.oldest_page.ensures) w f.0 f.1 f.2 (table_of e.hand))

pub returns-then-released-oldest-clause-known : goal.returns-then-released-oldest-clause-known
returns-then-released-oldest-clause-known g c = ap (λ (y : View). y.known) c.load_release-met.ensures.view

pub returns-clause-known : goal.returns-clause-known
returns-clause-known g c = let e = c.args.self.now in let k = c.load_release-met in let v = view_of e.hand in let u = view_of k.new.self in
    let x = c.index-oldest.result.now in let n = c.drop_oldest.new.self in let first = c.index-oldest.ensures in
    let p = old.parts (role_of v) e.lives e.noted c.requires x first in
    let left = c.drop_oldest.ensures.noted (role_of v).newest p.0 p.1 (role_of v).released (old.noted_parts (role_of v) e.lives e.noted c.requires x first) in
    let marked : n.carried.sizes ≡ e.sizes = n.measured ∙ c.drop_oldest.ensures.sizes ∙ e.lives_measured in
    let q = begins v e.lives n e.noted c.requires x first k.result u e.editor e.keeps_all k.ensures.met k.ensures.view c.if-released-oldest.false left
    e.shared e.unpinned _ e.measured marked refl (sym c.oldest_page.ensures) in
    (c.free_page.ensures.freed _ _ q).2.known ∙ ap (λ (y : View). y.known) k.ensures.view
