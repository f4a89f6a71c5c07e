-- A row that is freed keeps the rule.
use Rattle.std.proofs.Common.{◌≡◌, ◌≢◌, ℕ, suc, ◌<◌, ◌≤◌, List, inl, inr, set, length-set, sym, refl, ap, ◌∙◌, subst, arith}
use mathlib.Core.Option as maybe
use mathlib.Core.Logic.{dite}
use native.Mathlib.Decide.{ℕ_discrete}
use lib.ListN.{get_elem?}
use Rattle.std.specs.Prelude.{Some, Option}
use Rattle.pin_rule.specs.declared.sizes.Sizes.{Sizes}
use Rattle.pin_rule.specs.declared.content.Entry.{Entry}
use Rattle.pin_rule.specs.declared.view.View.{View}
use Rattle.pin_rule.specs.declared.view.OwnRow.{OwnRow}
use Rattle.pin_rule.specs.declared.view.Role.{Role}
use Rattle.pin_rule.specs.declared.view.GivingUp.{GivingUp}
use Rattle.pin_rule.specs.declared.ops.Op.TheVariants as op
use Rattle.pin_rule.specs.Layout.{claim_word, claim, entry, row_at}
use Rattle.pin_rule.specs.Views.{OwnsAt}
use Rattle.pin_rule.specs.GivingUp.{oldest, with_next, role_freed}
use Rattle.pin_rule.specs.Pages.{IsHeldLive, IsToFree}
use Rattle.pin_rule.specs.PartClaims.{Claims}
use Rattle.pin_rule.specs.PartFacts.{HasEntry, EntryStands}
use Rattle.pin_rule.specs.Lawful.{Lawful}
use Rattle.pin_rule.specs.Steps.{after_free_row}
use Rattle.pin_rule.specs.Freeing.{IsLeftBehind}
use Rattle.pin_rule.specs.Keeps.{Keeps}
use Rattle.pin_rule.proofs.Lists.{each_in, not_one}
use Rattle.pin_rule.proofs.Frames.{Same, claim_in, wrote, claim-claim, claim-entry, claim-row, claim-cur, claim-release, claim-logged}
use Rattle.pin_rule.proofs.Parts.{Kept, live_on, free_on, free_back, owned_moves}
use Rattle.pin_rule.proofs.Seats.{none_some, owned_before, owned_after}
use Rattle.pin_rule.proofs.Versions.{is_role}
use Rattle.pin_rule.proofs.Oldest.{oldest_live, oldest_first}
use Rattle.pin_rule.proofs.GoingOn.{role_next, left_past, free_before, free_after, goes_on}

module _ (L : List Entry → Type 0) (F : List Entry → List ℕ → Type 0) (v : View) (g : GivingUp) (row : ℕ) (words : List ℕ) (views : List View) (id : ℕ)
    (h : Lawful L F v.sizes words views) (at : get_elem? views id ≡ maybe.some v) (left : IsLeftBehind v h.role g row) where
  abbrev z : Sizes
  z = v.sizes

  abbrev role' : Role
  role' = role_next z h.role g

  abbrev w : View
  w = after_free_row v row

  abbrev words' : List ℕ
  words' = set words (claim_word z row) 0

  abbrev views' : List View
  views' = set views id w

  -- the row stands at the place reached
  there : HasEntry z words h.role g.page (record { version = g.version; place = g.reached; row = row })
  there = (each_in (EntryStands z words h.role) _ v.entries (h.facts id v at).0 left.met).given_up g left.giving_up refl

  -- a live page that held it would hold it since the oldest, into which it was not carried
  in_no_page : ¬ (IsHeldLive z words h.role row)
  in_no_page x = left.dropped (h.carried.after_left g (oldest h.role) x.0 row left.giving_up (oldest_live z h.role h.live) x.1
      (oldest_first z h.role h.live x.0 x.1) (g.reached, there.0, omega arith, there.1) x.2)

  mine : IsToFree z words h.role row
  mine = (g, left.giving_up, (g.reached, there.0, omega arith, there.1), in_no_page)

  inside : row < z.rows
  inside = (h.claims.to_free row mine).0

  free : claim z words' row ≡ 0
  free = wrote z words 0 (claim_word z row) h.long (claim_in z row inside)

  stays : (r : ℕ) → r ≢ row → claim z words' r ≡ claim z words r
  stays r n = claim-claim z words 0 row r n

  same : (r : ℕ) → Same z.width (row_at z words r) (row_at z words' r)
  same r i _ = sym (claim-row z words 0 row r i inside)

  kept : Kept z words words' h.role
  kept = record {
    places = λ l p _ _. claim-entry z words 0 row l.page p inside;
    in_use = λ r _ c st. stays r (λ e. in_no_page (subst (IsHeldLive z words h.role) e st)) ∙ c;
    rows = λ r _ _ _. same r;
    given = λ b p _ _. claim-entry z words 0 row b.page p inside;
  }

  others : (i : ℕ) (p : OwnRow) → OwnsAt views i p → p.row ≢ row
  others i p y e = (h.claims.owned i p y).not_to_free (subst (IsToFree z words h.role) (sym e) mine)

  -- no other place of the page has the row
  not_again : IsToFree z words' role' row → ⊥
  not_again t = let p = left_past z g words' t.0 row t.1 t.2 in let read : entry z words g.page p.0 ≡ suc row =
      sym (claim-entry z words 0 row g.page p.0 inside) ∙ p.3 in
      let once = h.carried.once g g.reached p.0 row left.giving_up there.0 p.1 there.1 read in let later = p.2 in omega arith

  back : (r : ℕ) → IsToFree z words' role' r → IsToFree z words h.role r
  back r t = free_back z words words' h.role kept r (free_before z g h.role left.giving_up words' r t)

  still : (r : ℕ) → r ≢ row → IsToFree z words h.role r → IsToFree z words' role' r
  still r n t = free_after z g h.role left.giving_up words' r (free_on z words words' h.role kept r t)
      (λ e. n (let two : suc r ≡ suc row = sym e ∙ claim-entry z words 0 row g.page g.reached inside ∙ there.1 in omega arith))

  claims : Claims z words' views' role'
  claims = record {
    bit = λ r ri. dite (ℕ_discrete r row) (λ e. subst (λ (q : ℕ). claim z words' q ≤ 1) (sym e) (let f = free in omega arith))
        (λ n. let b = h.claims.bit r ri in let e = stays r n in omega arith);
    in_use = λ r ri c'. dite (ℕ_discrete r row)
        (λ e. absurd (not_one (claim z words' row) (ap (claim z words') (sym e) ∙ c') free))
        (λ n. elim (h.claims.in_use r ri (sym (stays r n) ∙ c')) [
          | inl y ↦ inl (y.0, y.1, owned_after views id v w at refl y.0 y.1 y.2, y.3)
          | inr y ↦ elim y [ inl t ↦ inr (inl (live_on z words words' h.role kept r t)) | inr t ↦ inr (inr (still r n t)) ]
        ]);
    owned = λ i p y. let x = owned_before views id v w at refl i p y in
        let q = owned_moves z words words' h.role F h.log h.live h.pages kept p (h.claims.owned i p x)
        (stays p.row (others i p x) ∙ (h.claims.owned i p x).in_use) (same p.row) in record {
          in_range = q.in_range;
          in_use = q.in_use;
          in_no_page = q.in_no_page;
          not_to_free = λ t. q.not_to_free (free_before z g h.role left.giving_up words' p.row t);
          written = q.written;
        };
    one_owner = λ i j p q y y' e. h.claims.one_owner i j p q (owned_before views id v w at refl i p y) (owned_before views id v w at refl j q y') e;
    to_free = λ r t. let k = h.claims.to_free r (back r t) in
        (k.0, stays r (λ e. not_again (subst (IsToFree z words' role') e t)) ∙ k.1);
  }

  frees : Lawful L F z words' views'
  frees = goes_on L F z words words' views id v w at h g left.giving_up
      (record {
        long = length-set words (claim_word z row) 0;
        quiet = record {
          cur = claim-cur z words 0 row;
          releases = λ p pi. claim-release z words 0 row p pi;
          log = record { logs = λ e i _ _. claim-logged z words 0 row e i inside; made = λ m p _ _ _. claim-entry z words 0 row m.page p inside };
        };
        kept = kept;
      })
      (record {
        sizes = refl;
        share = refl;
        steady = record { log = refl; log_words = refl; pinned = refl; pins_left = refl };
        right = (let right = h.shares.rightful id v at in (λ e. let r = right.0 e in absurd (none_some h.role (sym r.2 ∙ left.has)), right.1));
        was = left.has;
        is = ap (role_freed z) left.has ∙ ap (λ (o : Option GivingUp). Some (with_next z h.role o)) left.giving_up;
      })
      claims (h.facts id v at) (h.known id v at)

module _ (L : List Entry → Type 0) (F : List Entry → List ℕ → Type 0) (v : View) (r : Role) (g : GivingUp) (row : ℕ) (left : IsLeftBehind v r g row) where
  pub keeps_free_row : Keeps L F v (op.FreeRow row)
  keeps_free_row words views id n h at _ = frees L F v g row words views id h at
      (subst (λ (x : Role). IsLeftBehind v x g row) (is_role L F v.sizes words views id v at h r left.has) left)
