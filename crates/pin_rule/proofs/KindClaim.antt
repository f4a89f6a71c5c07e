-- A claim keeps the rule.
use Rattle.std.proofs.Common.{◌≡◌, ◌≢◌, ℕ, zero, suc, ◌<◌, ◌≤◌, List, [], inl, inr, set, length-set, sym, refl, ap, ◌∙◌, subst, arith}
use mathlib.Core.Option as maybe
use mathlib.Core.Logic.{dite}
use native.Mathlib.Decide.{ℕ_discrete}
use lib.ListN.{get_elem?}
use Rattle.std.specs.Prelude.{Some, None}
use Rattle.pin_rule.specs.declared.sizes.Sizes.{Sizes}
use Rattle.pin_rule.specs.declared.content.Entry.{Entry}
use Rattle.pin_rule.specs.declared.view.View.{View}
use Rattle.pin_rule.specs.declared.view.Pin.{Pin}
use Rattle.pin_rule.specs.declared.view.OwnRow.{OwnRow}
use Rattle.pin_rule.specs.declared.ops.Op.TheVariants as op
use Rattle.pin_rule.specs.Layout.{claim_word, claim, row_at}
use Rattle.pin_rule.specs.Views.{Owns, OwnsAt}
use Rattle.pin_rule.specs.Pages.{IsHeldLive, IsToFree}
use Rattle.pin_rule.specs.PartClaims.{IsOwned}
use Rattle.pin_rule.specs.Lawful.{Lawful}
use Rattle.pin_rule.specs.Steps.{after_claim}
use Rattle.pin_rule.specs.Keeps.{Keeps}
use Rattle.pin_rule.proofs.Lists.{not_one}
use Rattle.pin_rule.proofs.Frames.{Same, claim_in, wrote, claim-claim, claim-entry, claim-row, claim-cur, claim-release, claim-logged}
use Rattle.pin_rule.proofs.Parts.{Kept, live_on, live_back, free_on, free_back, owned_moves}
use Rattle.pin_rule.proofs.Settling.{settles, right_pinned}
use Rattle.pin_rule.proofs.Learning.{learns_met}
use Rattle.pin_rule.proofs.Seats.{IsAlike, IsSteady, none_some, same_some, owns_cases, owns_here, owns_else}

module _ (L : List Entry → Type 0) (F : List Entry → List ℕ → Type 0) (v : View) (row : ℕ) (inside : row < v.sizes.rows) (none : v.own ≡ None)
    (some : v.share ≢ 0) (pin : Pin) (pinned : v.pinned ≡ Some pin) where
  abbrev z : Sizes
  z = v.sizes

  alike : (n : ℕ) → IsAlike v (after_claim v row n)
  alike n = record { sizes = refl; share = refl; role = refl }

  steady : (n : ℕ) → IsSteady v (after_claim v row n)
  steady n = record { log = refl; log_words = refl; pinned = refl; pins_left = refl }

  module _ (words : List ℕ) (views : List View) (id : ℕ) (h : Lawful L F v.sizes words views) (at : get_elem? views id ≡ maybe.some v)
      (free : claim v.sizes words row ≡ 0) where
    abbrev w : View
    w = after_claim v row 0

    abbrev o : OwnRow
    o = record { row = row; wrote = [] }

    abbrev words' : List ℕ
    words' = set words (claim_word z row) 1

    here : claim z words' row ≡ 1
    here = wrote z words 1 (claim_word z row) h.long (claim_in z row inside)

    stays : (r : ℕ) → claim z words r ≡ 1 → claim z words' r ≡ 1
    stays r c = claim-claim z words 1 row r (λ e. not_one (claim z words r) c (ap (claim z words) e ∙ free)) ∙ c

    same : (r : ℕ) → Same z.width (row_at z words r) (row_at z words' r)
    same r i _ = sym (claim-row z words 1 row r i inside)

    kept : Kept z words words' h.role
    kept = record {
      places = λ l p _ _. claim-entry z words 1 row l.page p inside;
      in_use = λ r _ c _. stays r c;
      rows = λ r _ _ _. same r;
      given = λ g p _ _.
          claim-entry z words 1 row g.page p inside;
    }

    outside : ¬ (IsHeldLive z words h.role row)
    outside x = not_one (claim z words row) ((h.pages x.0 x.1).entries x.2.0 row x.2.1 x.2.2).in_use free

    not_left : ¬ (IsToFree z words h.role row)
    not_left t = not_one (claim z words row) (h.claims.to_free row t).1 free

    apart : (i : ℕ) (p : OwnRow) → OwnsAt views i p → p.row ≢ row
    apart i p x e = not_one (claim z words p.row) (h.claims.owned i p x).in_use (ap (claim z words) e ∙ free)

    other : (i : ℕ) (p : OwnRow) → OwnsAt views i p → i ≢ id
    other i p x e = none_some p (sym none ∙ ap (λ (u : View). u.own) (maybe.some-injective v x.0 (sym at ∙ ap (get_elem? views) (sym e) ∙ x.1)) ∙ x.2)

    mine : (p : OwnRow) → Owns w p → p ≡ o
    mine p e = same_some p o (sym e)

    won : Lawful L F v.sizes words' (set views id w)
    won = settles L F z words words' views id v w at h (length-set words (claim_word z row) 1) (alike 0) (right_pinned v w pin (alike 0) some pinned) (steady 0)
        (record {
          cur = claim-cur z words 1 row;
          releases = λ p pi. claim-release z words 1 row p pi;
          log =
              record { logs = λ e i _ _. claim-logged z words 1 row e i inside; made = λ m p _ _ _. claim-entry z words 1 row m.page p inside };
        })
        (record {
          bit = λ r ri. dite (ℕ_discrete r row) (λ e. subst (λ (q : ℕ). claim z words' q ≤ 1) (sym e) (let c = here in omega arith)) (λ n. let c =
              claim-claim z words 1 row r n in let b = h.claims.bit r ri in omega arith);
          in_use = λ r ri c'. dite (ℕ_discrete r row)
              (λ e. inl (id, o, owns_here views id v w at o refl, sym e))
              (λ n. elim (h.claims.in_use r ri (sym (claim-claim z words 1 row r n) ∙ c')) [
                | inl x ↦ inl (x.0, x.1, owns_else views id v w at x.0 x.1 (other x.0 x.1 x.2) x.2, x.3)
                | inr y ↦ elim y [ inl x ↦ inr (inl (live_on z words words' h.role kept r x)) | inr x ↦ inr (inr (free_on z words words' h.role kept r x)) ]
              ]);
          owned = λ i p x. elim (owns_cases views id v w at i p x) [
            | inl t ↦ subst (IsOwned z words' h.role) (sym (mine p t.1))
                (record {
                  in_range = inside;
                  in_use = here;
                  in_no_page = (λ y. outside (live_back z words words' h.role kept row y));
                  not_to_free = (λ y. not_left (free_back z words words' h.role kept row y));
                  written = tt;
                })
            | inr t ↦ let q = h.claims.owned i p t.1 in owned_moves z words words' h.role F h.log h.live h.pages kept p q (stays p.row q.in_use) (same p.row)
          ];
          one_owner = λ i j p q x y e. elim (owns_cases views id v w at i p x) [
            | inl t ↦ elim (owns_cases views id v w at j q y) [
              | inl u ↦ t.0 ∙ sym u.0
              | inr u ↦
                  absurd (apart j q u.1 (sym e ∙ ap (λ (a : OwnRow). a.row) (mine p t.1)))
            ]
            | inr t ↦ elim (owns_cases views id v w at j q y) [
              | inl u ↦ absurd (apart i p t.1 (e ∙ ap (λ (a : OwnRow). a.row) (mine q u.1)))
              | inr u ↦
                  h.claims.one_owner i j p q t.1 u.1 e
            ]
          ];
          to_free = λ r x. let k = h.claims.to_free r (free_back z words words' h.role kept r x) in (k.0, stays r k.1);
        })
        kept (h.facts id v at) (h.known id v at)

  pub keeps_claim : Keeps L F v (op.Claim row)
  keeps_claim words views id zero h at e = won words views id h at e
  keeps_claim words views id (suc m) h at e = learns_met L F z words views id v (after_claim v row (suc m)) at h (claim_word z row) (suc m) e (alike (suc m))
      (steady (suc m)) refl (h.known id v at) (h.facts id v at)
