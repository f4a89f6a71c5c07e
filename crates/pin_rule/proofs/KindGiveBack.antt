-- A row that is given back keeps the rule.
use Rattle.std.proofs.Common.{◌≡◌, ◌≢◌, ℕ, ◌≤◌, List, inl, inr, set, length-set, sym, refl, ap, ◌∙◌, subst, arith}
use mathlib.Core.Logic.{dite}
use native.Mathlib.Decide.{ℕ_discrete}
use Rattle.std.specs.Prelude.{Some}
use Rattle.pin_rule.specs.declared.content.Entry.{Entry}
use Rattle.pin_rule.specs.declared.view.View.{View}
use Rattle.pin_rule.specs.declared.view.OwnRow.{OwnRow}
use Rattle.pin_rule.specs.declared.ops.Op.TheVariants as op
use Rattle.pin_rule.specs.Layout.{claim_word, claim, row_at}
use Rattle.pin_rule.specs.Views.{OwnsAt}
use Rattle.pin_rule.specs.Pages.{IsHeldLive, IsToFree}
use Rattle.pin_rule.specs.Steps.{after_give_back}
use Rattle.pin_rule.specs.Keeps.{Keeps}
use Rattle.pin_rule.proofs.Lists.{not_one}
use Rattle.pin_rule.proofs.Frames.{Same, claim_in, wrote, claim-claim, claim-entry, claim-row, claim-cur, claim-release, claim-logged}
use Rattle.pin_rule.proofs.Parts.{Kept, live_on, free_on, free_back, owned_moves}
use Rattle.pin_rule.proofs.Settling.{settles, right_free}
use Rattle.pin_rule.proofs.Seats.{IsAlike, none_some, owner_row, owns_cases, owns_else}

module _ (L : List Entry → Type 0) (F : List Entry → List ℕ → Type 0) (v : View) (o : OwnRow) (own : v.own ≡ Some o) where
  pub keeps_give_back : Keeps L F v (op.GiveBack o.row)
  keeps_give_back words views id n h at _ =
      let z = v.sizes in let row = o.row in let words' = set words (claim_word z row) 0 in let w : View = after_give_back v row in
      let views' = set views id w in
      let was : OwnsAt views id o = (v, at, own) in let mine = h.claims.owned id o was in let inside = mine.in_range in
      let alike : IsAlike v w = record { sizes = refl; share = refl; role = refl } in
      let free : claim z words' row ≡ 0 = wrote z words 0 (claim_word z row) h.long (claim_in z row inside) in
      let stays : (r : ℕ) → r ≢ row → claim z words' r ≡ claim z words r = λ r n. claim-claim z words 0 row r n in
      let same : (r : ℕ) → Same z.width (row_at z words r) (row_at z words' r) = λ r i _. sym (claim-row z words 0 row r i inside) in
      let kept : Kept z words words' h.role = record {
        places = λ l p _ _. claim-entry z words 0 row l.page p inside;
        in_use = λ r _ c st. stays r (λ e. mine.in_no_page (subst (IsHeldLive z words h.role) e st)) ∙ c;
        rows = λ r _ _ _. same r;
        given = λ g p _ _. claim-entry z words 0 row g.page p inside;
      } in
      let theirs : (i : ℕ) (p : OwnRow) → OwnsAt views' i p → (i ≢ id) × OwnsAt views i p = λ i p y. elim (owns_cases views id v w at i p y) [
        | inl t ↦
            absurd (none_some p t.1)
        | inr t ↦ t
      ] in
      let others : (i : ℕ) (p : OwnRow) → i ≢ id → OwnsAt views i p → p.row ≢ row = λ i p n y e. n (h.claims.one_owner i id p o y was e) in
      settles L F z words words' views id v w at h (length-set words (claim_word z row) 0) alike (right_free v w alike refl refl (h.shares.rightful id v at))
      (record { log = refl; log_words = refl; pinned = refl; pins_left = refl })
      (record {
        cur = claim-cur z words 0 row;
        releases = λ p pi. claim-release z words 0 row p pi;
        log =
            record { logs = λ e i _ _. claim-logged z words 0 row e i inside; made = λ m p _ _ _. claim-entry z words 0 row m.page p inside };
      })
      (record {
        bit = λ r ri. dite (ℕ_discrete r row) (λ e. subst (λ (q : ℕ). claim z words' q ≤ 1) (sym e) (omega arith)) (λ n. let b = h.claims.bit r ri in let e =
            stays r n in omega arith);
        in_use = λ r ri c'. dite (ℕ_discrete r row)
            (λ e. absurd (not_one (claim z words' row) (ap (claim z words') (sym e) ∙ c') free))
            (λ n. elim (h.claims.in_use r ri (sym (stays r n) ∙ c')) [
              | inl y ↦ inl (
                y.0,
                y.1,
                owns_else views id v w at y.0 y.1 (λ e. n (sym y.3
                    ∙ sym (owner_row views id v o y.1 at own (subst (λ (j : ℕ). OwnsAt views j y.1) e y.2)))) y.2,
                y.3,
              )
              | inr y ↦ elim y [ inl t ↦ inr (inl (live_on z words words' h.role kept r t)) | inr t ↦ inr (inr (free_on z words words' h.role kept r t)) ]
            ]);
        owned = λ i p y. let t = theirs i p y in let q = h.claims.owned i p t.1 in
            owned_moves z words words' h.role F h.log h.live h.pages kept p q (stays p.row (others i p t.0 t.1) ∙ q.in_use) (same p.row);
        one_owner = λ i j p q y y' e. h.claims.one_owner i j p q (theirs i p y).1 (theirs j q y').1 e;
        to_free = λ r t. let u = free_back z words words' h.role kept r t in let k = h.claims.to_free r u in
            (k.0, stays r (λ e. mine.not_to_free (subst (IsToFree z words h.role) e u)) ∙ k.1);
      })
      kept (h.facts id v at) (h.known id v at)
