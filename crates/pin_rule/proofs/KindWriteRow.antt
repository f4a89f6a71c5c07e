-- A write to an own row keeps the rule.
use Rattle.std.proofs.Common.{◌≡◌, ◌≢◌, ℕ, ◌<◌, List, [], ◌∷◌, inl, inr, set, length-set, ne_eqb, eq-eqb, sym, refl, ap, ◌∙◌, subst, arith}
use mathlib.Core.Logic.{dite}
use mathlib.Core.Bool.{cond}
use native.Mathlib.Decide.{ℕ_discrete}
use Rattle.std.specs.Prelude.{Some, Option}
use Rattle.pin_rule.specs.declared.content.Entry.{Entry}
use Rattle.pin_rule.specs.declared.view.View.{View}
use Rattle.pin_rule.specs.declared.view.OwnRow.{OwnRow}
use Rattle.pin_rule.specs.declared.ops.Op.TheVariants as op
use Rattle.pin_rule.specs.Layout.{row_word, claim, row_at}
use Rattle.pin_rule.specs.Lists.{Each}
use Rattle.pin_rule.specs.Views.{Owns, OwnsAt}
use Rattle.pin_rule.specs.Pages.{IsHeldLive}
use Rattle.pin_rule.specs.PartClaims.{StandsIn, IsOwned}
use Rattle.pin_rule.specs.Steps.{after_write_row, written, without}
use Rattle.pin_rule.specs.Keeps.{Keeps}
use Rattle.pin_rule.proofs.Frames.{Same, row_in, wrote, row-claim, row-entry, row-row, row-cur, row-release, row-logged}
use Rattle.pin_rule.proofs.Parts.{Kept, live_on, live_back, free_on, free_back, owned_moves}
use Rattle.pin_rule.proofs.Settling.{settles, right_owner}
use Rattle.pin_rule.proofs.Seats.{IsAlike, same_some, owner_row, owns_cases, owns_here, owns_else}

-- what holds of each pair, and of those of other indexes also another thing
each_without : (P Q : ℕ × ℕ → Type 0) (index : ℕ) → ((w : ℕ × ℕ) → w.0 ≢ index → P w → Q w) → (l : List (ℕ × ℕ)) → Each P l → Each Q (without index l)
each_without P Q index f [] h = tt
each_without P Q index f (w ∷ ws) h = dite (ℕ_discrete w.0 index)
    (λ e. subst (λ b. Each Q (cond b (without index ws) (w ∷ without index ws))) (sym (eq-eqb w.0 index e)) (each_without P Q index f ws h.1))
    (λ n. subst (λ b. Each Q (cond b (without index ws) (w ∷ without index ws))) (sym (ne_eqb w.0 index n)) (f w n h.0, each_without P Q index f ws h.1))

module _ (L : List Entry → Type 0) (F : List Entry → List ℕ → Type 0) (v : View) (o : OwnRow) (own : v.own ≡ Some o) where
  pub keeps_write_row : (index x : ℕ) → index < v.sizes.width → Keeps L F v (op.WriteRow o.row index x)
  keeps_write_row index x inside words views id n h at _ =
      let z = v.sizes in let row = o.row in let words' = set words (row_word z row index) x in let w : View = after_write_row v row index x in
      let views' = set views id w in
      let o' : OwnRow = record { row = row; wrote = (index, x) ∷ without index o.wrote } in
      let new_own : w.own ≡ Some o' = ap (λ (u : Option OwnRow). written u index x) own in
      let was : OwnsAt views id o = (v, at, own) in let mine = h.claims.owned id o was in
      let alike : IsAlike v w = record { sizes = refl; share = refl; role = refl } in
      let stays : (r : ℕ) → r < z.rows → claim z words' r ≡ claim z words r = λ r ri. row-claim z words x row index r ri in
      let same : (r : ℕ) → r ≢ row → Same z.width (row_at z words r) (row_at z words' r) =
      λ r n i ii. sym (row-row z words x row index r i inside ii (λ e. absurd (n e))) in
      let kept : Kept z words words' h.role = record {
        places = λ l p i pi. row-entry z words x row index l.page p (h.live.page_in l i) pi;
        in_use = λ r ri c _. stays r ri ∙ c;
        rows = λ r _ _ st. same r (λ e. mine.in_no_page (subst (IsHeldLive z words h.role) e st));
        given = λ g p is pi. row-entry z words x row index g.page p (h.live.given_up g is).page_in pi;
      } in
      let is_mine : (p : OwnRow) → Owns w p → p ≡ o' = λ p e. same_some p o' (sym e ∙ new_own) in
      let back : (i : ℕ) (p : OwnRow) → OwnsAt views' i p → (q : OwnRow) × OwnsAt views i q × (q.row ≡ p.row) =
      λ i p y. elim (owns_cases views id v w at i p y) [
        | inl t ↦ (o, subst (λ (j : ℕ). OwnsAt views j o) (sym t.0) was, ap (λ (a : OwnRow). a.row) (sym (is_mine p t.1)))
        | inr t ↦ (p, t.1, refl)
      ] in
      let others : (i : ℕ) (p : OwnRow) → i ≢ id → OwnsAt views i p → p.row ≢ row = λ i p n y e. n (h.claims.one_owner i id p o y was e) in
      settles L F z words words' views id v w at h (length-set words (row_word z row index) x) alike
      (right_owner v w o alike refl own (h.shares.rightful id v at)) (record { log = refl; log_words = refl; pinned = refl; pins_left = refl })
      (record {
        cur = row-cur z words x row index;
        releases = λ p pi. row-release z words x row index p pi;
        log =
            record { logs = λ e i ei ii. row-logged z words x row index e i ei ii; made = λ m p _ mi pi. row-entry z words x row index m.page p mi pi };
      })
      (record {
        bit = λ r ri. let b = h.claims.bit r ri in let e = stays r ri in omega arith;
        in_use = λ r ri c'. elim (h.claims.in_use r ri (sym (stays r ri) ∙ c')) [
          | inl y ↦ inl (dite (ℕ_discrete y.0 id)
              (λ e. (id, o', owns_here views id v w at o' new_own, owner_row views id v o y.1 at own (subst (λ (j : ℕ). OwnsAt views j y.1) e y.2) ∙ y.3))
              (λ n. (y.0, y.1, owns_else views id v w at y.0 y.1 n y.2, y.3)))
          | inr y ↦ elim y [ inl t ↦ inr (inl (live_on z words words' h.role kept r t)) | inr t ↦ inr (inr (free_on z words words' h.role kept r t)) ]
        ];
        owned = λ i p y. elim (owns_cases views id v w at i p y) [
          | inl t ↦ subst (IsOwned z words' h.role) (sym (is_mine p t.1)) (record {
            in_range = mine.in_range;
            in_use = stays row mine.in_range ∙ mine.in_use;
            in_no_page = λ st. mine.in_no_page (live_back z words words' h.role kept row st);
            not_to_free = λ st. mine.not_to_free (free_back z words words' h.role kept row st);
            written = (
              (inside, wrote z words x (row_word z row index) h.long (row_in z row index mine.in_range inside)),
              each_without (StandsIn z words row) (StandsIn z words' row) index (λ u n y. (
                y.0,
                row-row z words x row index row u.0 inside y.0 (λ _. n)
                    ∙ y.1,
              )) o.wrote mine.written,
            );
          })
          | inr t ↦ let q = h.claims.owned i p t.1 in owned_moves z words words' h.role F h.log h.live h.pages kept p q (stays p.row q.in_range ∙ q.in_use)
              (same p.row (others i p t.0 t.1))
        ];
        one_owner = λ i j p q y y' e. let a = back i p y in let b = back j q y' in h.claims.one_owner i j a.0 b.0 a.1 b.1 (a.2 ∙ e ∙ sym b.2);
        to_free = λ r t. let k = h.claims.to_free r (free_back z words words' h.role kept r t) in (k.0, stays r k.0 ∙ k.1);
      })
      kept (h.facts id v at) (h.known id v at)
