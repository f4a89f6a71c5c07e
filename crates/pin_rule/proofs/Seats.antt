-- The views after a step of one seat.
use Rattle.std.proofs.Common.{◌≡◌, ◌≢◌, ℕ, List, ◌⊎◌, inl, inr, set, sym, ap, ◌∙◌, subst}
use mathlib.Core.Option as maybe
use mathlib.Core.Logic.{dite}
use native.Mathlib.Decide.{ℕ_discrete}
use lib.ListN.{get_elem?}
use Rattle.std.specs.Prelude.{Some, None, Option}
use Rattle.atomic_table.proofs.Lists.{at_set, set_here, set_else}
use Rattle.pin_rule.specs.declared.sizes.Sizes.{Sizes}
use Rattle.pin_rule.specs.declared.view.View.{View}
use Rattle.pin_rule.specs.declared.view.OwnRow.{OwnRow}
use Rattle.pin_rule.specs.declared.view.Role.{Role}
use Rattle.pin_rule.specs.declared.content.Entry.{Entry}
use Rattle.pin_rule.specs.Views.{Owns, OwnsAt, EachView}
use Rattle.pin_rule.specs.PartLive.{IsEditor}
use Rattle.pin_rule.specs.PartClaims.{Claims}
use Rattle.pin_rule.proofs.Lists.{at_short}

pub none_some : {A : Type 0} (p : A) → (let n : Option A = None in n ≡ Some p) → ⊥
none_some p e = cc

pub same_some : {A : Type 0} (p o : A) → Some p ≡ Some o → p ≡ o
same_some p o e = cc

-- a seat owns one row
pub owner_row : (views : List View) (id : ℕ) (v : View) (o p : OwnRow) → get_elem? views id ≡ maybe.some v → v.own ≡ Some o → OwnsAt views id p → o.row ≡ p.row
owner_row views id v o p at own y = ap (λ (a : OwnRow). a.row) (same_some o p (sym own ∙ ap (λ (u : View). u.own) (maybe.some-injective v y.0 (sym at ∙ y.1))
    ∙ y.2))

-- the fields that each step on a word leaves
pub record IsAlike (v w : View) : Type 0 where
  pub sizes : w.sizes ≡ v.sizes
  pub share : w.share ≡ v.share
  pub role : w.role ≡ v.role

-- those that only pins and loads of log words change
pub record IsSteady (v w : View) : Type 0 where
  pub log : w.log ≡ v.log
  pub log_words : w.log_words ≡ v.log_words
  pub pinned : w.pinned ≡ v.pinned
  pub pins_left : w.pins_left ≡ v.pins_left

module _ (views : List View) (id : ℕ) (v w : View) (at : get_elem? views id ≡ maybe.some v) where
  pub each_set : (P : View → Type 0) → P w → EachView views P → EachView (set views id w) P
  each_set P mine others j u e = elim (at_set views id j w u e) [ inl t ↦ subst P t.1 mine | inr t ↦ others j u t.1 ]

  -- the same where the other views are known to be of other seats
  pub each_other : (P : View → Type 0) → P w → ((j : ℕ) (u : View) → j ≢ id → get_elem? views j ≡ maybe.some u → P u) → EachView (set views id w) P
  each_other P mine others j u e = elim (at_set views id j w u e) [ inl t ↦ subst P t.1 mine | inr t ↦ others j u t.0 t.1 ]

  pub owns_cases : (i : ℕ) (o : OwnRow) → OwnsAt (set views id w) i o → ((i ≡ id) × Owns w o) ⊎ ((i ≢ id) × OwnsAt views i o)
  owns_cases i o h = elim (at_set views id i w h.0 h.1) [ inl t ↦ inl (t.0, subst (λ (u : View). Owns u o) (sym t.1) h.2) | inr t ↦ inr (t.0, (h.0, t.1, h.2)) ]

  pub here : get_elem? (set views id w) id ≡ maybe.some w
  here = set_here views id w (at_short views id v at)

  pub owns_here : (o : OwnRow) → Owns w o → OwnsAt (set views id w) id o
  owns_here o h = (w, here, h)

  pub owns_else : (i : ℕ) (o : OwnRow) → i ≢ id → OwnsAt views i o → OwnsAt (set views id w) i o
  owns_else i o n h = (h.0, set_else views id i w n ∙ h.1, h.2)

  -- a seat that owns what it owned before
  module _ (same_own : w.own ≡ v.own) where
    pub owned_before : (i : ℕ) (o : OwnRow) → OwnsAt (set views id w) i o → OwnsAt views i o
    owned_before i o x = elim (owns_cases i o x) [ inl t ↦ subst (λ (j : ℕ). OwnsAt views j o) (sym t.0) (v, at, sym same_own ∙ t.1) | inr t ↦ t.1 ]

    pub owned_after : (i : ℕ) (o : OwnRow) → OwnsAt views i o → OwnsAt (set views id w) i o
    owned_after i o x = dite (ℕ_discrete i id)
        (λ e. subst (λ (j : ℕ). OwnsAt (set views id w) j o) (sym e) (owns_here o (same_own ∙ sym (ap (λ (u : View). u.own) (maybe.some-injective x.0 v (sym x.1
        ∙ ap (get_elem? views) e ∙ at))) ∙ x.2)))
        (λ n. owns_else i o n x)

  -- the editor stays the editor
  module _ (log : List Entry) (role : Role) (same_log : (r : Role) → v.role ≡ Some r → w.log ≡ v.log) (same_role : w.role ≡ v.role)
      (h : IsEditor views log role) where
    one_editor : (i : ℕ) (u : View) (r : Role) → get_elem? (set views id w) i ≡ maybe.some u → u.role ≡ Some r → i ≡ h.seat
    one_editor i u r e is = elim (at_set views id i w u e) [
      | inl t ↦ t.0 ∙ h.one id v r at (sym same_role ∙ ap (λ (x : View). x.role) t.1 ∙ is)
      | inr t ↦
          h.one i u r t.1 is
    ]

    pub editor_on : IsEditor (set views id w) log role
    editor_on = dite (ℕ_discrete h.seat id)
        (λ e. let mine : h.view ≡ v = maybe.some-injective h.view v (sym h.at ∙ ap (get_elem? views) e ∙ at) in record {
          seat = id;
          view = w;
          at = here;
          has = same_role ∙ sym (ap (λ (u : View). u.role) mine) ∙ h.has;
          log_is = same_log role (sym (ap (λ (u : View). u.role) mine) ∙ h.has) ∙ sym (ap (λ (u : View). u.log) mine) ∙ h.log_is;
          one = λ i u r at' is. one_editor i u r at' is ∙ e;
        })
        (λ n. record { seat = h.seat; view = h.view; at = set_else views id h.seat w n ∙ h.at; has = h.has; log_is = h.log_is; one = one_editor })

-- seats that own the same rows keep the part on claims
pub claims_by : (z : Sizes) (words : List ℕ) (role : Role) (views views' : List View) → ((i : ℕ) (o : OwnRow) → OwnsAt views' i o → OwnsAt views i o)
    → ((i : ℕ) (o : OwnRow) → OwnsAt views i o → OwnsAt views' i o)
    → Claims z words views role → Claims z words views' role
claims_by z words role views views' back on h = record {
  bit = h.bit;
  in_use = λ row r c. elim (h.in_use row r c) [ inl x ↦ inl (x.0, x.1, on x.0 x.1 x.2, x.3) | inr x ↦ inr x ];
  owned = λ i o x. h.owned i o (back i o x);
  one_owner = λ i j o p x y. h.one_owner i j o p (back i o x) (back j p y);
  to_free = h.to_free;
}
