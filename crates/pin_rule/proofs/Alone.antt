-- Beside a view with the whole share no other has one, and so none has a pin, a row or a role.
use Rattle.std.proofs.Common.{◌≡◌, ◌≢◌, ℕ, List, ap, ◌∙◌, subst, sym, arith}
use mathlib.Core.Option as maybe
use mathlib.Core.Logic.{dite}
use native.Mathlib.Decide.{ℕ_discrete}
use lib.ListN.{get_elem?}
use Rattle.std.specs.Prelude.{None}
use Rattle.pin_rule.specs.declared.sizes.Sizes.{Sizes}
use Rattle.pin_rule.specs.declared.content.Entry.{Entry}
use Rattle.pin_rule.specs.declared.view.View.{View}
use Rattle.pin_rule.specs.Views.{whole}
use Rattle.pin_rule.specs.PartShares.{OwnsNothing}
use Rattle.pin_rule.specs.Lawful.{Lawful}
use Rattle.pin_rule.proofs.Lists.{total_two}
use Rattle.pin_rule.proofs.Seats.{none_some}

module _ (L : List Entry → Type 0) (F : List Entry → List ℕ → Type 0) (z : Sizes) (words : List ℕ) (views : List View) (id : ℕ) (v : View)
    (at : get_elem? views id ≡ maybe.some v) (h : Lawful L F z words views) (all : v.share ≡ whole) where
  pub alone_share : (j : ℕ) (u : View) → j ≢ id → get_elem? views j ≡ maybe.some u → u.share ≡ 0
  alone_share j u n e = let t = total_two (λ (x : View). x.share) views j id u v e at n in let s = h.shares.sum in omega arith

  pub alone_nothing : (j : ℕ) (u : View) → j ≢ id → get_elem? views j ≡ maybe.some u → OwnsNothing u
  alone_nothing j u n e = (h.shares.rightful j u e).0 (alone_share j u n e)

  -- where this one has no pin, no view has one
  pub alone_unpinned : v.pinned ≡ None → (j : ℕ) (u : View) → get_elem? views j ≡ maybe.some u → u.pinned ≡ None
  alone_unpinned free j u e = dite (ℕ_discrete j id)
      (λ same. subst (λ (x : View). x.pinned ≡ None) (maybe.some-injective v u (sym at ∙ ap (get_elem? views) (sym same) ∙ e)) free)
      (λ n. (alone_nothing j u n e).0)

  -- this one has the editor's role, since the others own nothing
  pub alone_has_role : v.role ≢ None
  alone_has_role none = let e = h.editor in
      let same : e.view.role ≡ None = dite (ℕ_discrete e.seat id)
      (λ (s : e.seat ≡ id). subst (λ (x : View). x.role ≡ None) (maybe.some-injective v e.view (sym at ∙ ap (get_elem? views) (sym s) ∙ e.at)) none)
      (λ n. (alone_nothing e.seat e.view n e.at).2) in
      none_some h.role (sym same ∙ e.has)
