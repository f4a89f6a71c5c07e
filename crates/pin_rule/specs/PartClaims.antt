-- The part of the rule on claim words: which rows are in use, and who owns them.
use Rattle.std.specs.Prelude.{◌≡◌, ◌⊎◌, ℕ, ◌<◌, ◌≤◌, List}
use Rattle.pin_rule.specs.declared.sizes.Sizes.{Sizes}
use Rattle.pin_rule.specs.declared.view.View.{View}
use Rattle.pin_rule.specs.declared.view.OwnRow.{OwnRow}
use Rattle.pin_rule.specs.declared.view.Role.{Role}
use Rattle.pin_rule.specs.Layout.{claim, row_at}
use Rattle.pin_rule.specs.Lists.{Each}
use Rattle.pin_rule.specs.Views.{OwnsAt}
use Rattle.pin_rule.specs.Pages.{IsHeldLive, IsToFree}

module _ (z : Sizes) (words : List ℕ) where
  -- a word that was written to the row stands there
  abbrev pub StandsIn : ℕ → ℕ × ℕ → Type 0
  StandsIn row w = (w.0 < z.width) × (row_at z words row w.0 ≡ w.1)

  pub record IsOwned (role : Role) (o : OwnRow) : Type 0 where
    pub in_range : o.row < z.rows
    pub in_use : claim z words o.row ≡ 1
    pub in_no_page : ¬ (IsHeldLive z words role o.row)
    pub not_to_free : ¬ (IsToFree z words role o.row)
    pub written : Each (StandsIn o.row) o.wrote

  -- a claim word is 1 exactly where one view owns the row, a live page holds it, or it is still to be freed
  pub record Claims (views : List View) (role : Role) : Type 0 where
    pub bit : (row : ℕ) → row < z.rows → claim z words row ≤ 1
    pub in_use : (row : ℕ) → row < z.rows → claim z words row ≡ 1 → ((seat : ℕ) × (o : OwnRow) × OwnsAt views seat o × (o.row ≡ row)) ⊎
        (IsHeldLive z words role row ⊎ IsToFree z words role row)
    pub owned : (seat : ℕ) (o : OwnRow) → OwnsAt views seat o → IsOwned role o
    pub one_owner : (i j : ℕ) (o p : OwnRow) → OwnsAt views i o → OwnsAt views j p → o.row ≡ p.row → i ≡ j
    pub to_free : (row : ℕ) → IsToFree z words role row → (row < z.rows) × (claim z words row ≡ 1)
