-- The part of the rule on shares.
use Rattle.std.specs.Prelude.{◌≡◌, List, None}
use Rattle.pin_rule.specs.declared.view.View.{View}
use Rattle.pin_rule.specs.Lists.{total}
use Rattle.pin_rule.specs.Views.{whole, EachView}

-- a view without a share has no pin, no row and no role
abbrev pub OwnsNothing : View → Type 0
OwnsNothing v = (v.pinned ≡ None) × (v.own ≡ None) × (v.role ≡ None)

-- a view without a share owns nothing, and one without a pin owns no row
abbrev pub IsRightful : View → Type 0
IsRightful v = (v.share ≡ 0 → OwnsNothing v) × (v.pinned ≡ None → v.own ≡ None)

pub record Shares (views : List View) : Type 0 where
  pub sum : total (λ (v : View). v.share) views ≡ whole
  pub rightful : EachView views IsRightful
