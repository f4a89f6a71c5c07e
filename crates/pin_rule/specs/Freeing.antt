-- When the editor may free a row of the version that is being given up.
use Rattle.std.specs.Prelude.{◌≡◌, ℕ, Some}
use Rattle.pin_rule.specs.declared.view.View.{View}
use Rattle.pin_rule.specs.declared.view.GivingUp.{GivingUp}
use Rattle.pin_rule.specs.declared.view.Role.{Role}
use Rattle.pin_rule.specs.Lists.{In}
use Rattle.pin_rule.specs.GivingUp.{oldest}
use Rattle.pin_rule.specs.Told.{KnowsPlace}

-- the row was met at the place reached, and was not carried into the version that follows
pub record IsLeftBehind (v : View) (r : Role) (g : GivingUp) (row : ℕ) : Type 0 where
  pub has : v.role ≡ Some r
  pub giving_up : r.giving_up ≡ Some g
  pub met : KnowsPlace v g.version g.reached row
  pub dropped : ¬ (In row (oldest r).carried)
