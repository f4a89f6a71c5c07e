-- The role of an editor's view.
use Rattle.std.specs.Prelude.{Option, Some, None}
use Rattle.pin_rule.specs.declared.view.View.{View}
use Rattle.pin_rule.specs.declared.view.Role.{Role}
use Rattle.pin_rule.specs.Steps.{first_role}

abbrev pub role_or_first : Option Role → Role
role_or_first None = first_role
role_or_first (Some r) = r

-- the role of an editor's view
abbrev pub role_of : View → Role
role_of v = role_or_first v.role
