-- The expression that an edit adds.
use Rattle.std.specs.Prelude.{ℕ, ◌<◌, ◌≤◌, List, length, Option, Some, None, IfSome}
use Rattle.grammar_text.specs.declared.edit.Edit.{Edit}
use Rattle.grammar_text.specs.declared.edit.Edit.TheVariants.{AddRule, DropRule, AddToken, DropToken, AddSkip, DropSkip}
use Rattle.regex_ast.specs.Expressions.{Expression}
use Rattle.regex_ast.specs.Refusals.{SpellsWithinLimits}

-- the text of the expression, where the edit adds one
abbrev pub added_expression : Edit → Option (List ℕ)
added_expression (AddRule rule) = None
added_expression (DropRule rule) = None
added_expression (AddToken definition) = Some definition.expression
added_expression (DropToken name) = None
added_expression (AddSkip definition) = Some definition.expression
added_expression (DropSkip name) = None

-- the text spells an expression within the limits
abbrev pub IsExpression : List ℕ → Type 0
IsExpression text = (e : Expression) × SpellsWithinLimits text e

-- where the edit adds an expression, it is one
abbrev pub AddsExpression : Edit → Type 0
AddsExpression edit = IfSome (added_expression edit) IsExpression
