use Rattle.std.proofs.Common.{◌≡◌, Some, IfSome, refl, ap, sym, ◌∙◌, subst, option_map, rules}
use Rattle.regex_ast.specs.Expressions.{Expression}
use Rattle.regex_ast.specs.Refusals.{SpellsWithinLimits}
use Rattle.script_text.specs.Expressions.{added_expression, IsExpression}
use Rattle.script_text.proofs.reading.check_expression.Goals as goal

pub returns-in-Err : goal.returns-in-Err
returns-in-Err c =
    let none : (e : Expression) → SpellsWithinLimits c.in-Some.text.now e → ⊥ = λ e h. let m = c.in-Err.ensures.only e h in search rules in
    let added : added_expression c.args.edit.now ≡ Some c.in-Some.text.now = sym c.added_expression.ensures ∙ ap (option_map (λ text. text.now)) c.in-Some.is in
    record {
      has = tt;
      refused = (
        refl,
        λ has. let found : IsExpression c.in-Some.text.now =
            subst (λ text. IfSome text IsExpression) added has in none found.0 found.1,
      );
    }
