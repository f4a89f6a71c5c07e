use Rattle.std.proofs.Common.{◌∙◌, ap, subst, sym}
use Rattle.std.specs.Prelude.{MatchBool}
use Rattle.row_coding.specs.Rows.{kernel}
use Rattle.graph_content.specs.Changes.{NamesEnded}
use Rattle.graph_content.proofs.RowTests.{rule_decides}
use Rattle.graph_content.proofs.touching.names_ended.Goals as goal

pub returns-in-Some : goal.returns-in-Some
returns-in-Some c = λ items payload fit is.
    subst (λ b. MatchBool b (NamesEnded c.args.touch.now items) (NamesEnded c.args.touch.now items → ⊥)) (sym c.names_rule.ensures)
    (rule_decides c.args.touch.now c.in-Some.rule items c.names_in.result.now c.in-Some.is fit (c.names_in.ensures (kernel items) payload is))
