use Rattle.std.proofs.Common.{List, sym, subst, Contains}
use Rattle.isg_states.specs.declared.mark.Mark.{Mark}
use Rattle.isg_states.specs.declared.scan_key.ScanKey.{ScanKey}
use Rattle.row_coding.specs.Rows.{scan}
use Rattle.graph_content.specs.Affected.{IsKey}
use Rattle.graph_content_tests.proofs.scan_rows.is_key.Goals as goal

pub returns-in-Set : goal.returns-in-Set
returns-in-Set c = λ yes. subst (λ (k : ScanKey). IsKey c.args.grammar.now.grammar (scan k)) (sym c.in-Set.is) (
  c.items.ensures.ascending,
  λ mark there. (c.are_marks.ensures yes mark (subst (λ (marks : List Mark). Contains marks mark) (sym c.items.ensures.value) there)).is,
)
