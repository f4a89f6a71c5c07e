use Rattle.std.proofs.Common.{◌≡◌, List, true, take, sym, subst, arith, Contains}
use Rattle.std.proofs.lemmas.List.{take_all}
use Rattle.isg_states.specs.declared.mark.Mark.{Mark}
use Rattle.graph_content_tests.specs.LiveMarks.{IsLiveMark}
use Rattle.graph_content_tests.proofs.Members.{marks_more}
use Rattle.graph_content_tests.proofs.scan_rows.are_marks.Goals as goal

pub loop-mark-preserved : goal.loop-mark-preserved
loop-mark-preserved c =
    let yes : c.is_mark.result ≡ true = cc in
    marks_more (IsLiveMark c.args.grammar.now.grammar) c.args.marks.now c.loop-mark.mark-index _ (omega arith) c.loop-mark.invariant (c.is_mark.ensures yes)

pub returns : goal.returns
returns c = λ yes mark there.
    let all : take c.loop-mark.mark-index c.args.marks.now ≡ c.args.marks.now = take_all c.loop-mark.mark-index c.args.marks.now (omega arith) in
    c.loop-mark.invariant mark (subst (λ (marks : List Mark). Contains marks mark) (sym all) there)
