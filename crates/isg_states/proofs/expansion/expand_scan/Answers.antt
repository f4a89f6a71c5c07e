use Rattle.std.proofs.Common.{◌∙◌, sym, subst, Contains}
use Rattle.isg_states.specs.Marks.{ListsMarks}
use Rattle.isg_states.specs.Expansion.{CanFollow}
use Rattle.isg_states.specs.Candidates.{marks_of, marks_with, AreClasses, TellsBelow}
use Rattle.isg_states.proofs.Tables.{next_mark}
use Rattle.isg_states.proofs.CandidateLists.{with_leads}
use Rattle.isg_states.proofs.RangeLists.{tells_all}
use Rattle.isg_states.proofs.expansion.expand_scan.Goals as goal

pub candidates-requires : goal.candidates-requires
candidates-requires g c = λ mark there.
    next_mark c.args.grammar.now.grammar c.args.key.now mark
    ((c.in_ok-marks.ensures.marks.members mark).0 (subst (λ marks. Contains marks mark) c.deref.ensures.value there))

pub returns-clause-expansion : goal.returns-clause-expansion
returns-clause-expansion g c =
    let listed : ListsMarks (CanFollow c.args.grammar.now.grammar c.args.key.now) (marks_of c.in_ok-candidates.candidates.items) =
    subst (ListsMarks (CanFollow c.args.grammar.now.grammar c.args.key.now))
    (sym (c.in_ok-candidates.ensures.marks ∙ c.deref.ensures.value)) c.in_ok-marks.ensures.marks in
    let classes : AreClasses c.args.grammar.now.grammar c.in_ok-candidates.candidates.items = c.in_ok-candidates.ensures.classes in
    let tells : TellsBelow (marks_with c.in_ok-candidates.candidates.items) 256 c.in_ok-ranges.ranges.items =
    subst (λ cs. TellsBelow (marks_with cs) 256 c.in_ok-ranges.ranges.items) c.deref-2.ensures.value c.in_ok-ranges.ensures in
    rw c.from_vec.ensures
    (tells_all (marks_with c.in_ok-candidates.candidates.items) c.args.grammar.now.grammar c.args.key.now c.in_ok-ranges.ranges.items tells
    (λ byte. with_leads c.args.grammar.now.grammar c.args.key.now c.in_ok-candidates.candidates.items byte listed classes))
