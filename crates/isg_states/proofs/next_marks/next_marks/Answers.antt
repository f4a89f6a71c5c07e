use Rattle.isg_states.proofs.next_marks.next_marks.Goals as goal

pub returns-in-Start-clause-marks : goal.returns-in-Start-clause-marks
returns-in-Start-clause-marks g c = rw c.in-Start.is c.first_marks.ensures.marks

pub returns-in-Set-clause-marks : goal.returns-in-Set-clause-marks
returns-in-Set-clause-marks g c = rw c.in-Set.is (rw c.items.ensures.value at c.following_marks.ensures.marks)
