use Rattle.isg_states.proofs.winner.accepts.Goals as goal

pub returns-in-Set : goal.returns-in-Set
returns-in-Set c = rw c.in-Set.is (rw c.items.ensures.value at c.first_ended.ensures)
