use Rattle.std.proofs.Common.{◌∙◌, ap}
use Rattle.edit_log.specs.History.{after_edit}
use Rattle.live_graph.proofs.NextEdits.{next_edit, next_accepted, next_behind}
use Rattle.live_graph.proofs.catching.apply_next.Goals as goal
use Rattle.live_graph.proofs.catching.apply_next.Goals.{After-log_entry, In_ok-ready}

pub prepare-requires : goal.prepare-requires
prepare-requires g c =
    let next = next_edit _ _ _ c.requires.next c.log_entry.result c.log_entry.ensures.entry in
    (next.edit, next.words_are, next_accepted _ _ _ c.requires.next c.log_entry.result next)

pub apply-requires : goal.apply-requires
apply-requires g c =
    let next = next_edit _ _ _ c.requires.next c.log_entry.result c.log_entry.ensures.entry in
    (next.edit, c.in_ok-ready.ensures.ready next.edit next.words_are (next_accepted _ _ _ c.requires.next c.log_entry.result next))

pub returns-clause-applied : goal.returns-clause-applied
returns-clause-applied g c =
    let next = next_edit _ _ _ c.requires.next c.log_entry.result c.log_entry.ensures.entry in
    let ready = c.in_ok-ready.ensures.ready next.edit next.words_are (next_accepted _ _ _ c.requires.next c.log_entry.result next) in
    next_behind _ _ _ c.requires.next c.log_entry.result next c.apply.new.self.grammar
    (c.apply.ensures next.edit ready ∙ ap (λ grammar. after_edit grammar next.edit) c.in_ok-ready.ensures.history)
