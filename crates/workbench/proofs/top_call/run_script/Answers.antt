use Rattle.std.proofs.Common.{◌∙◌, Err, inr, ap, sym, subst, rules}
use Rattle.grammar_text.proofs.ByteTexts.{bytes_from_places}
use Rattle.script_text.specs.Scripts.{IsFirstBad}
use Rattle.workbench.specs.declared.top_call.Status.TheVariants.{BadScript, WriteFault, NoMemory}
use Rattle.workbench.specs.Ends.{IsLate, StopsBeforeEnd}
use Rattle.workbench.specs.Runs.{StopsInReplies, of_replies, of_refusal, WritesAll}
use Rattle.workbench.proofs.BenchSteps.{written_all}
use Rattle.workbench.proofs.RunEnds.{after_failure, failed_by}
use Rattle.workbench.proofs.ScriptFacts.{all_proper, few_blocks}
use Rattle.workbench.proofs.top_call.run_script.Goals as goal

-- ---- a bad script

pub returns-in-Err-Bad-clause-late : goal.returns-in-Err-Bad-clause-late
returns-in-Err-Bad-clause-late g c = subst IsLate (sym c.without_bench.ensures.status) c.status_after.ensures.late

pub returns-in-Err-Bad-clause-done : goal.returns-in-Err-Bad-clause-done
returns-in-Err-Bad-clause-done g c = λ is. absurd (c.status_after.ensures.not_done (sym c.without_bench.ensures.status ∙ is))

pub returns-in-Err-Bad-clause-stopped : goal.returns-in-Err-Bad-clause-stopped
returns-in-Err-Bad-clause-stopped g c = λ is.
    let first : IsFirstBad c.args.script.now c.in-Err-Bad.bad = search rules in
    of_refusal c.in-Err-Bad.bad first (after_failure c.refuse-written.result BadScript c.status_after.result WriteFault c.status_after.ensures.ok
    c.refuse-written.ensures.front (sym c.without_bench.ensures.status ∙ is) (λ e. cc e))

pub returns-in-Err-Bad-clause-no_memory : goal.returns-in-Err-Bad-clause-no_memory
returns-in-Err-Bad-clause-no_memory g c = λ is.
    let first : IsFirstBad c.args.script.now c.in-Err-Bad.bad = search rules in
    inr (of_refusal c.in-Err-Bad.bad first (after_failure c.refuse-written.result BadScript c.status_after.result NoMemory c.status_after.ensures.ok
    c.refuse-written.ensures.front (sym c.without_bench.ensures.status ∙ is) (λ e. cc e)))

-- ---- a good one

pub answer_all-requires-clause-proper : goal.answer_all-requires-clause-proper
answer_all-requires-clause-proper g c = rw c.as_slice.ensures (all_proper c.args.script.now c.in-Ok.read (bytes_from_places c.args.script.now
    (search rules)) c.in-Ok.ensures.found)

pub answer_all-requires-clause-few : goal.answer_all-requires-clause-few
answer_all-requires-clause-few g c = rw c.as_slice.ensures (few_blocks c.args.script.now c.in-Ok.read (bytes_from_places c.args.script.now
    (search rules)) c.in-Ok.ensures.found)

-- ---- a write that fails

pub returns-in-Err-clause-late : goal.returns-in-Err-clause-late
returns-in-Err-clause-late g c = subst IsLate (sym c.without_bench-in-Err.ensures.status) c.status_of.ensures.late

pub returns-in-Err-clause-done : goal.returns-in-Err-clause-done
returns-in-Err-clause-done g c = λ is. absurd (subst StopsBeforeEnd (sym c.without_bench-in-Err.ensures.status ∙ is) c.status_of.ensures.stops)

pub returns-in-Err-clause-bad_script : goal.returns-in-Err-clause-bad_script
returns-in-Err-clause-bad_script g c = λ is.
    absurd (subst StopsBeforeEnd (sym c.without_bench-in-Err.ensures.status ∙ is) c.status_of.ensures.stops)

pub returns-in-Err-clause-write_fault : goal.returns-in-Err-clause-write_fault
returns-in-Err-clause-write_fault g c = λ is.
    c.in-Err.ensures.failed (ap Err
    (failed_by c.in-Err.fault c.status_of.result c.status_of.ensures.no_memory (sym c.without_bench-in-Err.ensures.status ∙ is)))

pub returns-in-Err-clause-stopped : goal.returns-in-Err-clause-stopped
returns-in-Err-clause-stopped g c = λ is. of_replies c.in-Ok.read c.in-Ok.ensures.found
    (subst (StopsInReplies c.args.stats (g.K.Sink.taken c.args.sink.now) (g.K.Sink.taken c.answer_all.new.sink)) c.as_slice.ensures c.in-Err.ensures.front)

pub returns-in-Err-clause-no_memory : goal.returns-in-Err-clause-no_memory
returns-in-Err-clause-no_memory g c = λ is. inr (of_replies c.in-Ok.read c.in-Ok.ensures.found
    (subst (StopsInReplies c.args.stats (g.K.Sink.taken c.args.sink.now) (g.K.Sink.taken c.answer_all.new.sink)) c.as_slice.ensures c.in-Err.ensures.front))

-- ---- all commands were answered

pub returns-clause-done : goal.returns-clause-done
returns-clause-done g c = λ is. (
  c.in-Ok.read,
  c.in-Ok.ensures.found,
  subst (λ blocks. WritesAll c.args.stats (g.K.Sink.taken c.args.sink.now) (g.K.Sink.taken c.answer_all.new.sink) blocks c.with_bench.result.bench)
      c.as_slice.ensures
      (written_all c.args.stats (g.K.Sink.taken c.args.sink.now) (g.K.Sink.taken c.answer_all.new.sink) c.as_slice.result.now c.with_bench.result.bench
      c.in-Ok-answer_all.server.bench c.with_bench.ensures.bench c.in-Ok-answer_all.ensures.whole),
)
