use Rattle.std.proofs.Common.{◌≡◌, ◌⊎◌, ◌∙◌, false, ◌+◌, ◌≤◌, List, ℕ, length, inl, inr, subst, sym, arith, rules}
use Rattle.bench_io.specs.Known.{IsKnownAs}
use Rattle.script_text.specs.declared.limits.TheConstants.{SCRIPT_LIMIT}
use Rattle.workbench.specs.Pieces.{TakesPrefix, GivesCount}
use Rattle.workbench.specs.Runs.{RunsWhole, StopsEarly, StopsInOutput}
use Rattle.workbench.specs.Ends.{EndsBy, without_memory}
use Rattle.workbench.specs.Output.{IsOutput, HasNoStats, IsBadScript}
use Rattle.workbench.proofs.OneOutput.{if_known, output_of}
use Rattle.workbench.proofs.RunEnds.{not_bad, front_at_end, ends_by, ends_too_long}
use Rattle.workbench.proofs.RunCauses.{no_count, other_count, silent_not_bad, only_bad}
use Rattle.workbench.proofs.top_call.run.Goals as goal

pub returns-in-Ok-read_all-clause-done : goal.returns-in-Ok-read_all-clause-done
returns-in-Ok-read_all-clause-done g c = λ is.
    let left = g.S.Source.left c.args.source.now in
    let known : IsKnownAs (g.S.Source.left c.args.source.now) c.deref.result.now = subst (IsKnownAs left)
    (sym c.deref.ensures.value) c.in-Ok-read_all.ensures.whole in
    let short : length c.deref.result.now ≤ SCRIPT_LIMIT = search rules in
    let whole = c.run_script.ensures.done is in
    subst (λ stats. RunsWhole stats left (g.S.Source.left c.read_all.new.source) (g.K.Sink.taken c.args.sink.now) (g.K.Sink.taken c.run_script.new.sink)
    c.run_script.result.bench) c.in-Ok.ensures.asked (record {
      script = c.deref.result.now;
      is_read = record { given = known; ended = c.in-Ok-read_all.ensures.ended; short = short };
      read = whole.0;
      good = whole.1;
      output = whole.2.output;
      is = output_of c.in-Ok.stats c.deref.result.now whole.0 short whole.1 c.run_script.result.bench whole.2.output whole.2.over;
      over = whole.2.over;
      taken = whole.2.taken;
    })

pub returns-in-Ok-read_all-clause-good_script : goal.returns-in-Ok-read_all-clause-good_script
returns-in-Ok-read_all-clause-good_script g c = λ is.
    let left = g.S.Source.left c.args.source.now in
    let known : IsKnownAs (g.S.Source.left c.args.source.now) c.deref.result.now = subst (IsKnownAs left)
    (sym c.deref.ensures.value) c.in-Ok-read_all.ensures.whole in
    let short : length c.deref.result.now ≤ SCRIPT_LIMIT = search rules in
    let whole = c.run_script.ensures.done is in
    if_known left c.deref.result.now (λ script. IsBadScript script → ⊥) known (not_bad c.deref.result.now whole.0 short whole.1)

pub returns-in-Ok-read_all-clause-complete : goal.returns-in-Ok-read_all-clause-complete
returns-in-Ok-read_all-clause-complete g c = λ one free_source free_sink script told.
    let left = g.S.Source.left c.args.source.now in
    let known : IsKnownAs (g.S.Source.left c.args.source.now) c.deref.result.now = subst (IsKnownAs left)
    (sym c.deref.ensures.value) c.in-Ok-read_all.ensures.whole in
    let short : length c.deref.result.now ≤ SCRIPT_LIMIT = search rules in
    ends_by left c.deref.result.now script c.run_script.result.status known told short c.run_script.ensures.late
    (λ is. let whole = c.run_script.ensures.done is in (whole.0, whole.1)) (λ is. let bad = c.run_script.ensures.bad_script is in (bad.0, bad.1))
    (λ is. free_sink (c.run_script.ensures.write_fault is))

pub returns-in-Ok-read_all-clause-stopped : goal.returns-in-Ok-read_all-clause-stopped
returns-in-Ok-read_all-clause-stopped g c = λ is.
    let left = g.S.Source.left c.args.source.now in
    let known : IsKnownAs (g.S.Source.left c.args.source.now) c.deref.result.now = subst (IsKnownAs left)
    (sym c.deref.ensures.value) c.in-Ok-read_all.ensures.whole in
    let short : length c.deref.result.now ≤ SCRIPT_LIMIT = search rules in
    subst (λ stats. StopsEarly stats left (g.S.Source.left c.read_all.new.source) (g.K.Sink.taken c.args.sink.now) (g.K.Sink.taken c.run_script.new.sink))
    c.in-Ok.ensures.asked (record {
      script = c.deref.result.now;
      is_read = record { given = known; ended = c.in-Ok-read_all.ensures.ended; short = short };
      taken = c.run_script.ensures.stopped is;
    })

pub returns-in-Ok-read_all-clause-no_memory : goal.returns-in-Ok-read_all-clause-no_memory
returns-in-Ok-read_all-clause-no_memory g c = λ is.
    let left = g.S.Source.left c.args.source.now in
    let known : IsKnownAs (g.S.Source.left c.args.source.now) c.deref.result.now = subst (IsKnownAs left)
    (sym c.deref.ensures.value) c.in-Ok-read_all.ensures.whole in
    let short : length c.deref.result.now ≤ SCRIPT_LIMIT = search rules in
    elim (c.run_script.ensures.no_memory is) [
      | inl same ↦ inl same
      | inr front ↦ inr (subst (λ stats. StopsEarly stats left (g.S.Source.left c.read_all.new.source) (g.K.Sink.taken c.args.sink.now)
          (g.K.Sink.taken c.run_script.new.sink)) c.in-Ok.ensures.asked (record {
            script = c.deref.result.now;
            is_read = record { given = known; ended = c.in-Ok-read_all.ensures.ended; short = short };
            taken = front;
          }))
    ]

pub returns-in-Ok-read_all-clause-front : goal.returns-in-Ok-read_all-clause-front
returns-in-Ok-read_all-clause-front g c = λ ends unasked.
    let old = g.K.Sink.taken c.args.sink.now in
    let new = g.K.Sink.taken c.run_script.new.sink in
    let left = g.S.Source.left c.args.source.now in
    let known : IsKnownAs left c.deref.result.now = subst (IsKnownAs left) (sym c.deref.ensures.value) c.in-Ok-read_all.ensures.whole in
    let plain : c.in-Ok.stats ≡ false = c.in-Ok.ensures.asked ∙ unasked in
    if_known left c.deref.result.now (λ script. HasNoStats script → (output : List ℕ) → IsOutput false script output → TakesPrefix old new output)
    known (front_at_end c.run_script.result.status c.deref.result.now old new
    (λ is. subst (λ stats. StopsInOutput stats old new c.deref.result.now) plain (c.run_script.ensures.stopped is))
    (λ is. subst (λ stats. (new ≡ old) ⊎ StopsInOutput stats old new c.deref.result.now) plain (c.run_script.ensures.no_memory is)) ends)

pub returns-in-Err-NoMemory-read_all-clause-complete : goal.returns-in-Err-NoMemory-read_all-clause-complete
returns-in-Err-NoMemory-read_all-clause-complete g c = λ one free_source free_sink script told.
    subst (EndsBy script) (sym c.without_bench-in-Err-NoMemory-read_all.ensures.status) without_memory

pub returns-in-Err-TooLong-clause-complete : goal.returns-in-Err-TooLong-clause-complete
returns-in-Err-TooLong-clause-complete g c = λ one free_source free_sink script told.
    let gives : GivesCount (g.S.Source.left c.args.source.now) (g.S.Source.left c.read_all.new.source) (SCRIPT_LIMIT + 1) = search rules in
    subst (EndsBy script) (sym c.without_bench-in-Err-TooLong.ensures.status)
    (ends_too_long (g.S.Source.left c.args.source.now) (g.S.Source.left c.read_all.new.source) script gives told)

-- ---- where the bytes are told

pub returns-in-Err-Bad-clause-only_bad_script : goal.returns-in-Err-Bad-clause-only_bad_script
returns-in-Err-Bad-clause-only_bad_script g c = λ told_left told_taken runs.
    absurd (silent_not_bad (g.S.Source.left c.args.source.now) (g.S.Source.left c.args.source.now) (g.K.Sink.taken c.args.sink.now) told_taken runs)

pub returns-in-Err-Bad-clause-only_too_long : goal.returns-in-Err-Bad-clause-only_too_long
returns-in-Err-Bad-clause-only_too_long g c = λ told gives. absurd (no_count (g.S.Source.left c.args.source.now) (SCRIPT_LIMIT + 1) (omega arith) told gives)

pub returns-in-Err-NoMemory-clause-only_bad_script : goal.returns-in-Err-NoMemory-clause-only_bad_script
returns-in-Err-NoMemory-clause-only_bad_script g c = λ told_left told_taken runs.
    absurd (silent_not_bad (g.S.Source.left c.args.source.now) (g.S.Source.left c.args.source.now) (g.K.Sink.taken c.args.sink.now) told_taken runs)

pub returns-in-Err-NoMemory-clause-complete : goal.returns-in-Err-NoMemory-clause-complete
returns-in-Err-NoMemory-clause-complete g c = λ takes free_source free_sink script told.
    subst (EndsBy script) (sym c.without_bench-in-Err-NoMemory.ensures.status) without_memory

pub returns-in-Ok-read_all-clause-only_bad_script : goal.returns-in-Ok-read_all-clause-only_bad_script
returns-in-Ok-read_all-clause-only_bad_script g c =
    let left = g.S.Source.left c.args.source.now in
    let known : IsKnownAs left c.deref.result.now = subst (IsKnownAs left) (sym c.deref.ensures.value) c.in-Ok-read_all.ensures.whole in
    only_bad c.in-Ok.stats left (g.S.Source.left c.read_all.new.source) (g.K.Sink.taken c.args.sink.now)
    (g.K.Sink.taken c.run_script.new.sink) c.deref.result.now c.run_script.result.status known c.run_script.ensures.late
    (λ is. let whole = c.run_script.ensures.done is in (whole.0, whole.1)) c.run_script.ensures.stopped c.run_script.ensures.no_memory

pub returns-in-Err-Failed-clause-only_bad_script : goal.returns-in-Err-Failed-clause-only_bad_script
returns-in-Err-Failed-clause-only_bad_script g c = λ told_left told_taken runs.
    absurd (silent_not_bad (g.S.Source.left c.args.source.now) (g.S.Source.left c.read_all.new.source) (g.K.Sink.taken c.args.sink.now) told_taken runs)

pub returns-in-Err-Failed-clause-only_too_long : goal.returns-in-Err-Failed-clause-only_too_long
returns-in-Err-Failed-clause-only_too_long g c = λ told gives.
    let old = g.S.Source.left c.args.source.now in
    let new = g.S.Source.left c.read_all.new.source in
    let few : (n : ℕ) × (n ≤ SCRIPT_LIMIT) × GivesCount old new n = search rules in
    let within = few.1 in
    absurd (other_count old new few.0 (SCRIPT_LIMIT + 1) (omega (arith, within)) told few.2 gives)

pub returns-in-Err-NoMemory-read_all-clause-only_bad_script : goal.returns-in-Err-NoMemory-read_all-clause-only_bad_script
returns-in-Err-NoMemory-read_all-clause-only_bad_script g c = λ told_left told_taken runs.
    absurd (silent_not_bad (g.S.Source.left c.args.source.now) (g.S.Source.left c.read_all.new.source) (g.K.Sink.taken c.args.sink.now) told_taken runs)
