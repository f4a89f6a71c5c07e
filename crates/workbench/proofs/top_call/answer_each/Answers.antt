use Rattle.std.proofs.Common.{◌≡◌, ◌+◌, ◌++◌, ◌∷◌, [], take, drop, sym, ap, ◌∙◌, subst, arith}
use Rattle.std.proofs.lemmas.List.{take-append-drop}
use Rattle.bench_io.specs.Known.{Takes}
use Rattle.workbench.specs.Pieces.{TakesProperPrefix}
use Rattle.workbench.specs.Serving.{HasBench}
use Rattle.workbench.proofs.OneOutput.{part_is_front}
use Rattle.workbench.proofs.RunSteps.{on_err, answerable_at, front_more}
use Rattle.workbench.proofs.BenchSteps.{IsServed, served_none, served_more, served_flushed, served_stop, served_refused, served_whole}
use Rattle.workbench.proofs.BenchSteps.{served_log, served_full, served_pins}
use Rattle.workbench.proofs.top_call.answer_each.Goals as goal

pub loop-block-init : goal.loop-block-init
loop-block-init g c =
    let taken = g.K.Sink.taken c.args.sink.now in
    let grammar = c.args.server.now.grammar in
    let bench = c.args.server.now.bench in
    record {
      served = subst (λ out. HasBench bench (IsServed c.args.stats taken taken [] grammar out)) (sym c.new-out.ensures.items)
          (served_none c.args.stats taken grammar bench c.requires.grammar c.requires.bench);
      counted = omega arith;
    }

pub answer-requires-clause-proper : goal.answer-requires-clause-proper
answer-requires-clause-proper g c =
    answerable_at c.args.blocks.now c.loop-block.block-index c.block-item.result c.loop-block-test.true c.block-item.is c.requires.proper

pub answer-requires-clause-log : goal.answer-requires-clause-log
answer-requires-clause-log g c =
    served_log c.args.stats (g.K.Sink.taken c.args.sink.now) (g.K.Sink.taken c.loop-block.sink) c.args.blocks.now c.loop-block.block-index
    c.loop-block.server.grammar
    c.loop-block.server.bench c.loop-block.out.items c.loop-block.invariant.served

pub answer-requires-clause-full : goal.answer-requires-clause-full
answer-requires-clause-full g c =
    served_full c.args.stats (g.K.Sink.taken c.args.sink.now) (g.K.Sink.taken c.loop-block.sink) c.args.blocks.now c.loop-block.block-index
    c.loop-block.server.grammar
    c.loop-block.server.bench c.loop-block.out.items c.loop-block.invariant.served

pub answer-requires-clause-pins : goal.answer-requires-clause-pins
answer-requires-clause-pins g c =
    served_pins c.args.stats (g.K.Sink.taken c.args.sink.now) (g.K.Sink.taken c.loop-block.sink) c.args.blocks.now c.loop-block.block-index
    c.loop-block.server.grammar
    c.loop-block.server.bench c.loop-block.out.items c.loop-block.invariant.served c.loop-block-test.true c.requires.few

pub returns-in_err-answer-clause-front : goal.returns-in_err-answer-clause-front
returns-in_err-answer-clause-front g c =
    on_err c.from_residual.result
    (served_stop c.args.stats (g.K.Sink.taken c.args.sink.now) (g.K.Sink.taken c.loop-block.sink) c.args.blocks.now c.loop-block.block-index
    c.loop-block.server.grammar
    c.loop-block.server.bench c.loop-block.out.items c.loop-block.invariant.served)

pub returns-in_err-flush_full-clause-front : goal.returns-in_err-flush_full-clause-front
returns-in_err-flush_full-clause-front g c =
    let blocks = c.args.blocks.now in
    let i = c.loop-block.block-index in
    let block = c.block-item.result in
    let old = g.K.Sink.taken c.args.sink.now in
    let between = g.K.Sink.taken c.loop-block.sink in
    let served = served_more c.args.stats old between (take i blocks) block c.loop-block.server.grammar c.answer.new.self.grammar c.loop-block.server.bench
    c.answer.new.self.bench c.loop-block.out.items c.answer.new.out.items c.loop-block.invariant.served c.in_ok-answer.ensures.answers
    c.in_ok-answer.ensures.next in
    let first : take (i + 1) blocks ≡ take i blocks ++ block ∷ [] = front_more blocks i block c.loop-block-test.true c.block-item.is in
    on_err c.from_residual-in_err-flush_full.result
    (served_refused c.args.stats old between (g.K.Sink.taken c.flush_full.new.sink) blocks (take i blocks ++ block ∷ []) (drop
    (i + 1) blocks) c.answer.new.self.grammar
    c.answer.new.self.bench c.answer.new.out.items (sym (take-append-drop (i + 1) blocks) ∙ ap (λ bs. bs ++ drop (i + 1) blocks) first) served
    c.in_err-flush_full.ensures.refused)

pub loop-block-preserved : goal.loop-block-preserved
loop-block-preserved g c =
    let blocks = c.args.blocks.now in
    let i = c.loop-block.block-index in
    let block = c.block-item.result in
    let old = g.K.Sink.taken c.args.sink.now in
    let between = g.K.Sink.taken c.loop-block.sink in
    let new = g.K.Sink.taken c.flush_full.new.sink in
    let grammar = c.answer.new.self.grammar in
    let bench = c.answer.new.self.bench in
    let left = c.flush_full.new.out.items in
    let served = served_more c.args.stats old between (take i blocks) block c.loop-block.server.grammar grammar c.loop-block.server.bench bench
    c.loop-block.out.items
    c.answer.new.out.items c.loop-block.invariant.served c.in_ok-answer.ensures.answers c.in_ok-answer.ensures.next in
    let first : take (i + 1) blocks ≡ take i blocks ++ block ∷ [] = front_more blocks i block c.loop-block-test.true c.block-item.is in
    let gone = c.in_ok-flush_full.ensures.written in
    record {
      served = subst (λ bs. HasBench bench (IsServed c.args.stats old new bs grammar left)) (sym first)
          (served_flushed c.args.stats old between new (take i blocks ++ block ∷ []) grammar bench c.answer.new.out.items gone.0 left served gone.1 gone.2);
      counted = omega (arith, c.loop-block.invariant.counted, c.flush_full.ensures.counted);
    }

pub returns-in_err-write_all-clause-front : goal.returns-in_err-write_all-clause-front
returns-in_err-write_all-clause-front g c =
    let blocks = c.args.blocks.now in
    let i = c.loop-block.block-index in
    let refused : TakesProperPrefix (g.K.Sink.taken c.loop-block.sink) (g.K.Sink.taken c.write_all.new.sink) c.loop-block.out.items =
    subst (TakesProperPrefix (g.K.Sink.taken c.loop-block.sink) (g.K.Sink.taken c.write_all.new.sink)) c.deref.ensures.value c.in_err-write_all.ensures.refused
    in
    on_err c.from_residual-in_err-write_all.result
    (served_refused c.args.stats (g.K.Sink.taken c.args.sink.now) (g.K.Sink.taken c.loop-block.sink) (g.K.Sink.taken c.write_all.new.sink) blocks
    (take i blocks)
    (drop i blocks) c.loop-block.server.grammar c.loop-block.server.bench c.loop-block.out.items (sym (take-append-drop i blocks))
    c.loop-block.invariant.served (part_is_front (g.K.Sink.taken c.loop-block.sink) (g.K.Sink.taken c.write_all.new.sink) c.loop-block.out.items refused))

pub returns-clause-whole : goal.returns-clause-whole
returns-clause-whole g c =
    let whole : Takes (g.K.Sink.taken c.loop-block.sink) (g.K.Sink.taken c.write_all.new.sink) c.loop-block.out.items =
    subst (Takes (g.K.Sink.taken c.loop-block.sink) (g.K.Sink.taken c.write_all.new.sink)) c.deref.ensures.value c.in_ok-write_all.ensures.whole in
    served_whole c.args.stats (g.K.Sink.taken c.args.sink.now) (g.K.Sink.taken c.loop-block.sink) (g.K.Sink.taken c.write_all.new.sink) c.args.blocks.now
    c.loop-block.block-index c.loop-block.server.grammar c.loop-block.server.bench c.loop-block.out.items c.loop-block-test.false
    c.loop-block.invariant.served whole
