use Rattle.std.proofs.Common.{◌≡◌, ◌+◌, ◌∙◌, Some, inl, inr, [], refl, ap, sym, subst, append-nil, arith, rules}
use Rattle.edit_log.specs.History.{after_edit}
use Rattle.edit_log.specs.Touches.{IsTouchOf}
use Rattle.edit_log.specs.Verdict.{verdict}
use Rattle.graph_content.specs.Modifications.{Modification}
use Rattle.graph_content.specs.Contents.{KeepsRow}
use Rattle.script_text.specs.declared.command.Command.TheVariants.{Edit}
use Rattle.version_store.specs.Means.{bench_of}
use Rattle.replies.specs.declared.reply.Reply.TheVariants.{Edited}
use Rattle.replies.specs.Replies.{IsReply, taken, refused}
use Rattle.replies.proofs.ReplySteps.{refused_stays}
use Rattle.sections.specs.Laziness.{DropsCounts}
use Rattle.sections.proofs.DroppedRows.{drops_counts, drops_taken, drops_refused}
use Rattle.sections.proofs.EditedLogs.{room_by_verdict, version_by_log, lawful_longer, log_longer, edited_log, edited_version}
use Rattle.sections.proofs.EditedRows.{rows_refused, rows_taken}
use Rattle.sections.proofs.AddedSteps.{edit_adds}
use Rattle.sections.proofs.editing.edit_bench.Goals as goal

-- ---- a refused edit

-- the refusal is the verdict
said : (c : goal.In-Err) → verdict c.args.grammar.now.grammar c.args.edit.now ≡ Some c.in-Err.refusal
said c = elim c.in-Err.ensures.refused [
  | inl gone ↦ absurd (search rules)
  | inr is ↦ is
]

pub returns-in-Err-clause-replied : goal.returns-in-Err-clause-replied
returns-in-Err-clause-replied c = refused (said c)

pub returns-in-Err-clause-next : goal.returns-in-Err-clause-next
returns-in-Err-clause-next c = refused_stays c.args.grammar.now.grammar c.args.edit.now c.in-Err.refusal (said c)

pub returns-in-Err-clause-kept : goal.returns-in-Err-clause-kept
returns-in-Err-clause-kept c =
    rows_refused c.args.grammar.now.grammar c.args.edit.now c.in-Err.refusal (bench_of c.args.bench.now).graph (bench_of c.args.bench.now).graph (said c) refl

pub returns-in-Err-clause-drops : goal.returns-in-Err-clause-drops
returns-in-Err-clause-drops c =
    drops_refused c.args.grammar.now.grammar c.args.edit.now c.in-Err.refusal (bench_of c.args.bench.now).graph (0, 0) (said c) refl

pub returns-in-Err-clause-records : goal.returns-in-Err-clause-records
returns-in-Err-clause-records c = ([], sym (append-nil (bench_of c.args.bench.now).steps), refl)

-- ---- an edit that is taken

pub edit_alone-made-requires-clause-lawful : goal.edit_alone-made-requires-clause-lawful
edit_alone-made-requires-clause-lawful c =
    lawful_longer (bench_of c.args.bench.now).log (record { words = c.in-Ok.entry.words }) c.args.grammar.now.grammar c.args.edit.now c.requires.log
    c.in-Ok.ensures.taken c.in-Ok.ensures.entry

pub unreachable-requires : goal.unreachable-requires
unreachable-requires c =
    let grammar = c.args.grammar.now.grammar in
    let full = c.in-Err-made.ensures.full in
    room_by_verdict grammar c.args.edit.now c.in-Ok.ensures.taken.taken
    (version_by_log (bench_of c.args.bench.now).log grammar c.requires.log ∙ full.full ∙ c.requires.full)

pub returns-clause-replied : goal.returns-clause-replied
returns-clause-replied c =
    let grammar = c.args.grammar.now.grammar in
    let version : c.in-Ok-made.version ≡ grammar.version + 1 =
    edited_version (KeepsRow c.new-modify.result) c.in-Ok.entry.words (bench_of c.args.bench.now) (bench_of c.edit_alone-made.new.self) grammar
    c.in-Ok-made.version c.in-Ok-made.ensures.made c.requires.log c.in-Ok-made.ensures.version in
    subst (λ n. IsReply grammar (Edit c.args.edit.now) (Edited n)) (sym version) (taken c.in-Ok.ensures.taken.taken)

pub returns-clause-serves : goal.returns-clause-serves
returns-clause-serves c =
    let grammar = c.args.grammar.now.grammar in
    let edit = c.args.edit.now in
    let old = bench_of c.args.bench.now in
    let new = bench_of c.edit_alone-made.new.self in
    let made = c.in-Ok-made.ensures.made in
    let next : c.apply.new.self.grammar ≡ after_edit grammar edit =
    c.apply.ensures edit (c.in_ok-ready.ensures.ready edit c.in-Ok.ensures.entry c.in-Ok.ensures.taken) ∙ ap
    (λ g. after_edit g edit) c.in_ok-ready.ensures.history in
    record {
      log = log_longer old.log (record { words = c.in-Ok.entry.words }) grammar edit c.requires.log c.in-Ok.ensures.taken c.in-Ok.ensures.entry new.log
          c.apply.new.self.grammar (edited_log (KeepsRow c.new-modify.result) c.in-Ok.entry.words old new made) next;
      sizes = made.sizes;
      table = made.table;
    }

pub returns-clause-kept : goal.returns-clause-kept
returns-clause-kept c =
    let edit = c.args.edit.now in
    let replica = c.prepare.new.self in
    let made = c.in-Ok-made.ensures.made in
    let ready = c.in_ok-ready.ensures.ready edit c.in-Ok.ensures.entry c.in-Ok.ensures.taken in
    let touches : IsTouchOf c.new-modify.result.grammar edit c.new-modify.result.touch =
    subst (λ (m : Modification). IsTouchOf m.grammar edit m.touch) (sym c.new-modify.ensures) (c.touch.ensures replica edit ready) in
    let same = ap (λ (m : Modification). m.grammar) c.new-modify.ensures ∙ c.in_ok-ready.ensures.history in
    rows_taken c.args.grammar.now.grammar edit c.new-modify.result (bench_of c.args.bench.now).graph (bench_of c.edit_alone-made.new.self).graph
    c.in-Ok.ensures.taken.taken same touches made.kept made.every

pub returns-clause-drops : goal.returns-clause-drops
returns-clause-drops c =
    let edit = c.args.edit.now in
    let grammar = c.args.grammar.now.grammar in
    let m = c.new-modify.result in
    let is = c.new-modify.ensures in
    let ready = c.in_ok-ready.ensures.ready edit c.in-Ok.ensures.entry c.in-Ok.ensures.taken in
    let same : m.grammar ≡ grammar = ap (λ (k : Modification). k.grammar) is ∙ c.in_ok-ready.ensures.history in
    let touches : IsTouchOf m.grammar edit m.touch =
    subst (λ (k : Modification). IsTouchOf k.grammar edit k.touch) (sym is) (c.touch.ensures c.prepare.new.self edit ready) in
    let few = (bench_of c.args.bench.now).sizes.places_in in
    let counts = drops_counts (bench_of c.args.bench.now).log grammar c.requires.log edit c.in-Ok.ensures.taken (bench_of c.args.bench.now).graph m
    c.edit_alone-made.new.chooser (bench_of c.args.bench.now).sizes.places same (subst (λ g. IsTouchOf g edit m.touch) same touches)
    (ap (λ (k : Modification). k.items) is) (ap (λ (k : Modification). k.scan) is) c.in-Ok-made.ensures.asked (omega (arith, few.1)) in
    drops_taken grammar edit (bench_of c.args.bench.now).graph c.dropped-dropped.result c.in-Ok.ensures.taken.taken
    (subst (DropsCounts grammar edit (bench_of c.args.bench.now).graph) (sym c.dropped-dropped.ensures) counts)

pub returns-clause-records : goal.returns-clause-records
returns-clause-records c =
    edit_adds (KeepsRow c.new-modify.result) c.in-Ok.entry.words (bench_of c.args.bench.now) (bench_of c.edit_alone-made.new.self) c.in-Ok-made.ensures.made
