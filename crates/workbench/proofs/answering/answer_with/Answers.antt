use Rattle.std.proofs.Common.{◌≡◌, ◌∙◌, ◌++◌, ap, sym, subst, append_assoc}
use Rattle.edit_log.specs.History.{Grammar}
use Rattle.graph_content.specs.Contents.{IsLogOfGrammar}
use Rattle.version_store.specs.Means.{bench_of}
use Rattle.replies.specs.Lines.{reply_text}
use Rattle.replies.specs.Known.{IsKnownReply}
use Rattle.replies.specs.Replies.{grammar_after}
use Rattle.replies.proofs.KnownReplies.{known_reply, known_after, same_text}
use Rattle.sections.proofs.EditedLogs.{formed_by_log}
use Rattle.workbench.specs.Benches.{shown_laziness}
use Rattle.workbench.proofs.answering.answer_with.Goals as goal

pub put_reply-requires : goal.put_reply-requires
put_reply-requires g c =
    let grammar = c.args.crew.now in
    let command = c.args.command.now in
    let reply = c.in-Ok.alone.reply in
    let after : c.grammar.result.now.grammar ≡ grammar_after grammar command = c.grammar.ensures ∙ c.in-Ok.ensures.next in
    subst (λ (next : Grammar). IsKnownReply next.symbols reply) (sym after)
    (known_after grammar command reply c.in-Ok.ensures.replied
    (known_reply grammar command reply (formed_by_log (bench_of c.args.bench).log grammar c.requires.log) c.in-Ok.ensures.replied))

pub returns-clause-answers : goal.returns-clause-answers
returns-clause-answers g c =
    let grammar = c.args.crew.now in
    let command = c.args.command.now in
    let reply = c.in-Ok.alone.reply in
    let after : c.grammar.result.now.grammar ≡ grammar_after grammar command = c.grammar.ensures ∙ c.in-Ok.ensures.next in
    let bytes = c.args.out.now.items in
    let shown = shown_laziness c.args.stats reply c.in-Ok.alone.tallies c.in-Ok.alone.dropped in
    let told : c.put_reply.new.out.items ≡ bytes ++ reply_text grammar.symbols reply = c.in_ok-put_reply.ensures
    ∙ ap (λ (next : Grammar). bytes ++ reply_text next.symbols reply) after
    ∙ ap (λ text. bytes ++ text) (same_text grammar command reply c.in-Ok.ensures.replied) in
    record {
      reply = reply;
      is = c.in-Ok.ensures.replied;
      log = subst (IsLogOfGrammar (bench_of c.in-Ok.alone.bench).log) c.in-Ok.ensures.next c.in-Ok.ensures.serves.log;
      sizes = c.in-Ok.ensures.serves.sizes;
      pins = c.in-Ok.ensures.pins;
      graph = record {
        tallies = c.in-Ok.alone.tallies;
        before = _;
        after = _;
        shares = c.in-Ok.ensures.shares;
        dropped = c.in-Ok.alone.dropped;
        drops = c.in-Ok.ensures.drops;
      };
      records = c.in-Ok.ensures.records;
      appended = c.in_ok-put_shown.ensures ∙ ap (λ text. text ++ shown) told ∙ append_assoc bytes (reply_text grammar.symbols reply) shown;
    }
