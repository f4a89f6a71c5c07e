-- A run, block by block.
use Rattle.std.proofs.Common.{◌≡◌, Bool, ℕ, ◌+◌, ◌≤◌, ◌<◌, List, [], ◌∷◌, ◌++◌, length, take, drop, Option, Result, Ok, Err, OnErr, refl, ap, sym}
use Rattle.std.proofs.Common.{◌∙◌, subst, arith}
use Rattle.std.proofs.Common.{append_assoc, append-nil, length-append}
use Rattle.std.specs.List.{AllByRecursion, slice_index_or}
use Rattle.std.proofs.Math.Seq.{take-append-add, take-append_seam}
use Rattle.std.proofs.lemmas.List.{take-append-drop, take_all, take_more}
use Rattle.std.proofs.lemmas.List.Elements.{All-from_recursion}
use Rattle.bench_io.specs.Known.{Takes}
use Rattle.bench_io.proofs.Chains.{Takes-append, Takes-none}
use Rattle.edit_log.specs.History.{Grammar, empty_grammar}
use Rattle.script_text.specs.declared.command.Command.{Command}
use Rattle.script_text.specs.declared.command.Block.{Block}
use Rattle.script_text.specs.declared.command.Block.TheVariants.{Alone, Par}
use Rattle.workbench.specs.Pieces.{TakesPrefix}
use Rattle.pin_rule.specs.Layout.{full_sizes}
use Rattle.pin_rule.specs.declared.sizes.Sizes.{Sizes}
use Rattle.version_store.specs.Meaning.{BenchMeaning}
use Rattle.replies.specs.declared.reply.Reply.{Reply}
use Rattle.replies.specs.Replies.{IsReply, grammar_after}
use Rattle.sections.specs.Laziness.{SharesRows, DropsRows}
use Rattle.replies.specs.Blocks.{grammar_behind, grammar_after_all, IsProperBlock}
use Rattle.workbench.specs.Benches.{LeavesGraph, lines_for, AnswersBlock, AreAnswers, none, more, IsBenchBehind}
use Rattle.workbench.specs.Runs.{AnswersAll, StopsInReplies}

-- ---- answers one after the other

-- the same, of a graph of the same size and under the same grammar
abbrev leaves_at : (z y : Sizes) (old new : Grammar) (command : Command) (reply : Reply) (first last : List (List ℕ)) → z ≡ y → old ≡ new
    → LeavesGraph z old command reply first last → LeavesGraph y new command reply first last
leaves_at z y old new command reply first last size grammar graph = record {
  tallies = graph.tallies;
  before = graph.before;
  after = graph.after;
  shares = subst (λ g. SharesRows y g command reply graph.tallies graph.before graph.after first last) grammar
      (subst (λ x. SharesRows x old command reply graph.tallies graph.before graph.after first last) size graph.shares);
  dropped = graph.dropped;
  drops = subst (λ g. DropsRows g command first graph.dropped) grammar graph.drops;
}

answers_push : (stats : Bool) (z : Sizes) (grammar : Grammar) (blocks : List Block) (command : Command) (first next last : List (List ℕ)) (lines : List ℕ)
    (reply : Reply) → AreAnswers stats z grammar blocks first next lines → IsReply (grammar_after_all grammar blocks) command reply
    → (leaves : LeavesGraph z (grammar_after_all grammar blocks) command reply next last)
    → AreAnswers stats z grammar (blocks ++ Alone command ∷ []) first last
    (lines ++ lines_for stats (grammar_after_all grammar blocks) reply leaves.tallies leaves.dropped)
answers_push stats z grammar [] command first _ last _ reply none is leaves =
    subst (AreAnswers stats z grammar (Alone command ∷ []) first last) (append-nil (lines_for stats grammar reply leaves.tallies leaves.dropped))
    (more is leaves none)
answers_push stats z grammar (Par commands ∷ blocks) command first next last lines reply answers is leaves = elim answers [ ]
answers_push stats z grammar (Alone one ∷ blocks) command first next last _ reply
    (more {reply = said} {next = between} {lines = rest} by left others) is leaves =
    subst (AreAnswers stats z grammar (Alone one ∷ (blocks ++ Alone command ∷ [])) first last)
    (sym (append_assoc (lines_for stats grammar said left.tallies left.dropped) rest
    (lines_for stats (grammar_after_all (grammar_after grammar one) blocks) reply leaves.tallies leaves.dropped)))
    (more by left (answers_push stats z (grammar_after grammar one) blocks command between next last rest reply others is leaves))

pub grammar_after_all-push : (grammar : Grammar) (blocks : List Block) (block : Block) → grammar_after_all grammar (blocks ++ block ∷ []) ≡ grammar_behind
    (grammar_after_all grammar blocks) block
grammar_after_all-push grammar [] block = refl
grammar_after_all-push grammar (first ∷ blocks) block = grammar_after_all-push (grammar_behind grammar first) blocks block

-- ---- up to here the blocks are answered

-- the sink took the lines of the replies to the blocks but for those that are gathered, and the graph is what the blocks left
pub record IsAnswered (stats : Bool) (old new : Option (List ℕ)) (first : List Block) (grammar : Grammar) (graph : List (List ℕ)) (out : List ℕ) : Type 0 where
  pub written : List ℕ
  pub taken : Takes old new written
  pub answers : AreAnswers stats full_sizes empty_grammar first [] graph (written ++ out)
  pub same : grammar ≡ grammar_after_all empty_grammar first

pub answered_none : (stats : Bool) (taken : Option (List ℕ)) (grammar : Grammar) (graph : List (List ℕ)) → grammar ≡ empty_grammar → graph ≡ []
    → IsAnswered stats taken taken [] grammar graph []
answered_none stats known grammar graph e no_row =
    record {
      written = [];
      taken = Takes-none known;
      answers = subst (λ rows. AreAnswers stats full_sizes empty_grammar [] [] rows [])
          (sym no_row) none;
      same = e;
    }

pub answered_more : (stats : Bool) (old new : Option (List ℕ)) (first : List Block) (block : Block) (grammar next : Grammar) (before after : BenchMeaning)
    (out appended : List ℕ)
    → IsAnswered stats old new first grammar before.graph out → before.sizes ≡ full_sizes
    → AnswersBlock stats grammar block before after out appended → next ≡ grammar_behind grammar block
    → IsAnswered stats old new (first ++ block ∷ []) next after.graph appended
answered_more stats old new first (Par commands) grammar next before after out appended so_far full answers next-is = absurd answers
answered_more stats old new first (Alone command) grammar next before after out appended so_far full answers next-is = record {
  written = so_far.written;
  taken = so_far.taken;
  answers =
      let there = grammar_after_all empty_grammar first in
      let leaves = leaves_at before.sizes full_sizes grammar there command answers.reply before.graph after.graph full so_far.same answers.graph in
      let all = answers_push stats full_sizes empty_grammar first command [] before.graph after.graph (so_far.written ++ out) answers.reply so_far.answers
      (subst (λ g. IsReply g command answers.reply) so_far.same answers.is) leaves in
      let shown : Grammar → List ℕ = λ g. lines_for stats g answers.reply answers.graph.tallies answers.graph.dropped in
      subst (AreAnswers stats full_sizes empty_grammar (first ++ Alone command ∷ []) [] after.graph)
      (ap (λ t. (so_far.written ++ out) ++ t) (ap shown (sym so_far.same)) ∙ append_assoc so_far.written out (shown grammar)
      ∙ ap (λ bytes. so_far.written ++ bytes) (sym answers.appended)) all;
  same = next-is ∙ ap (λ g. grammar_after g command) so_far.same ∙ sym (grammar_after_all-push empty_grammar first (Alone command));
}

pub answered_flushed : (stats : Bool) (old between new : Option (List ℕ)) (first : List Block) (grammar : Grammar) (graph : List (List ℕ))
    (out gone left : List ℕ)
    → IsAnswered stats old between first grammar graph out
    → Takes between new gone → out ≡ gone ++ left → IsAnswered stats old new first grammar graph left
answered_flushed stats old between new first grammar graph out gone left so_far takes parts = record {
  written = so_far.written ++ gone;
  taken = Takes-append old between new so_far.written gone so_far.taken takes;
  answers = subst (AreAnswers stats full_sizes empty_grammar first [] graph) (ap (λ bytes. so_far.written ++ bytes) parts
      ∙ sym (append_assoc so_far.written gone left)) so_far.answers;
  same = so_far.same;
}

pub answered_stop : (stats : Bool) (old new : Option (List ℕ)) (blocks : List Block) (i : ℕ) (grammar : Grammar) (graph : List (List ℕ)) (out : List ℕ)
    → IsAnswered stats old new (take i blocks) grammar graph out → StopsInReplies stats old new blocks
answered_stop stats old new blocks i grammar graph out so_far = record {
  first = take i blocks;
  others = drop i blocks;
  parts = sym (take-append-drop i blocks);
  last = graph;
  output = so_far.written ++ out;
  answers = so_far.answers;
  taken = (length so_far.written, omega (arith, length-append so_far.written out), rw (take-append_seam so_far.written out) so_far.taken);
}

-- before the first block is answered
pub stops_at_first : (stats : Bool) (known : Option (List ℕ)) (blocks : List Block) → StopsInReplies stats known known blocks
stops_at_first stats known blocks = record {
  first = [];
  others = blocks;
  parts = refl;
  last = [];
  output = [];
  answers = none;
  taken = (0, omega arith, Takes-none known);
}

pub answered_refused : (stats : Bool) (old between new : Option (List ℕ)) (blocks first others : List Block) (grammar : Grammar) (graph : List (List ℕ))
    (out : List ℕ)
    → blocks ≡ first ++ others → IsAnswered stats old between first grammar graph out → TakesPrefix between new out → StopsInReplies stats old new blocks
answered_refused stats old between new blocks first others grammar graph out parts so_far prefix = record {
  first = first;
  others = others;
  parts = parts;
  last = graph;
  output = so_far.written ++ out;
  answers = so_far.answers;
  taken = (
    length so_far.written + prefix.0,
    omega (arith, length-append so_far.written out, prefix.1),
    rw (take-append-add so_far.written out prefix.0) (Takes-append old between new so_far.written (take prefix.0 out) so_far.taken prefix.2),
  );
}

pub answered_whole : (stats : Bool) (old between new : Option (List ℕ)) (blocks : List Block) (i : ℕ) (grammar : Grammar) (bench : BenchMeaning) (out : List ℕ)
    → length blocks ≤ i
    → IsAnswered stats old between (take i blocks) grammar bench.graph out → IsBenchBehind (take i blocks) bench → Takes between new out
    → AnswersAll stats old new blocks bench
answered_whole stats old between new blocks i grammar bench out all so_far behind takes = record {
  output = so_far.written ++ out;
  over = record {
    behind = subst (λ bs. IsBenchBehind bs bench) (take_all i blocks all) behind;
    answers = subst (λ bs. AreAnswers stats full_sizes empty_grammar bs [] bench.graph (so_far.written ++ out)) (take_all i blocks all) so_far.answers;
  };
  taken = Takes-append old between new so_far.written out so_far.taken takes;
}

pub on_err : {T E : Type 0} {P : Type 0} (r : Result T E) → P → OnErr r P
on_err (Ok x) p = tt
on_err (Err e) p = p

-- ---- the block at a place

pub answerable_at : (blocks : List Block) (i : ℕ) (block : Block) → i < length blocks → block ≡ slice_index_or blocks i block
    → AllByRecursion IsProperBlock blocks → IsProperBlock block
answerable_at blocks i block less is all = subst IsProperBlock (sym is) (All-from_recursion IsProperBlock blocks all i block less)

pub front_more : (blocks : List Block) (i : ℕ) (block : Block) → i < length blocks → block ≡ slice_index_or blocks i block
    → take (i + 1) blocks ≡ take i blocks ++ block ∷ []
front_more blocks i block less is = take_more blocks i block less ∙ ap (λ x. take i blocks ++ x ∷ []) (sym is)
