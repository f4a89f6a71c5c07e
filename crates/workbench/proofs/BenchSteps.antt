-- What the blocks make of a bench, one after the other.
use Rattle.std.proofs.Common.{◌≡◌, ℕ, ◌+◌, ◌≤◌, ◌<◌, Bool, List, [], ◌∷◌, ◌++◌, length, take, Option, Some, None, refl, ap, sym, ◌∙◌, subst, arith}
use Rattle.std.proofs.Common.{append_assoc, append-nil, length-take}
use Rattle.bench_io.specs.Known.{Takes}
use Rattle.edit_log.specs.declared.limits.TheConstants.{LOG_LIMIT}
use Rattle.edit_log.specs.History.{Grammar, empty_grammar}
use Rattle.script_text.specs.declared.command.Command.{Command}
use Rattle.script_text.specs.declared.command.Command.TheVariants.{Edit, Parse, Tokens, Stats}
use Rattle.script_text.specs.declared.command.Block.{Block}
use Rattle.script_text.specs.declared.command.Block.TheVariants.{Alone, Par}
use Rattle.script_text.specs.declared.limits.TheConstants.{COMMAND_LIMIT}
use Rattle.pin_rule.specs.declared.limits.TheConstants.{MOST_PINS}
use Rattle.pin_rule.specs.declared.content.Entry.{Entry}
use Rattle.pin_rule.specs.declared.view.Step.{Step}
use Rattle.pin_rule.specs.declared.sizes.Sizes.{Sizes}
use Rattle.pin_rule.specs.Layout.{full_sizes}
use Rattle.version_store.specs.declared.bench.Bench.{Bench}
use Rattle.version_store.specs.Meaning.{BenchMeaning, IsNewBench}
use Rattle.version_store.specs.Means.{bench_of}
use Rattle.graph_content.specs.Contents.{IsLogOfGrammar}
use Rattle.replies.specs.Replies.{grammar_after}
use Rattle.replies.specs.Blocks.{grammar_behind, grammar_after_all}
use Rattle.sections.specs.Commands.{pins_for}
use Rattle.sections.specs.Recording.{RecordsCommand}
use Rattle.workbench.specs.Benches.{AnswersCommand, AnswersBlock, pins_for_all, IsBenchBehind}
use Rattle.workbench.specs.Recorded.{RecordsFor, AreRecorded, none_recorded, more_recorded}
use Rattle.workbench.specs.Pieces.{TakesPrefix}
use Rattle.workbench.specs.Runs.{AnswersAll, WritesAll, StopsInReplies}
use Rattle.workbench.specs.Serving.{HasBench, bench_in}
use Rattle.workbench.proofs.RunSteps.{grammar_after_all-push, IsAnswered, answered_none, answered_more, answered_flushed, answered_stop, answered_refused}
use Rattle.workbench.proofs.RunSteps.{answered_whole}

-- ---- before the first block

pub log_none : IsLogOfGrammar [] empty_grammar
log_none = record { history = []; is = record { is_history = tt; entries = refl }; made = refl }

pub bench_none : (bench : BenchMeaning) → IsNewBench full_sizes bench → IsBenchBehind [] bench
bench_none bench is =
    let pins : bench.pins_left ≡ MOST_PINS = is.pins_left in
    record {
      log = subst (λ (log : List Entry). IsLogOfGrammar log empty_grammar) (sym is.log) log_none;
      sizes = is.sizes;
      pins = omega (arith, pins);
      records = subst (AreRecorded full_sizes empty_grammar []) (sym is.steps) none_recorded;
    }

-- ---- a block more

pins_push : (blocks : List Block) (command : Command) → pins_for_all (blocks ++ Alone command ∷ []) ≡ pins_for_all blocks + pins_for command
pins_push [] command = omega arith
pins_push (Alone one ∷ blocks) command = omega (arith, pins_push blocks command)
pins_push (Par commands ∷ blocks) command = pins_push blocks command

recorded_push : (z : Sizes) (grammar : Grammar) (blocks : List Block) (command : Command) (steps added : List Step) → AreRecorded z grammar blocks steps
    → RecordsFor z (grammar_after_all grammar blocks) command added → AreRecorded z grammar (blocks ++ Alone command ∷ []) (steps ++ added)
recorded_push z grammar [] command _ added none_recorded last =
    subst (AreRecorded z grammar (Alone command ∷ [])) (append-nil added) (more_recorded last none_recorded)
recorded_push z grammar (Par commands ∷ blocks) command steps added records last = elim records [ ]
recorded_push z grammar (Alone one ∷ blocks) command _ added (more_recorded {added = its} {steps = rest} by others) last =
    subst (AreRecorded z grammar (Alone one ∷ (blocks ++ Alone command ∷ []))) (sym (append_assoc its rest added))
    (more_recorded by (recorded_push z (grammar_after grammar one) blocks command rest added others last))

records_more : (stats : Bool) (blocks : List Block) (command : Command) (grammar : Grammar) (old new : BenchMeaning) (out appended : List ℕ)
    → IsBenchBehind blocks old → grammar ≡ grammar_after_all empty_grammar blocks → AnswersCommand stats grammar command old new out appended
    → AreRecorded full_sizes empty_grammar (blocks ++ Alone command ∷ []) new.steps
records_more stats blocks command grammar old new out appended behind same answers =
    let (added, is, records) = answers.records in
    let sized : RecordsCommand full_sizes old.log grammar command answers.reply added =
    subst (λ (z : Sizes). RecordsCommand z old.log grammar command answers.reply added) behind.sizes records in
    let last : RecordsFor full_sizes grammar command added =
    record { reply = answers.reply; is = answers.is; log = old.log; log_is = subst (IsLogOfGrammar old.log) (sym same) behind.log; records = sized } in
    subst (AreRecorded full_sizes empty_grammar (blocks ++ Alone command ∷ [])) (sym is)
    (recorded_push full_sizes empty_grammar blocks command old.steps added behind.records
    (subst (λ (g : Grammar). RecordsFor full_sizes g command added) same last))

pub bench_more : (stats : Bool) (blocks : List Block) (block : Block) (grammar : Grammar) (old new : BenchMeaning) (out appended : List ℕ)
    → IsBenchBehind blocks old
    → grammar ≡ grammar_after_all empty_grammar blocks → AnswersBlock stats grammar block old new out appended → IsBenchBehind (blocks ++ block ∷ []) new
bench_more stats blocks (Par commands) grammar old new out appended behind same answers = absurd answers
bench_more stats blocks (Alone command) grammar old new out appended behind same answers =
    let log : IsLogOfGrammar new.log (grammar_after (grammar_after_all empty_grammar blocks) command) =
    subst (λ g. IsLogOfGrammar new.log (grammar_after g command)) same answers.log in
    let before = behind.pins in
    let taken = answers.pins in
    let pushed = pins_push blocks command in
    record {
      log = subst (IsLogOfGrammar new.log) (sym (grammar_after_all-push empty_grammar blocks (Alone command))) log;
      sizes = answers.sizes ∙ behind.sizes;
      pins = omega (arith, before, taken, pushed);
      records = records_more stats blocks command grammar old new out appended behind same answers;
    }

-- ---- what the bench has for the next block

pins_one : (command : Command) → pins_for command ≤ 1
pins_one (Edit edit) = omega arith
pins_one (Parse text) = omega arith
pins_one (Tokens text) = omega arith
pins_one Stats = omega arith

pins_few : (blocks : List Block) → pins_for_all blocks ≤ length blocks
pins_few [] = omega arith
pins_few (Alone command ∷ blocks) = omega (arith, pins_one command, pins_few blocks)
pins_few (Par commands ∷ blocks) = omega (arith, pins_few blocks)

pub pins_there : (blocks : List Block) (i : ℕ) (bench : BenchMeaning) → i < length blocks → length blocks ≤ COMMAND_LIMIT
    → IsBenchBehind (take i blocks) bench → 0 < bench.pins_left
pins_there blocks i bench less few behind =
    let pins = behind.pins in
    let taken = pins_few (take i blocks) in
    let long = length-take i blocks in
    omega (arith, pins, taken, long, less, few)

pub log_is_full : (blocks : List Block) (bench : BenchMeaning) → IsBenchBehind blocks bench → bench.sizes.log ≡ LOG_LIMIT
log_is_full blocks bench behind =
    let same : bench.sizes.log ≡ full_sizes.log = ap (λ (z : Sizes). z.log) behind.sizes in
    omega (arith, same)

pub log_for : (blocks : List Block) (bench : BenchMeaning) (grammar : Grammar) → IsBenchBehind blocks bench → grammar ≡ grammar_after_all empty_grammar blocks
    → IsLogOfGrammar bench.log grammar
log_for blocks bench grammar behind same = subst (IsLogOfGrammar bench.log) (sym same) behind.log

-- a command finds a pin, where there is one
pub not_spent : (command : Command) (left : ℕ) → 0 < left → left < pins_for command → ⊥
not_spent command left some less = omega (arith, pins_one command, some, less)

-- ---- what serves the blocks

-- the blocks are answered, and the bench is the one behind them
pub record IsServed (stats : Bool) (old new : Option (List ℕ)) (first : List Block) (grammar : Grammar) (out : List ℕ) (bench : BenchMeaning) : Type 0 where
  pub answered : IsAnswered stats old new first grammar bench.graph out
  pub behind : IsBenchBehind first bench

-- what follows for a bench follows for the one that is there
has : (P Q : BenchMeaning → Type 0) (bench : Option BenchMeaning) → ((b : BenchMeaning) → P b → Q b) → HasBench bench P → HasBench bench Q
has P Q None each there = there
has P Q (Some b) each there = each b there

-- what follows for any bench follows where there is one
from_bench : (P : BenchMeaning → Type 0) {Q : Type 0} (bench : Option BenchMeaning) → ((b : BenchMeaning) → P b → Q) → HasBench bench P → Q
from_bench P None each there = absurd there
from_bench P (Some b) each there = each b there

pub served_none : (stats : Bool) (taken : Option (List ℕ)) (grammar : Grammar) (bench : Option BenchMeaning) → grammar ≡ empty_grammar
    → HasBench bench (IsNewBench full_sizes)
    → HasBench bench (IsServed stats taken taken [] grammar [])
served_none stats taken grammar bench same = has (IsNewBench full_sizes) (IsServed stats taken taken [] grammar []) bench
    (λ b is. record { answered = answered_none stats taken grammar b.graph same is.graph; behind = bench_none b is })

pub served_more : (stats : Bool) (old new : Option (List ℕ)) (first : List Block) (block : Block) (grammar next : Grammar) (before after : Option BenchMeaning)
    (out appended : List ℕ) → HasBench before (IsServed stats old new first grammar out)
    → HasBench before (λ b. HasBench after (λ a. AnswersBlock stats grammar block b a out appended)) → next ≡ grammar_behind grammar block
    → HasBench after (IsServed stats old new (first ++ block ∷ []) next appended)
served_more stats old new first block grammar next None after out appended served answers is = absurd served
served_more stats old new first block grammar next (Some b) None out appended served answers is = absurd answers
served_more stats old new first block grammar next (Some b) (Some a) out appended served answers is = record {
  answered = answered_more stats old new first block grammar next b a out appended served.answered served.behind.sizes answers is;
  behind = bench_more stats first block grammar b a out appended served.behind served.answered.same answers;
}

pub served_flushed : (stats : Bool) (old between new : Option (List ℕ)) (first : List Block) (grammar : Grammar) (bench : Option BenchMeaning)
    (out gone left : List ℕ)
    → HasBench bench (IsServed stats old between first grammar out) → Takes between new gone → out ≡ gone ++ left
    → HasBench bench (IsServed stats old new first grammar left)
served_flushed stats old between new first grammar bench out gone left served takes parts =
    has (IsServed stats old between first grammar out) (IsServed stats old new first grammar left) bench
    (λ b so_far. record {
      answered = answered_flushed stats old between new first grammar b.graph out gone left so_far.answered takes parts;
      behind = so_far.behind;
    }) served

pub served_stop : (stats : Bool) (old new : Option (List ℕ)) (blocks : List Block) (i : ℕ) (grammar : Grammar) (bench : Option BenchMeaning) (out : List ℕ)
    → HasBench bench (IsServed stats old new (take i blocks) grammar out) → StopsInReplies stats old new blocks
served_stop stats old new blocks i grammar bench out =
    from_bench (IsServed stats old new (take i blocks) grammar out) bench (λ b so_far. answered_stop stats old new blocks i grammar b.graph out so_far.answered)

pub served_refused : (stats : Bool) (old between new : Option (List ℕ)) (blocks first others : List Block) (grammar : Grammar) (bench : Option BenchMeaning)
    (out : List ℕ)
    → blocks ≡ first ++ others → HasBench bench (IsServed stats old between first grammar out) → TakesPrefix between new out
    → StopsInReplies stats old new blocks
served_refused stats old between new blocks first others grammar bench out parts served prefix =
    from_bench (IsServed stats old between first grammar out) bench
    (λ b so_far. answered_refused stats old between new blocks first others grammar b.graph out parts so_far.answered prefix) served

pub served_whole : (stats : Bool) (old between new : Option (List ℕ)) (blocks : List Block) (i : ℕ) (grammar : Grammar) (bench : Option BenchMeaning)
    (out : List ℕ)
    → length blocks ≤ i → HasBench bench (IsServed stats old between (take i blocks) grammar out) → Takes between new out
    → HasBench bench (AnswersAll stats old new blocks)
served_whole stats old between new blocks i grammar bench out all served takes =
    has (IsServed stats old between (take i blocks) grammar out) (AnswersAll stats old new blocks) bench
    (λ b so_far. answered_whole stats old between new blocks i grammar b out all so_far.answered so_far.behind takes) served

-- all blocks were answered over the bench that is handed back
pub written_all : (stats : Bool) {C : Type 0} (old new : Option (List ℕ)) (blocks : List Block) (bench : Option (Bench C)) (meant : Option BenchMeaning)
    → bench_in bench ≡ meant → HasBench meant (AnswersAll stats old new blocks) → WritesAll stats old new blocks bench
written_all stats old new blocks None meant is all = absurd (subst (λ m. HasBench m (AnswersAll stats old new blocks)) (sym is) all)
written_all stats old new blocks (Some bench) meant is all =
    let whole : AnswersAll stats old new blocks (bench_of bench) = subst (λ m. HasBench m (AnswersAll stats old new blocks)) (sym is) all in
    record { output = whole.output; over = whole.over; taken = whole.taken }

-- ---- what the next block asks for

module _ (stats : Bool) (old new : Option (List ℕ)) (blocks : List Block) (i : ℕ) (grammar : Grammar) (bench : Option BenchMeaning) (out : List ℕ)
    (served : HasBench bench (IsServed stats old new (take i blocks) grammar out)) where
  pub served_log : HasBench bench (λ b. IsLogOfGrammar b.log grammar)
  served_log = has (IsServed stats old new (take i blocks) grammar out) (λ b. IsLogOfGrammar b.log grammar) bench
      (λ b so_far. log_for (take i blocks) b grammar so_far.behind so_far.answered.same) served

  pub served_full : HasBench bench (λ b. b.sizes.log ≡ LOG_LIMIT)
  served_full = has (IsServed stats old new (take i blocks) grammar out) (λ b. b.sizes.log ≡ LOG_LIMIT) bench
      (λ b so_far. log_is_full (take i blocks) b so_far.behind) served

  pub served_pins : i < length blocks → length blocks ≤ COMMAND_LIMIT → HasBench bench (λ b. 0 < b.pins_left)
  served_pins less few = has (IsServed stats old new (take i blocks) grammar out) (λ b. 0 < b.pins_left) bench
      (λ b so_far. pins_there blocks i b less few so_far.behind) served
