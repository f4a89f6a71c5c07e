-- How commands are answered over one bench, one after the other, and what they make of it.
use Rattle.std.specs.Prelude.{◌≡◌, ◌+◌, ℕ, Bool, true, false, List, [], ◌∷◌, ◌++◌, Option, Some, None}
use Rattle.edit_log.specs.History.{Grammar, empty_grammar}
use Rattle.script_text.specs.declared.command.Command.{Command}
use Rattle.script_text.specs.declared.command.Block.{Block}
use Rattle.script_text.specs.declared.command.Block.TheVariants.{Alone, Par}
use Rattle.pin_rule.specs.declared.limits.TheConstants.{MOST_PINS}
use Rattle.pin_rule.specs.declared.sizes.Sizes.{Sizes}
use Rattle.pin_rule.specs.Layout.{full_sizes}
use Rattle.version_store.specs.declared.bench.Bench.{Bench}
use Rattle.version_store.specs.Meaning.{BenchMeaning}
use Rattle.version_store.specs.Means.{bench_of}
use Rattle.row_coding.specs.Rows.{Key}
use Rattle.graph_content.specs.Contents.{IsLogOfGrammar}
use Rattle.live_graph.specs.declared.tally.Tallies.{Tallies}
use Rattle.replies.specs.declared.reply.Reply.{Reply}
use Rattle.replies.specs.Lines.{reply_text}
use Rattle.replies.specs.TallyLines.{laziness_text}
use Rattle.replies.specs.Replies.{IsReply, grammar_after}
use Rattle.replies.specs.Blocks.{grammar_after_all}
use Rattle.sections.specs.Commands.{pins_for}
use Rattle.sections.specs.Laziness.{SharesRows, DropsRows}
use Rattle.sections.specs.Recording.{AddsSteps, RecordsCommand}
use Rattle.workbench.specs.Recorded.{AreRecorded}

-- ---- one command

-- the graph after a command that was answered so, by what it asked the graph before it for, and how many rows it dropped
pub record LeavesGraph (z : Sizes) (grammar : Grammar) (command : Command) (reply : Reply) (first last : List (List ℕ)) : Type 0 where
  pub tallies : Tallies
  pub before : ℕ
  pub after : ℕ
  pub shares : SharesRows z grammar command reply tallies before after first last
  pub dropped : ℕ × ℕ
  pub drops : DropsRows grammar command first dropped

-- the lines that tell how lazy a command was, where they are asked for
abbrev pub shown_laziness : Bool → Reply → Tallies → ℕ × ℕ → List ℕ
shown_laziness false reply tallies dropped = []
shown_laziness true reply tallies dropped = laziness_text reply tallies dropped

-- all lines of a command: those of its reply, and those that tell how lazy it was
abbrev pub lines_for : Bool → Grammar → Reply → Tallies → ℕ × ℕ → List ℕ
lines_for stats grammar reply tallies dropped = reply_text grammar.symbols reply ++ shown_laziness stats reply tallies dropped

-- The command was answered under the grammar that those before it made: its lines were appended, and the bench serves the next one. Its log is that of the next
-- grammar, it lacks the pins that the command took, and the command's steps were added.
pub record AnswersCommand (stats : Bool) (grammar : Grammar) (command : Command) (old new : BenchMeaning) (out_old out_new : List ℕ) : Type 0 where
  pub reply : Reply
  pub is : IsReply grammar command reply
  pub log : IsLogOfGrammar new.log (grammar_after grammar command)
  pub sizes : new.sizes ≡ old.sizes
  pub pins : new.pins_left + pins_for command ≡ old.pins_left
  pub graph : LeavesGraph old.sizes grammar command reply old.graph new.graph
  pub records : AddsSteps old new (RecordsCommand old.sizes old.log grammar command reply)
  pub appended : out_new ≡ out_old ++ lines_for stats grammar reply graph.tallies graph.dropped

abbrev pub AnswersBlock : Bool → Grammar → Block → (old new : BenchMeaning) → (out_old out_new : List ℕ) → Type 0
AnswersBlock stats grammar (Alone command) old new out_old out_new = AnswersCommand stats grammar command old new out_old out_new
AnswersBlock stats grammar (Par commands) old new out_old out_new = ⊥

-- ---- all commands

-- The lines of the commands, one after the other: each is answered under the grammar that those before it made, and over the graph that they
-- left. The graph is this at first, and that at last.
pub data AreAnswers (stats : Bool) (z : Sizes) : Grammar → List Block → (first last : List (List ℕ)) → List ℕ → Type 0 where
  none : {grammar : Grammar} {rows : List (List ℕ)} → AreAnswers stats z grammar [] rows rows []
  more : {grammar : Grammar} {command : Command} {blocks : List Block} {reply : Reply} {first next last : List (List ℕ)} {lines : List ℕ} →
      IsReply grammar command reply → (graph : LeavesGraph z grammar command reply first next)
      → AreAnswers stats z (grammar_after grammar command) blocks next last lines
      → AreAnswers stats z grammar (Alone command ∷ blocks) first last (lines_for stats grammar reply graph.tallies graph.dropped ++ lines)

-- the set of no key: what is held before the first command
abbrev pub no_key : Key → Type 0
no_key key = ⊥

-- how many pins the blocks take
abbrev pub pins_for_all : List Block → ℕ
pins_for_all [] = 0
pins_for_all (Alone command ∷ blocks) = pins_for command + pins_for_all blocks
pins_for_all (Par commands ∷ blocks) = pins_for_all blocks

-- The bench of the largest sizes that was new before the first block, and has served all of them: its log is that of the grammar behind them, it lacks a pin
-- for each text, and its steps are theirs.
pub record IsBenchBehind (blocks : List Block) (bench : BenchMeaning) : Type 0 where
  pub log : IsLogOfGrammar bench.log (grammar_after_all empty_grammar blocks)
  pub sizes : bench.sizes ≡ full_sizes
  pub pins : bench.pins_left + pins_for_all blocks ≡ MOST_PINS
  pub records : AreRecorded full_sizes empty_grammar blocks bench.steps

-- these are the lines of the blocks, which ran over this new bench
pub record AnswersOver (stats : Bool) (blocks : List Block) (bench : BenchMeaning) (lines : List ℕ) : Type 0 where
  pub behind : IsBenchBehind blocks bench
  pub answers : AreAnswers stats full_sizes empty_grammar blocks [] bench.graph lines

-- there is a bench, and these are the lines of the blocks, which ran over it
abbrev pub RanOver : {C : Type 0} → Bool → List Block → Option (Bench C) → List ℕ → Type 0
RanOver stats blocks None lines = ⊥
RanOver stats blocks (Some bench) lines = AnswersOver stats blocks (bench_of bench) lines
