-- The graphs of one bench while commands are answered over it, one after the other.
use Rattle.std.specs.Prelude.{ℕ, List, [], ◌∷◌}
use Rattle.edit_log.specs.History.{Grammar}
use Rattle.script_text.specs.declared.command.Command.{Command}
use Rattle.script_text.specs.declared.command.Block.{Block}
use Rattle.script_text.specs.declared.command.Block.TheVariants.{Alone}
use Rattle.pin_rule.specs.declared.sizes.Sizes.{Sizes}
use Rattle.live_graph.specs.declared.tally.Tallies.{Tallies}
use Rattle.replies.specs.declared.reply.Reply.{Reply}
use Rattle.replies.specs.Replies.{IsReply, grammar_after}
use Rattle.sections.specs.Laziness.{SharesRows}

-- the graph after a command that was answered, by what it asked the graph before it for
pub record SharesFor (z : Sizes) (grammar : Grammar) (command : Command) (first last : List (List ℕ)) : Type 0 where
  pub reply : Reply
  pub is : IsReply grammar command reply
  pub tallies : Tallies
  pub before : ℕ
  pub after : ℕ
  pub shares : SharesRows z grammar command reply tallies before after first last

-- each block's command finds the graph that those before it left, from the first graph to the last
pub data AreShared (z : Sizes) : Grammar → List Block → List (List ℕ) → List (List ℕ) → Type 0 where
  none_shared : {grammar : Grammar} {rows : List (List ℕ)} → AreShared z grammar [] rows rows
  more_shared : {grammar : Grammar} {command : Command} {blocks : List Block} {first next last : List (List ℕ)} →
      SharesFor z grammar command first next → AreShared z (grammar_after grammar command) blocks next last
      → AreShared z grammar (Alone command ∷ blocks) first last
