-- The steps of the bench over which commands are answered, one command's behind the other's.
use Rattle.std.specs.Prelude.{List, [], ◌∷◌, ◌++◌}
use Rattle.edit_log.specs.History.{Grammar}
use Rattle.script_text.specs.declared.command.Command.{Command}
use Rattle.script_text.specs.declared.command.Block.{Block}
use Rattle.script_text.specs.declared.command.Block.TheVariants.{Alone}
use Rattle.pin_rule.specs.declared.content.Entry.{Entry}
use Rattle.pin_rule.specs.declared.sizes.Sizes.{Sizes}
use Rattle.pin_rule.specs.declared.view.Step.{Step}
use Rattle.graph_content.specs.Contents.{IsLogOfGrammar}
use Rattle.replies.specs.declared.reply.Reply.{Reply}
use Rattle.replies.specs.Replies.{IsReply, grammar_after}
use Rattle.sections.specs.Recording.{RecordsCommand}

-- the steps of a command that was answered under the grammar, on a table of these sizes with the grammar's log
pub record RecordsFor (z : Sizes) (grammar : Grammar) (command : Command) (added : List Step) : Type 0 where
  pub reply : Reply
  pub is : IsReply grammar command reply
  pub log : List Entry
  pub log_is : IsLogOfGrammar log grammar
  pub records : RecordsCommand z log grammar command reply added

-- these are the steps of the blocks, each command's behind those of the one before it
pub data AreRecorded (z : Sizes) : Grammar → List Block → List Step → Type 0 where
  none_recorded : {grammar : Grammar} → AreRecorded z grammar [] []
  more_recorded : {grammar : Grammar} {command : Command} {blocks : List Block} {added steps : List Step} →
      RecordsFor z grammar command added → AreRecorded z (grammar_after grammar command) blocks steps
      → AreRecorded z grammar (Alone command ∷ blocks) (added ++ steps)
