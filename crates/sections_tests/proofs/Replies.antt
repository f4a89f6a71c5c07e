-- The reply to a command names only symbols of the grammar behind it.
use Rattle.std.proofs.Common.{◌≡◌, Result, Ok, Err, IfOk, sym, subst}
use Rattle.std.specs.Prelude.{OnOk}
use Rattle.edit_log.specs.Facts.{IsWellFormed}
use Rattle.edit_log.specs.History.{Grammar}
use Rattle.script_text.specs.declared.command.Command.{Command}
use Rattle.replies.specs.Known.{IsKnownReply}
use Rattle.replies.specs.Replies.{IsReply, grammar_after}
use Rattle.replies.proofs.KnownReplies.{known_reply, known_after}
use Rattle.sections.specs.declared.alone.Alone.{Alone}

pub known_for : {E : Type 0} (old new : Grammar) (command : Command) (result : Result Alone E) → IsWellFormed old
    → IfOk result (λ alone. IsReply old command alone.reply) → OnOk result (new ≡ grammar_after old command)
    → IfOk result (λ alone. IsKnownReply new.symbols alone.reply)
known_for old new command (Err e) formed replied next = tt
known_for old new command (Ok alone) formed replied next =
    subst (λ (grammar : Grammar). IsKnownReply grammar.symbols alone.reply) (sym next)
    (known_after old command alone.reply replied (known_reply old command alone.reply formed replied))
