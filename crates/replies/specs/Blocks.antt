-- Commands that may be asked for, and the grammars behind the blocks of a script.
use Rattle.std.specs.Prelude.{◌≤◌, List, [], ◌∷◌, length}
use Rattle.edit_log.specs.History.{Grammar}
use Rattle.edit_log.specs.Verdict.{IsProper}
use Rattle.script_text.specs.declared.command.Command.{Command}
use Rattle.script_text.specs.declared.command.Command.TheVariants.{Edit, Parse, Tokens, Stats}
use Rattle.script_text.specs.declared.command.Block.{Block}
use Rattle.script_text.specs.declared.command.Block.TheVariants.{Alone, Par}
use Rattle.script_text.specs.declared.limits.TheConstants.{TEXT_LIMIT}
use Rattle.replies.specs.Replies.{grammar_after}

-- an edit that may be asked for, or a text that is not too long; what is held may always be asked for
abbrev pub IsProperCommand : Command → Type 0
IsProperCommand (Edit edit) = IsProper edit
IsProperCommand (Parse text) = length text ≤ TEXT_LIMIT
IsProperCommand (Tokens text) = length text ≤ TEXT_LIMIT
IsProperCommand Stats = Unit {0}

abbrev pub IsProperBlock : Block → Type 0
IsProperBlock (Alone command) = IsProperCommand command
IsProperBlock (Par commands) = ⊥

-- the grammar after a block
abbrev pub grammar_behind : Grammar → Block → Grammar
grammar_behind grammar (Alone command) = grammar_after grammar command
grammar_behind grammar (Par commands) = grammar

-- the grammar after all the blocks, one after the other
abbrev pub grammar_after_all : Grammar → List Block → Grammar
grammar_after_all grammar [] = grammar
grammar_after_all grammar (block ∷ blocks) = grammar_after_all (grammar_behind grammar block) blocks
