-- The pins that commands take.
use Rattle.std.specs.Prelude.{ℕ}
use Rattle.script_text.specs.declared.command.Command.{Command}
use Rattle.script_text.specs.declared.command.Command.TheVariants.{Edit, Parse, Tokens, Stats}

-- how many pins a command takes: one for each text
abbrev pub pins_for : Command → ℕ
pins_for (Edit edit) = 0
pins_for (Parse text) = 1
pins_for (Tokens text) = 1
pins_for Stats = 0
