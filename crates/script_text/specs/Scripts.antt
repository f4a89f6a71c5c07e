-- The script that a text spells, and its first bad line.
use Rattle.std.specs.Prelude.{◌≡◌, ◌+◌, ◌<◌, ◌≤◌, ℕ, List, [], ◌∷◌, ◌++◌, length, sum_by}
use Rattle.script_text.specs.declared.command.Command.{Command}
use Rattle.script_text.specs.declared.command.Block.{Block}
use Rattle.script_text.specs.declared.command.Block.TheVariants.{Alone, Par}
use Rattle.script_text.specs.declared.command.Script.{Script}
use Rattle.script_text.specs.declared.bad_script.BadKind.{BadKind}
use Rattle.script_text.specs.declared.bad_script.BadKind.TheVariants.{UnknownCommand, TooManyCommands}
use Rattle.script_text.specs.declared.bad_script.BadScript.{BadScript}
use Rattle.script_text.specs.declared.bad_script.ScriptError.{ScriptError}
use Rattle.script_text.specs.declared.bad_script.ScriptError.TheVariants.{Bad, NoMemory}
use Rattle.script_text.specs.declared.limits.TheConstants.{COMMAND_LIMIT}
use Rattle.script_text.specs.Lines.{lines_of}
use Rattle.script_text.specs.Forms.{Sort, PassedOver, OtherWord, Asks, form_of}
use Rattle.script_text.specs.Commands.{SpellsAs, IsWrongAs}

-- what has been read of a script
pub record Read : Type 0 where
  pub blocks : List Block

-- nothing has been read
abbrev pub nothing : Read
nothing = record { blocks = [] }

-- one command more
abbrev pub with_command : Read → Command → Read
with_command read command = record { blocks = read.blocks ++ Alone command ∷ [] }

abbrev pub size_of : Block → ℕ
size_of (Alone command) = 1
size_of (Par commands) = length commands

-- how many commands have been read
abbrev pub count_of : Read → ℕ
count_of read = sum_by size_of read.blocks

-- ---- good lines

-- the line leads from what has been read before it to this: it is passed over, or it is one command more
pub data ReadsLine : Read → List ℕ → Read → Type 0 where
  passes : {read : Read} {line : List ℕ} → form_of line ≡ PassedOver → ReadsLine read line read
  adds : {read : Read} {line : List ℕ} (sort : Sort) (command : Command) →
      form_of line ≡ Asks sort → count_of read < COMMAND_LIMIT → SpellsAs sort line command → ReadsLine read line (with_command read command)

-- the lines lead, one after the other, from what has been read before them to this
pub data TakesAll : Read → List (List ℕ) → Read → Type 0 where
  none : {read : Read} → TakesAll read [] read
  more : {old new last : Read} {line : List ℕ} {lines : List (List ℕ)} → ReadsLine old line new → TakesAll new lines last → TakesAll old (line ∷ lines) last

-- the bytes are the script
abbrev pub SpellsScript : List ℕ → Script → Type 0
SpellsScript bytes script = TakesAll nothing (lines_of bytes) (record { blocks = script.blocks })

-- ---- bad lines

-- what is wrong with the line, where this has been read before it: its word, else its place, else the command itself
pub data IsBad : Read → List ℕ → BadKind → Type 0 where
  unknown : {read : Read} {line : List ℕ} → form_of line ≡ OtherWord → IsBad read line UnknownCommand
  too_many : {read : Read} {line : List ℕ} (sort : Sort) → form_of line ≡ Asks sort → COMMAND_LIMIT ≤ count_of read → IsBad read line TooManyCommands
  wrong : {read : Read} {line : List ℕ} {kind : BadKind} (sort : Sort) →
      form_of line ≡ Asks sort → count_of read < COMMAND_LIMIT → IsWrongAs sort line kind → IsBad read line kind

-- the lines before this one are good, and it is bad; lines are numbered from 1
pub data IsFirstBad : List ℕ → BadScript → Type 0 where
  at_line : {bytes : List ℕ} {kind : BadKind} (before after : List (List ℕ)) (line : List ℕ) (read : Read) →
      lines_of bytes ≡ before ++ line ∷ after → TakesAll nothing before read → IsBad read line kind
      → IsFirstBad bytes (record { line = length before + 1; kind = kind })

-- why a script was not read: this is its first bad line, or memory ran out
abbrev pub IsScriptError : List ℕ → ScriptError → Type 0
IsScriptError bytes (Bad bad) = IsFirstBad bytes bad
IsScriptError bytes NoMemory = Unit {0}
