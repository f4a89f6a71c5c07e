-- What the workbench writes for a script.
use Rattle.std.specs.Prelude.{◌<◌, ◌≤◌, ℕ, Bool, List, [], length}
use Rattle.std.specs.List.{AllByRecursion}
use Rattle.edit_log.specs.History.{empty_grammar}
use Rattle.pin_rule.specs.Layout.{full_sizes}
use Rattle.script_text.specs.declared.command.Command.TheVariants.{Edit, Parse, Tokens, Stats}
use Rattle.script_text.specs.declared.command.Block.{Block}
use Rattle.script_text.specs.declared.command.Block.TheVariants.{Alone, Par}
use Rattle.script_text.specs.declared.command.Script.{Script}
use Rattle.script_text.specs.declared.bad_script.BadScript.{BadScript}
use Rattle.script_text.specs.declared.limits.TheConstants.{SCRIPT_LIMIT}
use Rattle.script_text.specs.Scripts.{SpellsScript, IsFirstBad}
use Rattle.replies.specs.Lines.{bad_line}
use Rattle.workbench.specs.Benches.{AreAnswers}

-- The output of a script that is not too long: the lines of its commands, which run over one new bench of the largest sizes, or the line for its first bad
-- line. With `stats` each command tells how lazy it was.
pub data IsOutput (stats : Bool) (script : List ℕ) : List ℕ → Type 0 where
  replies : {output : List ℕ} {last : List (List ℕ)} (read : Script) → length script ≤ SCRIPT_LIMIT → SpellsScript script read
      → AreAnswers stats full_sizes empty_grammar read.blocks [] last output → IsOutput stats script output
  refusal : (bad : BadScript) → length script ≤ SCRIPT_LIMIT → IsFirstBad script bad → IsOutput stats script (bad_line bad)

-- the script is too long or has a bad line
pub data IsBadScript (script : List ℕ) : Type 0 where
  too_long : SCRIPT_LIMIT < length script → IsBadScript script
  bad : (line : BadScript) → IsFirstBad script line → IsBadScript script

-- the block does not ask what is held
abbrev pub IsWithoutStats : Block → Type 0
IsWithoutStats (Alone (Edit edit)) = Unit {0}
IsWithoutStats (Alone (Parse text)) = Unit {0}
IsWithoutStats (Alone (Tokens text)) = Unit {0}
IsWithoutStats (Alone Stats) = ⊥
IsWithoutStats (Par commands) = Unit {0}

-- no command of the script asks what is held, so the grammars alone decide its output
abbrev pub HasNoStats : List ℕ → Type 0
HasNoStats script = (read : Script) → SpellsScript script read → AllByRecursion IsWithoutStats read.blocks
