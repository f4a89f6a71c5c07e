-- How a run may end.
use Rattle.std.specs.Prelude.{◌≤◌, ◌<◌, ℕ, List, length}
use Rattle.bench_io.specs.Faults.{HasRisen}
use Rattle.script_text.specs.declared.command.Script.{Script}
use Rattle.script_text.specs.declared.bad_script.BadScript.{BadScript as ABadScript}
use Rattle.script_text.specs.declared.limits.TheConstants.{SCRIPT_LIMIT}
use Rattle.script_text.specs.Scripts.{SpellsScript, IsFirstBad}
use Rattle.workbench.specs.declared.top_call.Status.{Status}
use Rattle.workbench.specs.declared.top_call.Status.TheVariants.{Done, BadWords, ReadFault, WriteFault, NoMemory, BadScript, ScriptTooLong}

-- the program's exit status
abbrev pub exit_number : Status → ℕ
exit_number Done = 0
exit_number BadWords = 2
exit_number ReadFault = 3
exit_number WriteFault = 4
exit_number NoMemory = 5
exit_number BadScript = 6
exit_number ScriptTooLong = 7

-- a run that ends so writes nothing
abbrev pub IsSilent : Status → Type 0
IsSilent Done = ⊥
IsSilent BadWords = Unit {0}
IsSilent ReadFault = Unit {0}
IsSilent WriteFault = ⊥
IsSilent NoMemory = ⊥
IsSilent BadScript = ⊥
IsSilent ScriptTooLong = Unit {0}

-- a run that ends so may have written a part of its output
abbrev pub StopsBeforeEnd : Status → Type 0
StopsBeforeEnd Done = ⊥
StopsBeforeEnd BadWords = ⊥
StopsBeforeEnd ReadFault = ⊥
StopsBeforeEnd WriteFault = Unit {0}
StopsBeforeEnd NoMemory = Unit {0}
StopsBeforeEnd BadScript = ⊥
StopsBeforeEnd ScriptTooLong = ⊥

-- a run whose script was read whole ends so
abbrev pub IsLate : Status → Type 0
IsLate Done = Unit {0}
IsLate BadWords = ⊥
IsLate ReadFault = ⊥
IsLate WriteFault = Unit {0}
IsLate NoMemory = Unit {0}
IsLate BadScript = Unit {0}
IsLate ScriptTooLong = ⊥

-- no fault was counted
abbrev pub IsFree : ℕ → ℕ → Type 0
IsFree before now = HasRisen before now → ⊥

-- how a run over this script ends that no fault stops, unless memory runs out: by its length, and by whether it has a bad line
pub data EndsBy (script : List ℕ) : Status → Type 0 where
  without_memory : EndsBy script NoMemory
  too_long : SCRIPT_LIMIT < length script → EndsBy script ScriptTooLong
  bad : (line : ABadScript) → length script ≤ SCRIPT_LIMIT → IsFirstBad script line → EndsBy script BadScript
  good : (read : Script) → length script ≤ SCRIPT_LIMIT → SpellsScript script read → EndsBy script Done
