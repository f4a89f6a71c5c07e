-- How a run ends.
use Rattle.std.proofs.Common.{◌≡◌, false, ◌⊎◌, inl, inr, ℕ, ◌+◌, ◌≤◌, List, ◌++◌, length, Option, Some, None, Result, Ok, Err, OnOk, OnErr, refl, ap}
use Rattle.std.proofs.Common.{sym, ◌∙◌, subst}
use Rattle.std.proofs.Common.{arith, length-append}
use Rattle.bench_io.specs.declared.fault.Fault.{Fault}
use Rattle.bench_io.specs.declared.fault.Fault.TheVariants.{Failed, NoMemory as OutOfMemory}
use Rattle.bench_io.specs.Known.{Gives, IsKnownAs}
use Rattle.script_text.specs.declared.command.Script.{Script}
use Rattle.script_text.specs.declared.bad_script.BadScript.{BadScript as ABadScript}
use Rattle.script_text.specs.declared.limits.TheConstants.{SCRIPT_LIMIT}
use Rattle.script_text.specs.Scripts.{SpellsScript, IsFirstBad}
use Rattle.script_text.proofs.ScriptLaws.{not_both}
use Rattle.workbench.specs.Pieces.{TakesPrefix, GivesCount}
use Rattle.workbench.specs.declared.top_call.Status.{Status}
use Rattle.workbench.specs.declared.top_call.Status.TheVariants.{Done, BadWords, ReadFault, WriteFault, NoMemory, BadScript, ScriptTooLong}
use Rattle.workbench.specs.Ends.{IsLate, StopsBeforeEnd, EndsBy, without_memory, too_long, bad, good}
use Rattle.workbench.specs.Output.{IsOutput, HasNoStats, IsBadScript, too_long as is_too_long, bad as is_bad}
use Rattle.workbench.specs.Runs.{StopsInOutput}
use Rattle.workbench.proofs.OneOutput.{front_of_output, nothing_taken}

-- what holds after a write that failed, where the status is not that of a whole one
pub after_failure : {T E P : Type 0} (written : Result T E) (whole status other : Status) → OnOk written (status ≡ whole) → OnErr written P → status ≡ other
    → (whole ≡ other → ⊥) → P
after_failure (Ok x) whole status other ok err is apart = absurd (apart (sym ok ∙ is))
after_failure (Err e) whole status other ok err is apart = err

-- a write fault is told of a failed write
pub failed_by : (fault : Fault) (status : Status) → (fault ≡ OutOfMemory → status ≡ NoMemory) → status ≡ WriteFault → fault ≡ Failed
failed_by Failed status no_memory is = refl
failed_by OutOfMemory status no_memory is = let never : NoMemory ≡ WriteFault = sym (no_memory refl) ∙ is in cc never

pub not_bad : (script : List ℕ) (read : Script) → length script ≤ SCRIPT_LIMIT → SpellsScript script read → IsBadScript script → ⊥
not_bad script read short spelled (is_too_long less) = absurd (omega (arith, short, less))
not_bad script read short spelled (is_bad line first) = not_both script read line spelled first

pub front_at_end : (end : Status) (script : List ℕ) (old new : Option (List ℕ)) → (end ≡ WriteFault → StopsInOutput false old new script)
    → (end ≡ NoMemory → (new ≡ old) ⊎ StopsInOutput false old new script)
    → StopsBeforeEnd end → HasNoStats script → (output : List ℕ) → IsOutput false script output → TakesPrefix old new output
front_at_end Done script old new stopped no_memory ends without output is = absurd ends
front_at_end BadWords script old new stopped no_memory ends without output is = absurd ends
front_at_end ReadFault script old new stopped no_memory ends without output is = absurd ends
front_at_end BadScript script old new stopped no_memory ends without output is = absurd ends
front_at_end ScriptTooLong script old new stopped no_memory ends without output is = absurd ends
front_at_end WriteFault script old new stopped no_memory ends without output is = front_of_output script old new (stopped refl) without output is
front_at_end NoMemory script old new stopped no_memory ends without output is = elim (no_memory refl) [
  | inl same ↦ nothing_taken old new output same
  | inr early ↦ front_of_output script old new early without output is
]

-- ---- a run that no fault stops

ends_so : (script : List ℕ) (end : Status) → length script ≤ SCRIPT_LIMIT → IsLate end → (end ≡ Done → (read : Script) × SpellsScript script read)
    → (end ≡ BadScript → (line : ABadScript) × IsFirstBad script line)
    → (end ≡ WriteFault → ⊥) → EndsBy script end
ends_so script Done short late is_done is_bad_script no_fault = let found = is_done refl in good found.0 short found.1
ends_so script BadWords short late is_done is_bad_script no_fault = absurd late
ends_so script ReadFault short late is_done is_bad_script no_fault = absurd late
ends_so script WriteFault short late is_done is_bad_script no_fault = absurd (no_fault refl)
ends_so script NoMemory short late is_done is_bad_script no_fault = without_memory
ends_so script BadScript short late is_done is_bad_script no_fault = let found = is_bad_script refl in bad found.0 short found.1
ends_so script ScriptTooLong short late is_done is_bad_script no_fault = absurd late

told_same : (told : Option (List ℕ)) (bytes script : List ℕ) → IsKnownAs told bytes → told ≡ Some script → script ≡ bytes
told_same told bytes script known is = subst (λ t. IsKnownAs t bytes) is known

pub ends_by : (told : Option (List ℕ)) (bytes script : List ℕ) (end : Status) → IsKnownAs told bytes → told ≡ Some script → length bytes ≤ SCRIPT_LIMIT
    → IsLate end
    → (end ≡ Done → (read : Script) × SpellsScript bytes read) → (end ≡ BadScript → (line : ABadScript) × IsFirstBad bytes line) → (end ≡ WriteFault → ⊥)
    → EndsBy script end
ends_by told bytes script end known is short late is_done is_bad_script no_fault =
    subst (λ s. EndsBy s end) (sym (told_same told bytes script known is)) (ends_so bytes end short late is_done is_bad_script no_fault)

given_long : (old new : Option (List ℕ)) (bytes script : List ℕ) → Gives old new bytes → old ≡ Some script → length bytes ≤ length script
given_long old None bytes script gives is = cc (gives, is)
given_long old (Some rest) bytes script gives is = let same : bytes ++ rest ≡ script = cc (gives, is) in omega (arith, ap length same, length-append bytes rest)

pub ends_too_long : (old new : Option (List ℕ)) (script : List ℕ) → GivesCount old new (SCRIPT_LIMIT + 1) → old ≡ Some script → EndsBy script ScriptTooLong
ends_too_long old new script gives is = too_long (omega (arith, given_long old new gives.0 script gives.2 is, gives.1))
