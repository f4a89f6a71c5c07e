-- Where the bytes are told, how a run ends tells what was read and written.
use Rattle.std.proofs.Common.{◌≡◌, Bool, ◌⊎◌, inl, inr, ℕ, ◌<◌, List, [], ◌++◌, length, take, Option, Some, None, codes, decimal, refl, ap, sym, ◌∙◌}
use Rattle.std.proofs.Common.{subst, arith}
use Rattle.std.proofs.Common.{length-append, length-take}
use Rattle.std.specs.Io.KnownBytes.{append_known}
use Rattle.bench_io.specs.Known.{Takes, IsKnownAs}
use Rattle.bench_io.proofs.Chains.{Gives-none, Takes-none}
use Rattle.script_text.specs.declared.command.Script.{Script}
use Rattle.script_text.specs.declared.bad_script.BadScript.{BadScript as ABadScript}
use Rattle.script_text.specs.Scripts.{SpellsScript, IsFirstBad}
use Rattle.script_text.proofs.ScriptLaws.{not_both, one_bad}
use Rattle.workbench.specs.Pieces.{GivesCount, TellsBytes}
use Rattle.replies.specs.Lines.{kind_words, bad_line}
use Rattle.workbench.specs.declared.top_call.Status.{Status}
use Rattle.workbench.specs.declared.top_call.Status.TheVariants.{Done, BadWords, ReadFault, WriteFault, NoMemory, BadScript, ScriptTooLong}
use Rattle.workbench.specs.Ends.{IsLate}
use Rattle.workbench.specs.Runs.{StopsInOutput, of_replies, of_refusal, RunsBad}

-- ---- amounts

-- a source that tells its bytes gave one number of them
one_count : (old new : Option (List ℕ)) (m n : ℕ) → TellsBytes old → GivesCount old new m → GivesCount old new n → m ≡ n
one_count old None m n told first second =
    let none : Some told.0 ≡ None = sym told.1 ∙ first.2 in
    cc none
one_count old (Some rest) m n told first second =
    let same : first.0 ++ rest ≡ second.0 ++ rest = let both : Some (first.0 ++ rest) ≡ Some (second.0 ++ rest) = sym first.2 ∙ second.2 in cc both in
    omega (arith, ap length same, length-append first.0 rest, length-append second.0 rest, first.1, second.1)

-- a source that was not read gave nothing
pub no_count : (old : Option (List ℕ)) (n : ℕ) → 0 < n → TellsBytes old → GivesCount old old n → ⊥
no_count old n some told gives = let same = one_count old old n 0 told gives ([], refl, Gives-none old) in omega (arith, some, same)

-- a source that gave few bytes did not give more
pub other_count : (old new : Option (List ℕ)) (m n : ℕ) → m < n → TellsBytes old → GivesCount old new m → GivesCount old new n → ⊥
other_count old new m n less told few many = let same = one_count old new m n told few many in omega (arith, less, same)

-- a sink that tells its bytes took one number of them
one_amount : (old new : Option (List ℕ)) (a b : List ℕ) → TellsBytes old → Takes old new a → Takes old new b → length a ≡ length b
one_amount old new a b told first second =
    let both : Some (told.0 ++ a) ≡ Some (told.0 ++ b) = subst (λ known. append_known known a ≡ append_known known b) told.1 (sym first ∙ second) in
    let same : told.0 ++ a ≡ told.0 ++ b = cc both in
    omega (arith, ap length same, length-append told.0 a, length-append told.0 b)

-- ---- the line for a bad script

line_has_bytes : (bad : ABadScript) → 0 < length (bad_line bad)
line_has_bytes bad = omega (arith, length-append (codes "bad script line ") (decimal bad.line ++ codes ": " ++ kind_words bad.kind ++ codes "\n"))

-- a sink that took nothing did not take the line
pub silent_not_bad : (left left_new taken : Option (List ℕ)) → TellsBytes taken → RunsBad left left_new taken taken → ⊥
silent_not_bad left left_new taken told runs =
    let amount = one_amount taken taken (bad_line runs.bad) [] told runs.taken (Takes-none taken) in
    omega (arith, line_has_bytes runs.bad, amount)

-- a sink that took a prefix of the output, where the line is not whole, did not take the line
stopped_not_bad : (stats : Bool) (taken taken_new : Option (List ℕ)) (script : List ℕ) (line : ABadScript) → TellsBytes taken
    → StopsInOutput stats taken taken_new script
    → IsFirstBad script line → Takes taken taken_new (bad_line line) → ⊥
stopped_not_bad stats taken taken_new script line told (of_replies read spelled first) is takes = not_both script read line spelled is
stopped_not_bad stats taken taken_new script line told (of_refusal other first part) is takes =
    let amount = one_amount taken taken_new (take part.0 (bad_line other)) (bad_line line) told part.2 takes in
    let same : length (bad_line other) ≡ length (bad_line line) = ap (λ bad. length (bad_line bad)) (one_bad script other line first is) in
    let less = part.1 in
    omega (arith, length-take part.0 (bad_line other), amount, same, less)

-- ---- a run whose script was read whole

told_one : (told : Option (List ℕ)) (a b : List ℕ) → TellsBytes told → IsKnownAs told a → IsKnownAs told b → a ≡ b
told_one told a b is first second = sym (subst (λ known. IsKnownAs known a) is.1 first) ∙ subst (λ known. IsKnownAs known b) is.1 second

ends_bad : (stats : Bool) (taken taken_new : Option (List ℕ)) (script : List ℕ) (line : ABadScript) (end : Status) → IsLate end
    → (end ≡ Done → (read : Script) × SpellsScript script read)
    → (end ≡ WriteFault → StopsInOutput stats taken taken_new script) → (end ≡ NoMemory → (taken_new ≡ taken) ⊎ StopsInOutput stats taken taken_new script)
    → TellsBytes taken → IsFirstBad script line → Takes taken taken_new (bad_line line) → end ≡ BadScript
ends_bad stats taken taken_new script line Done late done stopped no_memory told is takes = let read = done refl in absurd
    (not_both script read.0 line read.1 is)
ends_bad stats taken taken_new script line BadWords late done stopped no_memory told is takes = absurd late
ends_bad stats taken taken_new script line ReadFault late done stopped no_memory told is takes = absurd late
ends_bad stats taken taken_new script line WriteFault late done stopped no_memory told is takes =
    absurd (stopped_not_bad stats taken taken_new script line told (stopped refl) is takes)
ends_bad stats taken taken_new script line NoMemory late done stopped no_memory told is takes = elim (no_memory refl) [
  | inl same ↦
      let amount = one_amount taken taken_new (bad_line line) [] told takes (same ∙ Takes-none taken) in
      absurd (omega (arith, line_has_bytes line, amount))
  | inr early ↦ absurd (stopped_not_bad stats taken taken_new script line told early is takes)
]
ends_bad stats taken taken_new script line BadScript late done stopped no_memory told is takes = refl
ends_bad stats taken taken_new script line ScriptTooLong late done stopped no_memory told is takes = absurd late

pub only_bad : (stats : Bool) (left left_new taken taken_new : Option (List ℕ)) (script : List ℕ) (end : Status) → IsKnownAs left script → IsLate end
    → (end ≡ Done → (read : Script) × SpellsScript script read)
    → (end ≡ WriteFault → StopsInOutput stats taken taken_new script) → (end ≡ NoMemory → (taken_new ≡ taken) ⊎ StopsInOutput stats taken taken_new script)
    → TellsBytes left → TellsBytes taken → RunsBad left left_new taken taken_new → end ≡ BadScript
only_bad stats left left_new taken taken_new script end known late done stopped no_memory told_left told_taken runs =
    let first = subst (λ s. IsFirstBad s runs.bad) (told_one left runs.script script told_left runs.is_read.given known) runs.first in
    ends_bad stats taken taken_new script runs.bad end late done stopped no_memory told_taken first runs.taken
