-- Reading a script line by line.
use Rattle.std.proofs.Common.{◌≡◌, ℕ, ◌+◌, ◌<◌, ◌≤◌, List, [], ◌∷◌, ◌++◌, length, refl, ap, sym, ◌∙◌, subst, arith, append_assoc, append-nil, length-append}
use Rattle.script_text.specs.declared.bad_script.BadKind.{BadKind}
use Rattle.script_text.specs.declared.bad_script.Refusal.{Refusal}
use Rattle.script_text.specs.declared.bad_script.Refusal.TheVariants.{Wrong, OutOfMemory}
use Rattle.script_text.specs.declared.limits.TheConstants.{COMMAND_LIMIT}
use Rattle.script_text.specs.Lines.{lines_of}
use Rattle.script_text.specs.Forms.{Sort, Asks, form_of}
use Rattle.script_text.specs.Commands.{IsWrongAs}
use Rattle.script_text.specs.Seen.{IsReason}
use Rattle.script_text.specs.Scripts.{Read, nothing, ReadsLine, TakesAll, none, count_of, IsBad, wrong, IsFirstBad, at_line}
use Rattle.script_text.proofs.ScriptLaws.{one_more}

-- up to here the lines were good, and this has been read
pub record IsReadTo (bytes rest : List ℕ) (number : ℕ) (read : Read) : Type 0 where
  pub before : List (List ℕ)
  pub cut : lines_of bytes ≡ before ++ lines_of rest
  pub counted : number ≡ length before
  pub good : TakesAll nothing before read
  pub few : number + length rest ≤ length bytes

pub begins : (bytes : List ℕ) → IsReadTo bytes bytes 0 nothing
begins bytes = record { before = []; cut = refl; counted = refl; good = none; few = omega arith }

pub goes_on : (bytes rest line after : List ℕ) (number : ℕ) (read next : Read) → IsReadTo bytes rest number read
    → lines_of rest ≡ line ∷ lines_of after → length after < length rest → ReadsLine read line next → IsReadTo bytes after (number + 1) next
goes_on bytes rest line after number read next so_far lines less takes = record {
  before = so_far.before ++ line ∷ [];
  cut = so_far.cut ∙ ap (λ ls. so_far.before ++ ls) lines ∙ sym (append_assoc so_far.before (line ∷ []) (lines_of after));
  counted = omega (arith, so_far.counted, length-append so_far.before (line ∷ []));
  good = one_more so_far.before line nothing read next so_far.good takes;
  few = omega (arith, so_far.few);
}

pub stops : (bytes rest line after : List ℕ) (number : ℕ) (read : Read) (kind : BadKind) → IsReadTo bytes rest number read
    → lines_of rest ≡ line ∷ lines_of after → IsBad read line kind → IsFirstBad bytes (record { line = number + 1; kind = kind })
stops bytes rest line after number read kind so_far lines bad =
    subst (λ n. IsFirstBad bytes (record { line = n + 1; kind = kind })) (sym so_far.counted)
    (at_line so_far.before (lines_of after) line read (so_far.cut ∙ ap (λ ls. so_far.before ++ ls) lines) so_far.good bad)

pub ends : (bytes rest : List ℕ) (number : ℕ) (read : Read) → IsReadTo bytes rest number read → length rest ≡ 0 → TakesAll nothing (lines_of bytes) read
unfolding lines_of
ends bytes [] number read so_far empty = subst (λ lines. TakesAll nothing lines read) (sym (so_far.cut ∙ append-nil so_far.before)) so_far.good
ends bytes (byte ∷ rest) number read so_far empty = absurd (omega arith)

pub command_refused : (read : Read) (line : List ℕ) (sort : Sort) (refusal : Refusal) → Asks sort ≡ form_of line → count_of read < COMMAND_LIMIT
    → IsReason (IsWrongAs sort line) refusal → IsReason (IsBad read line) refusal
command_refused read line sort (Wrong kind) form room is = wrong sort (sym form) room is
command_refused read line sort OutOfMemory form room is = tt
