-- A line spells at most one command, or one thing is wrong with it.
use Rattle.std.proofs.Common.{◌≡◌, ℕ, List, length, Option, Some, None, ◌⊎◌, inl, inr, Result, Ok, Err, refl, ap, sym, subst, arith}
use Rattle.std.proofs.lemmas.Bool.{cases_lt}
use Rattle.grammar_text.specs.declared.bad_edit.BadEdit.{BadEdit as ABadEdit}
use Rattle.grammar_text.specs.declared.edit.Edit.{Edit as AnEdit}
use Rattle.grammar_text.specs.Spelling.{Spells}
use Rattle.grammar_text.specs.Limits.{IsWithinLimits}
use Rattle.grammar_text.specs.Reading.{edit_of}
use Rattle.grammar_text.proofs.EditLaws.{edit_of_takes}
use Rattle.grammar_text.proofs.EditReads.{edit_of_again, one_edit}
use Rattle.script_text.specs.declared.command.Command.{Command}
use Rattle.script_text.specs.declared.command.Command.TheVariants.{Edit, Parse, Tokens, Stats}
use Rattle.script_text.specs.declared.bad_script.BadKind.{BadKind}
use Rattle.script_text.specs.declared.bad_script.BadKind.TheVariants.{BadEdit, BadRegex, BadText, TextTooLong}
use Rattle.script_text.specs.declared.bad_script.Refusal.{Refusal}
use Rattle.script_text.specs.declared.bad_script.Refusal.TheVariants.{Wrong, OutOfMemory}
use Rattle.script_text.specs.Seen.{IsReason, LacksExpression}
use Rattle.script_text.specs.declared.limits.TheConstants.{TEXT_LIMIT}
use Rattle.script_text.specs.Forms.{Sort, EditLine, ParseLine, TokensLine, StatsLine}
use Rattle.script_text.specs.Expressions.{AddsExpression}
use Rattle.script_text.specs.Texts.{text_written}
use Rattle.script_text.specs.Commands.{SpellsText, SpellsAs, an_edit, a_text, a_scan, a_count, IsWrongText, bad_escape, too_long, IsWrongAs}
use Rattle.script_text.specs.Commands.{no_edit, no_expression}
use Rattle.script_text.specs.Commands.{no_text, no_scan}
use Rattle.script_text.proofs.ExpressionLaws.{edit_judged}

-- ---- texts

pub one_text : (written a b : List ℕ) → SpellsText written a → SpellsText written b → a ≡ b
one_text written a b p q = cc (p.is, q.is)

pub text_not_wrong : (written text : List ℕ) (kind : BadKind) → SpellsText written text → IsWrongText written kind → ⊥
text_not_wrong written text kind p (bad_escape none) = cc (p.is, none)
text_not_wrong written text kind p (too_long other is long) =
    let same : other ≡ text = cc (p.is, is) in
    let lengths : length other ≡ length text = ap length same in
    absurd (omega (arith, p.within))

pub one_wrong_text : (written : List ℕ) (a b : BadKind) → IsWrongText written a → IsWrongText written b → a ≡ b
one_wrong_text written a b (bad_escape none) (bad_escape again) = refl
one_wrong_text written a b (bad_escape none) (too_long text is long) = cc (none, is)
one_wrong_text written a b (too_long text is long) (bad_escape none) = cc (none, is)
one_wrong_text written a b (too_long text is long) (too_long other same more) = refl

-- a text is spelled, or something is wrong
text_judged : (written : List ℕ) → ((text : List ℕ) × SpellsText written text) ⊎ ((kind : BadKind) × IsWrongText written kind)
text_judged written = by (text_written written) refl
  where
    by : (read : Option (List ℕ)) → text_written written ≡ read → ((text : List ℕ) × SpellsText written text) ⊎ ((kind : BadKind) × IsWrongText written kind)
    by None e = inr (BadText, bad_escape e)
    by (Some text) e = elim (cases_lt TEXT_LIMIT (length text)) [
      | inl less ↦ inr (TextTooLong, too_long text e less)
      | inr more ↦ inl (text, record { is = e; within = more })
    ]

-- ---- commands

pub one_command : (sort : Sort) (line : List ℕ) (a b : Command) → SpellsAs sort line a → SpellsAs sort line b → a ≡ b
one_command sort line a b (an_edit {edit = e} spelled within has) (an_edit {edit = other} again too same) = ap Edit (one_edit line e other spelled again)
one_command sort line a b (a_text {written = written} {text = text} p) (a_text {text = other} q) = ap Parse (one_text written text other p q)
one_command sort line a b (a_scan {written = written} {text = text} p) (a_scan {text = other} q) = ap Tokens (one_text written text other p q)
one_command sort line a b a_count a_count = refl

pub not_wrong : (sort : Sort) (line : List ℕ) (command : Command) (kind : BadKind) → SpellsAs sort line command → IsWrongAs sort line kind → ⊥
not_wrong sort line command kind (an_edit {edit = e} spelled within has) (no_edit none) = none e spelled within
not_wrong sort line command kind (an_edit {edit = e} spelled within has) (no_expression {edit = other} again too lacks) =
    lacks (subst AddsExpression (one_edit line e other spelled again) has)
not_wrong sort line command kind (a_text {written = written} {text = text} p) (no_text q) = text_not_wrong written text kind p q
not_wrong sort line command kind (a_scan {written = written} {text = text} p) (no_scan q) = text_not_wrong written text kind p q
not_wrong sort line command kind a_count wrong = elim wrong [ ]

pub one_wrong : (sort : Sort) (line : List ℕ) (a b : BadKind) → IsWrongAs sort line a → IsWrongAs sort line b → a ≡ b
one_wrong sort line a b (no_edit none) (no_edit again) = refl
one_wrong sort line a b (no_edit none) (no_expression {edit = e} spelled within lacks) = absurd (none e spelled within)
one_wrong sort line a b (no_expression {edit = e} spelled within lacks) (no_edit none) = absurd (none e spelled within)
one_wrong sort line a b (no_expression spelled within lacks) (no_expression again too lacking) = refl
one_wrong sort line a b (no_text {written = written} p) (no_text q) = one_wrong_text written a b p q
one_wrong sort line a b (no_scan {written = written} p) (no_scan q) = one_wrong_text written a b p q

-- a line that asks for something is a command, or something is wrong with it
pub judged : (sort : Sort) (line : List ℕ) → ((command : Command) × SpellsAs sort line command) ⊎ ((kind : BadKind) × IsWrongAs sort line kind)
judged EditLine line = by (edit_of line) refl
  where
    by : (read : Result AnEdit ABadEdit) → edit_of line ≡ read
        → ((command : Command) × SpellsAs EditLine line command) ⊎ ((kind : BadKind) × IsWrongAs EditLine line kind)
    by (Ok e) is = let spelled = edit_of_takes line e is in elim (edit_judged e) [
      | inl has ↦ inl (Edit e, an_edit spelled.0 spelled.1 has)
      | inr lacks ↦ inr (BadRegex, no_expression spelled.0 spelled.1 lacks)
    ]
    by (Err refusal) is = inr (BadEdit, no_edit (λ e spelled within. cc (is, edit_of_again line e spelled within)))
judged (ParseLine written) line = elim (text_judged written) [
  | inl found ↦ inl (Parse found.0, a_text found.1)
  | inr bad ↦ inr (bad.0, no_text bad.1)
]
judged (TokensLine written) line = elim (text_judged written) [
  | inl found ↦ inl (Tokens found.0, a_scan found.1)
  | inr bad ↦ inr (bad.0, no_scan bad.1)
]
judged StatsLine line = inl (Stats, a_count)

-- ---- why a line was not taken

pub text_refused : (written line : List ℕ) (refusal : Refusal) → IsReason (IsWrongText written) refusal → IsReason (IsWrongAs (ParseLine written) line) refusal
text_refused written line (Wrong kind) is = no_text is
text_refused written line OutOfMemory is = tt

pub scan_refused : (written line : List ℕ) (refusal : Refusal) → IsReason (IsWrongText written) refusal → IsReason (IsWrongAs (TokensLine written) line) refusal
scan_refused written line (Wrong kind) is = no_scan is
scan_refused written line OutOfMemory is = tt

pub edit_refused : (line : List ℕ) (edit : AnEdit) (refusal : Refusal) → Spells line edit → IsWithinLimits edit → IsReason (LacksExpression edit) refusal
    → IsReason (IsWrongAs EditLine line) refusal
edit_refused line edit (Wrong kind) spelled within is = subst (IsWrongAs EditLine line) (sym is.0) (no_expression spelled within is.1)
edit_refused line edit OutOfMemory spelled within is = tt
