-- How a line spells a command, and what may be wrong with it.
use Rattle.std.specs.Prelude.{◌≡◌, ◌<◌, ◌≤◌, ℕ, List, length, Some, None}
use Rattle.grammar_text.specs.declared.edit.Edit.{Edit as AnEdit}
use Rattle.grammar_text.specs.Spelling.{Spells}
use Rattle.grammar_text.specs.Limits.{IsWithinLimits}
use Rattle.script_text.specs.declared.command.Command.{Command}
use Rattle.script_text.specs.declared.command.Command.TheVariants.{Edit, Parse, Tokens, Stats}
use Rattle.script_text.specs.declared.bad_script.BadKind.{BadKind}
use Rattle.script_text.specs.declared.bad_script.BadKind.TheVariants.{BadEdit, BadRegex, BadText, TextTooLong}
use Rattle.script_text.specs.declared.limits.TheConstants.{TEXT_LIMIT}
use Rattle.script_text.specs.Forms.{Sort, EditLine, ParseLine, TokensLine, StatsLine}
use Rattle.script_text.specs.Expressions.{AddsExpression}
use Rattle.script_text.specs.Texts.{text_written}

-- the text that is written so, within the limit
pub record SpellsText (written text : List ℕ) : Type 0 where
  pub is : text_written written ≡ Some text
  pub within : length text ≤ TEXT_LIMIT

-- the line, which asks for this, is the command
pub data SpellsAs : Sort → List ℕ → Command → Type 0 where
  an_edit : {line : List ℕ} {edit : AnEdit} → Spells line edit → IsWithinLimits edit → AddsExpression edit → SpellsAs EditLine line (Edit edit)
  a_text : {line written text : List ℕ} → SpellsText written text → SpellsAs (ParseLine written) line (Parse text)
  a_scan : {line written text : List ℕ} → SpellsText written text → SpellsAs (TokensLine written) line (Tokens text)
  a_count : {line : List ℕ} → SpellsAs StatsLine line Stats

-- what is wrong with what is written for a text: an escape, or the length of the text
pub data IsWrongText : List ℕ → BadKind → Type 0 where
  bad_escape : {written : List ℕ} → text_written written ≡ None → IsWrongText written BadText
  too_long : {written : List ℕ} (text : List ℕ) → text_written written ≡ Some text → TEXT_LIMIT < length text → IsWrongText written TextTooLong

-- what is wrong with the line, which asks for this and is no command; one that asks for statistics is always one
pub data IsWrongAs : Sort → List ℕ → BadKind → Type 0 where
  no_edit : {line : List ℕ} → ((edit : AnEdit) → Spells line edit → IsWithinLimits edit → ⊥) → IsWrongAs EditLine line BadEdit
  no_expression : {line : List ℕ} {edit : AnEdit} → Spells line edit → IsWithinLimits edit → (AddsExpression edit → ⊥) → IsWrongAs EditLine line BadRegex
  no_text : {line written : List ℕ} {kind : BadKind} → IsWrongText written kind → IsWrongAs (ParseLine written) line kind
  no_scan : {line written : List ℕ} {kind : BadKind} → IsWrongText written kind → IsWrongAs (TokensLine written) line kind
