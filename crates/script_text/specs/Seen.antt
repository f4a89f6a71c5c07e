-- What the types of the reader stand for.
use Rattle.std.specs.Prelude.{◌≡◌}
use Rattle.grammar_text.specs.declared.edit.Edit.{Edit as AnEdit}
use Rattle.script_text.specs.declared.bad_script.BadKind.{BadKind}
use Rattle.script_text.specs.declared.bad_script.BadKind.TheVariants.{BadRegex}
use Rattle.script_text.specs.declared.bad_script.Refusal.{Refusal}
use Rattle.script_text.specs.declared.bad_script.Refusal.TheVariants.{Wrong, OutOfMemory}
use Rattle.script_text.specs.declared.form.Line.{Line}
use Rattle.script_text.specs.declared.form.Line.TheVariants.{PassedOver as passed, Unknown, Command}
use Rattle.script_text.specs.declared.form.Ask.{Ask}
use Rattle.script_text.specs.declared.form.Ask.TheVariants.{Edit, Parse, Tokens, Stats}
use Rattle.script_text.specs.Expressions.{AddsExpression}
use Rattle.script_text.specs.Forms.{Sort, EditLine, ParseLine, TokensLine, StatsLine, Form, PassedOver, OtherWord, Asks}

abbrev pub sort_seen : Ask → Sort
sort_seen Edit = EditLine
sort_seen (Parse written) = ParseLine written.now
sort_seen (Tokens written) = TokensLine written.now
sort_seen Stats = StatsLine

abbrev pub form_seen : Line → Form
form_seen passed = PassedOver
form_seen Unknown = OtherWord
form_seen (Command ask) = Asks (sort_seen ask)

-- why a line was not taken: this is wrong with it, or memory ran out
abbrev pub IsReason : (BadKind → Type 0) → Refusal → Type 0
IsReason IsWrong (Wrong kind) = IsWrong kind
IsReason IsWrong OutOfMemory = Unit {0}

-- the edit adds something else than an expression
abbrev pub LacksExpression : AnEdit → BadKind → Type 0
LacksExpression edit kind = (kind ≡ BadRegex) × (AddsExpression edit → ⊥)
