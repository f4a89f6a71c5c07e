-- The replies to commands.
use Rattle.std.specs.Prelude.{◌≡◌, ℕ, ◌+◌, List, Option, Some, None, Result, Ok, Err}
use Rattle.grammar_text.specs.declared.edit.Edit.{Edit as AnEdit}
use Rattle.forest.specs.declared.symbols.SymbolId.{SymbolId}
use Rattle.forest.specs.declared.symbols.Token.{Token}
use Rattle.forest.specs.declared.rules.Rule.{Rule}
use Rattle.forest.specs.declared.forest.Forest.{Forest}
use Rattle.forest.specs.Derivation.{IsSentence}
use Rattle.forest.specs.Forests.{IsForestOf}
use Rattle.edit_log.specs.declared.refusal.Refusal.{Refusal}
use Rattle.edit_log.specs.History.{Grammar, after_edit}
use Rattle.edit_log.specs.Verdict.{verdict}
use Rattle.edit_log.specs.Tokens.{tokens, no_token, too_many, Tokenizes}
use Rattle.isg_scan.specs.declared.scan_error.ScanError.{ScanError}
use Rattle.isg_scan.specs.declared.scan_error.ScanError.TheVariants.{NoToken, TooManyTokens, NoMemory}
use Rattle.rekers.specs.declared.limits.TheConstants.{SIZE_LIMIT}
use Rattle.rekers.specs.declared.parsed.Parsed.TheVariants.{Forest as ForestOf, NoSentence}
use Rattle.rekers.specs.States.{IsLastViable}
use Rattle.rekers.specs.Size.{IsAbove}
use Rattle.rekers.specs.Answers.{kinds_of, IsWithin}
use Rattle.script_text.specs.declared.command.Command.{Command}
use Rattle.script_text.specs.declared.command.Command.TheVariants.{Edit, Parse, Tokens, Stats}
use Rattle.replies.specs.declared.reply.Outcome.{Outcome}
use Rattle.replies.specs.declared.reply.Outcome.TheVariants.{Parsed, Scan, TooLarge}
use Rattle.replies.specs.declared.reply.Reply.{Reply}
use Rattle.replies.specs.declared.reply.Reply.TheVariants.{Edited, Refused, Parse as Parsing, Tokens as Scanning, Held}

-- ---- texts

-- the scan of the text is refused for this; never since memory ran out
abbrev pub IsScanRefusedFor : Grammar → List ℕ → ScanError → Type 0
IsScanRefusedFor grammar text (NoToken offset) = Tokenizes grammar text (no_token offset)
IsScanRefusedFor grammar text (TooManyTokens offset) = Tokenizes grammar text (too_many offset)
IsScanRefusedFor grammar text NoMemory = ⊥

-- the tokens of the text, or why it has none
abbrev pub IsResult : Grammar → List ℕ → Result (List Token) ScanError → Type 0
IsResult grammar text (Ok found) = Tokenizes grammar text (tokens found)
IsResult grammar text (Err error) = IsScanRefusedFor grammar text error

-- how tokens of these kinds are parsed: too large by the size of the parse, or the forest, or the last place up to which a sentence can go on
pub data IsParse (rules : List Rule) (kinds : List SymbolId) : Outcome → Type 0 where
  too_large : IsAbove rules kinds SIZE_LIMIT → IsParse rules kinds TooLarge
  forest : {parsed : Forest} → IsWithin rules kinds → IsForestOf rules kinds parsed → IsParse rules kinds (Parsed (ForestOf parsed))
  no_sentence : {at : ℕ} → IsWithin rules kinds → (IsSentence rules kinds → ⊥) → IsLastViable rules kinds at → IsParse rules kinds (Parsed (NoSentence at))

-- how the text is parsed: its scan is refused, or its tokens are parsed
pub data IsOutcome (grammar : Grammar) (text : List ℕ) : Outcome → Type 0 where
  scan : {error : ScanError} → IsScanRefusedFor grammar text error → IsOutcome grammar text (Scan error)
  parse : {found : List Token} {outcome : Outcome} → Tokenizes grammar text (tokens found) → IsParse grammar.rules (kinds_of found) outcome
      → IsOutcome grammar text outcome

-- ---- commands

-- The reply to a command, under the grammar that the commands before it made. What is held depends on a table and not on the grammar alone,
-- so which numbers these are is said where there is a table
pub data IsReply (grammar : Grammar) : Command → Reply → Type 0 where
  taken : {edit : AnEdit} → verdict grammar edit ≡ None → IsReply grammar (Edit edit) (Edited (grammar.version + 1))
  refused : {edit : AnEdit} {why : Refusal} → verdict grammar edit ≡ Some why → IsReply grammar (Edit edit) (Refused why)
  parsed : {text : List ℕ} {outcome : Outcome} → IsOutcome grammar text outcome → IsReply grammar (Parse text) (Parsing grammar.version outcome)
  scanned : {text : List ℕ} {result : Result (List Token) ScanError} → IsResult grammar text result
      → IsReply grammar (Tokens text) (Scanning grammar.version result)
  held : {items scan : ℕ} → IsReply grammar Stats (Held items scan)

-- an edit that is taken changes the grammar, and a refused one leaves it
abbrev pub unless_refused : Option Refusal → Grammar → AnEdit → Grammar
unless_refused None grammar edit = after_edit grammar edit
unless_refused (Some why) grammar edit = grammar

-- the grammar after a command
abbrev pub grammar_after : Grammar → Command → Grammar
grammar_after grammar (Edit edit) = unless_refused (verdict grammar edit) grammar edit
grammar_after grammar (Parse text) = grammar
grammar_after grammar (Tokens text) = grammar
grammar_after grammar Stats = grammar
