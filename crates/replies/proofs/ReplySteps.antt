-- How a command's reply is made.
use Rattle.std.proofs.Common.{◌≡◌, ◌+◌, ℕ, Result, Some, None, List, refl, ap, sym, ◌∙◌, subst}
use Rattle.grammar_text.specs.declared.edit.Edit.{Edit as AnEdit}
use Rattle.edit_log.specs.declared.refusal.Refusal.{Refusal}
use Rattle.edit_log.specs.History.{Grammar, after_edit}
use Rattle.edit_log.specs.Verdict.{verdict}
use Rattle.forest.specs.declared.symbols.SymbolId.{SymbolId}
use Rattle.forest.specs.declared.symbols.Token.{Token}
use Rattle.forest.specs.declared.rules.Rule.{Rule}
use Rattle.isg_scan.specs.declared.scan_error.ScanError.{ScanError}
use Rattle.isg_scan.specs.declared.scan_error.ScanError.TheVariants.{NoToken, TooManyTokens, NoMemory}
use Rattle.isg_scan.specs.Answers.{IsScanEnd}
use Rattle.script_text.specs.declared.command.Command.{Command}
use Rattle.script_text.specs.declared.command.Command.TheVariants.{Parse, Tokens}
use Rattle.rekers.specs.declared.parsed.Parsed.{Parsed as Found}
use Rattle.rekers.specs.declared.parsed.Parsed.TheVariants.{Forest, NoSentence}
use Rattle.rekers.specs.Answers.{TellsForest, TellsNoSentence, IsWithin}
use Rattle.replies.specs.declared.reply.Outcome.{Outcome}
use Rattle.replies.specs.declared.reply.Outcome.TheVariants.{Parsed}
use Rattle.replies.specs.declared.reply.Reply.TheVariants.{Parse as Parsing, Tokens as Scanning}
use Rattle.replies.specs.Replies.{IsScanRefusedFor, IsResult, IsParse, forest, no_sentence, IsOutcome, IsReply, parsed, scanned, unless_refused}

-- ---- parses

-- an answer of the parser tells how the tokens are parsed
pub parsed_so : (rules : List Rule) (kinds : List SymbolId) (found : Found) → TellsForest rules kinds found → TellsNoSentence rules kinds found
    → IsWithin rules kinds → IsParse rules kinds (Parsed found)
parsed_so rules kinds (Forest tree) is other within = forest within is
parsed_so rules kinds (NoSentence at) other is within = no_sentence within is.0 is.1

-- a scan that ends so is refused for it, unless memory ran out
pub refused_for : (grammar : Grammar) (text : List ℕ) (error : ScanError) → (error ≡ NoMemory → ⊥) → IsScanEnd grammar text error
    → IsScanRefusedFor grammar text error
refused_for grammar text (NoToken offset) other is = is
refused_for grammar text (TooManyTokens offset) other is = is
refused_for grammar text NoMemory other is = other refl

pub parsed_reply : (before grammar : Grammar) (command : Command) (text bytes : List ℕ) (version : ℕ) (outcome : Outcome) → before ≡ grammar
    → command ≡ Parse text → bytes ≡ text → version ≡ before.version
    → IsOutcome before bytes outcome → IsReply grammar command (Parsing version outcome)
parsed_reply before grammar command text bytes version outcome same is written at how =
    let whole : IsReply before (Parse text) (Parsing before.version outcome) = parsed (subst (λ t. IsOutcome before t outcome) written how) in
    subst (λ g. IsReply g command (Parsing version outcome)) same
    (subst (λ c. IsReply before c (Parsing version outcome)) (sym is) (subst (λ v. IsReply before (Parse text) (Parsing v outcome)) (sym at) whole))

pub scanned_reply : (before grammar : Grammar) (command : Command) (text bytes : List ℕ) (version : ℕ) (result : Result (List Token) ScanError)
    → before ≡ grammar → command ≡ Tokens text → bytes ≡ text
    → version ≡ before.version → IsResult before bytes result → IsReply grammar command (Scanning version result)
scanned_reply before grammar command text bytes version result same is written at how =
    let whole : IsReply before (Tokens text) (Scanning before.version result) = scanned (subst (λ t. IsResult before t result) written how) in
    subst (λ g. IsReply g command (Scanning version result)) same
    (subst (λ c. IsReply before c (Scanning version result)) (sym is) (subst (λ v. IsReply before (Tokens text) (Scanning v result)) (sym at) whole))

-- ---- edits

pub refused_stays : (grammar : Grammar) (edit : AnEdit) (why : Refusal) → verdict grammar edit ≡ Some why
    → grammar ≡ unless_refused (verdict grammar edit) grammar edit
refused_stays grammar edit why is = ap (λ v. unless_refused v grammar edit) (sym is)

pub taken_next : (grammar : Grammar) (edit : AnEdit) (next : Grammar) → verdict grammar edit ≡ None → next ≡ after_edit grammar edit
    → next ≡ unless_refused (verdict grammar edit) grammar edit
taken_next grammar edit next taken is = is ∙ ap (λ v. unless_refused v grammar edit) (sym taken)

pub version_after : (grammar : Grammar) (edit : AnEdit) → (after_edit grammar edit).version ≡ grammar.version + 1
unfolding after_edit
version_after grammar edit = refl
