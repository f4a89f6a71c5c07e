-- What a command asks of the graph of the bench that serves it alone, and which rows it leaves there.
use Rattle.std.specs.Prelude.{◌≡◌, ℕ, List, Option, Some, None}
use Rattle.grammar_text.specs.declared.edit.Edit.{Edit as AnEdit}
use Rattle.forest.specs.Distinct.{AreAll}
use Rattle.edit_log.specs.declared.refusal.Refusal.{Refusal}
use Rattle.edit_log.specs.History.{Grammar, after_edit}
use Rattle.edit_log.specs.Verdict.{verdict}
use Rattle.script_text.specs.declared.command.Command.{Command}
use Rattle.script_text.specs.declared.command.Command.TheVariants.{Edit, Parse, Tokens, Stats}
use Rattle.pin_rule.specs.declared.sizes.Sizes.{Sizes}
use Rattle.row_coding.specs.Rows.{kernel, scan}
use Rattle.graph_content.specs.Affected.{IsUnaffected}
use Rattle.live_graph.specs.declared.tally.Tallies.{Tallies}
use Rattle.live_graph.specs.Growing.{HasRowOf}
use Rattle.live_graph.specs.Tallying.{none_counted}
use Rattle.replies.specs.declared.reply.Reply.{Reply}
use Rattle.replies.specs.declared.reply.Reply.TheVariants.{Edited, Refused, Parse as Parsing, Tokens as Scanning, Held}
use Rattle.sections.specs.declared.alone.AloneError.{AloneError}
use Rattle.sections.specs.declared.alone.AloneError.TheVariants.{Spent, NoMemory}
use Rattle.sections.specs.Held.{ScansKey, AsksFor, IsCount, UsesKeys}
use Rattle.sections.specs.Holding.{HoldsCounts, HasSameRows}
use Rattle.sections.specs.Editing.{LeavesRows}

-- no key was asked for
abbrev pub none_tallied : Tallies
none_tallied = record { items = none_counted; scan = none_counted }

-- an edit leaves exactly the rows that it does not touch, and asks for no key
pub record EditsRows (grammar : Grammar) (edit : AnEdit) (tallies : Tallies) (first last : List (List ℕ)) : Type 0 where
  pub leaves : LeavesRows grammar edit first last
  pub asks_none : tallies ≡ none_tallied

-- a text that is parsed asks for the keys that it reaches, by how the parse comes out; no other reply is told of a parse
abbrev pub ParsesOver : Sizes → Grammar → List ℕ → Reply → Tallies → (before after : ℕ) → (first last : List (List ℕ)) → Type 0
ParsesOver z grammar text (Parsing version outcome) tallies before after first last =
    UsesKeys z grammar (AsksFor grammar text outcome) tallies before after first last
ParsesOver z grammar text (Scanning version result) tallies before after first last = ⊥
ParsesOver z grammar text (Edited version) tallies before after first last = ⊥
ParsesOver z grammar text (Refused why) tallies before after first last = ⊥
ParsesOver z grammar text (Held items scan_keys) tallies before after first last = ⊥

-- a text that is scanned asks for exactly the keys that its scan reaches
abbrev pub ScansOver : Sizes → Grammar → List ℕ → Tallies → (before after : ℕ) → (first last : List (List ℕ)) → Type 0
ScansOver z grammar text tallies before after first last = UsesKeys z grammar (AreAll (ScansKey grammar text)) tallies before after first last

-- so many keys were held and were told, no row came or went, and no key was asked for
pub record CountsRows (grammar : Grammar) (items scan_keys : ℕ) (tallies : Tallies) (first last : List (List ℕ)) : Type 0 where
  pub counts : HoldsCounts grammar first items scan_keys
  pub stays : HasSameRows first last
  pub asks_none : tallies ≡ none_tallied

-- the keys of the graph are counted; no other reply is told of that
abbrev pub CountsOver : Grammar → Reply → Tallies → (first last : List (List ℕ)) → Type 0
CountsOver grammar (Held items scan_keys) tallies first last = CountsRows grammar items scan_keys tallies first last
CountsOver grammar (Edited version) tallies first last = ⊥
CountsOver grammar (Refused why) tallies first last = ⊥
CountsOver grammar (Parsing version outcome) tallies first last = ⊥
CountsOver grammar (Scanning version result) tallies first last = ⊥

-- What a command that was answered so, with these tallies and these steps before and after, made of the graph. Neither an edit nor a count takes a step
abbrev pub SharesRows : Sizes → Grammar → Command → Reply → Tallies → (before after : ℕ) → (first last : List (List ℕ)) → Type 0
SharesRows z grammar (Edit edit) reply tallies before after first last = EditsRows grammar edit tallies first last × (after ≡ before)
SharesRows z grammar (Parse text) reply tallies before after first last = ParsesOver z grammar text reply tallies before after first last
SharesRows z grammar (Tokens text) reply tallies before after first last = ScansOver z grammar text tallies before after first last
SharesRows z grammar Stats reply tallies before after first last = CountsOver grammar reply tallies first last × (after ≡ before)

-- so many keys of either kind lost their rows to the edit: those that the graph held and that the edit affects
pub record DropsCounts (grammar : Grammar) (edit : AnEdit) (first : List (List ℕ)) (dropped : ℕ × ℕ) : Type 0 where
  pub kernels : IsCount (λ key. HasRowOf grammar (kernel key) first × (¬ (IsUnaffected grammar (after_edit grammar edit) (kernel key)))) dropped.0
  pub scans : IsCount (λ key. HasRowOf grammar (scan key) first × (¬ (IsUnaffected grammar (after_edit grammar edit) (scan key)))) dropped.1

-- a refused edit drops none
abbrev pub DropsBy : Option Refusal → Grammar → AnEdit → List (List ℕ) → ℕ × ℕ → Type 0
DropsBy None grammar edit first dropped = DropsCounts grammar edit first dropped
DropsBy (Some why) grammar edit first dropped = dropped ≡ (0, 0)

-- but for an edit that is taken, no command drops a row
abbrev pub DropsRows : Grammar → Command → List (List ℕ) → ℕ × ℕ → Type 0
DropsRows grammar (Edit edit) first dropped = DropsBy (verdict grammar edit) grammar edit first dropped
DropsRows grammar (Parse text) first dropped = dropped ≡ (0, 0)
DropsRows grammar (Tokens text) first dropped = dropped ≡ (0, 0)
DropsRows grammar Stats first dropped = dropped ≡ (0, 0)

-- Where a command is not answered, the bench comes back as it was, unless memory ran out over a text. What is held is always told
abbrev pub ComesBack : {Bench : Type 0} → Command → AloneError → (old new : Bench) → Type 0
ComesBack (Edit edit) error old new = new ≡ old
ComesBack (Parse text) Spent old new = new ≡ old
ComesBack (Parse text) NoMemory old new = Unit {0}
ComesBack (Tokens text) Spent old new = new ≡ old
ComesBack (Tokens text) NoMemory old new = Unit {0}
ComesBack Stats error old new = ⊥
