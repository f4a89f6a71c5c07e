-- The steps that a command adds to those of the bench that serves it alone.
use Rattle.std.specs.Prelude.{◌≡◌, ℕ, List, [], ◌∷◌, ◌++◌, length}
use Rattle.edit_log.specs.History.{Grammar}
use Rattle.script_text.specs.declared.command.Command.{Command}
use Rattle.script_text.specs.declared.command.Command.TheVariants.{Edit, Parse, Tokens, Stats}
use Rattle.pin_rule.specs.declared.content.Entry.{Entry}
use Rattle.pin_rule.specs.declared.sizes.Sizes.{Sizes}
use Rattle.pin_rule.specs.declared.view.Kind.{Kind}
use Rattle.pin_rule.specs.declared.view.Kind.TheVariants.{LoadPlace, LoadRow, Claim, WriteRow, Publish, GiveBack, Split, Join, Pin, Unpin, LoadLog, WriteLog}
use Rattle.pin_rule.specs.declared.view.Kind.TheVariants.{WritePlace, SwapCurrent, LoadRelease, FreeRow}
use Rattle.pin_rule.specs.declared.view.Step.{Step}
use Rattle.pin_rule.specs.Layout.{version_named, page_named}
use Rattle.pin_rule.specs.Lists.{Each}
use Rattle.pin_rule.specs.Steps.{pinned, unpinned}
use Rattle.row_coding.specs.Rows.{Key, key_words}
use Rattle.slot_store.specs.Meaning.{Meaning as PageMeaning}
use Rattle.slot_store.specs.Quiet.{IsQuiet}
use Rattle.version_store.specs.Meaning.{BenchMeaning}
use Rattle.live_graph.specs.Showing.{Comes, IsNarrow, ShowsKey}
use Rattle.replies.specs.declared.reply.Outcome.{Outcome}
use Rattle.replies.specs.declared.reply.Outcome.TheVariants.{Parsed, Scan, TooLarge}
use Rattle.replies.specs.declared.reply.Reply.{Reply}
use Rattle.replies.specs.declared.reply.Reply.TheVariants.{Edited, Refused, Parse as Parsing, Tokens as Scanning, Held}
use Rattle.sections.specs.Held.{ReachesKey, ScansKey}

-- ---- the keys of a text

-- each of these keys whose row has room: the steps show that the page has it, or had no room
abbrev pub ShowsKeys : PageMeaning → List Step → Grammar → (Key → Type 0) → Type 0
ShowsKeys m steps grammar Reached = (key : Key) → Reached key → IsNarrow m.sizes grammar key → ShowsKey m steps (key_words key)

-- the keys that the steps show where a text is parsed so: all that it reaches, and where the parse is too large those of its scan
abbrev pub shown_for : Grammar → List ℕ → Outcome → Key → Type 0
shown_for grammar text (Parsed parsed) key = ReachesKey grammar text key
shown_for grammar text (Scan error) key = ReachesKey grammar text key
shown_for grammar text TooLarge key = ScansKey grammar text key

-- quiet steps came on the page, and they show these keys
pub record ShowsText (old new : PageMeaning) (grammar : Grammar) (Reached : Key → Type 0) : Type 0 where
  pub added : List Step
  pub comes : Comes old new added
  pub shows : ShowsKeys old added grammar Reached

-- ---- the steps of a command

-- steps were added of which this is so
abbrev pub AddsSteps : BenchMeaning → BenchMeaning → (List Step → Type 0) → Type 0
AddsSteps old new Are = (added : List Step) × (new.steps ≡ old.steps ++ added) × Are added

-- A text's steps, on a table of these sizes with this log: its pin, which met the word that names the version and its page; quiet steps, which show these keys
-- on that page; and the drop of the pin on that page's release word.
pub record RecordsText (z : Sizes) (log : List Entry) (grammar : Grammar) (Reached : Key → Type 0) (added : List Step) : Type 0 where
  pub met : ℕ
  pub dropped : ℕ
  pub body : List Step
  pub is : added ≡ pinned met ∷ (body ++ unpinned z (page_named met) dropped ∷ [])
  pub version : version_named met ≡ length log
  pub quiet : Each IsQuiet body
  pub page : PageMeaning
  pub page_is : page.page ≡ page_named met
  pub page_sizes : page.sizes ≡ z
  pub page_log : page.log ≡ log
  pub shows : ShowsKeys page body grammar Reached

-- a kind of step that neither takes nor drops a pin
abbrev pub PinsNoVersion : Kind → Type 0
PinsNoVersion LoadPlace = Unit {0}
PinsNoVersion LoadRow = Unit {0}
PinsNoVersion Claim = Unit {0}
PinsNoVersion WriteRow = Unit {0}
PinsNoVersion Publish = Unit {0}
PinsNoVersion GiveBack = Unit {0}
PinsNoVersion Split = Unit {0}
PinsNoVersion Join = Unit {0}
PinsNoVersion Pin = ⊥
PinsNoVersion Unpin = ⊥
PinsNoVersion LoadLog = Unit {0}
PinsNoVersion WriteLog = Unit {0}
PinsNoVersion WritePlace = Unit {0}
PinsNoVersion SwapCurrent = Unit {0}
PinsNoVersion LoadRelease = Unit {0}
PinsNoVersion FreeRow = Unit {0}

-- none of the steps takes or drops a pin
abbrev pub PinsNothing : List Step → Type 0
PinsNothing steps = Each (λ s. PinsNoVersion s.kind) steps

-- an edit that is taken pins nothing, and a refused one takes no step; no other reply is told of an edit
abbrev pub RecordsEdit : Reply → List Step → Type 0
RecordsEdit (Edited version) added = PinsNothing added
RecordsEdit (Refused why) added = added ≡ []
RecordsEdit (Parsing version outcome) added = ⊥
RecordsEdit (Scanning version result) added = ⊥
RecordsEdit (Held items n) added = ⊥

-- by the reply to a text that is to be parsed; no other reply is told of one
abbrev pub RecordsParse : Sizes → List Entry → Grammar → List ℕ → Reply → List Step → Type 0
RecordsParse z log grammar text (Parsing version outcome) added = RecordsText z log grammar (shown_for grammar text outcome) added
RecordsParse z log grammar text (Scanning version result) added = ⊥
RecordsParse z log grammar text (Edited version) added = ⊥
RecordsParse z log grammar text (Refused why) added = ⊥
RecordsParse z log grammar text (Held items n) added = ⊥

-- the steps of a command with this reply, on a table of these sizes with this log; what is held is told by quiet steps
abbrev pub RecordsCommand : Sizes → List Entry → Grammar → Command → Reply → List Step → Type 0
RecordsCommand z log grammar (Edit edit) reply added = RecordsEdit reply added
RecordsCommand z log grammar (Parse text) reply added = RecordsParse z log grammar text reply added
RecordsCommand z log grammar (Tokens text) reply added = RecordsText z log grammar (ScansKey grammar text) added
RecordsCommand z log grammar Stats reply added = Each IsQuiet added
