-- The logs and the rows of a table that keeps expansions: which logs are lawful, which rows fit one, and which an edit leaves.
use Rattle.std.specs.Prelude.{◌≡◌, ◌↔◌, ℕ, Bool, IsTrue, List, [], ◌∷◌, ◌++◌, map}
use Rattle.grammar_text.specs.declared.edit.Edit.{Edit}
use Rattle.edit_entry.specs.Entries.{entry_of}
use Rattle.edit_log.specs.declared.touch.Touch.{Touch}
use Rattle.edit_log.specs.History.{Grammar, grammar_of}
use Rattle.edit_log.specs.Verdict.{IsAccepted, IsHistory}
use Rattle.edit_log.specs.Touches.{IsTouchOf}
use Rattle.pin_rule.specs.declared.content.Entry.{Entry}
use Rattle.row_coding.specs.Rows.{Key, kind_of_key}
use Rattle.graph_content.specs.Affected.{IsUnaffected}
use Rattle.graph_content.specs.Changes.{IsChange}
use Rattle.graph_content.specs.Rows.{IsRowOf, Fits}
use Rattle.graph_content.specs.Modifications.{Modification, after_row}

-- the log has an entry for each edit of the history, in order
pub record IsLogOf (log : List Entry) (history : List Edit) : Type 0 where
  pub is_history : IsHistory history
  pub entries : map (λ (entry : Entry). entry.words) log ≡ map entry_of history

-- the entries decode to a history
abbrev pub IsLawfulLog : List Entry → Type 0
IsLawfulLog log = (history : List Edit) × IsLogOf log history

-- the log is that of the grammar's history
pub record IsLogOfGrammar (log : List Entry) (grammar : Grammar) : Type 0 where
  pub history : List Edit
  pub is : IsLogOf log history
  pub made : grammar ≡ grammar_of history

-- the row is the one of some key, with its expansion in the grammar of the log
abbrev pub FitsLog : List Entry → List ℕ → Type 0
FitsLog log row = (grammar : Grammar) × IsLogOfGrammar log grammar × Fits grammar row

-- the first log is that of the grammar, and the next has one entry more, that of an edit with this touch
pub record LeadsByEdit (grammar : Grammar) (touch : Touch) (first next : List Entry) : Type 0 where
  pub log : IsLogOfGrammar first grammar
  pub edit : Edit
  pub accepted : IsAccepted grammar edit
  pub touches : IsTouchOf grammar edit touch
  pub entry : Entry
  pub words : entry.words ≡ entry_of edit
  pub longer : next ≡ first ++ entry ∷ []

-- the row is that of a key which an edit with this touch does not affect
pub record IsUntouched (grammar : Grammar) (touch : Touch) (row : List ℕ) : Type 0 where
  pub key : Key
  pub is : IsRowOf grammar key row
  pub unaffected : (next : Grammar) → IsChange grammar touch next → IsUnaffected grammar next key

-- between these logs the rows are chosen
abbrev pub LeadsByTouch : Modification → List Entry → List Entry → Type 0
LeadsByTouch m = LeadsByEdit m.grammar m.touch

-- this row is kept
abbrev pub KeepsRow : Modification → List ℕ → Type 0
KeepsRow m = IsUntouched m.grammar m.touch

-- the row, which is one of the grammar, was kept, or it was refused and counted with its kind
pub record CountsRow (m : Modification) (row : List ℕ) (n : Modification) : Type 0 where
  pub fits : Fits m.grammar row
  pub kept : Bool
  pub exact : IsTrue kept ↔ KeepsRow m row
  pub counted : (key : Key) → IsRowOf m.grammar key row → n ≡ after_row m (kind_of_key key) kept
