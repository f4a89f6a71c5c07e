-- Replicas of a grammar that follow a log.
use Rattle.std.specs.Prelude.{◌≡◌, ℕ, List, ◌++◌, length}
use Rattle.grammar_text.specs.declared.edit.Edit.{Edit}
use Rattle.edit_log.specs.History.{Grammar, grammar_of}
use Rattle.pin_rule.specs.declared.content.Entry.{Entry}
use Rattle.graph_content.specs.Contents.{IsLogOf}

-- the grammar is that of a history which the log goes on with, or ends with
pub record IsAtPrefix (log : List Entry) (grammar : Grammar) : Type 0 where
  pub history : List Edit
  pub rest : List Edit
  pub is : IsLogOf log (history ++ rest)
  pub made : grammar ≡ grammar_of history

-- so many edits are in the history
pub record IsAtPrefixLength (log : List Entry) (grammar : Grammar) (count : ℕ) : Type 0 where
  pub behind : IsAtPrefix log grammar
  pub count_is : length behind.history ≡ count
