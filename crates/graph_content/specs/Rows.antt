-- Which rows of words a grammar has.
use Rattle.std.specs.Prelude.{◌≡◌, ℕ, List}
use Rattle.edit_log.specs.History.{Grammar}
use Rattle.item_sets.specs.declared.expansion.Expansion.{Expansion}
use Rattle.item_sets.specs.Expansions.{IsExpansionOf}
use Rattle.isg_states.specs.declared.ranges.ScanExpansion.{ScanExpansion}
use Rattle.isg_states.specs.Expansion.{IsScanExpansionOf}
use Rattle.row_coding.specs.Words.{item_payload_words, scan_payload_words}
use Rattle.row_coding.specs.Rows.{Key, kernel, scan, row_words}
use Rattle.graph_content.specs.Affected.{IsKey}

-- the words code the expansion of the key
abbrev pub IsPayloadOf : Grammar → Key → List ℕ → Type 0
IsPayloadOf grammar (kernel items) payload = (expansion : Expansion) × IsExpansionOf grammar.rules items expansion × (payload ≡ item_payload_words expansion)
IsPayloadOf grammar (scan key) payload = (expansion : ScanExpansion) × IsScanExpansionOf grammar key expansion.ranges × (payload ≡ scan_payload_words expansion)

-- the words are the row of the key, which is one of the grammar, with its expansion there
pub record IsRowOf (grammar : Grammar) (key : Key) (row : List ℕ) : Type 0 where
  pub names : IsKey grammar key
  pub payload : List ℕ
  pub codes : IsPayloadOf grammar key payload
  pub words : row ≡ row_words key payload

-- the words are the row of some key of the grammar
abbrev pub Fits : Grammar → List ℕ → Type 0
Fits grammar row = (key : Key) × IsRowOf grammar key row
