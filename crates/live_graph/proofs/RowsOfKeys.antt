-- Rows of the keys of a grammar, in the log of that grammar.
use Rattle.std.proofs.Common.{◌≡◌, ℕ, ◌<◌, List, refl, sym, ◌∙◌, subst}
use Rattle.std.specs.List.Sorted.{IsStrictlySortedBy}
use Rattle.edit_log.specs.History.{Grammar}
use Rattle.edit_log.specs.Facts.{IsWellFormed}
use Rattle.edit_log.proofs.HistoryLaws.{well_formed_always}
use Rattle.item_sets.specs.declared.item.Item.{Item}
use Rattle.item_sets.specs.declared.expansion.Expansion.{Expansion}
use Rattle.item_sets.specs.Orders.{item_cmp}
use Rattle.item_sets.specs.Prefixes.{AreItems}
use Rattle.item_sets.specs.Expansions.{IsExpansionOf}
use Rattle.isg_states.specs.declared.mark.Mark.{Mark}
use Rattle.isg_states.specs.declared.scan_key.ScanKey.{ScanKey}
use Rattle.isg_states.specs.declared.scan_key.ScanKey.TheVariants.{Start, Set}
use Rattle.isg_states.specs.declared.ranges.ScanExpansion.{ScanExpansion}
use Rattle.isg_states.specs.Patterns.{IsMark}
use Rattle.isg_states.specs.Marks.{AreAscending}
use Rattle.isg_states.specs.Expansion.{AreMarks, IsScanExpansionOf}
use Rattle.pin_rule.specs.declared.content.Entry.{Entry}
use Rattle.row_coding.specs.Words.{item_payload_words, scan_payload_words}
use Rattle.row_coding.specs.Rows.{Key, kernel, scan, key_words, FitsKey}
use Rattle.row_coding.specs.Conditions.{FitsCoding, FitsScanCoding}
use Rattle.row_coding.proofs.OneCoding.{one_key, one_item_payload, one_scan_payload}
use Rattle.row_coding.proofs.ExpansionsFit as items_fit
use Rattle.row_coding.proofs.ScanExpansionsFit as scans_fit
use Rattle.graph_content.specs.Affected.{IsKey}
use Rattle.graph_content.specs.Rows.{IsPayloadOf, IsRowOf}
use Rattle.graph_content.specs.Contents.{IsLogOfGrammar, FitsLog}
use Rattle.graph_content.proofs.KeySizes.{history_key_fits, history_index_small}
use Rattle.graph_content.proofs.LogLaws.{one_grammar}
use Rattle.graph_content.proofs.RowKeys.{row_parts}
use Rattle.slot_store.specs.Keys.{row_of}
use Rattle.live_graph.specs.Answers.{CanReadItems, CanReadScan}

module _ (log : List Entry) (grammar : Grammar) (is : IsLogOfGrammar log grammar) where
  well : IsWellFormed grammar
  well = subst IsWellFormed (sym is.made) (well_formed_always is.history is.is.is_history)

  pub key_fits : (key : Key) → IsKey grammar key → FitsKey key
  key_fits key names = history_key_fits is.history key is.is.is_history (subst (λ g. IsKey g key) is.made names)

  few_marks : (mark : Mark) → IsMark grammar mark → mark.index < 256
  few_marks mark of = history_index_small is.history mark is.is.is_history (subst (λ g. IsMark g mark) is.made of)

  -- the row of a key with its expansion fits the log
  pub fits : (key : Key) (payload : List ℕ) → IsKey grammar key → IsPayloadOf grammar key payload → FitsLog log (row_of (key_words key) payload)
  fits key payload names codes =
      let row : IsRowOf grammar key (row_of (key_words key) payload) = record { names = names; payload = payload; codes = codes; words = refl } in
      (grammar, is, (key, row))

  -- a row of the key that fits the log has its expansion
  pub codes : (key : Key) (payload : List ℕ) → IsKey grammar key → FitsLog log (row_of (key_words key) payload) → IsPayloadOf grammar key payload
  codes key payload names (other, that, (its, row)) =
      let same : other ≡ grammar = one_grammar log other grammar that is in
      let its_row : IsRowOf grammar its (row_of (key_words key) payload) = subst (λ g. IsRowOf g its (row_of (key_words key) payload)) same row in
      let parts = row_parts key its payload its_row.payload its_row.words in
      let key_is : key ≡ its = one_key key its (key_fits key names) (key_fits its its_row.names) parts.fronts in
      subst (λ words. IsPayloadOf grammar key words) (sym parts.backs) (subst (λ k. IsPayloadOf grammar k its_row.payload) (sym key_is) its_row.codes)

  pub readable_items : (items : List Item) (payload : List ℕ) → IsKey grammar (kernel items) → FitsLog log (row_of (key_words (kernel items)) payload)
      → CanReadItems payload
  readable_items items payload names row =
      let (expansion, expands, words) = codes (kernel items) payload names row in
      (expansion, items_fit.dots_fit grammar well items expansion expands, items_fit.are_typed grammar well items expansion expands, words)

  pub readable_scan : (key : ScanKey) (payload : List ℕ) → IsKey grammar (scan key) → FitsLog log (row_of (key_words (scan key)) payload)
      → CanReadScan payload
  readable_scan key payload names row =
      let (expansion, expands, words) = codes (scan key) payload names row in (
        expansion,
        scans_fit.indices_fit grammar well few_marks key expansion expands,
        scans_fit.are_typed grammar well few_marks key expansion expands,
        words,
      )

  -- the expansion that the words code is that of the key
  pub items_coded : (items : List Item) (payload : List ℕ) (expansion : Expansion) → IsKey grammar (kernel items)
      → FitsLog log (row_of (key_words (kernel items)) payload) → FitsCoding expansion → payload ≡ item_payload_words expansion
      → IsExpansionOf grammar.rules items expansion
  items_coded items payload expansion names row fit words =
      let (other, expands, other_words) = codes (kernel items) payload names row in
      let same : other ≡ expansion = one_item_payload other expansion (items_fit.dots_fit grammar well items other expands) fit (sym other_words ∙ words) in
      subst (λ e. IsExpansionOf grammar.rules items e) same expands

  pub scan_coded : (key : ScanKey) (payload : List ℕ) (expansion : ScanExpansion) → IsKey grammar (scan key)
      → FitsLog log (row_of (key_words (scan key)) payload) → FitsScanCoding expansion → payload ≡ scan_payload_words expansion
      → IsScanExpansionOf grammar key expansion.ranges
  scan_coded key payload expansion names row fit words =
      let (other, expands, other_words) = codes (scan key) payload names row in
      let same : other ≡ expansion =
      one_scan_payload other expansion (scans_fit.indices_fit grammar well few_marks key other expands) fit (sym other_words ∙ words) in
      subst (λ (e : ScanExpansion). IsScanExpansionOf grammar key e.ranges) same expands

-- the key of a kernel, or of a state, that may be asked for
pub kernel_names : (grammar : Grammar) (items : List Item) → IsStrictlySortedBy item_cmp items → AreItems grammar.rules items → IsKey grammar (kernel items)
kernel_names grammar items order are = (order, are)

pub scan_names : (grammar : Grammar) (key : ScanKey) → ((marks : List Mark) → key ≡ Set marks → AreAscending marks) → AreMarks grammar key
    → IsKey grammar (scan key)
scan_names grammar Start order are = tt
scan_names grammar (Set marks) order are = (order marks refl, are)
