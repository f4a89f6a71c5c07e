-- Changes of a grammar by an edit, and what of a key an edit touches.
use Rattle.std.specs.Prelude.{◌≡◌, ◌⊎◌, List, Some, IsTrue, Contains}
use Rattle.grammar_text.specs.declared.edit.Edit.{Edit}
use Rattle.forest.specs.declared.symbols.SymbolId.{SymbolId}
use Rattle.edit_log.specs.declared.touch.Touch.{Touch}
use Rattle.edit_log.specs.History.{Grammar, after_edit, grammar_of}
use Rattle.edit_log.specs.Verdict.{IsAccepted, IsHistory}
use Rattle.edit_log.specs.Touches.{IsTouchOf}
use Rattle.item_sets.specs.declared.item.Item.{Item}
use Rattle.item_sets.specs.Expansions.{HasMove}
use Rattle.isg_states.specs.declared.mark.Mark.{Mark}
use Rattle.isg_states.specs.declared.scan_key.ScanKey.TheVariants.{Start, Set}
use Rattle.row_coding.specs.Rows.{Key, kernel, scan}

-- an edit with this touch leads from the grammar of a history to the next one
pub record IsChange (grammar : Grammar) (touch : Touch) (next : Grammar) : Type 0 where
  pub history : List Edit
  pub is_history : IsHistory history
  pub made : grammar ≡ grammar_of history
  pub edit : Edit
  pub accepted : IsAccepted grammar edit
  pub touches : IsTouchOf grammar edit touch
  pub leads : next ≡ after_edit grammar edit

-- one of the items is of the rule that ends
abbrev pub NamesEnded : Touch → List Item → Type 0
NamesEnded touch items = (item : Item) × Contains items item × (touch.gone_rule ≡ Some item.rule)

-- A kernel is touched where it has an item of the rule that ends, or a move on the left side of the rule that is added or
-- dropped. The start is touched where the live definitions change, and a set where it has a mark of a definition that ends.
abbrev pub IsTouched : Grammar → Touch → Key → Type 0
IsTouched grammar touch (kernel items) = NamesEnded touch items ⊎ ((left : SymbolId) × (touch.left ≡ Some left) × HasMove grammar.rules (Contains items) left)
IsTouched grammar touch (scan Start) = IsTrue touch.scan
IsTouched grammar touch (scan (Set marks)) = (mark : Mark) × Contains marks mark × Contains touch.gone_defs mark.def
