-- Which keys an edit spoils.
use Rattle.std.specs.Prelude.{ℕ, ◌<◌, ◌↔◌, ◌⊎◌, List, Contains}
use Rattle.std.specs.List.Sorted.{IsStrictlySortedBy}
use Rattle.forest.specs.declared.symbols.SymbolId.{SymbolId}
use Rattle.forest.specs.declared.rules.RuleId.{RuleId}
use Rattle.forest.specs.declared.rules.Rule.{Rule}
use Rattle.edit_log.specs.History.{Grammar}
use Rattle.item_sets.specs.declared.item.Item.{Item}
use Rattle.item_sets.specs.Orders.{item_cmp}
use Rattle.item_sets.specs.Prefixes.{AreItems}
use Rattle.item_sets.specs.Expansions.{InMove, IsReduction}
use Rattle.isg_states.specs.declared.mark.Mark.{Mark}
use Rattle.isg_states.specs.declared.scan_key.ScanKey.{ScanKey}
use Rattle.isg_states.specs.declared.scan_key.ScanKey.TheVariants.{Start, Set}
use Rattle.isg_states.specs.Marks.{AreAscending}
use Rattle.isg_states.specs.Expansion.{AreMarks, LeadsTo}
use Rattle.row_coding.specs.Rows.{Key, kernel, scan}

-- the items or marks are in their order, and name live rules and definitions alone, with each dot and index in range
abbrev pub IsKey : Grammar → Key → Type 0
IsKey grammar (kernel items) = IsStrictlySortedBy item_cmp items × AreItems grammar.rules items
IsKey grammar (scan Start) = Unit {0}
IsKey grammar (scan (Set marks)) = AreAscending marks × AreMarks grammar (Set marks)

-- by both lists of rules the items have the same moves, and the same reductions
pub record AreSameMoves (rules others : List Rule) (items : List Item) : Type 0 where
  pub moves : (x : SymbolId) (item : Item) → InMove rules (Contains items) x item ↔ InMove others (Contains items) x item
  pub reductions : (k : RuleId) → IsReduction rules (Contains items) k ↔ IsReduction others (Contains items) k

-- in both grammars each byte leads to the same positions
abbrev pub AreSameRanges : Grammar → Grammar → ScanKey → Type 0
AreSameRanges grammar other key = (byte : ℕ) (mark : Mark) → byte < 256 → LeadsTo grammar key byte mark ↔ LeadsTo other key byte mark

-- the key has the same expansion in both grammars
abbrev pub IsSameExpansion : Grammar → Grammar → Key → Type 0
IsSameExpansion grammar other (kernel items) = AreSameMoves grammar.rules other.rules items
IsSameExpansion grammar other (scan key) = AreSameRanges grammar other key

-- the key is one of the next grammar too, and has the same expansion there
pub record IsUnaffected (grammar next : Grammar) (key : Key) : Type 0 where
  pub stays : IsKey next key
  pub same : IsSameExpansion grammar next key

-- the key names what is not live in the next grammar, or its expansion differs there
abbrev pub IsAffected : Grammar → Grammar → Key → Type 0
IsAffected grammar next key = (IsKey next key → ⊥) ⊎ (IsSameExpansion grammar next key → ⊥)
