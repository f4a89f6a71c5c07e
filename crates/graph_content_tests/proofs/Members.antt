-- Items and marks of a grammar, by what its look-ups tell, and rows of it.
use Rattle.std.proofs.Common.{◌≡◌, ℕ, ◌+◌, ◌<◌, ◌≤◌, ◌==◌, inl, inr, List, [], ◌∷◌, length, get_or, take, Some, refl, sym, ap, subst, Contains}
use Rattle.std.proofs.lemmas.List.{take_more}
use Rattle.std.proofs.lemmas.List.Elements.{Contains-push_cases}
use Rattle.std.proofs.lemmas.Bool.{eqb-true}
use Rattle.forest.specs.declared.symbols.TheConstants.{START}
use Rattle.forest.specs.declared.rules.RuleId.{RuleId}
use Rattle.forest.specs.declared.rules.Rule.{Rule}
use Rattle.regex_ast.specs.Positions.{Table}
use Rattle.edit_log.specs.declared.definitions.DefId.{DefId}
use Rattle.edit_log.specs.declared.definitions.DefId.TheVariants.{Literal as literal, Named as named}
use Rattle.edit_log.specs.History.{Grammar}
use Rattle.edit_log.specs.Live.{IsLive}
use Rattle.edit_log.specs.Lookups.{rule_of, ArePositionsFor}
use Rattle.edit_log.proofs.LiveByUses.{found_there}
use Rattle.item_sets.specs.declared.item.Item.{Item}
use Rattle.item_sets.specs.Prefixes.{rule_zero, HasRight, whole, live, IsItem}
use Rattle.isg_states.specs.declared.mark.Mark.{Mark}
use Rattle.isg_states.specs.Patterns.{Pattern, bytes, expression, HasPattern, classes_in, IsMark}
use Rattle.item_sets.specs.declared.expansion.Expansion.{Expansion}
use Rattle.item_sets.specs.Expansions.{IsExpansionOf}
use Rattle.isg_states.specs.declared.scan_key.ScanKey.{ScanKey}
use Rattle.isg_states.specs.declared.ranges.ScanExpansion.{ScanExpansion}
use Rattle.isg_states.specs.Expansion.{IsScanExpansionOf}
use Rattle.row_coding.specs.Words.{item_payload_words, scan_payload_words}
use Rattle.row_coding.specs.Rows.{kernel, scan, row_words}
use Rattle.graph_content.specs.Affected.{IsKey}
use Rattle.graph_content.specs.Rows.{Fits}

rule_id : ℕ → RuleId
rule_id n = record { 0 = n }

pub zero_item : (rules : List Rule) (item : Item) → item.rule.0 ≡ 0 → item.dot ≤ 1 → IsItem rules item
unfolding rule_id
zero_item rules item zero within =
    let same : item.rule ≡ rule_zero = ap rule_id zero in
    record { right = START ∷ []; has = subst (λ k. HasRight rules k (START ∷ [])) (sym same) whole; within = within }

pub live_item : (rules : List Rule) (item : Item) (r : Rule) → Some r ≡ rule_of rules item.rule → item.dot ≤ length r.right → IsItem rules item
unfolding rule_id
live_item rules item r found within =
    let there = found_there (λ (other : Rule). other.number.0 == item.rule.0) rules r (sym found) in
    let same : r.number ≡ item.rule = ap rule_id (eqb-true r.number.0 item.rule.0 there.1) in
    record { right = r.right; has = subst (λ k. HasRight rules k r.right) same (live there.0); within = within }

at_definition : (g : Grammar) (d : DefId) (index : ℕ) (table : Table) → IsLive g d → ArePositionsFor g d table → index < length table.classes
    → (pattern : Pattern) × HasPattern g d pattern × (index < length (classes_in pattern))
at_definition g (literal s) index table is_live (text, is, are) within = (
  bytes text,
  record {
    live = is_live;
    is =
        is;
  },
  subst (λ cs. index < length cs) are.classes within,
)
at_definition g (named n) index table is_live (d, is, e, spelled, are) within =
    (expression e, record { live = is_live; is = (d, is, spelled) }, subst (λ cs. index < length cs) are.classes within)

pub mark_there : (g : Grammar) (mark : Mark) (table : Table) → IsLive g mark.def → ArePositionsFor g mark.def table → mark.index < length table.classes
    → IsMark g mark
mark_there g mark table is_live are within = at_definition g mark.def mark.index table is_live are within

-- what holds of each mark so far, and of the next
pub marks_more : (P : Mark → Type 0) (marks : List Mark) (i : ℕ) (d : Mark) → i < length marks → ((mark : Mark) → Contains (take i marks) mark → P mark)
    → P (get_or marks i d) → (mark : Mark) → Contains (take (i + 1) marks) mark → P mark
marks_more P marks i d within each next mark c =
    elim (Contains-push_cases (take i marks) (get_or marks i d) mark (subst (λ (ms : List Mark). Contains ms mark) (take_more marks i d within) c)) [
      | inl there ↦ each mark there
      | inr e ↦ subst P e next
    ]

-- the words of a kernel and its expansion are a row of the grammar
pub kernel_row : (g : Grammar) (items : List Item) (e : Expansion) (row : List ℕ) → IsKey g (kernel items) → IsExpansionOf g.rules items e
    → row ≡ row_words (kernel items) (item_payload_words e) → Fits g row
kernel_row g items e row names is words = (kernel items, record { names = names; payload = item_payload_words e; codes = (e, is, refl); words = words })

-- the words of a state and its expansion are a row of the grammar
pub state_row : (g : Grammar) (key : ScanKey) (e : ScanExpansion) (row : List ℕ) → IsKey g (scan key) → IsScanExpansionOf g key e.ranges
    → row ≡ row_words (scan key) (scan_payload_words e) → Fits g row
state_row g key e row names is words = (scan key, record { names = names; payload = scan_payload_words e; codes = (e, is, refl); words = words })
