-- The orders of rules, splits and nodes.
use Rattle.std.proofs.Common.{◌≡◌, ℕ, ◌+◌, ◌-◌, ◌<◌, ◌≤◌, List, [], length, get_or, refl, sym, ◌∙◌, arith}
use Rattle.std.proofs.lemmas.Cmp.{ranked}
use Rattle.std.proofs.lemmas.List.{get_or_default}
use Rattle.std.proofs.lemmas.Map.Keys.{sorted_from_all_adjacent, Less-from_sorted}
use Rattle.std.specs.List.Sorted.{IsStrictlySortedBy}
use Rattle.std.specs.Ordering.{nat_cmp, ordering_then, on}
use Rattle.std.specs.declared.cmp.Ordering.{Ordering}
use Rattle.std.specs.declared.cmp.Ordering.TheVariants.{Less, Equal, Greater}
use Rattle.std.specs.Cmp.{IsTotalOrder, nat_cmp_total, then_total, on_total}
use Rattle.std.specs.Cmp.Lexicographic.{slice_cmp, nat_list_cmp_total}
use Rattle.forest.specs.declared.nodes.Node.{Node}
use Rattle.forest.specs.declared.nodes.Split.{Split}
use Rattle.forest.specs.declared.rules.Rule.{Rule}
use Rattle.forest.specs.Orders.{rule_cmp, split_cmp, node_cmp}

pub rule_cmp_total : IsTotalOrder rule_cmp
rule_cmp_total = on_total (λ (r : Rule). r.number.0) nat_cmp_total

pub node_cmp_total : IsTotalOrder node_cmp
node_cmp_total =
    let ends = then_total {R = on (λ (n : Node). n.to) nat_cmp} {S = on (λ (n : Node). n.symbol.0) nat_cmp} (on_total (λ (n : Node). n.to) nat_cmp_total)
    (on_total (λ (n : Node). n.symbol.0) nat_cmp_total) in
    then_total {R = on (λ (n : Node). n.from) nat_cmp} (on_total (λ (n : Node). n.from) nat_cmp_total) ends

pub split_cmp_total : IsTotalOrder split_cmp
split_cmp_total = then_total {R = on (λ (s : Split). s.rule.0) nat_cmp} {S = on (λ (s : Split). s.cuts) (slice_cmp nat_cmp)}
    (on_total (λ (s : Split). s.rule.0) nat_cmp_total) (on_total (λ (s : Split). s.cuts) nat_list_cmp_total)

-- neither part tells them apart
pub then_equal : (a b : Ordering) → ordering_then a b ≡ Equal → (a ≡ Equal) × (b ≡ Equal)
then_equal Less b e = absurd cc
then_equal Equal b e = (refl, e)
then_equal Greater b e = absurd cc

-- rules ascend where each is above the one before it
pub all_ascend : (rules : List Rule) (n : ℕ) → length rules ≤ n → ((k : ℕ) (d : Rule) → k + 1 < n → rule_cmp (get_or rules k d) (get_or rules (k + 1) d) ≡ Less)
    → IsStrictlySortedBy rule_cmp rules
all_ascend rules n whole each =
    let none : Rule = record { number = record { 0 = 0 }; left = record { 0 = 0 }; right = [] } in
    sorted_from_all_adjacent rule_cmp_total rules none (λ k l. each k none (omega arith))

pub not_ascending : (rules : List Rule) (at : ℕ) (a b : Rule) → a ≡ get_or rules (at - 1) a → b ≡ get_or rules at b → 1 ≤ at → at < length rules
    → b.number.0 ≤ a.number.0 → IsStrictlySortedBy rule_cmp rules → ⊥
not_ascending rules at a b is_a is_b one within above sorted =
    let same : get_or rules at a ≡ b = get_or_default rules at a b within ∙ sym is_b in
    let less : rule_cmp a b ≡ Less = rw (sym is_a, same) at (Less-from_sorted rule_cmp rules (at - 1) at a sorted (omega arith) within) in
    let below : a.number.0 < b.number.0 = ranked _ _ _ (sym less) in
    omega arith
