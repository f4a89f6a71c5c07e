-- The test whether two kernels are the same says so exactly.
use Rattle.std.proofs.Common.{◌≡◌, List, refl, ap, ◌∙◌}
use Rattle.std.specs.Bool.{Decides}
use Rattle.std.specs.Cmp.{unsigned_Decides}
use Rattle.std.specs.Cmp.Lexicographic.{pointwise}
use Rattle.std.specs.Prelude.{nat_eq}
use Rattle.std.proofs.lemmas.Bool.{and_parts, and_from}
use Rattle.std.proofs.lemmas.Slice.Eq.{slice_eq-Decides}
use Rattle.forest.specs.declared.rules.RuleId.{RuleId}
use Rattle.item_sets.specs.declared.item.Item.{Item}
use Rattle.item_sets.specs.Orders.{item_eq}
use Rattle.item_sets.specs.Prefixes.{item_at}

item_eq-decides : (a b : Item) → Decides (item_eq a b) (a ≡ b)
item_eq-decides a b =
    let rules = unsigned_Decides a.rule.0 b.rule.0 in
    let dots = unsigned_Decides a.dot b.dot in (
      λ e. let both = and_parts (nat_eq a.rule.0 b.rule.0) (nat_eq a.dot b.dot) e in
          ap (λ n. item_at (let r : RuleId = record { 0 = n } in r) a.dot) (rules.0 both.0) ∙ ap (λ n. item_at b.rule n) (dots.0 both.1),
      λ e. and_from (nat_eq a.rule.0 b.rule.0) (nat_eq a.dot b.dot) (rules.1 (ap (λ (i : Item). i.rule.0) e)) (dots.1 (ap (λ (i : Item). i.dot) e)),
    )

pub kernel_eq-decides : (a b : List Item) → Decides (pointwise item_eq a b) (a ≡ b)
kernel_eq-decides a b = slice_eq-Decides item_eq-decides a b (pointwise item_eq a b) refl
