-- What a kernel expands to is told by the kernel, and by its prefix where it is that of one.
use Rattle.std.proofs.Common.{◌≡◌, ℕ, ◌↔◌, List, [], ◌∷◌, ◌++◌, arith, Contains}
use Rattle.std.specs.Cmp.{IsTotalOrder, nat_cmp_total, on_total}
use Rattle.forest.specs.declared.symbols.SymbolId.{SymbolId}
use Rattle.forest.specs.declared.rules.RuleId.{RuleId}
use Rattle.forest.specs.declared.rules.Rule.{Rule}
use Rattle.forest.proofs.Ascending.{same_list}
use Rattle.forest.proofs.Counting.{at_most}
use Rattle.item_sets.specs.declared.item.Item.{Item}
use Rattle.item_sets.specs.declared.expansion.Expansion.{Expansion}
use Rattle.item_sets.specs.Orders.{move_cmp, reduction_cmp}
use Rattle.item_sets.specs.Prefixes.{AreItems, EndsChain, InKernel, IsViable, IsKernelOf}
use Rattle.item_sets.specs.Expansions.{InClosure, own, added, InMove, past, IsMoveOf, IsExpansionOf, IsCost}
use Rattle.item_sets.proofs.Chains.{HasOneRight, closure_is_valid, kernel_is_move, viable_is_move}
use Rattle.item_sets.proofs.Kernels.{same_set, moved_is_item}

pub closure_of_more : {rules : List Rule} {K L : Item → Type 0} {item : Item} → ((it : Item) → K it → L it) → InClosure rules K item → InClosure rules L item
closure_of_more f (own k) = own (f _ k)
closure_of_more f (added c n r) = added (closure_of_more f c) n r

move_of_more : {rules : List Rule} {K L : Item → Type 0} {x : SymbolId} {item : Item} → ((it : Item) → K it → L it) → InMove rules K x item
    → InMove rules L x item
move_of_more f (past c n) = past (closure_of_more f c) n

module _ (rules : List Rule) (numbers : HasOneRight rules) {g : List SymbolId} {kernel : List Item} (is : IsKernelOf rules g kernel) where
  pub valid_items : (item : Item) → InClosure rules (Contains kernel) item ↔ EndsChain rules g item
  valid_items item = (
    λ c. (closure_is_valid rules numbers g item).0 (closure_of_more is.within c),
    λ v. closure_of_more is.whole ((closure_is_valid rules numbers g item).1 v),
  )

  moves_agree : (x : SymbolId) (item : Item) → InMove rules (Contains kernel) x item ↔ InKernel rules (g ++ x ∷ []) item
  moves_agree x item = (
    λ m. (kernel_is_move rules numbers g x item).1 (move_of_more is.within m),
    λ m. move_of_more is.whole ((kernel_is_move rules numbers g x item).0 m),
  )

  pub moves_to : (x : SymbolId) (upper : List Item) → IsMoveOf rules kernel x upper → IsViable rules (g ++ x ∷ []) × IsKernelOf rules (g ++ x ∷ []) upper
  moves_to x upper m = (
    (viable_is_move rules numbers g x).1 (m.some.0, move_of_more is.within m.some.1),
    same_set m.list (moves_agree x),
  )

  pub moves_from : (x : SymbolId) (upper : List Item) → IsViable rules (g ++ x ∷ []) → IsKernelOf rules (g ++ x ∷ []) upper → IsMoveOf rules kernel x upper
  moves_from x upper v k =
      let some = (viable_is_move rules numbers g x).0 v in
      record { some = (some.0, move_of_more is.whole some.1); list = same_set k (λ it. ((moves_agree x it).1, (moves_agree x it).0)) }

pub upper_items : (rules : List Rule) (kernel : List Item) (expansion : Expansion) → IsExpansionOf rules kernel expansion → (x : SymbolId) (upper : List Item)
    → Contains expansion.moves (x, upper) → AreItems rules upper
upper_items rules kernel expansion e x upper c = λ item d. moved_is_item (((e.moves x upper).0 c).list.within item d)

-- ---- one expansion, one cost

move_cmp_total : IsTotalOrder move_cmp
move_cmp_total = on_total (λ (m : SymbolId × List Item). m.0.0) nat_cmp_total

pub reduction_cmp_total : IsTotalOrder reduction_cmp
reduction_cmp_total = on_total (λ (k : RuleId). k.0) nat_cmp_total

module _ (rules : List Rule) (kernel : List Item) where
  pub one_moves : (a b : Expansion) → IsExpansionOf rules kernel a → IsExpansionOf rules kernel b → a.moves ≡ b.moves
  one_moves a b e f = same_list move_cmp move_cmp_total a.moves b.moves e.move_order f.move_order
      (λ m c. (f.moves m.0 m.1).1 ((e.moves m.0 m.1).0 c))
      (λ m c. (e.moves m.0 m.1).1 ((f.moves m.0 m.1).0 c))

  pub one_reductions : (a b : Expansion) → IsExpansionOf rules kernel a → IsExpansionOf rules kernel b → a.reductions ≡ b.reductions
  one_reductions a b e f = same_list reduction_cmp reduction_cmp_total a.reductions b.reductions e.reduction_order f.reduction_order
      (λ k c. (f.reductions k).1 ((e.reductions k).0 c))
      (λ k c. (e.reductions k).1 ((f.reductions k).0 c))

  pub one_count : (a b : ℕ) → IsCost rules kernel a → IsCost rules kernel b → a ≡ b
  one_count a b e f = omega (
    arith,
    e.count,
    f.count,
    at_most e.items f.items e.distinct (λ it c. (f.members it).1 ((e.members it).0 c)),
    at_most f.items e.items f.distinct (λ it c. (e.members it).1 ((f.members it).0 c)),
  )
