-- A list of items is known by its set, and what the kernels of prefixes are.
use Rattle.std.proofs.Common.{◌≡◌, ◌<◌, ◌↔◌, inl, inr, List, [], ◌∷◌, refl, sym, subst, arith, Contains}
use Rattle.std.proofs.lemmas.Option.{slice_get_within}
use Rattle.std.specs.Ordering.{nat_cmp, on}
use Rattle.std.specs.Cmp.{IsTotalOrder, nat_cmp_total, then_total, on_total}
use Rattle.std.specs.List.Sorted.{IsStrictlySortedBy}
use Rattle.forest.specs.declared.symbols.SymbolId.{SymbolId}
use Rattle.forest.specs.declared.symbols.TheConstants.{START}
use Rattle.forest.specs.declared.rules.Rule.{Rule}
use Rattle.forest.proofs.Ascending.{same_list, contains_here, contains_cases}
use Rattle.item_sets.specs.declared.item.Item.{Item}
use Rattle.item_sets.specs.Orders.{item_cmp}
use Rattle.item_sets.specs.Prefixes.{start_item, start_kernel, whole, live, IsItem, AreItems, EndsChain, first, later, InKernel, IsListOf, IsKernelOf}
use Rattle.item_sets.specs.Expansions.{InMove, past}
use Rattle.item_sets.proofs.Chains.{snoc_some, Steps, begin, shift, predict, to_steps}

pub item_cmp_total : IsTotalOrder item_cmp
item_cmp_total = then_total {R = on (λ a. a.rule.0) nat_cmp} {S = on (λ a. a.dot) nat_cmp} (on_total (λ (a : Item). a.rule.0) nat_cmp_total)
    (on_total (λ (a : Item). a.dot) nat_cmp_total)

-- two lists of one set are one list
pub one_list : {P Q : Item → Type 0} {s t : List Item} → IsListOf s P → IsListOf t Q → ((it : Item) → P it ↔ Q it) → s ≡ t
one_list {s = s} {t = t} a b f = same_list item_cmp item_cmp_total s t a.ascends b.ascends
    (λ x c. b.whole x ((f x).0 (a.within x c)))
    (λ x c. a.whole x ((f x).1 (b.within x c)))

pub same_set : {P Q : Item → Type 0} {s : List Item} → IsListOf s P → ((it : Item) → P it ↔ Q it) → IsListOf s Q
same_set a f = record { ascends = a.ascends; within = λ it c. (f it).0 (a.within it c); whole = λ it q. a.whole it ((f it).1 q) }

nothing_moved : {rules : List Rule} {h : List SymbolId} {item : Item} → Steps rules h item → h ≡ [] → 0 < item.dot → ⊥
nothing_moved begin e l = omega arith
nothing_moved (shift {g = g} {x = x} s n) e l = snoc_some g x e
nothing_moved (predict s n c) e l = omega arith

only_start : (rules : List Rule) (item : Item) → InKernel rules [] item → item ≡ start_item
only_start rules item k = elim k.1 [ inl l ↦ absurd (nothing_moved (to_steps k.0) refl l) | inr e ↦ e.1 ]

pub start_list : (rules : List Rule) → IsKernelOf rules [] start_kernel
unfolding IsStrictlySortedBy
start_list rules = record {
  ascends = (tt, tt);
  within = λ item c. elim (contains_cases start_item [] item c) [
    | inl e ↦ subst (λ it. InKernel rules [] it) e
        (first {d = 0} (omega arith), inr (refl, refl))
    | inr d ↦ absurd (omega (arith, d.1))
  ];
  whole = λ item k. subst (λ it. Contains start_kernel it) (sym (only_start rules item k)) (contains_here start_item []);
}

valid_is_item : {rules : List Rule} {g : List SymbolId} {item : Item} → EndsChain rules g item → IsItem rules item
valid_is_item (first l) = record { right = START ∷ []; has = whole; within = l }
valid_is_item (later {r = r} before next c l) = record { right = r.right; has = live c; within = l }

pub kernel_items : (rules : List Rule) (g : List SymbolId) (kernel : List Item) → IsKernelOf rules g kernel → AreItems rules kernel
kernel_items rules g kernel k = λ item c. valid_is_item (k.within item c).0

pub moved_is_item : {rules : List Rule} {K : Item → Type 0} {x : SymbolId} {item : Item} → InMove rules K x item → IsItem rules item
moved_is_item (past {d = d} c n) = record { right = n.right; has = n.has; within = slice_get_within n.right d _ n.at_dot }
