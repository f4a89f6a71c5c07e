use Rattle.std.proofs.Common.{◌≡◌, List, [], ◌∷◌, ◌++◌, sym, ◌∙◌, ap, subst}
use Rattle.std.specs.List.{insert}
use Rattle.std.specs.List.Sorted.{IsStrictlySortedBy}
use Rattle.item_sets.specs.declared.item.Item.{Item}
use Rattle.item_sets.specs.Orders.{item_cmp, with_item}
use Rattle.item_sets.proofs.Insertions.{already, inserted, with_item_ascends}
use Rattle.item_sets.proofs.kernel.Kernel.insert.Goals as goal

pub returns-in_default : goal.returns-in_default
returns-in_default c =
    let sorted = subst (λ (items : List Item). IsStrictlySortedBy item_cmp items) (sym c.as_slice-2.ensures) c.self.invariant in
    let same : with_item c.args.item c.as_slice-2.result.now ≡ c.as_slice-2.result.now =
    already c.args.item c.as_slice-2.result.now sorted c.in_default.field-0 c.in_default.ensures.bound c.in_default.ensures.position in
    let is : c.as_slice-2.result.now ≡ c.args.self.now = c.as_slice-2.ensures ∙ c.self.view_is in
    sym (rw is at same)

pub invariant_of-self-2 : goal.invariant_of-self-2
invariant_of-self-2 c =
    let sorted = subst (λ (items : List Item). IsStrictlySortedBy item_cmp items) (sym c.as_slice-2.ensures) c.self.invariant in
    let is = inserted c.args.item c.as_slice-2.result.now sorted c.in-Err.place c.in-Err.ensures.bound c.in-Err.ensures.position in
    let both = c.in_ok-insert.ensures.ok ∙ ap (λ items. insert items c.in-Err.place c.args.item) (sym c.as_slice-2.ensures) ∙ is in
    rw both (with_item_ascends c.args.item c.as_slice-2.result.now sorted)

pub returns : goal.returns
returns c =
    let sorted = subst (λ (items : List Item). IsStrictlySortedBy item_cmp items) (sym c.as_slice-2.ensures) c.self.invariant in
    let is = inserted c.args.item c.as_slice-2.result.now sorted c.in-Err.place c.in-Err.ensures.bound c.in-Err.ensures.position in
    let both = c.in_ok-insert.ensures.ok ∙ ap (λ items. insert items c.in-Err.place c.args.item) (sym c.as_slice-2.ensures) ∙ is in
    both ∙ ap (λ items. with_item c.args.item items) (c.as_slice-2.ensures ∙ c.self.view_is)

behind : (items : List Item) (item : Item) (new : List Item) → IsStrictlySortedBy item_cmp items → new ≡ items ++ item ∷ []
    → items ++ item ∷ [] ≡ with_item item items → IsStrictlySortedBy item_cmp new
behind items item new sorted pushed is =
    subst (λ (all : List Item). IsStrictlySortedBy item_cmp all) (sym (pushed ∙ is)) (with_item_ascends item items sorted)

pub invariant_of-self-then-is_behind : goal.invariant_of-self-then-is_behind
invariant_of-self-then-is_behind c =
    let is = subst (λ (items : List Item). items ++ c.args.item ∷ [] ≡ with_item c.args.item items) c.as_slice.ensures
    (c.is_behind.ensures c.if-is_behind.true) in
    behind c.self.inside.items.items c.args.item _ c.self.invariant c.in_ok-push.ensures.ok is
