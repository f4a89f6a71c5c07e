-- What is made of elements in order, with their numbers, is in order.
use Rattle.std.proofs.Common.{◌≡◌, ℕ, List, [], ◌∷◌, Option, Some, None, Contains, refl, sym, ap, ◌∙◌, subst}
use Rattle.std.specs.List.{filter_map, cons_option}
use Rattle.std.specs.List.Sorted.{IsStrictlySortedBy}
use Rattle.std.specs.Ordering.{nat_cmp}
use Rattle.std.specs.declared.cmp.Ordering.TheVariants.{Less}
use Rattle.forest.proofs.Ascending.{contains_here, contains_there}
use Rattle.edit_log.proofs.PlainLists.{by_key}
use Rattle.item_sets.proofs.DistinctLists.{makes}
use Rattle.isg_states.proofs.MarkLists.{each_of, all_of}

module _ {X Y : Type 0} (f : X → Option Y) (key : X → ℕ) (number : Y → ℕ) where
  pub made_ascends : (xs : List X) → ((x : X) (y : Y) → Contains xs x → f x ≡ Some y → number y ≡ key x) → IsStrictlySortedBy (by_key key) xs
      → IsStrictlySortedBy (by_key number) (filter_map f xs)
  unfolding IsStrictlySortedBy
  made_ascends [] numbers sorted = tt
  made_ascends (x ∷ xs) numbers sorted = by (f x) refl (made_ascends xs (λ a b there is. numbers a b (contains_there x xs a there) is) sorted.1)
    where
      by : (o : Option Y) → f x ≡ o → IsStrictlySortedBy (by_key number) (filter_map f xs)
          → IsStrictlySortedBy (by_key number) (cons_option o (filter_map f xs))
      by None e rest = rest
      by (Some y) e rest = (
        all_of (λ other. by_key number y other ≡ Less) (filter_map f xs) (λ other c.
            let m = makes f xs other c in
            let below = each_of (λ z. by_key key x z ≡ Less) xs sorted.0 m.from m.there in
            let first : number y ≡ key x = numbers x y (contains_here x xs) e in
            let second : number other ≡ key m.from = numbers m.from other (contains_there x xs m.from m.there) m.is in
            rw (first, second) below),
        rest,
      )
