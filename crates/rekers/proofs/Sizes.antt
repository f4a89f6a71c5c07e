-- A text has one size.
use Rattle.std.proofs.Common.{◌≡◌, ℕ, ◌<◌, ◌≤◌, List, length, arith}
use Rattle.forest.specs.declared.symbols.SymbolId.{SymbolId}
use Rattle.forest.specs.declared.rules.Rule.{Rule}
use Rattle.forest.proofs.Counting.{at_most}
use Rattle.forest.specs.Distinct.{AreAll}
use Rattle.rekers.specs.Size.{AreSome, IsSize, IsAbove}

-- some of a set are no more than all of it
some_of_all : {X : Type 0} {P : X → Type 0} {xs ys : List X} → AreSome xs P → AreAll P ys → length xs ≤ length ys
some_of_all {xs = xs} {ys = ys} some all = at_most xs ys some.distinct (λ x c. all.all x (some.within x c))

all_are_some : {X : Type 0} {P : X → Type 0} {xs : List X} → AreAll P xs → AreSome xs P
all_are_some all = record { distinct = all.distinct; within = λ x c. all.within x c }

pub size_above : (rules : List Rule) (tokens : List SymbolId) (size limit : ℕ) → IsSize rules tokens size → IsAbove rules tokens limit → limit < size
size_above rules tokens size limit s a =
    omega (arith, s.sum, a.more, some_of_all a.some_links s.all_links, some_of_all a.some_splits s.all_splits)

pub one_size : (rules : List Rule) (tokens : List SymbolId) (a b : ℕ) → IsSize rules tokens a → IsSize rules tokens b → a ≡ b
one_size rules tokens a b s t = omega (
  arith,
  s.sum,
  t.sum,
  some_of_all (all_are_some s.all_links) t.all_links,
  some_of_all (all_are_some t.all_links) s.all_links,
  some_of_all (all_are_some s.all_splits) t.all_splits,
  some_of_all (all_are_some t.all_splits) s.all_splits,
)
