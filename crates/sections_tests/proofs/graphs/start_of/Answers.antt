use Rattle.std.proofs.Common.{inl, inr, [], ◌∷◌, Contains, subst, arith}
use Rattle.forest.specs.declared.symbols.TheConstants.{START}
use Rattle.forest.proofs.Ascending.{contains_cases}
use Rattle.item_sets.specs.Prefixes.{start_item, whole, IsItem}
use Rattle.sections_tests.proofs.graphs.start_of.Goals as goal

pub returns : goal.returns
returns c = λ rules item there. elim (contains_cases start_item [] item (subst (λ items. Contains items item) c.start.ensures there)) [
  | inl same ↦ subst (IsItem rules) same (record { right = START ∷ []; has = whole; within = omega arith })
  | inr beyond ↦ absurd (omega (arith, beyond.1))
]
