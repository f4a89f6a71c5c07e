use Rattle.std.proofs.Common.{◌≡◌, ◌<◌, ◌⊎◌, inl, inr, subst}
use Rattle.std.proofs.lemmas.List.Elements.{Contains-push_cases}
use Rattle.packed_spans.specs.declared.span.TheConstants.{TOKEN_PART}
use Rattle.packed_spans_tests.proofs.rows.parts_of.Goals as goal

pub loop-byte-preserved : goal.loop-byte-preserved
loop-byte-preserved c = λ part k. elim (Contains-push_cases _ _ part (rw c.in_ok-push.ensures.items at k)) [
  | inl before ↦ c.loop-byte.invariant part before
  | inr same ↦ subst (λ p. (p ≡ TOKEN_PART) ⊎ (p < c.args.count)) same c.part_of.ensures
]
