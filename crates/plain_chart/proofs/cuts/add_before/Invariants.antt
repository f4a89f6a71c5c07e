use Rattle.std.proofs.Common.{◌≡◌, take, ◌++◌, ◌∷◌, map}
use Rattle.plain_chart.proofs.cuts.add_before.Given as goal

abbrev pub invariant-loop-cuts : goal.invariant-loop-cuts
invariant-loop-cuts l = l.found.items ≡ l.fn.found.items ++ map (λ p. l.from ∷ p) (take l.cuts-index l.below)
