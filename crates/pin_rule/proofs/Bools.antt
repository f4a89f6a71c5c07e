-- Truth values that clash, and what a condition of two parts tells.
use Rattle.std.proofs.Common.{◌≡◌, refl}
use mathlib.Core.Bool.{cond}
use Rattle.std.specs.Prelude.{Bool, true, false}

pub no_bool : (let f : Bool = false in f ≡ true) → ⊥
no_bool e = cc

pub true_false : (let t : Bool = true in t ≡ false) → ⊥
true_false e = cc

pub both_true : (a b : Bool) → cond a b false ≡ true → (a ≡ true) × (b ≡ true)
both_true true b e = (refl, e)
both_true false b e = absurd (no_bool e)
