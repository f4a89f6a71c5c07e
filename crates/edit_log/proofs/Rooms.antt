-- Memory for rules under each left side, where one list gets more.
use Rattle.std.proofs.Common.{◌≡◌, ◌≤◌, ℕ, zero, suc, List, [], ◌∷◌, length, map, slice_get, slice_set, slice_index_or, Some, IfSome, Vec, refl, ap, ◌∙◌, subst}
use Rattle.std.proofs.Common.{arith}
use Rattle.std.specs.declared.alloc.Global.{Global}
use Rattle.std.proofs.lemmas.Option.{same_Some}
use Rattle.forest.specs.declared.rules.RuleId.{RuleId}
use Rattle.edit_log.specs.Replicas.{room_of}

-- one list of rules gets more memory
pub under_set : (lists : List (Vec RuleId Global)) (at : ℕ) (old list : Vec RuleId Global) → old ≡ slice_index_or lists at old → room_of old ≤ room_of list
    → (place count : ℕ) → slice_get (map room_of lists) place ≡ Some count → (more : ℕ) × (slice_get (map room_of (slice_set lists at list)) place ≡ Some more)
    × (count ≤ more)
under_set [] at old list is less place count told = absurd cc
under_set (x ∷ xs) zero old list is less zero count told =
    let same : room_of x ≡ count = same_Some (room_of x) count told in
    (room_of list, refl, subst (λ n. n ≤ room_of list) (ap room_of is ∙ same) less)
under_set (x ∷ xs) zero old list is less (suc place) count told = (count, told, omega arith)
under_set (x ∷ xs) (suc at) old list is less zero count told = (count, told, omega arith)
under_set (x ∷ xs) (suc at) old list is less (suc place) count told = under_set xs at old list is less place count told

pub under_at : (lists : List (Vec RuleId Global)) (at : ℕ) (list : Vec RuleId Global) → 1 ≤ room_of list
    → IfSome (slice_get (map room_of (slice_set lists at list)) at) (λ count. 1 ≤ count)
under_at [] at list some = tt
under_at (x ∷ xs) zero list some = some
under_at (x ∷ xs) (suc at) list some = under_at xs at list some

pub under_past : (lists : List (Vec RuleId Global)) (at : ℕ) → length lists ≤ at → IfSome (slice_get (map room_of lists) at) (λ count. 1 ≤ count)
under_past [] at past = tt
under_past (x ∷ xs) zero past = absurd (omega (arith, past))
under_past (x ∷ xs) (suc at) past = under_past xs at (omega (arith, past))
