-- Lists of numbers by place, one of which changes.
use Rattle.std.proofs.Common.{◌≡◌, ℕ, zero, suc, ◌<◌, ◌==◌, inl, inr, List, [], ◌∷◌, length, set, slice_get, get_or, Some, refl, sym, ap, ◌∙◌, arith, Contains}
use Rattle.std.proofs.Common.{Vec, subst, if◌then◌else◌}
use Rattle.std.specs.declared.alloc.Global.{Global}
use Rattle.std.specs.Option.{option_map_or}
use Rattle.std.proofs.lemmas.Bool.{cases_eq, eq-eqb, ne_eqb}
use Rattle.std.proofs.lemmas.Option.{slice_get_cases, slice_get_read}
use Rattle.forest.specs.declared.rules.RuleId.{RuleId}
use Rattle.edit_log.specs.Lists.{under}

slice_get-set_same : {X : Type 0} (xs : List X) (i : ℕ) (y : X) → i < length xs → slice_get (set xs i y) i ≡ Some y
slice_get-set_same [] i y within = absurd (omega arith)
slice_get-set_same (x ∷ xs) zero y within = refl
slice_get-set_same (x ∷ xs) (suc i) y within = slice_get-set_same xs i y (omega arith)

slice_get-set_other : {X : Type 0} (xs : List X) (i k : ℕ) (y : X) → (k ≡ i → ⊥) → slice_get (set xs i y) k ≡ slice_get xs k
slice_get-set_other [] i k y other = refl
slice_get-set_other (x ∷ xs) zero zero y other = absurd (other refl)
slice_get-set_other (x ∷ xs) zero (suc k) y other = refl
slice_get-set_other (x ∷ xs) (suc i) zero y other = refl
slice_get-set_other (x ∷ xs) (suc i) (suc k) y other = slice_get-set_other xs i k y (λ e. other (ap suc e))

pub under_at : (lists : List (Vec RuleId Global)) (i : ℕ) (list : Vec RuleId Global) → i < length lists → list ≡ get_or lists i list
    → under lists i ≡ list.items
under_at lists i list within is = ap (λ found. option_map_or (λ (list : Vec RuleId Global). list.items) found [])
    (slice_get_read lists (length lists) i list refl within is)

pub under_get : (lists : List (Vec RuleId Global)) (i : ℕ) (list : Vec RuleId Global) → slice_get lists i ≡ Some list → under lists i ≡ list.items
under_get lists i list is = ap (λ found. option_map_or (λ (list : Vec RuleId Global). list.items) found []) is

-- a list with an element is there
pub under_within : (lists : List (Vec RuleId Global)) (i : ℕ) (x : RuleId) → Contains (under lists i) x → i < length lists
under_within lists i x c = elim (slice_get_cases lists i).1 [
  | inl (list, within, is, same) ↦ within
  | inr (past, none) ↦
      let empty : under lists i ≡ [] = ap (λ found. option_map_or (λ (list : Vec RuleId Global). list.items) found []) none in
      let there : Contains {X = RuleId} [] x = subst (λ (xs : List RuleId). Contains xs x) empty c in
      absurd (omega (arith, there.1))
]

-- one list is another, of which the old one tells what it holds
pub under_changed : (lists : List (Vec RuleId Global)) (i : ℕ) (list : Vec RuleId Global) (f : List RuleId → List RuleId) → i < length lists
    → list.items ≡ f (under lists i)
    → (place : ℕ) → under (set lists i list) place ≡ (if place == i then f (under lists place) else under lists place)
under_changed lists i list f within is place = elim (cases_eq place i) [
  | inl e ↦
      let at : under (set lists i list) i ≡ list.items = ap (λ found. option_map_or (λ (list : Vec RuleId Global). list.items) found [])
      (slice_get-set_same lists i list within) in
      rw (eq-eqb place i e) (ap (under (set lists i list)) e ∙ at ∙ is ∙ ap (λ n. f (under lists n)) (sym e))
  | inr other ↦ rw (ne_eqb place i other) (ap (λ found. option_map_or (λ (list : Vec RuleId Global). list.items) found [])
      (slice_get-set_other lists i place list other))
]

-- one list is another with the same numbers
pub under_same : (lists : List (Vec RuleId Global)) (i : ℕ) (list : Vec RuleId Global) → list.items ≡ under lists i → (place : ℕ)
    → under (set lists i list) place ≡ under lists place
under_same [] i list is place = refl
under_same (x ∷ xs) zero list is zero = is
under_same (x ∷ xs) zero list is (suc place) = refl
under_same (x ∷ xs) (suc i) list is zero = refl
under_same (x ∷ xs) (suc i) list is (suc place) = under_same xs i list is place
