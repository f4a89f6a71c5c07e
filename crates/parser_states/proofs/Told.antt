-- The reductions by finished rules, one after the other.
use Rattle.std.proofs.Common.{◌≡◌, ℕ, ◌+◌, ◌<◌, Bool, true, false, not, List, [], ◌∷◌, ◌++◌, length, take, get_or, Option, Some, None, refl, sym, ap, ◌∙◌}
use Rattle.std.proofs.Common.{eqb, append_assoc}
use Rattle.std.specs.List.{filter_map, cons_option}
use Rattle.std.proofs.lemmas.List.{take_more}
use Rattle.std.proofs.lemmas.List.Elements.{filter_map-append}
use mathlib.Core.Bool.{beq}
use Rattle.forest.specs.declared.rules.RuleId.{RuleId}
use Rattle.forest.specs.declared.rules.Rule.{Rule}
use Rattle.edit_log.specs.Lookups.{rule_of}
use Rattle.parser_states.specs.declared.reduction.Reduction.{Reduction}
use Rattle.parser_states.specs.Reductions.{reduction_by}
use Rattle.parser_states.specs.Finished.{is_wanted, reduction_told, reductions_told}
use Rattle.parser_states.proofs.PlainParts.{append_nil}

-- what is wanted, by what the code asks of a length
tested : (empty none : Bool) → Bool
tested true none = none
tested false none = not none

passes : (empty none : Bool) → not (beq none empty) ≡ false → tested empty none ≡ true
unfolding tested
passes true true e = refl
passes true false e = absurd cc
passes false true e = absurd cc
passes false false e = refl

fails : (empty none : Bool) → not (beq none empty) ≡ true → tested empty none ≡ false
unfolding tested
fails true true e = absurd cc
fails true false e = refl
fails false true e = refl
fails false false e = absurd cc

wanted_is : (empty : Bool) (n : ℕ) → is_wanted empty n ≡ tested empty (eqb n 0)
unfolding tested
wanted_is true n = refl
wanted_is false n = refl

module _ (rules : List Rule) (empty : Bool) (numbers : List RuleId) (i : ℕ) (number : RuleId) (within : i < length numbers) (here : get_or numbers i
    (record { 0 = 0 }) ≡ number) (first old : List Reduction) (is : old ≡ first ++ reductions_told rules empty (take i numbers)) where
  one : List Reduction
  one = cons_option (reduction_told empty (rule_of rules number)) []

  told_next : (new : List Reduction) → new ≡ old ++ one → new ≡ first ++ reductions_told rules empty (take (i + 1) numbers)
  unfolding one
  told_next new more =
      let each : RuleId → Option Reduction = λ n. reduction_told empty (rule_of rules n) in
      let longer : take (i + 1) numbers ≡ take i numbers ++ number ∷ [] =
      take_more numbers i (record { 0 = 0 }) within ∙ ap (λ n. take i numbers ++ n ∷ []) here in
      more ∙ ap (λ l. l ++ one) is ∙ append_assoc first (filter_map each (take i numbers)) one
      ∙ ap (λ l. first ++ l) (sym (ap (filter_map each) longer ∙ filter_map-append each (take i numbers) (number ∷ [])))

  pub told_none : rule_of rules number ≡ None → old ≡ first ++ reductions_told rules empty (take (i + 1) numbers)
  unfolding one
  told_none gone = told_next old (sym (append_nil old) ∙ ap (λ o. old ++ cons_option (reduction_told empty o) []) (sym gone))

  pub told_other : (r : Rule) → rule_of rules number ≡ Some r → not (beq (eqb (length r.right) 0) empty) ≡ true
      → old ≡ first ++ reductions_told rules empty (take (i + 1) numbers)
  unfolding one
  told_other r live other =
      let no : is_wanted empty (length r.right) ≡ false = wanted_is empty (length r.right) ∙ fails empty (eqb (length r.right) 0) other in
      let none : reduction_told empty (rule_of rules number) ≡ None = ap (reduction_told empty) live ∙ rw no refl in
      told_next old (sym (append_nil old) ∙ ap (λ o. old ++ cons_option o []) (sym none))

  pub told_one : (r : Rule) (new : List Reduction) → rule_of rules number ≡ Some r → not (beq (eqb (length r.right) 0) empty) ≡ false
      → new ≡ old ++ reduction_by r ∷ []
      → new ≡ first ++ reductions_told rules empty (take (i + 1) numbers)
  unfolding one
  told_one r new live is_one more =
      let yes : is_wanted empty (length r.right) ≡ true = wanted_is empty (length r.right) ∙ passes empty (eqb (length r.right) 0) is_one in
      let some : reduction_told empty (rule_of rules number) ≡ Some (reduction_by r) = ap (reduction_told empty) live ∙ rw yes refl in
      told_next new (more ∙ ap (λ o. old ++ cons_option o []) (sym some))
