-- In a well-formed grammar a number tells its right side.
use Rattle.std.proofs.Common.{◌≡◌, ◌<◌, inl, inr, List, [], ◌∷◌, refl, sym, ap, arith, Contains}
use Rattle.std.specs.List.Sorted.{IsStrictlySortedBy}
use Rattle.std.specs.declared.cmp.Ordering.TheVariants.{Less}
use Rattle.std.proofs.lemmas.Cmp.{ranked}
use Rattle.forest.specs.declared.symbols.SymbolId.{SymbolId}
use Rattle.forest.specs.declared.rules.RuleId.{RuleId}
use Rattle.forest.specs.declared.rules.Rule.{Rule}
use Rattle.forest.specs.Orders.{rule_cmp}
use Rattle.forest.proofs.Ascending.{contains_cases}
use Rattle.edit_log.specs.History.{Grammar}
use Rattle.edit_log.specs.Facts.{IsWellFormed}
use Rattle.edit_log.proofs.PlainLists.{each_contained}
use Rattle.item_sets.specs.Prefixes.{rule_zero, HasRight, whole, live}
use Rattle.item_sets.proofs.Chains.{HasOneRight}

-- each number names one rule, and 0 names none
pub record IsNumbered (rules : List Rule) : Type 0 where
  pub same : (a b : Rule) → Contains rules a → Contains rules b → a.number ≡ b.number → a ≡ b
  pub some : (a : Rule) → Contains rules a → a.number ≡ rule_zero → ⊥

one_by_number : {rules : List Rule} {k l : RuleId} {a b : List SymbolId} → IsNumbered rules → HasRight rules k a → HasRight rules l b → k ≡ l → a ≡ b
one_by_number n whole whole e = refl
one_by_number n whole (live {r = r} c) e = absurd (n.some r c (sym e))
one_by_number n (live {r = r} c) whole e = absurd (n.some r c e)
one_by_number n (live {r = r} c) (live {r = s} d) e = ap (λ (q : Rule). q.right) (n.same r s c d e)

pub one_right : (rules : List Rule) → IsNumbered rules → HasOneRight rules
one_right rules n = record { one = λ k a b h i. one_by_number n h i refl }

below : (a b : Rule) → rule_cmp a b ≡ Less → a.number.0 < b.number.0
below a b e = ranked _ _ _ (sym e)

one_rule : (rules : List Rule) → IsStrictlySortedBy rule_cmp rules → (a b : Rule) → Contains rules a → Contains rules b → a.number ≡ b.number → a ≡ b
unfolding IsStrictlySortedBy
one_rule [] s a b (k, l, e) d f = absurd (omega arith)
one_rule (r ∷ rules) s a b c d f =
    let same : a.number.0 ≡ b.number.0 = ap (λ (k : RuleId). k.0) f in
    elim (contains_cases r rules a c) [
      | inl e ↦ elim (contains_cases r rules b d) [
        | inl g ↦ cc
        | inr g ↦ let less : r.number.0 < b.number.0 = below r b (each_contained _ rules b s.0 g) in
            let here : r.number.0 ≡ a.number.0 = ap (λ (q : Rule). q.number.0) e in absurd (omega arith)
      ]
      | inr e ↦ elim (contains_cases r rules b d) [
        | inl g ↦ let less : r.number.0 < a.number.0 = below r a (each_contained _ rules a s.0 e) in
            let here : r.number.0 ≡ b.number.0 = ap (λ (q : Rule). q.number.0) g in absurd (omega arith)
        | inr g ↦ one_rule rules s.1 a b e g f
      ]
    ]

pub numbered : (grammar : Grammar) → IsWellFormed grammar → IsNumbered grammar.rules
numbered grammar w = record {
  same = one_rule grammar.rules w.rule_order;
  some = λ a c e. let is = each_contained _ grammar.rules a w.rule_numbers c in let z : a.number.0 ≡ 0 = ap (λ (k : RuleId). k.0) e in omega (arith, is.0);
}
