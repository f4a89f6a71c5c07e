-- What an edit does to the rules: one more, one less, or nothing.
use Rattle.std.proofs.Common.{◌≡◌, ℕ, ◌+◌, ◌<◌, ◌≤◌, ◌==◌, ◌⊎◌, inl, inr, Bool, true, false, not, cond, List, [], ◌∷◌, ◌++◌, filter, Option, Some, None}
use Rattle.std.proofs.Common.{option_map, refl, sym, ◌∙◌, ap, subst, arith, Contains}
use Rattle.std.specs.List.{AllByRecursion}
use Rattle.std.proofs.lemmas.Bool.{eqb-true, eqb-false, eq-eqb, cases_eq, ne_eqb}
use Rattle.std.proofs.lemmas.Option.{get_or_from_slice_get}
use Rattle.std.proofs.lemmas.List.Elements.{Contains-append_left, Contains-push, Contains-push_cases}
use Rattle.grammar_text.specs.declared.symbol.Symbol.TheVariants.{Named}
use Rattle.grammar_text.specs.declared.edit.RuleText.{RuleText}
use Rattle.grammar_text.specs.declared.edit.DefText.{DefText}
use Rattle.grammar_text.specs.declared.edit.Edit.{Edit}
use Rattle.grammar_text.specs.declared.edit.Edit.TheVariants.{AddRule, DropRule, AddToken, DropToken, AddSkip, DropSkip}
use Rattle.grammar_text.specs.Sameness.{rule_eq-decides}
use Rattle.forest.specs.declared.symbols.SymbolId.{SymbolId}
use Rattle.forest.specs.declared.rules.RuleId.{RuleId}
use Rattle.forest.specs.declared.rules.Rule.{Rule}
use Rattle.edit_log.specs.declared.touch.Touch.{Touch}
use Rattle.edit_log.specs.Symbols.{numbered, number_of, symbol_at, symbol_bytes, symbols_of, text_of, with_symbols}
use Rattle.edit_log.specs.History.{Grammar, after_edit, reads}
use Rattle.edit_log.specs.Facts.{IsWellFormed, IsNamed, IsNumber}
use Rattle.edit_log.specs.Verdict.{IsAccepted, rule_found}
use Rattle.edit_log.specs.Touches.{IsTouchOf}
use Rattle.edit_log.specs.Replicas.{adds, drops}
use Rattle.edit_log.proofs.PlainLists.{each_contained, contains_filter, filter_passes, distinct_map, sorted_keys}
use Rattle.edit_log.proofs.DefinitionOrder.{contains_first, contains_later, contains_cases, contains_none}
use Rattle.edit_log.proofs.LiveByUses.{found_there}
use Rattle.edit_log.proofs.NewLiterals.{place_is}
use Rattle.edit_log.proofs.After.{symbols_stay_rule, rules_dropped, well_formed_after}
use Rattle.edit_log.proofs.Verdicts.{free, rule_there}
use Rattle.item_sets.specs.Prefixes.{rule_zero}
use Rattle.graph_content.proofs.Change.{IsNumbered, IsWith}

-- what an edit with this touch makes of the rules
pub data RuleChange (rules next : List Rule) (touch : Touch) : Type 0 where
  one_more : {r : Rule} → IsWith rules r next → touch.left ≡ Some r.left → touch.gone_rule ≡ None → RuleChange rules next touch
  one_less : {r : Rule} → IsWith next r rules → touch.left ≡ Some r.left → touch.gone_rule ≡ Some r.number → RuleChange rules next touch
  as_before : next ≡ rules → touch.left ≡ None → touch.gone_rule ≡ None → RuleChange rules next touch

abbrev rule_id : ℕ → RuleId
rule_id n = record { 0 = n }

numbers_differ : (g : Grammar) → IsWellFormed g → IsNumbered g.rules
numbers_differ g well = record {
  same = λ a b left right e.
      distinct_map (λ (r : Rule). r.number.0) g.rules a b (sorted_keys (λ (r : Rule). r.number.0) g.rules well.rule_order) left right
      (ap (λ (n : RuleId). n.0) e);
  some = λ a there e.
      let number = each_contained (λ (r : Rule). IsNumber g.version r.number.0) g.rules a well.rule_numbers there in
      let zero : a.number.0 ≡ 0 = ap (λ (n : RuleId). n.0) e in
      omega (arith, number.0, zero);
}

-- ---- one more

with_new : (g : Grammar) (r : RuleText) → IsWellFormed g → IsAccepted g (AddRule r)
    → IsWith g.rules (numbered (with_symbols g.symbols (symbols_of (AddRule r))) (g.version + 1) r) (after_edit g (AddRule r)).rules
unfolding after_edit
with_new g r well accepted =
    let rule = numbered (with_symbols g.symbols (symbols_of (AddRule r))) (g.version + 1) r in
    record {
      numbered = numbers_differ (after_edit g (AddRule r)) (well_formed_after g (AddRule r) well accepted);
      has = Contains-push g.rules rule;
      kept = λ q c. Contains-append_left g.rules (rule ∷ []) q c;
      only = λ q c. elim (Contains-push_cases g.rules rule q c) [ inl d ↦ inl d | inr e ↦ inr (sym e) ];
      new = λ c.
          let number = each_contained (λ (r : Rule). IsNumber g.version r.number.0) g.rules rule well.rule_numbers c in
          omega (arith, number.1);
    }

added_left : (g : Grammar) (r : RuleText)
    → number_of (after_edit g (AddRule r)).symbols (Named r.left) ≡ (numbered (with_symbols g.symbols (symbols_of (AddRule r))) (g.version + 1) r).left
unfolding after_edit
added_left g r = refl

-- ---- one less

contains_kept : {X : Type 0} (test : X → Bool) (xs : List X) (x : X) → Contains xs x → test x ≡ true → Contains (filter test xs) x
contains_kept test [] x c passes = absurd (contains_none x c)
contains_kept {X} test (y ∷ ys) x c passes = by (test y) refl (contains_cases y ys x c) (λ d. contains_kept test ys x d passes)
  where
    by : (b : Bool) → test y ≡ b → (y ≡ x) ⊎ Contains ys x → (Contains ys x → Contains (filter test ys) x)
        → Contains (cond b (y ∷ filter test ys) (filter test ys)) x
    by true is (inl e) rest = subst (Contains (y ∷ filter test ys)) e (contains_first y (filter test ys))
    by true is (inr d) rest = contains_later y (filter test ys) x (rest d)
    by false is (inl e) rest = let fails : test x ≡ false = subst (λ z. test z ≡ false) e is in absurd cc
    by false is (inr d) rest = rest d

-- the rules but the one with this number
abbrev without : List Rule → Rule → List Rule
without rules r = filter (λ other. not (other.number.0 == r.number.0)) rules

not_true : (b : Bool) → not b ≡ true → b ≡ false
not_true true e = sym e
not_true false e = refl

with_old : (rules : List Rule) (r : Rule) → IsNumbered rules → Contains rules r → IsWith (without rules r) r rules
with_old rules r numbered there =
    let test = λ (other : Rule). not (other.number.0 == r.number.0) in
    record {
      numbered = numbered;
      has = there;
      kept = λ q c. contains_filter test rules q c;
      only = λ q c. elim (cases_eq q.number.0 r.number.0) [
        | inl e ↦ inr (numbered.same q r c there (ap rule_id e))
        | inr other ↦ inl (contains_kept test rules q c (ap not (ne_eqb q.number.0 r.number.0 other)))
      ];
      new = λ c.
          let passes : test r ≡ true = each_contained (λ q. test q ≡ true) (filter test rules) r (filter_passes test rules) c in
          eqb-false r.number.0 r.number.0 (not_true (r.number.0 == r.number.0) passes) refl;
    }

-- the left side of the rule that is written so
dropped_left : (g : Grammar) (r : RuleText) (live : Rule) → IsWellFormed g → rule_found g r ≡ Some live → live.left ≡ number_of g.symbols (Named r.left)
dropped_left g r live well found =
    let at = found_there (reads g.symbols r) g.rules live found in
    let read : text_of g.symbols live ≡ r = (rule_eq-decides (text_of g.symbols live) r).0 at.1 in
    let has : IsNamed g.symbols live.left = each_contained (λ (x : Rule). IsNamed g.symbols x.left) g.rules live well.lefts at.0 in
    let is : symbol_at g.symbols live.left ≡ Named has.0 = get_or_from_slice_get g.symbols live.left.0 (Named has.0) (Named []) has.1 in
    let name : has.0 ≡ r.left = sym (ap symbol_bytes is) ∙ ap (λ (x : RuleText). x.left) read in
    let place = place_is g.symbols live.left.0 (Named r.left) well.distinct (has.1 ∙ ap (λ n. Some (Named n)) name) in
    ap (λ n. let s : SymbolId = record { 0 = n } in s) (sym place)

-- ---- each edit

pub rules_stay : (g : Grammar) (skip : Bool) (d : DefText) → (after_edit g (adds skip d)).rules ≡ g.rules
unfolding after_edit
rules_stay g true d = refl
rules_stay g false d = refl

pub rules_remain : (g : Grammar) (skip : Bool) (name : List ℕ) → (after_edit g (drops skip name)).rules ≡ g.rules
unfolding after_edit
rules_remain g true name = refl
rules_remain g false name = refl

pub rule_change : (g : Grammar) (edit : Edit) (touch : Touch) → IsWellFormed g → IsAccepted g edit → IsTouchOf g edit touch
    → RuleChange g.rules (after_edit g edit).rules touch
rule_change g (AddRule r) touch well accepted touches = one_more (with_new g r well accepted) (touches.left ∙ ap Some (added_left g r)) touches.gone_rule
rule_change g (DropRule r) touch well accepted touches =
    let (live, found) = rule_there g r (free g (DropRule r) accepted.taken).lack in
    let there = (found_there (reads g.symbols r) g.rules live found).0 in
    let less = with_old g.rules live (numbers_differ g well) there in
    let left : number_of (after_edit g (DropRule r)).symbols (Named r.left) ≡ live.left =
    ap (λ symbols. number_of symbols (Named r.left)) (symbols_stay_rule g r well accepted) ∙ sym (dropped_left g r live well found) in
    one_less (subst (λ rules. IsWith rules live g.rules) (sym (rules_dropped g r live well accepted found)) less) (touches.left ∙ ap Some left)
    (touches.gone_rule ∙ ap (option_map (λ (x : Rule). x.number)) found)
rule_change g (AddToken d) touch well accepted touches = as_before (rules_stay g false d) touches.left touches.gone_rule
rule_change g (DropToken name) touch well accepted touches = as_before (rules_remain g false name) touches.left touches.gone_rule
rule_change g (AddSkip d) touch well accepted touches = as_before (rules_stay g true d) touches.left touches.gone_rule
rule_change g (DropSkip name) touch well accepted touches = as_before (rules_remain g true name) touches.left touches.gone_rule
