-- The rules under each left side after an edit.
use Rattle.std.proofs.Common.{◌≡◌, ℕ, zero, suc, append-nil, ◌+◌, ◌≤◌, ◌==◌, inl, inr, List, [], ◌∷◌, ◌++◌, Bool, true, false, not, length, map, filter, Some}
use Rattle.std.proofs.Common.{Vec, Contains, if◌then◌else◌, refl, sym, ap, ◌∙◌, arith, length-append}
use Rattle.std.specs.declared.alloc.Global.{Global}
use Rattle.std.specs.List.{AllByRecursion}
use Rattle.std.specs.Option.{option_map_or}
use Rattle.std.proofs.lemmas.Bool.{cases_lt, cases_eq, eqb-true, eq-eqb, ne_eqb, false_from_ne_true}
use Rattle.std.proofs.lemmas.List.{map-append, length-map}
use Rattle.std.proofs.lemmas.List.Elements.{filter-append}
use Rattle.std.proofs.lemmas.Option.{slice_get_past}
use Rattle.grammar_text.specs.declared.symbol.Symbol.TheVariants.{Named}
use Rattle.grammar_text.specs.declared.edit.RuleText.{RuleText}
use Rattle.grammar_text.specs.declared.edit.DefText.{DefText}
use Rattle.grammar_text.specs.declared.edit.Edit.{Edit}
use Rattle.grammar_text.specs.declared.edit.Edit.TheVariants.{AddRule, DropRule}
use Rattle.forest.specs.declared.symbols.SymbolId.{SymbolId}
use Rattle.forest.specs.declared.rules.RuleId.{RuleId}
use Rattle.forest.specs.declared.rules.Rule.{Rule}
use Rattle.edit_log.specs.declared.fresh_symbols.FreshSymbol.{FreshSymbol}
use Rattle.edit_log.specs.Symbols.{number_of, symbols_of, with_symbols, numbered}
use Rattle.edit_log.specs.History.{Grammar, after_edit}
use Rattle.edit_log.specs.Verdict.{IsAccepted, rule_found}
use Rattle.edit_log.specs.Facts.{IsWellFormed}
use Rattle.edit_log.specs.Lists.{under}
use Rattle.edit_log.specs.Lookups.{numbers_of_left}
use Rattle.edit_log.specs.Kept.{AreLefts}
use Rattle.edit_log.specs.Replicas.{IsFreshSymbol, AreFreshFor, symbols_in, adds, drops}
use Rattle.edit_log.proofs.PlainLists.{each_contained, all_contained, distinct_map, sorted_keys}
use Rattle.edit_log.proofs.Texts.{named_within}
use Rattle.edit_log.proofs.After.{written, rules_dropped, symbols_stay_rule, symbols_stay_definition}

-- ---- plain lists

-- a test on what f gives
filter_map : {X Y : Type 0} (f : X → Y) (test : Y → Bool) (xs : List X) → map f (filter (λ x. test (f x)) xs) ≡ filter test (map f xs)
filter_map f test [] = refl
filter_map {X} {Y} f test (x ∷ xs) = by (test (f x)) (filter_map f test xs)
  where
    by : (passes : Bool) → map f (filter (λ x. test (f x)) xs) ≡ filter test (map f xs)
        → map f (if passes then x ∷ filter (λ x. test (f x)) xs else filter (λ x. test (f x)) xs) ≡
        (if passes then f x ∷ filter test (map f xs) else filter test (map f xs))
    by true rest = ap (λ ys. f x ∷ ys) rest
    by false rest = rest

-- two filters in either order
filter_swap : {X : Type 0} (p q : X → Bool) (xs : List X) → filter p (filter q xs) ≡ filter q (filter p xs)
filter_swap p q [] = refl
filter_swap {X} p q (x ∷ xs) = by (p x) (q x) refl refl (filter_swap p q xs)
  where
    by : (a b : Bool) → p x ≡ a → q x ≡ b → filter p (filter q xs) ≡ filter q (filter p xs) → filter p (if b then x ∷ filter q xs else filter q xs) ≡ filter q
        (if a then x ∷ filter p xs else filter p xs)
    by true true is at rest = rw (is, at) (ap (λ ys. x ∷ ys) rest)
    by true false is at rest = rw at rest
    by false true is at rest = rw is rest
    by false false is at rest = rest

-- what all that pass a test pass too changes nothing
filter_kept : {X : Type 0} (p q : X → Bool) (xs : List X) → AllByRecursion (λ x. p x ≡ true → q x ≡ true) xs → filter p (filter q xs) ≡ filter p xs
filter_kept p q [] all = refl
filter_kept {X} p q (x ∷ xs) all = by (p x) (q x) refl refl (filter_kept p q xs all.1)
  where
    by : (a b : Bool) → p x ≡ a → q x ≡ b → filter p (filter q xs) ≡ filter p xs
        → filter p (if b then x ∷ filter q xs else filter q xs) ≡ (if a then x ∷ filter p xs else filter p xs)
    by true true is at rest = rw is (ap (λ ys. x ∷ ys) rest)
    by true false is at rest = let passes = all.0 is in absurd cc
    by false true is at rest = rw is rest
    by false false is at rest = rest

filter_none : {X : Type 0} (test : X → Bool) (xs : List X) → AllByRecursion (λ x. test x ≡ false) xs → filter test xs ≡ []
filter_none test [] all = refl
filter_none test (x ∷ xs) all = rw all.0 (filter_none test xs all.1)

-- ---- the lists with those of the fresh symbols behind them

abbrev pub with_fresh : List (Vec RuleId Global) → List FreshSymbol → List (Vec RuleId Global)
with_fresh lefts fresh = lefts ++ map (λ one. one.rules) fresh

under_fresh : (fresh : List FreshSymbol) → AllByRecursion IsFreshSymbol fresh → (place : ℕ) → under (map (λ one. one.rules) fresh) place ≡ []
under_fresh [] all place = refl
under_fresh (one ∷ fresh) all zero = all.0.rules
under_fresh (one ∷ fresh) all (suc place) = under_fresh fresh all.1 place

-- a list is as it was, and a fresh one is empty
under_with : (lefts : List (Vec RuleId Global)) (fresh : List FreshSymbol) → AllByRecursion IsFreshSymbol fresh → (place : ℕ)
    → under (with_fresh lefts fresh) place ≡ under lefts place
under_with [] fresh all place = under_fresh fresh all place
under_with (list ∷ lefts) fresh all zero = refl
under_with (list ∷ lefts) fresh all (suc place) = under_with lefts fresh all place

under_past : (lefts : List (Vec RuleId Global)) (place : ℕ) → length lefts ≤ place → under lefts place ≡ []
under_past lefts place past = ap (λ found. option_map_or (λ (list : Vec RuleId Global). list.items) found []) (slice_get_past lefts place past)

-- no rule has a left side that is no symbol
no_left : (g : Grammar) (place : ℕ) → IsWellFormed g → length g.symbols ≤ place → numbers_of_left g.rules (record { 0 = place }) ≡ []
no_left g place well past =
    ap (map (λ (r : Rule). r.number)) (filter_none (λ r. r.left.0 == place) g.rules (all_contained _ g.rules (λ r there.
    let within = named_within g.symbols r.left (each_contained _ g.rules r well.lefts there) in
    ne_eqb r.left.0 place (λ e. absurd (omega arith)))))

-- the lists are right at each place, also where there is no symbol
everywhere : (g : Grammar) (lefts : List (Vec RuleId Global)) → IsWellFormed g → AreLefts g.symbols g.rules lefts → (place : ℕ)
    → under lefts place ≡ numbers_of_left g.rules (record { 0 = place })
everywhere g lefts well are place = elim (cases_lt place (length g.symbols)) [
  | inl within ↦ are.lists place within
  | inr past ↦ under_past lefts place (omega (arith, are.len)) ∙ sym (no_left g place well past)
]

length_with : (g : Grammar) (edit : Edit) (lefts : List (Vec RuleId Global)) (fresh : List FreshSymbol) → AreFreshFor g edit fresh
    → length lefts ≡ length g.symbols → length (with_fresh lefts fresh) ≡ length (after_edit g edit).symbols
length_with g edit lefts fresh are_fresh len =
    omega (
      arith,
      len,
      ap length are_fresh.symbols,
      length-append lefts (map (λ (one : FreshSymbol). one.rules) fresh),
      length-append g.symbols (symbols_in fresh),
      length-map fresh (λ (one : FreshSymbol). one.rules),
      length-map fresh (λ (one : FreshSymbol). one.symbol),
    )

-- ---- rules

left_added : (rules : List Rule) (r : Rule) (place : ℕ) → numbers_of_left (rules ++ r ∷ []) (record { 0 = place }) ≡
    (if place == r.left.0 then numbers_of_left rules (record { 0 = place }) ++ r.number ∷ [] else numbers_of_left rules (record { 0 = place }))
left_added rules r place =
    ap (map (λ (r : Rule). r.number)) (filter-append (λ (r : Rule). r.left.0 == place) rules (r ∷ []))
    ∙ elim (cases_eq place r.left.0) [
      | inl e ↦ rw (eq-eqb place r.left.0 e, eq-eqb r.left.0 place (sym e))
          (map-append (λ (r : Rule). r.number) (filter (λ (r : Rule). r.left.0 == place) rules) (r ∷ []))
      | inr other ↦ rw (ne_eqb place r.left.0 other, ne_eqb r.left.0 place (λ e. other (sym e)))
          (ap (map (λ (r : Rule). r.number)) (append-nil (filter (λ (r : Rule). r.left.0 == place) rules)))
    ]

pub lefts_rule_added : (g : Grammar) (r : RuleText) (lefts new : List (Vec RuleId Global)) (fresh : List FreshSymbol) (left : SymbolId) (number : RuleId)
    → IsWellFormed g → IsAccepted g (AddRule r) → AreFreshFor g (AddRule r) fresh → AreLefts g.symbols g.rules lefts
    → left ≡ number_of (after_edit g (AddRule r)).symbols (Named r.left) → number ≡ record { 0 = g.version + 1 } → length new ≡ length (with_fresh lefts fresh)
    → ((place : ℕ) → under new place ≡ (if place == left.0 then under (with_fresh lefts fresh) place ++ number ∷ [] else under (with_fresh lefts fresh) place))
    → AreLefts (after_edit g (AddRule r)).symbols (after_edit g (AddRule r)).rules new
unfolding after_edit
lefts_rule_added g r lefts new fresh left number well accepted are_fresh are left-is number-is len lists = record {
  len = len ∙ length_with g (AddRule r) lefts fresh are_fresh are.len;
  lists = λ place within.
      let rule = numbered (with_symbols g.symbols (symbols_of (AddRule r))) (g.version + 1) r in
      let old : under (with_fresh lefts fresh) place ≡ numbers_of_left g.rules (record { 0 = place }) = under_with lefts fresh are_fresh.each place
      ∙ everywhere g lefts well are place in
      lists place
      ∙ (λ i. if place == (left-is i).0 then old i ++ number-is i ∷ [] else old i)
      ∙ sym (left_added g.rules rule place);
}

left_dropped : (g : Grammar) (live : Rule) (place : ℕ) → IsWellFormed g → Contains g.rules live
    → numbers_of_left (filter (λ other. not (other.number.0 == live.number.0)) g.rules) (record { 0 = place })
    ≡ (if place == live.left.0 then filter (λ n. not (n.0 == live.number.0)) (numbers_of_left g.rules (record { 0 = place })) else numbers_of_left g.rules
    (record { 0 = place }))
left_dropped g live place well there = elim (cases_eq place live.left.0) [
  | inl e ↦ rw (eq-eqb place live.left.0 e)
      (ap (map (λ (r : Rule). r.number)) (filter_swap (λ (r : Rule). r.left.0 == place) (λ (r : Rule). not (r.number.0 == live.number.0)) g.rules)
      ∙ filter_map (λ (r : Rule). r.number) (λ n. not (n.0 == live.number.0)) (filter (λ (r : Rule). r.left.0 == place) g.rules))
  | inr other ↦ rw (ne_eqb place live.left.0 other)
      (ap (map (λ (r : Rule). r.number)) (filter_kept (λ (r : Rule). r.left.0 == place) (λ (r : Rule). not (r.number.0 == live.number.0)) g.rules
      (all_contained _ g.rules (λ r c at.
      ap not (false_from_ne_true (r.number.0 == live.number.0) (λ e.
      let same : r ≡ live = distinct_map (λ (r : Rule). r.number.0) g.rules r live (sorted_keys (λ (r : Rule). r.number.0) g.rules well.rule_order) c there
      (eqb-true r.number.0 live.number.0 e) in
      other (sym (eqb-true r.left.0 place at) ∙ ap (λ (r : Rule). r.left.0) same)))))))
]

pub lefts_rule_dropped : (g : Grammar) (r : RuleText) (lefts new : List (Vec RuleId Global)) (live : Rule)
    → IsWellFormed g → IsAccepted g (DropRule r) → rule_found g r ≡ Some live → AreLefts g.symbols g.rules lefts → length new ≡ length lefts
    → ((place : ℕ) → under new place ≡ (if place == live.left.0 then filter (λ n. not (n.0 == live.number.0)) (under lefts place) else under lefts place))
    → AreLefts (after_edit g (DropRule r)).symbols (after_edit g (DropRule r)).rules new
lefts_rule_dropped g r lefts new live well accepted found are len lists = record {
  len = len ∙ are.len ∙ ap length (sym (symbols_stay_rule g r well accepted));
  lists = λ place within.
      let there = (written g r live found).0 in
      let old = everywhere g lefts well are place in
      lists place
      ∙ (λ i. if place == live.left.0 then filter (λ n. not (n.0 == live.number.0)) (old i) else old i)
      ∙ sym (left_dropped g live place well there)
      ∙ ap (λ rules. numbers_of_left rules (record { 0 = place })) (sym (rules_dropped g r live well accepted found));
}

-- ---- tokens and skips

pub lefts_definition_added : (g : Grammar) (skip : Bool) (d : DefText) (lefts : List (Vec RuleId Global)) (fresh : List FreshSymbol)
    → IsWellFormed g → IsAccepted g (adds skip d) → AreFreshFor g (adds skip d) fresh → AreLefts g.symbols g.rules lefts
    → AreLefts (after_edit g (adds skip d)).symbols (after_edit g (adds skip d)).rules (with_fresh lefts fresh)
unfolding after_edit
lefts_definition_added g true d lefts fresh well accepted are_fresh are = record {
  len = length_with g (adds true d) lefts fresh are_fresh are.len;
  lists = λ place within. under_with lefts fresh are_fresh.each place ∙ everywhere g lefts well are place;
}
lefts_definition_added g false d lefts fresh well accepted are_fresh are = record {
  len = length_with g (adds false d) lefts fresh are_fresh are.len;
  lists = λ place within. under_with lefts fresh are_fresh.each place ∙ everywhere g lefts well are place;
}

rules_stay : (g : Grammar) (skip : Bool) (name : List ℕ) → (after_edit g (drops skip name)).rules ≡ g.rules
unfolding after_edit
rules_stay g true name = refl
rules_stay g false name = refl

pub lefts_definition_dropped : (g : Grammar) (skip : Bool) (name : List ℕ) (lefts : List (Vec RuleId Global))
    → IsWellFormed g → IsAccepted g (drops skip name) → AreLefts g.symbols g.rules lefts
    → AreLefts (after_edit g (drops skip name)).symbols (after_edit g (drops skip name)).rules lefts
lefts_definition_dropped g skip name lefts well accepted are = record {
  len = are.len ∙ ap length (sym (symbols_stay_definition g skip name well accepted));
  lists = λ place within. everywhere g lefts well are place ∙ ap (λ rules. numbers_of_left rules (record { 0 = place })) (sym (rules_stay g skip name));
}
