-- What a replica keeps still agrees after a rule is dropped.
use Rattle.std.proofs.Common.{◌≡◌, ℕ, zero, suc, ◌+◌, ◌-◌, ◌<◌, ◌≤◌, ◌==◌, ◌⊎◌, inl, inr, Bool, true, false, not, cond, if◌then◌else◌, List, [], ◌∷◌, length}
use Rattle.std.proofs.Common.{map, filter, slice_get, Option, Some, None, option_map, refl, sym, ap, subst, ◌∙◌, arith, Contains, Vec}
use Rattle.std.specs.List.{slice_index}
use Rattle.std.specs.List.Sorted.{IsStrictlySortedBy, IsStrictlyIncreasing}
use Rattle.std.specs.declared.alloc.Global.{Global}
use Rattle.std.proofs.lemmas.Bool.{eqb-true, eqb-false, eq-eqb}
use Rattle.std.proofs.lemmas.List.Kept.{IsStrictlySortedBy-filter}
use Rattle.std.proofs.lemmas.Option.{same_Some, slice_get_within}
use Rattle.grammar_text.specs.declared.symbol.Symbol.{Symbol}
use Rattle.grammar_text.specs.declared.edit.RuleText.{RuleText}
use Rattle.grammar_text.specs.declared.edit.Edit.{Edit}
use Rattle.grammar_text.specs.declared.edit.Edit.TheVariants.{AddRule, DropRule, AddToken, DropToken, AddSkip, DropSkip}
use Rattle.grammar_text.specs.Sameness.{rule_eq}
use Rattle.forest.specs.declared.symbols.SymbolId.{SymbolId}
use Rattle.forest.specs.declared.rules.RuleId.{RuleId}
use Rattle.forest.specs.declared.rules.Rule.{Rule}
use Rattle.forest.specs.Orders.{rule_cmp}
use Rattle.forest.proofs.Ascending.{contains_here, contains_there, contains_cases}
use Rattle.regex_ast.specs.Positions.{Table}
use Rattle.edit_log.specs.declared.definitions.DefId.{DefId}
use Rattle.edit_log.specs.declared.named_definitions.NamedDefinition.{NamedDefinition}
use Rattle.edit_log.specs.declared.ready.OldRule.{OldRule}
use Rattle.edit_log.specs.declared.ready.Plan.TheVariants as planned
use Rattle.edit_log.specs.History.{Definition, Grammar, after_edit, reads}
use Rattle.edit_log.specs.Verdict.{IsAccepted, rule_found}
use Rattle.edit_log.specs.Facts.{IsWellFormed, IsNamed, IsRight}
use Rattle.edit_log.specs.Lookups.{ListsDefinitions, numbers_of_left, rule_of}
use Rattle.edit_log.specs.Lists.{under, occurrences, all_occurrences, AreWithin, IsLiveBy}
use Rattle.edit_log.specs.Kept.{AreLefts, AreUses, AreLiteralTables}
use Rattle.edit_log.specs.Agreement.{grammar_in, Agrees}
use Rattle.edit_log.specs.Replicas.{IsPlanFor}
use Rattle.edit_log.proofs.PlainLists.{each_contained, found, none_found, nat_cmp_less, distinct_map, sorted_keys, contains_map}
use Rattle.edit_log.proofs.After.{symbols_stay_rule, rules_dropped, well_formed_after}
use Rattle.edit_log.proofs.Finders.{finds_rule_dropped, finds_definitions_dropped}
use Rattle.edit_log.proofs.LeftLists.{lefts_rule_dropped}
use Rattle.edit_log.proofs.LiveByUses.{sum_without}
use Rattle.edit_log.proofs.Liveness.{numbers_in, uses_rule_dropped, live_from, live_to}
use Rattle.edit_log.proofs.AgreesAfterDropDefinition.{same_grammar, version_next}

-- ---- plain facts

-- the rules but the one with this number
abbrev pub without : RuleId → List Rule → List Rule
without number rules = filter (λ r. not (r.number.0 == number.0)) rules

-- what passes is kept
contains_kept : {X : Type 0} (test : X → Bool) (xs : List X) (x : X) → Contains xs x → test x ≡ true → Contains (filter test xs) x
contains_kept test [] x c passes = absurd (omega (arith, c.1))
contains_kept {X} test (y ∷ ys) x c passes = by (test y) refl (contains_cases y ys x c) (λ d. contains_kept test ys x d passes)
  where
    by : (kept : Bool) → test y ≡ kept → (y ≡ x) ⊎ Contains ys x → (Contains ys x → Contains (filter test ys) x)
        → Contains (cond kept (y ∷ filter test ys) (filter test ys)) x
    by true is (inl e) rest = subst (Contains (y ∷ filter test ys)) e (contains_here y (filter test ys))
    by true is (inr d) rest = contains_there y (filter test ys) x (rest d)
    by false is (inl e) rest = absurd (let never : false ≡ true = sym is ∙ ap test e ∙ passes in cc)
    by false is (inr d) rest = rest d

-- the numbers of rules in their order ascend
next_above : (rules : List Rule) → IsStrictlySortedBy rule_cmp rules → (k next : ℕ) → next ≡ k + 1
    → next < length (map (λ n. n.0) (map (λ (r : Rule). r.number) rules))
    → slice_index (map (λ n. n.0) (map (λ (r : Rule). r.number) rules)) k < slice_index (map (λ n. n.0) (map (λ (r : Rule). r.number) rules)) next
unfolding IsStrictlySortedBy
next_above rules sorted k zero is less = absurd (omega (arith, is))
next_above [] sorted k (suc next) is less = absurd (omega (arith, less))
next_above (r ∷ []) sorted k (suc next) is less = absurd (omega (arith, less))
next_above (r ∷ other ∷ rules) sorted zero (suc zero) is less = nat_cmp_less r.number.0 other.number.0 sorted.0.0
next_above (r ∷ other ∷ rules) sorted zero (suc (suc next)) is less = absurd (omega (arith, is))
next_above (r ∷ other ∷ rules) sorted (suc k) (suc next) is less = next_above (other ∷ rules) sorted.1 k next (omega (arith, is)) (omega (arith, less))

increasing : (rules : List Rule) → IsStrictlySortedBy rule_cmp rules → IsStrictlyIncreasing (map (λ n. n.0) (map (λ r. r.number) rules))
increasing rules sorted k less = next_above rules sorted k (k + 1) refl less

-- ---- what the plan tells

-- the edit drops this rule
pub record IsRuleDrop (g : Grammar) (edit : Edit) (p : OldRule) (gone : Rule) : Type 0 where
  pub is : edit ≡ DropRule p.text
  pub found : rule_found g p.text ≡ Some gone
  pub number : p.number ≡ gone.number

dropped : (g : Grammar) (edit : Edit) (p : OldRule) → IsPlanFor g edit (planned.DropRule p) → (live : Rule) × IsRuleDrop g edit p live
dropped g (AddRule r) p is = absurd is
dropped g (DropRule r) p is = (is.1.0, record { is = ap DropRule (sym is.0); found = ap (rule_found g) is.0 ∙ is.1.1; number = is.1.2 })
dropped g (AddToken d) p is = absurd is
dropped g (DropToken name) p is = absurd is
dropped g (AddSkip d) p is = absurd is
dropped g (DropSkip name) p is = absurd is

-- the rule is there
pub rule_not_lost : (g : Grammar) (edit : Edit) (p : OldRule) → IsPlanFor g edit (planned.DropRule p) → rule_of g.rules p.number ≡ None → ⊥
rule_not_lost g edit p plan none =
    let drop = dropped g edit p plan in
    let there = (found (reads g.symbols p.text) g.rules drop.0 drop.1.found).there in
    let other = each_contained _ g.rules drop.0 (none_found (λ (r : Rule). r.number.0 == p.number.0) g.rules none) there in
    eqb-false drop.0.number.0 p.number.0 other (ap (λ (n : RuleId). n.0) (sym drop.1.number))

-- and what goes is this rule
pub rule_dropped : (g : Grammar) (edit : Edit) (p : OldRule) (gone : Rule) → IsWellFormed g → IsPlanFor g edit (planned.DropRule p)
    → rule_of g.rules p.number ≡ Some gone → IsRuleDrop g edit p gone
rule_dropped g edit p gone well plan is =
    let drop = dropped g edit p plan in
    let there = (found (reads g.symbols p.text) g.rules drop.0 drop.1.found).there in
    let finds = found (λ (r : Rule). r.number.0 == p.number.0) g.rules gone is in
    let number : gone.number.0 ≡ drop.0.number.0 = eqb-true gone.number.0 p.number.0 finds.passes ∙ ap (λ (n : RuleId). n.0) drop.1.number in
    let same : drop.0 ≡ gone = sym (distinct_map (λ (r : Rule). r.number.0) g.rules gone drop.0 (sorted_keys (λ (r : Rule). r.number.0) g.rules well.rule_order)
    finds.there there number) in
    subst (λ (r : Rule). IsRuleDrop g edit p r) same drop.1

-- ---- what the steps ask

module _ (g : Grammar) (edit : Edit) (p : OldRule) (gone : Rule) (well : IsWellFormed g) (plan : IsPlanFor g edit (planned.DropRule p))
    (is : rule_of g.rules p.number ≡ Some gone) where
  gone_there : Contains g.rules gone
  gone_there = (found (λ (r : Rule). r.number.0 == p.number.0) g.rules gone is).there

  left_within : gone.left.0 < length g.symbols
  left_within = let named = each_contained (λ (r : Rule). IsNamed g.symbols r.left) g.rules gone well.lefts gone_there in
      slice_get_within g.symbols gone.left.0 _ named.1

  pub left_ascends : (lefts : List (Vec RuleId Global)) → AreLefts g.symbols g.rules lefts → IsStrictlyIncreasing (map (λ n. n.0) (under lefts gone.left.0))
  left_ascends lefts are =
      subst (λ (numbers : List RuleId). IsStrictlyIncreasing (map (λ n. n.0) numbers)) (sym (are.lists gone.left.0 left_within))
      (increasing (filter (λ (r : Rule). r.left.0 == gone.left.0) g.rules) (IsStrictlySortedBy-filter rule_cmp
      (λ (r : Rule). r.left.0 == gone.left.0) g.rules well.rule_order))

  pub left_there : (lefts : List (Vec RuleId Global)) → AreLefts g.symbols g.rules lefts → Contains (under lefts gone.left.0) p.number
  left_there lefts are =
      let drop = rule_dropped g edit p gone well plan is in
      let kept = contains_kept (λ (r : Rule). r.left.0 == gone.left.0) g.rules gone gone_there (eq-eqb gone.left.0 gone.left.0 refl) in
      let numbers : Contains (numbers_of_left g.rules gone.left) gone.number = contains_map (λ (r : Rule). r.number)
      (filter (λ (r : Rule). r.left.0 == gone.left.0) g.rules) gone kept in
      subst (λ (list : List RuleId). Contains list p.number) (sym (are.lists gone.left.0 left_within))
      (subst (λ (n : RuleId). Contains (numbers_of_left g.rules gone.left) n) (sym drop.number) numbers)

  pub parts_within : (uses : List ℕ) (right : List SymbolId) → AreUses g.symbols g.rules uses → right ≡ gone.right → AreWithin right (length uses)
  parts_within uses right are same part there =
      let within = each_contained (λ (r : Rule). IsRight g.symbols r.right) g.rules gone well.rights gone_there in
      let less = each_contained (λ (s : SymbolId). s.0 < length g.symbols) gone.right part within.0
      (subst (λ (parts : List SymbolId). Contains parts part) same there) in
      omega (arith, less, are.len)

  pub parts_counted : (uses : List ℕ) (right : List SymbolId) → AreUses g.symbols g.rules uses → right ≡ gone.right → (place count : ℕ)
      → slice_get uses place ≡ Some count → occurrences (record { 0 = place }) right ≤ count
  parts_counted uses right are same place count at =
      let s : SymbolId = record { 0 = place } in
      let within = slice_get_within uses place count at in
      let counts = are.counts place (omega (arith, within, are.len)) in
      let all : count ≡ all_occurrences s g.rules = same_Some count (all_occurrences s g.rules) (sym at ∙ counts) in
      let sum = sum_without (λ (r : Rule). occurrences s r.right) g.rules gone well.rule_order gone_there in
      let here : occurrences s right ≡ occurrences s gone.right = ap (occurrences s) same in
      omega (arith, all, sum, here)

-- ---- the grammar after it

definitions_stay : (g : Grammar) (r : RuleText) → (after_edit g (DropRule r)).definitions ≡ g.definitions
unfolding after_edit
definitions_stay g r = refl

module _ (version : ℕ) (symbols : List Symbol) (rules new : List Rule) (definitions : List NamedDefinition) (edit : Edit) (p : OldRule) (gone : Rule) where
  abbrev held : Grammar
  held = grammar_in version symbols rules definitions

  pub rule_gone : IsWellFormed held → IsAccepted held edit → IsPlanFor held edit (planned.DropRule p) → rule_of rules p.number ≡ Some gone
      → new ≡ filter (λ r. not (r.number.0 == p.number.0)) rules → grammar_in (version + 1) symbols new definitions ≡ after_edit held edit
  rule_gone well accepted plan gone-is is =
      let drop = rule_dropped held edit p gone well plan gone-is in
      let taken = subst (IsAccepted held) drop.is accepted in
      let kept : new ≡ (after_edit held (DropRule p.text)).rules =
      is ∙ ap (λ (n : RuleId). filter (λ (r : Rule). not (r.number.0 == n.0)) rules) drop.number ∙ sym (rules_dropped held p.text gone well taken drop.found) in
      let same = same_grammar (grammar_in (version + 1) symbols new definitions) (after_edit held (DropRule p.text))
      (sym (version_next held (DropRule p.text))) (sym (symbols_stay_rule held p.text well taken)) kept (sym (definitions_stay held p.text)) in
      same ∙ ap (after_edit held) (sym drop.is)

  pub agrees_rule_dropped : (old_numbers numbers : RuleText → Option RuleId) (names : List ℕ → Option RuleId) (old_lefts lefts : List (Vec RuleId Global))
      (old_uses uses : List ℕ) (literals : List (Option Table)) (old_live live : List DefId) (spare : List Rule)
      → Agrees held old_numbers names old_lefts old_uses literals definitions old_live spare → IsAccepted held edit → IsPlanFor held edit (planned.DropRule p)
      → rule_of rules p.number ≡ Some gone
      → new ≡ filter (λ r. not (r.number.0 == p.number.0)) rules
      → numbers p.text ≡ None → ((other : RuleText) → rule_eq p.text other ≡ false → numbers other ≡ old_numbers other)
      → length lefts ≡ length old_lefts
      → ((place : ℕ) → under lefts place ≡ (if place == gone.left.0 then filter (λ n. not (n.0 == p.number.0))
      (under old_lefts place) else under old_lefts place))
      → (right : List SymbolId) → right ≡ gone.right → length uses ≡ length old_uses
      → ((place : ℕ) → slice_get uses place ≡ option_map (λ n. n - occurrences (record { 0 = place }) right) (slice_get old_uses place))
      → (some : List (Option Table)) → some ≡ literals
      → ((known : List RuleId) → ListsDefinitions (IsLiveBy some old_uses known) old_live → ListsDefinitions (IsLiveBy some uses known) live)
      → Agrees (grammar_in (version + 1) symbols new definitions) numbers names lefts uses literals definitions live spare
  agrees_rule_dropped old_numbers numbers names old_lefts lefts old_uses uses literals old_live live spare agrees accepted plan gone-is is cleared others
      lefts-len lefts-are right right-is uses-len uses-are some some-is lives =
      let well = agrees.well_formed in
      let drop = rule_dropped held edit p gone well plan gone-is in
      let taken = subst (IsAccepted held) drop.is accepted in
      let same = rule_gone well accepted plan gone-is is ∙ ap (after_edit held) drop.is in
      let next_well = well_formed_after held (DropRule p.text) well taken in
      let lists = subst (λ (n : RuleId). (place : ℕ) → under lefts place ≡ (if place == gone.left.0 then filter (λ m. not (m.0 == n.0))
      (under old_lefts place) else under old_lefts place)) drop.number lefts-are in
      let counts = subst (λ (parts : List SymbolId). (place : ℕ) → slice_get uses place ≡ option_map (λ n. n - occurrences (record { 0 = place }) parts)
      (slice_get old_uses place)) right-is uses-are in
      let next_uses = uses_rule_dropped held p.text old_uses uses gone well taken drop.found agrees.has_uses uses-len counts in
      let next_literals = subst (λ (ss : List Symbol). AreLiteralTables ss literals) (sym (symbols_stay_rule held p.text well taken)) agrees.has_literals in
      let kept = subst (λ (ls : List (Option Table)). (known : List RuleId) → ListsDefinitions (IsLiveBy ls old_uses known) old_live → ListsDefinitions
      (IsLiveBy ls uses known) live) some-is lives in
      let by = kept (numbers_in held.definitions) (live_to held old_uses literals old_live well agrees.has_uses agrees.has_literals agrees.has_live) in
      let by_next = subst (λ (ds : List Definition). ListsDefinitions (IsLiveBy literals uses (numbers_in ds)) live) (sym (definitions_stay held p.text)) by in
      subst (λ (g : Grammar). Agrees g numbers names lefts uses literals definitions live spare) (sym same) (record {
        well_formed = next_well;
        finds_rules = finds_rule_dropped held p.text old_numbers numbers well taken agrees.finds_rules cleared others;
        finds_definitions = finds_definitions_dropped held p.text names well taken agrees.finds_definitions;
        has_lefts = lefts_rule_dropped held p.text old_lefts lefts gone well taken drop.found agrees.has_lefts lefts-len lists;
        has_uses = next_uses;
        has_literals = next_literals;
        has_positions = agrees.has_positions;
        has_live = live_from (after_edit held (DropRule p.text)) uses literals live next_well next_uses next_literals by_next;
        no_spare = agrees.no_spare;
      })
