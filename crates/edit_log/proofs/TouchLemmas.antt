-- What is told of an edit is what it touches.
use Rattle.std.proofs.Common.{◌≡◌, ◌↔◌, ◌⊎◌, inl, inr, ℕ, ◌+◌, ◌<◌, List, [], ◌∷◌, Bool, false, true, length, Option, Some, None, option_map, IsTrue, refl, sym}
use Rattle.std.proofs.Common.{◌∙◌, ap, subst, arith, Contains}
use Rattle.std.specs.List.{list_any}
use Rattle.std.specs.List.Sorted.{IsStrictlySortedBy}
use Rattle.std.proofs.lemmas.Bool.{cases_lt, cases_eq}
use Rattle.std.proofs.lemmas.Option.{slice_get_within, get_or_from_slice_get}
use Rattle.grammar_text.specs.declared.symbol.Symbol.TheVariants.{Named}
use Rattle.grammar_text.specs.declared.edit.RuleText.{RuleText}
use Rattle.grammar_text.specs.declared.edit.DefText.{DefText}
use Rattle.grammar_text.specs.declared.edit.Edit.TheVariants.{AddRule, DropRule}
use Rattle.grammar_text.specs.Sameness.{rule_eq-decides}
use Rattle.forest.specs.declared.symbols.SymbolId.{SymbolId}
use Rattle.forest.specs.declared.rules.RuleId.{RuleId}
use Rattle.forest.specs.declared.rules.Rule.{Rule}
use Rattle.regex_ast.specs.Positions.{Table}
use Rattle.edit_log.specs.declared.definitions.DefId.{DefId}
use Rattle.edit_log.specs.declared.definitions.DefId.TheVariants.{Literal as literal, Named as named}
use Rattle.edit_log.specs.declared.fresh_symbols.FreshSymbol.{FreshSymbol}
use Rattle.edit_log.specs.declared.touch.Touch.{Touch}
use Rattle.edit_log.specs.Symbols.{numbered, number_of, symbol_at, symbol_bytes, text_of}
use Rattle.edit_log.specs.History.{Definition, Grammar, after_edit, reads, is_named}
use Rattle.edit_log.specs.Verdict.{IsAccepted, rule_found, definition_found}
use Rattle.edit_log.specs.Facts.{IsWellFormed, IsNamed}
use Rattle.edit_log.specs.Live.{is_literal, IsLive}
use Rattle.edit_log.specs.Lookups.{ListsDefinitions}
use Rattle.edit_log.specs.Lists.{Wakes, IsLastUse, occurrences, all_occurrences}
use Rattle.edit_log.specs.Kept.{AreUses, AreLiteralTables}
use Rattle.edit_log.specs.Touches.{IsTouchOf, IsEnded, ChangesDefinitions, touched_left, ended_rule}
use Rattle.edit_log.specs.Replicas.{AreFreshFor, symbols_in, adds, drops}
use Rattle.edit_log.proofs.After.{symbols_stay_rule, rules_dropped}
use Rattle.edit_log.proofs.DefinitionOrder.{contains_first, contains_cases, contains_none, each_of}
use Rattle.edit_log.proofs.LiveByUses.{live_literal, live_named, literal_has, has_is_literal, lists_same, same_length, counted_within, counted_push}
use Rattle.edit_log.proofs.LiveByUses.{counted_there, there_counted, sum_without, found_there}
use Rattle.edit_log.proofs.LiveAfter.{symbol_kept, literal_kept, named_same, number_within, live_added, live_dropped}
use Rattle.edit_log.proofs.NewLiterals.{fresh_literal, is_fresh_literal, place_is, contains_map}

-- ---- a rule that is added

module _ (g : Grammar) (r : RuleText) (live : Rule) (well : IsWellFormed g) (live-is : live ≡ numbered (after_edit g (AddRule r)).symbols
    (g.version + 1) r) where
  more_uses : (s : SymbolId) → all_occurrences s (after_edit g (AddRule r)).rules ≡ all_occurrences s g.rules + occurrences s live.right
  unfolding after_edit
  more_uses s = counted_push s g.rules (numbered (after_edit g (AddRule r)).symbols (g.version + 1) r) ∙ ap
      (λ (x : Rule). all_occurrences s g.rules + occurrences s x.right) (sym live-is)

  same_named : (n : RuleId) → IsLive (after_edit g (AddRule r)) (named n) ↔ IsLive g (named n)
  unfolding after_edit
  same_named n = named_same g (after_edit g (AddRule r)) n refl

  module _ (fresh : List FreshSymbol) (are_fresh : AreFreshFor g (AddRule r) fresh) where
    -- what is live stays so
    kept : (d : DefId) → IsLive g d → IsLive (after_edit g (AddRule r)) d
    kept (literal s) now = literal_kept g (after_edit g (AddRule r)) (symbols_in fresh) s well are_fresh.symbols (omega (arith, more_uses s)) now
    kept (named n) now = (same_named n).1 now

    -- a fresh literal is live then
    fresh_starts : IsTrue (list_any is_literal (symbols_in fresh)) → ChangesDefinitions g (after_edit g (AddRule r))
    fresh_starts some =
        let found = fresh_literal g r fresh are_fresh some in
        let right : Contains live.right found.number = subst (λ (x : Rule). Contains x.right found.number) (sym live-is) found.used in
        let now = (live_literal (after_edit g (AddRule r)) found.number).1 (
          found.literal_there,
          omega (
            arith,
            more_uses found.number,
            counted_there found.number live.right right,
          ),
        ) in (
          literal found.number,
          inr (
            now,
            λ before. found.absent (counted_within g.symbols g.rules found.number well.rights
                ((live_literal g found.number).0 before).1),
          ),
        )

    module _ (uses : List ℕ) (literals : List (Option Table)) (are_uses : AreUses g.symbols g.rules uses)
        (are_literals : AreLiteralTables g.symbols literals) where
      -- and so is one that it wakes
      woken_starts : Wakes literals uses live.right → ChangesDefinitions g (after_edit g (AddRule r))
      woken_starts (part, there, has, none) =
          let within : part.0 < length g.symbols = omega (
            arith,
            slice_get_within literals part.0 (Some has.0) has.1,
            same_length g.symbols literals are_literals,
          ) in
          let here = has_is_literal g.symbols literals are_literals part.0 has in
          let same = symbol_kept g.symbols (after_edit g (AddRule r)).symbols (symbols_in fresh) part are_fresh.symbols within in
          let now = (live_literal (after_edit g (AddRule r)) part).1 (
            ap is_literal same ∙ here,
            omega (
              arith,
              more_uses part,
              counted_there part live.right there,
            ),
          ) in
          let counted = are_uses.counts part.0 within in
          let unused : all_occurrences part g.rules ≡ 0 = cc in
          (literal part, inr (now, λ before. absurd (omega (arith, unused, ((live_literal g part).0 before).1))))

      -- and nothing else
      starts_by : (s : SymbolId) → IsLive (after_edit g (AddRule r)) (literal s) → (IsLive g (literal s) → ⊥)
          → IsTrue (list_any is_literal (symbols_in fresh)) ⊎ Wakes literals uses live.right
      starts_by s now before =
          let both = (live_literal (after_edit g (AddRule r)) s).0 now in
          elim (cases_lt s.0 (length g.symbols)) [
            | inl less ↦
                let same = symbol_kept g.symbols (after_edit g (AddRule r)).symbols (symbols_in fresh) s are_fresh.symbols less in
                let here = ap is_literal (sym same) ∙ both.0 in
                let unused : all_occurrences s g.rules ≡ 0 = elim (cases_lt 0 (all_occurrences s g.rules)) [
                  | inl some ↦ absurd (before ((live_literal g s).1 (here, some)))
                  | inr none ↦ omega (arith, none)
                ] in
                let used : 0 < occurrences s live.right = omega (arith, more_uses s, both.1, unused) in
                inr (s, there_counted s live.right used, literal_has g.symbols literals are_literals s.0 here, are_uses.counts s.0 less ∙ ap Some unused)
            | inr more ↦ inl (is_fresh_literal g.symbols (symbols_in fresh) s more (ap (λ symbols. is_literal (symbol_at symbols s)) (sym are_fresh.symbols)
                ∙ both.0))
          ]

      changes_by : ChangesDefinitions g (after_edit g (AddRule r)) → IsTrue (list_any is_literal (symbols_in fresh)) ⊎ Wakes literals uses live.right
      changes_by (d, inl ends) = absurd (ends.1 (kept d ends.0))
      changes_by (literal s, inr starts) = starts_by s starts.0 starts.1
      changes_by (named n, inr starts) = absurd (starts.1 ((same_named n).0 starts.0))

none_ends : (old new : Grammar) → ((d : DefId) → IsLive old d → IsLive new d) → ListsDefinitions (IsEnded old new) []
unfolding IsStrictlySortedBy
none_ends old new kept = record { order = tt; members = λ d. (λ c. absurd (contains_none d c), λ ends. absurd (ends.1 (kept d ends.0))) }

pub touch_rule_added : (g : Grammar) (r : RuleText) (uses : List ℕ) (literals : List (Option Table)) (fresh : List FreshSymbol) (live : Rule) (touch : Touch)
    → IsWellFormed g → IsAccepted g (AddRule r) → AreFreshFor g (AddRule r) fresh → AreUses g.symbols g.rules uses → AreLiteralTables g.symbols literals
    → live ≡ numbered (after_edit g (AddRule r)).symbols (g.version + 1) r → touch.left ≡ Some live.left → touch.gone_rule ≡ None → touch.gone_defs ≡ []
    → (IsTrue touch.scan ↔ (IsTrue (list_any is_literal (symbols_in fresh)) ⊎ Wakes literals uses live.right)) → IsTouchOf g (AddRule r) touch
touch_rule_added g r uses literals fresh live touch well accepted are_fresh are_uses are_literals live-is left-is rule-is defs-is scan-is = record {
  left = left-is ∙ ap (λ (x : Rule). Some x.left) live-is;
  gone_rule = rule-is;
  scan = (
    λ e. elim (scan-is.0 e) [
      | inl some ↦ fresh_starts g r live well live-is fresh are_fresh some
      | inr wakes ↦ woken_starts g r live well live-is fresh are_fresh uses literals are_uses are_literals wakes
    ],
    λ changes. scan-is.1 (changes_by g r live well live-is fresh are_fresh uses literals are_uses are_literals changes),
  );
  gone_defs = rw defs-is (none_ends g (after_edit g (AddRule r)) (kept g r live well live-is fresh are_fresh));
}

-- ---- a rule that is dropped

module _ (g : Grammar) (r : RuleText) (live : Rule) (well : IsWellFormed g) (accepted : IsAccepted g (DropRule r)) (found : rule_found g r ≡ Some live) where
  there : Contains g.rules live
  there = (found_there (reads g.symbols r) g.rules live found).0

  -- the rule's left side is the name
  left_is : live.left ≡ number_of g.symbols (Named r.left)
  left_is =
      let read : text_of g.symbols live ≡ r = (rule_eq-decides (text_of g.symbols live) r).0 ((found_there (reads g.symbols r) g.rules live found).1) in
      let has : IsNamed g.symbols live.left = each_of (λ (x : Rule). IsNamed g.symbols x.left) g.rules well.lefts live there in
      let at : symbol_at g.symbols live.left ≡ Named has.0 = get_or_from_slice_get g.symbols live.left.0 (Named has.0) (Named []) has.1 in
      let name : has.0 ≡ r.left = sym (ap symbol_bytes at) ∙ ap (λ (x : RuleText). x.left) read in
      let place = place_is g.symbols live.left.0 (Named r.left) well.distinct (has.1 ∙ ap (λ n. Some (Named n)) name) in
      ap (λ n. let s : SymbolId = record { 0 = n } in s) (sym place)

  less_uses : (s : SymbolId) → all_occurrences s (after_edit g (DropRule r)).rules + occurrences s live.right ≡ all_occurrences s g.rules
  less_uses s = ap (λ rules. all_occurrences s rules + occurrences s live.right) (rules_dropped g r live well accepted found) ∙ sum_without
      (λ x. occurrences s x.right) g.rules live well.rule_order there

  stays_named : (n : RuleId) → IsLive (after_edit g (DropRule r)) (named n) ↔ IsLive g (named n)
  unfolding after_edit
  stays_named n = named_same g (after_edit g (DropRule r)) n refl

  same_symbol : (s : SymbolId) → symbol_at (after_edit g (DropRule r)).symbols s ≡ symbol_at g.symbols s
  same_symbol s = ap (λ symbols. symbol_at symbols s) (symbols_stay_rule g r well accepted)

  -- nothing is live that was not
  none_starts : (d : DefId) → IsLive (after_edit g (DropRule r)) d → IsLive g d
  none_starts (literal s) now = let both = (live_literal (after_edit g (DropRule r)) s).0 now in
      (live_literal g s).1 (ap is_literal (sym (same_symbol s)) ∙ both.0, omega (arith, less_uses s, both.1))
  none_starts (named n) now = (stays_named n).0 now

  module _ (uses : List ℕ) (literals : List (Option Table)) (are_uses : AreUses g.symbols g.rules uses)
      (are_literals : AreLiteralTables g.symbols literals) where
    -- what ends is what is used here alone
    ends_last : (d : DefId) → IsLastUse literals uses live.right d ↔ IsEnded g (after_edit g (DropRule r)) d
    ends_last (named n) = (λ none. absurd none, λ ends. ends.1 ((stays_named n).1 ends.0))
    ends_last (literal s) = (
      λ (c, has, count).
          let within : s.0 < length g.symbols = omega (arith, slice_get_within literals s.0 (Some has.0) has.1, same_length g.symbols literals are_literals) in
          let counted = are_uses.counts s.0 within in
          let all : all_occurrences s g.rules ≡ occurrences s live.right = cc in (
            (live_literal g s).1 (has_is_literal g.symbols literals are_literals s.0 has, omega (arith, all, counted_there s live.right c)),
            λ now. absurd (omega (arith, less_uses s, all, ((live_literal (after_edit g (DropRule r)) s).0 now).1)),
          ),
      λ ends.
          let both = (live_literal g s).0 ends.0 in
          let none : all_occurrences s (after_edit g (DropRule r)).rules ≡ 0 = elim (cases_lt 0 (all_occurrences s (after_edit g (DropRule r)).rules)) [
            | inl some ↦ absurd (ends.1 ((live_literal (after_edit g (DropRule r)) s).1 (ap is_literal (same_symbol s) ∙ both.0, some)))
            | inr none ↦ omega (arith, none)
          ] in
          let all : all_occurrences s g.rules ≡ occurrences s live.right = omega (arith, less_uses s, none) in (
            there_counted s live.right (omega (arith, all, both.1)),
            literal_has g.symbols literals are_literals s.0 both.0,
            are_uses.counts s.0 (counted_within g.symbols g.rules s well.rights both.1) ∙ ap Some all,
          ),
    )

some_listed : (gone : List DefId) → (gone ≡ [] → ⊥) → (d : DefId) × Contains gone d
some_listed [] some = absurd (some refl)
some_listed (d ∷ gone) some = (d, contains_first d gone)

-- where nothing starts, something changes exactly where something ends
changes_ends : (old new : Grammar) (gone : List DefId) → ((d : DefId) → IsLive new d → IsLive old d) → ListsDefinitions (IsEnded old new) gone
    → ChangesDefinitions old new ↔ (gone ≡ [] → ⊥)
changes_ends old new gone none lists = (by, λ some. let listed = some_listed gone some in (listed.0, inl ((lists.members listed.0).0 listed.1)))
  where
    by : ChangesDefinitions old new → gone ≡ [] → ⊥
    by (d, inl ends) e = contains_none d (subst (λ ds. Contains ds d) e ((lists.members d).1 ends))
    by (d, inr starts) e = starts.1 (none d starts.0)

pub touch_rule_dropped : (g : Grammar) (r : RuleText) (uses : List ℕ) (literals : List (Option Table)) (live : Rule) (touch : Touch)
    → IsWellFormed g → IsAccepted g (DropRule r) → rule_found g r ≡ Some live → AreUses g.symbols g.rules uses → AreLiteralTables g.symbols literals
    → touch.left ≡ Some live.left → touch.gone_rule ≡ Some live.number → ListsDefinitions (IsLastUse literals uses live.right) touch.gone_defs
    → (IsTrue touch.scan ↔ (touch.gone_defs ≡ [] → ⊥)) → IsTouchOf g (DropRule r) touch
touch_rule_dropped g r uses literals live touch well accepted found are_uses are_literals left-is rule-is defs-are scan-is =
    let lists = lists_same _ _ touch.gone_defs (ends_last g r live well accepted found uses literals are_uses are_literals) defs-are in
    let changes = changes_ends g (after_edit g (DropRule r)) touch.gone_defs (none_starts g r live well accepted found) lists in
    record {
      left = left-is ∙ ap Some (left_is g r live well accepted found) ∙ ap (λ symbols. Some (number_of symbols (Named r.left)))
          (sym (symbols_stay_rule g r well accepted));
      gone_rule = rule-is ∙ sym (ap (option_map (λ live. live.number)) found);
      scan = (λ e. changes.1 (scan-is.0 e), λ w. scan-is.1 (changes.0 w));
      gone_defs = lists;
    }

-- ---- tokens and skips

added_left : (g : Grammar) (skip : Bool) (d : DefText) → touched_left g (adds skip d) ≡ None
added_left g true d = refl
added_left g false d = refl

added_rule : (g : Grammar) (skip : Bool) (d : DefText) → ended_rule g (adds skip d) ≡ None
added_rule g true d = refl
added_rule g false d = refl

dropped_left : (g : Grammar) (skip : Bool) (name : List ℕ) → touched_left g (drops skip name) ≡ None
dropped_left g true name = refl
dropped_left g false name = refl

dropped_rule : (g : Grammar) (skip : Bool) (name : List ℕ) → ended_rule g (drops skip name) ≡ None
dropped_rule g true name = refl
dropped_rule g false name = refl

pub touch_definition_added : (g : Grammar) (skip : Bool) (d : DefText) (touch : Touch) → IsWellFormed g → IsAccepted g (adds skip d)
    → touch.left ≡ None → touch.gone_rule ≡ None → touch.scan ≡ true → touch.gone_defs ≡ [] → IsTouchOf g (adds skip d) touch
touch_definition_added g skip d touch well accepted left-is rule-is scan-is defs-is =
    let new : RuleId = record { 0 = g.version + 1 } in
    let now = (live_added g skip d well (named new)).1 (inr refl) in
    let before : IsLive g (named new) → ⊥ = λ live. absurd (omega (
      arith,
      number_within g.version g.definitions new well.definition_numbers
          ((live_named g new).0 live),
    )) in
    record {
      left = left-is ∙ sym (added_left g skip d);
      gone_rule = rule-is ∙ sym (added_rule g skip d);
      scan = (λ e. (named new, inr (now, before)), λ w. scan-is);
      gone_defs = rw defs-is (none_ends g (after_edit g (adds skip d)) (λ other live. (live_added g skip d well other).1 (inl live)));
    }

decide_named : (d : DefId) (n : RuleId) → (d ≡ named n) ⊎ (d ≡ named n → ⊥)
decide_named (literal s) n = inr (λ e. cc)
decide_named (named m) n = elim (cases_eq m.0 n.0) [
  | inl e ↦ inl (ap (λ k. named (let r : RuleId = record { 0 = k } in r)) e)
  | inr other ↦ inr (λ e. let same : m ≡ n = cc in other (ap (λ (r : RuleId). r.0) same))
]

-- the dropped one alone ends
one_ends : (g : Grammar) (skip : Bool) (name : List ℕ) (gone : Definition) → IsWellFormed g → IsAccepted g (drops skip name)
    → definition_found g skip name ≡ Some gone
    → ListsDefinitions (IsEnded g (after_edit g (drops skip name))) (named gone.number ∷ [])
unfolding IsStrictlySortedBy
one_ends g skip name gone well accepted found =
    let there = contains_map (λ (live : Definition). live.number) g.definitions gone
    ((found_there (is_named g.symbols skip name) g.definitions gone found).0) in
    let before = (live_named g gone.number).1 there in
    let now : IsLive (after_edit g (drops skip name)) (named gone.number)
    → ⊥ = λ live. ((live_dropped g skip name gone well accepted found (named gone.number)).0 live).1 refl in
    record {
      order = (tt, tt);
      members = λ d. (
        λ c. elim (contains_cases (named gone.number) [] d c) [
          | inl e ↦ subst (IsEnded g (after_edit g (drops skip name))) e (before, now)
          | inr none ↦ absurd (contains_none d none)
        ],
        λ ends. elim (decide_named d gone.number) [
          | inl e ↦ subst (Contains (named gone.number ∷ [])) (sym e) (contains_first (named gone.number) [])
          | inr other ↦ absurd (ends.1 ((live_dropped g skip name gone well accepted found d).1 (ends.0, other)))
        ],
      );
    }

pub touch_definition_dropped : (g : Grammar) (skip : Bool) (name : List ℕ) (gone : Definition) (touch : Touch) → IsWellFormed g → IsAccepted g (drops skip name)
    → definition_found g skip name ≡ Some gone → touch.left ≡ None → touch.gone_rule ≡ None → touch.scan ≡ true → touch.gone_defs ≡ named gone.number ∷ []
    → IsTouchOf g (drops skip name) touch
touch_definition_dropped g skip name gone touch well accepted found left-is rule-is scan-is defs-is =
    let lists = one_ends g skip name gone well accepted found in
    record {
      left = left-is ∙ sym (dropped_left g skip name);
      gone_rule = rule-is ∙ sym (dropped_rule g skip name);
      scan = (λ e. (named gone.number, inl ((lists.members (named gone.number)).0 (contains_first (named gone.number) []))), λ w. scan-is);
      gone_defs = rw defs-is lists;
    }
