-- The grammar after an edit.
use Rattle.std.proofs.Common.{◌≡◌, ℕ, ◌+◌, ◌<◌, ◌≤◌, List, [], ◌∷◌, length, map, Bool, true, false, not, ◌==◌, filter, Some, None, refl, sym, ap, subst, ◌∙◌}
use Rattle.std.proofs.Common.{arith, Contains}
use Rattle.std.specs.List.{AllByRecursion}
use Rattle.std.specs.List.Sorted.{IsStrictlySortedBy}
use Rattle.std.specs.Prelude.{◌&&◌, Option}
use Rattle.std.specs.Option.{is_some}
use Rattle.std.proofs.lemmas.List.{length-map}
use Rattle.std.proofs.lemmas.Option.{slice_get-get_or}
use Rattle.std.proofs.lemmas.Bool.{eqb-true, eqb-false, eq-eqb, both_ways, and_parts, and_from, or_parts}
use Rattle.grammar_text.specs.declared.symbol.Symbol.{Symbol}
use Rattle.grammar_text.specs.declared.symbol.Symbol.TheVariants.{Named}
use Rattle.grammar_text.specs.declared.edit.RuleText.{RuleText}
use Rattle.grammar_text.specs.declared.edit.DefText.{DefText}
use Rattle.grammar_text.specs.declared.edit.Edit.{Edit}
use Rattle.grammar_text.specs.declared.edit.Edit.TheVariants.{AddRule, DropRule, AddToken, DropToken, AddSkip, DropSkip}
use Rattle.grammar_text.specs.Sameness.{spelling_eq, rule_eq-decides}
use Rattle.forest.specs.declared.symbols.SymbolId.{SymbolId}
use Rattle.forest.specs.declared.rules.Rule.{Rule}
use Rattle.edit_log.specs.declared.limits.TheConstants.{LOG_LIMIT}
use Rattle.edit_log.specs.Symbols.{number_of, symbol_at, with_symbols, symbols_of, numbered, text_of}
use Rattle.edit_log.specs.History.{Definition, Grammar, empty_grammar, after_edit, reads, has_name, is_of_kind, is_named, defined}
use Rattle.edit_log.specs.Verdict.{IsAccepted, rule_found, definition_found, is_defined, is_left, is_taken}
use Rattle.edit_log.specs.Facts.{IsWellFormed}
use Rattle.edit_log.specs.Replicas.{adds, drops}
use Rattle.edit_log.proofs.PlainLists.{none_any, each_contained, all_contained, all_also, filter_same, found, none_found, contains_map_from, distinct_map}
use Rattle.edit_log.proofs.PlainLists.{distinct_places, sorted_keys}
use Rattle.edit_log.proofs.Places.{IsPlaced, ArePlaced, placed_from_get, with_symbols-grows, with_symbols-same, with_symbols-placed, with_symbols-distinct}
use Rattle.edit_log.proofs.Texts.{symbol_at_get, text_of-numbered, numbers_within, named_number, old_name, name_at, texts-grow}
use Rattle.edit_log.proofs.SoundEdits.{short_right, short_dropped}
use Rattle.edit_log.proofs.Verdicts.{IsFree, free, when_none, map_none, rule_there, definition_there}
use Rattle.edit_log.proofs.WellFormed.{next_with, IsNewDefinition, well_grown, well_with_rule, well_without_rules, well_with_definition}
use Rattle.edit_log.proofs.WellFormed.{well_without_definitions}

pub well_formed_empty : IsWellFormed empty_grammar
unfolding IsStrictlySortedBy
well_formed_empty = record {
  version = omega arith;
  few = omega arith;
  start = refl;
  distinct = (λ (k, l, e). absurd (omega arith), tt);
  rule_order = tt;
  rule_numbers = tt;
  lefts = tt;
  rights = tt;
  rule_texts = tt;
  definition_order = tt;
  definition_numbers = tt;
  names = tt;
  one_each = tt;
  apart = tt;
}

-- ---- what is dropped

-- the live rule is written so
pub written : (g : Grammar) (r : RuleText) (live : Rule) → rule_found g r ≡ Some live → Contains g.rules live × (text_of g.symbols live ≡ r)
written g r live is =
    let at = found (reads g.symbols r) g.rules live is in
    (at.there, (rule_eq-decides (text_of g.symbols live) r).0 at.passes)

-- the live token or skip has this name
pub called : (g : Grammar) (skip : Bool) (name : List ℕ) (live : Definition) → definition_found g skip name ≡ Some live
    → Contains g.definitions live × (has_name g.symbols name live ≡ true) × (is_of_kind skip live ≡ true)
called g skip name live is =
    let at = found (is_named g.symbols skip name) g.definitions live is in
    let both = and_parts (has_name g.symbols name live) (is_of_kind skip live) at.passes in
    (at.there, both.0, both.1)

parts_placed : (symbols : List Symbol) (right : List SymbolId) → AllByRecursion (λ part. part.0 < length symbols) right
    → ArePlaced symbols (map (symbol_at symbols) right)
parts_placed symbols [] within = tt
parts_placed symbols (part ∷ right) within =
    (placed_from_get symbols (symbol_at symbols part) part.0 (slice_get-get_or symbols part.0 (Named []) within.0), parts_placed symbols right within.1)

-- the symbols of what is dropped are there
pub symbols_stay_rule : (g : Grammar) (r : RuleText) → IsWellFormed g → IsAccepted g (DropRule r) → (after_edit g (DropRule r)).symbols ≡ g.symbols
unfolding after_edit
symbols_stay_rule g r well accepted =
    let free = free g (DropRule r) accepted.taken in
    let there = rule_there g r free.lack in
    let is = written g r there.0 there.1 in
    let named = each_contained _ g.rules there.0 well.lefts is.0 in
    let right = each_contained _ g.rules there.0 well.rights is.0 in
    let left : IsPlaced g.symbols (symbol_at g.symbols there.0.left) = rw (symbol_at_get g.symbols there.0.left (Named named.0) named.1)
    (placed_from_get g.symbols (Named named.0) there.0.left.0 named.1) in
    let name : Named (text_of g.symbols there.0).left ≡ symbol_at g.symbols there.0.left =
    rw (symbol_at_get g.symbols there.0.left (Named named.0) named.1) refl in
    let placed : ArePlaced g.symbols (Named (text_of g.symbols there.0).left ∷ (text_of g.symbols there.0).right) =
    (subst (λ (s : Symbol). IsPlaced g.symbols s) (sym name) left, parts_placed g.symbols there.0.right right.0) in
    with_symbols-same g.symbols (Named r.left ∷ r.right) (subst (λ (text : RuleText). ArePlaced g.symbols (Named text.left ∷ text.right)) is.1 placed)

pub symbols_stay_definition : (g : Grammar) (skip : Bool) (name : List ℕ) → IsWellFormed g → IsAccepted g (drops skip name)
    → (after_edit g (drops skip name)).symbols ≡ g.symbols
unfolding after_edit
symbols_stay_definition g skip name well accepted =
    let free = free g (drops skip name) accepted.taken in
    let there = definition_there g skip name free.lack in
    let is = called g skip name there.0 there.1 in
    let named = each_contained _ g.definitions there.0 well.names is.0 in
    by skip (placed_from_get g.symbols (Named name) there.0.name.0 (name_at g.symbols name there.0.name named is.1))
  where
    by : (skip : Bool) → IsPlaced g.symbols (Named name) → with_symbols g.symbols (symbols_of (drops skip name)) ≡ g.symbols
    by true placed = with_symbols-same g.symbols (Named name ∷ []) (placed, tt)
    by false placed = with_symbols-same g.symbols (Named name ∷ []) (placed, tt)

-- two tests that pass for the same elements
same_answers : (a b : Bool) → (a ≡ true → b ≡ true) → (b ≡ true → a ≡ true) → a ≡ b
same_answers true b there back = sym (there refl)
same_answers false true there back = back refl
same_answers false false there back = refl

-- the rule that is written so is the one with its number
same_test : (g : Grammar) (r : RuleText) (live other : Rule) → IsWellFormed g → Contains g.rules live × (text_of g.symbols live ≡ r) → Contains g.rules other
    → reads g.symbols r other ≡ (other.number.0 == live.number.0)
same_test g r live other well at there =
    let one : other.number.0 ≡ live.number.0 → other ≡ live = λ e. distinct_map (λ (r : Rule). r.number.0) g.rules other live
    (sorted_keys (λ (r : Rule). r.number.0) g.rules well.rule_order) there at.0 e in
    same_answers (reads g.symbols r other) (other.number.0 == live.number.0)
    (λ e.
    let text : text_of g.symbols other ≡ r = (rule_eq-decides (text_of g.symbols other) r).0 e in
    let same : other ≡ live = distinct_map (text_of g.symbols) g.rules other live well.rule_texts there at.0 (text ∙ sym at.1) in
    eq-eqb other.number.0 live.number.0 (ap (λ (r : Rule). r.number.0) same))
    (λ e. (rule_eq-decides (text_of g.symbols other) r).1 (ap (text_of g.symbols) (one (eqb-true other.number.0 live.number.0 e)) ∙ at.1))

-- what is dropped is dropped by its number
pub rules_dropped : (g : Grammar) (r : RuleText) (live : Rule) → IsWellFormed g → IsAccepted g (DropRule r) → rule_found g r ≡ Some live
    → (after_edit g (DropRule r)).rules ≡ filter (λ other. not (other.number.0 == live.number.0)) g.rules
unfolding after_edit
rules_dropped g r live well accepted is =
    let stay = symbols_stay_rule g r well accepted in
    let at = written g r live is in
    ap (λ (symbols : List Symbol). filter (λ other. not (reads symbols r other)) g.rules) stay
    ∙ filter_same (λ other. not (reads g.symbols r other)) (λ other. not (other.number.0 == live.number.0)) g.rules
    (all_contained _ g.rules (λ other c. ap not (same_test g r live other well at c)))

-- one definition at most has the name
pub one_named : (g : Grammar) (name : List ℕ) (a b : Definition) → IsWellFormed g → Contains g.definitions a → Contains g.definitions b
    → has_name g.symbols name a ≡ true → has_name g.symbols name b ≡ true → a ≡ b
one_named g name a b well left right a-is b-is =
    let place = name_at g.symbols name a.name (each_contained _ g.definitions a well.names left) a-is in
    let other = name_at g.symbols name b.name (each_contained _ g.definitions b well.names right) b-is in
    let number : a.name.0 ≡ b.name.0 = distinct_places g.symbols a.name.0 b.name.0 (Named name) well.distinct place other in
    distinct_map (λ (d : Definition). d.name) g.definitions a b well.one_each left right (ap (λ n. let x : SymbolId = record { 0 = n } in x) number)

-- and one has the number
pub one_numbered : (g : Grammar) (a b : Definition) → IsWellFormed g → Contains g.definitions a → Contains g.definitions b → a.number.0 ≡ b.number.0 → a ≡ b
one_numbered g a b well left right same = distinct_map (λ (d : Definition). d.number.0) g.definitions a b
    (sorted_keys (λ (d : Definition). d.number.0) g.definitions well.definition_order) left right same

same_definition : (g : Grammar) (skip : Bool) (name : List ℕ) (live other : Definition) → IsWellFormed g → definition_found g skip name ≡ Some live
    → Contains g.definitions other
    → is_named g.symbols skip name other ≡ (other.number.0 == live.number.0)
same_definition g skip name live other well is there =
    let at = called g skip name live is in
    same_answers (is_named g.symbols skip name other) (other.number.0 == live.number.0)
    (λ e.
    let both = and_parts (has_name g.symbols name other) (is_of_kind skip other) e in
    let same : other ≡ live = one_named g name other live well there at.0 both.0 at.1 in
    eq-eqb other.number.0 live.number.0 (ap (λ (d : Definition). d.number.0) same))
    (λ e.
    let same : other ≡ live = one_numbered g other live well there at.0 (eqb-true other.number.0 live.number.0 e) in
    ap (is_named g.symbols skip name) same ∙ and_from (has_name g.symbols name live) (is_of_kind skip live) at.1 at.2)

pub definitions_dropped : (g : Grammar) (skip : Bool) (name : List ℕ) (live : Definition) → IsWellFormed g → IsAccepted g (drops skip name)
    → definition_found g skip name ≡ Some live
    → (after_edit g (drops skip name)).definitions ≡ filter (λ other. not (other.number.0 == live.number.0)) g.definitions
unfolding after_edit
definitions_dropped g true name live well accepted is =
    ap (λ (symbols : List Symbol). filter (λ other. not (is_named symbols true name other)) g.definitions) (symbols_stay_definition g true name well accepted)
    ∙ filter_same (λ other. not (is_named g.symbols true name other)) (λ other. not (other.number.0 == live.number.0)) g.definitions
    (all_contained _ g.definitions (λ other c. ap not (same_definition g true name live other well is c)))
definitions_dropped g false name live well accepted is =
    ap (λ (symbols : List Symbol). filter (λ other. not (is_named symbols false name other)) g.definitions) (symbols_stay_definition g false name well accepted)
    ∙ filter_same (λ other. not (is_named g.symbols false name other)) (λ other. not (other.number.0 == live.number.0)) g.definitions
    (all_contained _ g.definitions (λ other c. ap not (same_definition g false name live other well is c)))

-- ---- well-formed

-- the next version has its symbols
abbrev with_its : Grammar → Edit → Grammar
with_its g edit = next_with g (with_symbols g.symbols (symbols_of edit))

growing : (g : Grammar) (edit : Edit) → IsWellFormed g → IsFree g edit → length (symbols_of edit) ≤ 17 → IsWellFormed (with_its g edit)
growing g edit well free few =
    let grows = with_symbols-grows g.symbols (symbols_of edit) in
    let not_full : g.version ≡ LOG_LIMIT → ⊥ = eqb-false g.version LOG_LIMIT (when_none (g.version == LOG_LIMIT) _ free.fullness) in
    well_grown g (with_symbols g.symbols (symbols_of edit)) well (omega (arith, well.version, not_full)) (record {
      more = grows.more;
      is = grows.is;
      few =
          omega (arith, grows.few);
    }) (with_symbols-distinct g.symbols (symbols_of edit) well.distinct)

rule_well : (g : Grammar) (r : RuleText) → IsWellFormed g → IsAccepted g (AddRule r) → IsWellFormed (after_edit g (AddRule r))
unfolding after_edit
rule_well g r well accepted =
    let edit = AddRule r in
    let free = free g edit accepted.taken in
    let short = short_right r accepted.proper.0 in
    let symbols = with_symbols g.symbols (symbols_of edit) in
    let grows = with_symbols-grows g.symbols (symbols_of edit) in
    let placed = with_symbols-placed g.symbols (symbols_of edit) in
    let texts : map (text_of symbols) g.rules ≡ map (text_of g.symbols) g.rules = ap (λ ss. map (text_of ss) g.rules) grows.is
    ∙ texts-grow g.symbols grows.more g.rules well.lefts well.rights in
    let undefined = none_any (has_name g.symbols r.left) g.definitions (when_none (is_defined g r.left) _ free.clash) in
    let unwritten = none_found (reads g.symbols r) g.rules (map_none _ (rule_found g r) free.twin) in
    well_with_rule (with_its g edit) (numbered symbols (g.version + 1) r) (growing g edit well free (omega (arith, short)))
    (record {
      last = all_also _ _ g.rules (λ other n. omega (arith, n.1)) well.rule_numbers;
      number = (omega arith, omega arith);
      left = named_number symbols r.left placed.0;
      right = (numbers_within symbols r.right placed.1, omega (arith, short, length-map r.right (number_of symbols)));
      text = λ c.
          let there : Contains (map (text_of g.symbols) g.rules) r = subst (λ (x : RuleText). Contains (map (text_of g.symbols) g.rules) x)
          (text_of-numbered symbols (g.version + 1) r placed)
          (subst (λ (xs : List RuleText). Contains xs (text_of symbols (numbered symbols (g.version + 1) r))) texts c) in
          let at = contains_map_from (text_of g.symbols) g.rules r there in
          let yes = (rule_eq-decides (text_of g.symbols at.from) r).1 at.is in
          let no = each_contained _ g.rules at.from unwritten at.there in
          both_ways _ no yes;
      apart = all_contained _ g.definitions (λ live c e.
          let yes = old_name g.symbols symbols _ r.left live.name grows (each_contained _ g.definitions live well.names c) placed.0 e in
          let no = each_contained _ g.definitions live undefined c in
          both_ways _ no yes);
    })

-- a name that may be given to a token or a skip
pub record IsUnused (g : Grammar) (name : List ℕ) : Type 0 where
  pub lefts : AllByRecursion (λ (r : Rule). spelling_eq (symbol_at g.symbols r.left) (Named name) ≡ false) g.rules
  pub names : AllByRecursion (λ live. has_name g.symbols name live ≡ false) g.definitions

neither : (symbols : List Symbol) (name : List ℕ) (live : Definition) → is_named symbols true name live ≡ false → is_named symbols false name live ≡ false
    → has_name symbols name live ≡ false
neither symbols name live skip token = by (has_name symbols name live) live.is_skip skip token
  where
    by : (named skips : Bool) → (named && skips) ≡ false → (named && not skips) ≡ false → named ≡ false
    by true true a b = cc
    by true false a b = cc
    by false skips a b = refl

unused : (g : Grammar) (name : List ℕ) → is_left g name ≡ false → definition_found g true name ≡ None → definition_found g false name ≡ None → IsUnused g name
unused g name left skip token =
    let skips = none_found (is_named g.symbols true name) g.definitions skip in
    let tokens = none_found (is_named g.symbols false name) g.definitions token in
    record {
      lefts = none_any _ g.rules left;
      names = all_contained _ g.definitions (λ live c. neither g.symbols name live (each_contained _ g.definitions live skips c)
          (each_contained _ g.definitions live tokens c));
    }

no_definition : (g : Grammar) (skip : Bool) (name : List ℕ) → is_some (definition_found g skip name) ≡ false → definition_found g skip name ≡ None
no_definition g skip name none = by (definition_found g skip name) none
  where
    by : (o : Option Definition) → is_some o ≡ false → o ≡ None
    by None e = refl
    by (Some d) e = absurd cc

pub added_unused : (g : Grammar) (skip : Bool) (d : DefText) → IsFree g (adds skip d) → IsUnused g d.name
added_unused g true d free =
    let clash = or_parts _ _ (when_none (is_taken g false d.name) _ free.clash) in
    unused g d.name (or_parts _ _ clash.0).1 (map_none _ (definition_found g true d.name) free.twin) (no_definition g false d.name clash.1)
added_unused g false d free =
    let clash = or_parts _ _ (when_none (is_taken g true d.name) _ free.clash) in
    unused g d.name (or_parts _ _ clash.0).1 (no_definition g true d.name clash.1) (map_none _ (definition_found g false d.name) free.twin)

new_definition : (g : Grammar) (skip : Bool) (d : DefText) → IsWellFormed g → IsUnused g d.name
    → IsNewDefinition (next_with g (with_symbols g.symbols (Named d.name ∷ []))) (defined (with_symbols g.symbols (Named d.name ∷ [])) (g.version + 1) skip d)
new_definition g skip d well free =
    let symbols = with_symbols g.symbols (Named d.name ∷ []) in
    let grows = with_symbols-grows g.symbols (Named d.name ∷ []) in
    let placed = with_symbols-placed g.symbols (Named d.name ∷ []) in
    record {
      last = all_also _ _ g.definitions (λ other n. omega (arith, n.1)) well.definition_numbers;
      number = (omega arith, omega arith);
      name = named_number symbols d.name placed.0;
      one = λ c.
          let at = contains_map_from (λ (live : Definition). live.name) g.definitions (number_of symbols (Named d.name)) c in
          let yes = old_name g.symbols symbols _ d.name at.from.name grows (each_contained _ g.definitions at.from well.names at.there) placed.0 at.is in
          let no = each_contained _ g.definitions at.from free.names at.there in
          both_ways _ no yes;
      apart = λ (r, there, is).
          let yes = old_name g.symbols symbols _ d.name r.left grows (each_contained _ g.rules r well.lefts there) placed.0 is in
          let no = each_contained _ g.rules r free.lefts there in
          both_ways _ no yes;
    }

pub well_formed_after : (g : Grammar) (edit : Edit) → IsWellFormed g → IsAccepted g edit → IsWellFormed (after_edit g edit)
unfolding after_edit
well_formed_after g (AddRule r) well accepted = rule_well g r well accepted
well_formed_after g (DropRule r) well accepted =
    let free = free g (DropRule r) accepted.taken in
    well_without_rules (with_its g (DropRule r)) _ (growing g (DropRule r) well free (omega (arith, short_dropped r accepted.proper.0)))
well_formed_after g (AddToken d) well accepted =
    let free = free g (AddToken d) accepted.taken in
    well_with_definition (with_its g (AddToken d)) _ (growing g (AddToken d) well free (omega arith))
    (new_definition g false d well (added_unused g false d free))
well_formed_after g (DropToken name) well accepted =
    let free = free g (DropToken name) accepted.taken in
    well_without_definitions (with_its g (DropToken name)) _ (growing g (DropToken name) well free (omega arith))
well_formed_after g (AddSkip d) well accepted =
    let free = free g (AddSkip d) accepted.taken in
    well_with_definition (with_its g (AddSkip d)) _ (growing g (AddSkip d) well free (omega arith)) (new_definition g true d well (added_unused g true d free))
well_formed_after g (DropSkip name) well accepted =
    let free = free g (DropSkip name) accepted.taken in
    well_without_definitions (with_its g (DropSkip name)) _ (growing g (DropSkip name) well free (omega arith))
