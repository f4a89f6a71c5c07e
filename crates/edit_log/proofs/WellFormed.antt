-- A grammar stays well-formed where one part of it changes.
use Rattle.std.proofs.Common.{◌≡◌, ◌+◌, ◌<◌, ◌≤◌, inl, inr, List, [], ◌∷◌, ◌++◌, length, map, filter, Bool, sym, ap, subst, ◌∙◌, arith, length-append, Contains}
use Rattle.std.specs.List.{AllByRecursion}
use Rattle.std.proofs.lemmas.List.{map-append}
use Rattle.std.proofs.lemmas.List.Kept.{IsStrictlySortedBy-filter}
use Rattle.std.proofs.lemmas.List.Elements.{Contains-push_cases}
use Rattle.grammar_text.specs.declared.symbol.Symbol.{Symbol}
use Rattle.grammar_text.specs.declared.edit.RuleText.{RuleText}
use Rattle.forest.specs.declared.symbols.SymbolId.{SymbolId}
use Rattle.forest.specs.declared.rules.Rule.{Rule}
use Rattle.forest.specs.Derivation.{IsNonterminal}
use Rattle.forest.specs.Distinct.{IsDistinct}
use Rattle.forest.specs.Orders.{rule_cmp}
use Rattle.edit_log.specs.declared.limits.TheConstants.{LOG_LIMIT}
use Rattle.edit_log.specs.Symbols.{text_of}
use Rattle.edit_log.specs.History.{Definition, Grammar}
use Rattle.edit_log.specs.Facts.{IsNamed, IsNumber, IsRight, IsWellFormed, definition_order}
use Rattle.edit_log.proofs.PlainLists.{each_contained, all_contained, all_also, all_push, all_filter, contains_filter, distinct_filter, distinct_push}
use Rattle.edit_log.proofs.PlainLists.{sorted_push}
use Rattle.edit_log.proofs.Places.{Grows}
use Rattle.edit_log.proofs.Texts.{slice_get-append, named-grow, right-grow, texts-grow}

-- ---- more symbols

abbrev pub next_with : Grammar → List Symbol → Grammar
next_with g symbols = record { version = g.version + 1; symbols = symbols; rules = g.rules; definitions = g.definitions }

grown : (g : Grammar) (more : List Symbol) → IsWellFormed g → g.version + 1 ≤ LOG_LIMIT → length more ≤ 17 → IsDistinct (g.symbols ++ more)
    → IsWellFormed (next_with g (g.symbols ++ more))
grown g more well room few apart = record {
  version = room;
  few = omega (arith, well.few, length-append g.symbols more, few);
  start = slice_get-append g.symbols more 0 _ well.start;
  distinct = apart;
  rule_order = well.rule_order;
  rule_numbers = all_also _ (λ r. IsNumber (g.version + 1) r.number.0) g.rules (λ r n. (n.0, omega (arith, n.1))) well.rule_numbers;
  lefts = all_also _ (λ r. IsNamed (g.symbols ++ more) r.left) g.rules (λ r n. named-grow g.symbols more r.left n) well.lefts;
  rights = all_also _ (λ r. IsRight (g.symbols ++ more) r.right) g.rules (λ r n. (right-grow g.symbols more r.right n.0, n.1)) well.rights;
  rule_texts = subst (λ (texts : List RuleText). IsDistinct texts) (sym (texts-grow g.symbols more g.rules well.lefts well.rights)) well.rule_texts;
  definition_order = well.definition_order;
  definition_numbers = all_also _ (λ live. IsNumber (g.version + 1) live.number.0) g.definitions (λ live n. (n.0, omega (arith, n.1))) well.definition_numbers;
  names = all_also _ (λ live. IsNamed (g.symbols ++ more) live.name) g.definitions (λ live n. named-grow g.symbols more live.name n) well.names;
  one_each = well.one_each;
  apart = well.apart;
}

pub well_grown : (g : Grammar) (symbols : List Symbol) → IsWellFormed g → g.version + 1 ≤ LOG_LIMIT → Grows g.symbols symbols 17 → IsDistinct symbols
    → IsWellFormed (next_with g symbols)
well_grown g symbols well room grows apart =
    subst (λ (ss : List Symbol). IsWellFormed (next_with g ss)) (sym grows.is)
    (grown g grows.more well room grows.few (subst (λ (ss : List Symbol). IsDistinct ss) grows.is apart))

-- ---- other rules

abbrev pub with_rules : Grammar → List Rule → Grammar
with_rules g rules = record { version = g.version; symbols = g.symbols; rules = rules; definitions = g.definitions }

-- the rule may be added
pub record IsNewRule (g : Grammar) (r : Rule) : Type 0 where
  pub last : AllByRecursion (λ other. other.number.0 < r.number.0) g.rules
  pub number : IsNumber g.version r.number.0
  pub left : IsNamed g.symbols r.left
  pub right : IsRight g.symbols r.right
  pub text : Contains (map (text_of g.symbols) g.rules) (text_of g.symbols r) → ⊥
  pub apart : AllByRecursion (λ live. live.name ≡ r.left → ⊥) g.definitions

apart_push : (rules : List Rule) (r : Rule) (name : SymbolId) → (IsNonterminal rules name → ⊥) → (name ≡ r.left → ⊥) → IsNonterminal (rules ++ r ∷ []) name → ⊥
apart_push rules r name old new (other, there, is) = elim (Contains-push_cases rules r other there) [
  | inl c ↦ old (other, c, is)
  | inr e ↦ new (sym is ∙ ap (λ (r : Rule). r.left) (sym e))
]

pub well_with_rule : (g : Grammar) (r : Rule) → IsWellFormed g → IsNewRule g r → IsWellFormed (with_rules g (g.rules ++ r ∷ []))
well_with_rule g r well new = record {
  version = well.version;
  few = well.few;
  start = well.start;
  distinct = well.distinct;
  rule_order = sorted_push (λ (r : Rule). r.number.0) g.rules r new.last well.rule_order;
  rule_numbers = all_push _ g.rules r well.rule_numbers new.number;
  lefts = all_push _ g.rules r well.lefts new.left;
  rights = all_push _ g.rules r well.rights new.right;
  rule_texts = subst (λ (texts : List RuleText). IsDistinct texts) (sym (map-append (text_of g.symbols) g.rules (r ∷ [])))
      (distinct_push (map (text_of g.symbols) g.rules) (text_of g.symbols r) well.rule_texts new.text);
  definition_order = well.definition_order;
  definition_numbers = well.definition_numbers;
  names = well.names;
  one_each = well.one_each;
  apart = all_contained _ g.definitions (λ live c. apart_push g.rules r live.name (each_contained _ g.definitions live well.apart c)
      (each_contained _ g.definitions live new.apart c));
}

pub well_without_rules : (g : Grammar) (test : Rule → Bool) → IsWellFormed g → IsWellFormed (with_rules g (filter test g.rules))
well_without_rules g test well = record {
  version = well.version;
  few = well.few;
  start = well.start;
  distinct = well.distinct;
  rule_order = IsStrictlySortedBy-filter rule_cmp test g.rules well.rule_order;
  rule_numbers = all_filter _ test g.rules well.rule_numbers;
  lefts = all_filter _ test g.rules well.lefts;
  rights = all_filter _ test g.rules well.rights;
  rule_texts = distinct_filter (text_of g.symbols) test g.rules well.rule_texts;
  definition_order = well.definition_order;
  definition_numbers = well.definition_numbers;
  names = well.names;
  one_each = well.one_each;
  apart = all_also _ (λ live. IsNonterminal (filter test g.rules) live.name → ⊥) g.definitions (λ live old (other, there, is). old (
    other,
    contains_filter test g.rules other there,
    is,
  )) well.apart;
}

-- ---- other definitions

abbrev pub with_definitions : Grammar → List Definition → Grammar
with_definitions g definitions = record { version = g.version; symbols = g.symbols; rules = g.rules; definitions = definitions }

-- the definition may be added
pub record IsNewDefinition (g : Grammar) (d : Definition) : Type 0 where
  pub last : AllByRecursion (λ other. other.number.0 < d.number.0) g.definitions
  pub number : IsNumber g.version d.number.0
  pub name : IsNamed g.symbols d.name
  pub one : Contains (map (λ live. live.name) g.definitions) d.name → ⊥
  pub apart : IsNonterminal g.rules d.name → ⊥

pub well_with_definition : (g : Grammar) (d : Definition) → IsWellFormed g → IsNewDefinition g d → IsWellFormed (with_definitions g (g.definitions ++ d ∷ []))
well_with_definition g d well new = record {
  version = well.version;
  few = well.few;
  start = well.start;
  distinct = well.distinct;
  rule_order = well.rule_order;
  rule_numbers = well.rule_numbers;
  lefts = well.lefts;
  rights = well.rights;
  rule_texts = well.rule_texts;
  definition_order = sorted_push (λ (live : Definition). live.number.0) g.definitions d new.last well.definition_order;
  definition_numbers = all_push _ g.definitions d well.definition_numbers new.number;
  names = all_push _ g.definitions d well.names new.name;
  one_each = subst (λ (names : List SymbolId). IsDistinct names) (sym (map-append (λ (live : Definition). live.name) g.definitions (d ∷ [])))
      (distinct_push (map (λ (live : Definition). live.name) g.definitions) d.name well.one_each new.one);
  apart = all_push _ g.definitions d well.apart new.apart;
}

pub well_without_definitions : (g : Grammar) (test : Definition → Bool) → IsWellFormed g → IsWellFormed (with_definitions g (filter test g.definitions))
well_without_definitions g test well = record {
  version = well.version;
  few = well.few;
  start = well.start;
  distinct = well.distinct;
  rule_order = well.rule_order;
  rule_numbers = well.rule_numbers;
  lefts = well.lefts;
  rights = well.rights;
  rule_texts = well.rule_texts;
  definition_order = IsStrictlySortedBy-filter definition_order test g.definitions well.definition_order;
  definition_numbers = all_filter _ test g.definitions well.definition_numbers;
  names = all_filter _ test g.definitions well.names;
  one_each = distinct_filter (λ (live : Definition). live.name) test g.definitions well.one_each;
  apart = all_filter _ test g.definitions well.apart;
}
