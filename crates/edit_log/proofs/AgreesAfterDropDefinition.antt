-- What a replica keeps still agrees after a token or a skip is dropped.
use Rattle.std.proofs.Common.{◌≡◌, ℕ, ◌+◌, ◌==◌, Bool, true, false, not, cond, List, [], ◌∷◌, map, filter, Option, Some, None, refl, sym, ap, subst, ◌∙◌}
use Rattle.std.proofs.Common.{Contains, Vec}
use Rattle.std.specs.List.{AllByRecursion}
use Rattle.std.specs.List.Sorted.{IsStrictlySortedBy}
use Rattle.std.specs.Str.{bytes_eq}
use Rattle.std.specs.declared.alloc.Global.{Global}
use Rattle.grammar_text.specs.declared.symbol.Symbol.{Symbol}
use Rattle.grammar_text.specs.declared.edit.RuleText.{RuleText}
use Rattle.grammar_text.specs.declared.edit.Edit.{Edit}
use Rattle.grammar_text.specs.declared.edit.Edit.TheVariants.{AddRule, DropRule, AddToken, DropToken, AddSkip, DropSkip}
use Rattle.forest.specs.declared.rules.RuleId.{RuleId}
use Rattle.forest.specs.declared.rules.Rule.{Rule}
use Rattle.regex_ast.specs.Positions.{Table}
use Rattle.edit_log.specs.declared.definitions.DefId.{DefId}
use Rattle.edit_log.specs.declared.definitions.DefId.TheVariants.{Named as named}
use Rattle.edit_log.specs.declared.named_definitions.NamedDefinition.{NamedDefinition}
use Rattle.edit_log.specs.declared.ready.OldDefinition.{OldDefinition}
use Rattle.edit_log.specs.declared.ready.Plan.TheVariants as planned
use Rattle.edit_log.specs.History.{Definition, Grammar, after_edit}
use Rattle.edit_log.specs.Verdict.{IsAccepted, definition_found}
use Rattle.edit_log.specs.Facts.{IsWellFormed}
use Rattle.edit_log.specs.Live.{definition_cmp}
use Rattle.edit_log.specs.Lookups.{ListsDefinitions}
use Rattle.edit_log.specs.Kept.{AreUses, AreLiteralTables}
use Rattle.edit_log.specs.Agreement.{grammar_in, Agrees}
use Rattle.edit_log.specs.Replicas.{IsPlanFor, seen_of, HasPositions, drops}
use Rattle.edit_log.proofs.PlainLists.{all_filter}
use Rattle.edit_log.proofs.After.{symbols_stay_definition, definitions_dropped, well_formed_after}
use Rattle.edit_log.proofs.Finders.{finds_rules_dropped, finds_definition_dropped}
use Rattle.edit_log.proofs.LeftLists.{lefts_definition_dropped}
use Rattle.edit_log.proofs.Liveness.{live_definition_dropped}

-- ---- plain facts

pub same_grammar : (a b : Grammar) → a.version ≡ b.version → a.symbols ≡ b.symbols → a.rules ≡ b.rules → a.definitions ≡ b.definitions → a ≡ b
same_grammar a b version symbols rules definitions = λ i. record { version = version i; symbols = symbols i; rules = rules i; definitions = definitions i }

-- what is kept by number is seen
pub seen_without : (number : RuleId) (definitions : List NamedDefinition)
    → map seen_of (filter (λ live. not (live.number.0 == number.0)) definitions) ≡ filter (λ live. not (live.number.0 == number.0)) (map seen_of definitions)
seen_without number [] = refl
seen_without number (live ∷ definitions) = by (not (live.number.0 == number.0)) (seen_without number definitions)
  where
    kept : List NamedDefinition
    kept = filter (λ d. not (d.number.0 == number.0)) definitions

    seen : List Definition
    seen = filter (λ d. not (d.number.0 == number.0)) (map seen_of definitions)

    by : (passes : Bool) → map seen_of kept ≡ seen → map seen_of (cond passes (live ∷ kept) kept) ≡ cond passes (seen_of live ∷ seen) seen
    by true rest = ap (λ ds. seen_of live ∷ ds) rest
    by false rest = rest

-- ---- what the plan tells

-- the edit drops this token or skip
pub record IsDrop (g : Grammar) (edit : Edit) (p : OldDefinition) : Type 0 where
  pub skip : Bool
  pub is : edit ≡ drops skip p.name
  pub live : Definition
  pub found : definition_found g skip p.name ≡ Some live
  pub number : p.number ≡ live.number

pub drop_planned : (g : Grammar) (edit : Edit) (p : OldDefinition) → IsPlanFor g edit (planned.DropDefinition p) → IsDrop g edit p
drop_planned g (AddRule r) p is = absurd is
drop_planned g (DropRule r) p is = absurd is
drop_planned g (AddToken d) p is = absurd is
drop_planned g (DropToken name) p is = record {
  skip = false;
  is = ap DropToken (sym is.0);
  live = is.1.0;
  found = ap (definition_found g false) is.0 ∙ is.1.1;
  number = is.1.2;
}
drop_planned g (AddSkip d) p is = absurd is
drop_planned g (DropSkip name) p is = record {
  skip = true;
  is = ap DropSkip (sym is.0);
  live = is.1.0;
  found = ap (definition_found g true) is.0 ∙ is.1.1;
  number = is.1.2;
}

-- ---- the grammar after it

rules_stay : (g : Grammar) (skip : Bool) (name : List ℕ) → (after_edit g (drops skip name)).rules ≡ g.rules
unfolding after_edit
rules_stay g true name = refl
rules_stay g false name = refl

pub version_next : (g : Grammar) (edit : Edit) → (after_edit g edit).version ≡ g.version + 1
unfolding after_edit
version_next g edit = refl

uses_definition_dropped : (g : Grammar) (skip : Bool) (name : List ℕ) (uses : List ℕ) → IsWellFormed g → IsAccepted g (drops skip name)
    → AreUses g.symbols g.rules uses
    → AreUses (after_edit g (drops skip name)).symbols (after_edit g (drops skip name)).rules uses
uses_definition_dropped g skip name uses well taken are = rw (symbols_stay_definition g skip name well taken, rules_stay g skip name) are

literals_definition_dropped : (g : Grammar) (skip : Bool) (name : List ℕ) (literals : List (Option Table)) → IsWellFormed g → IsAccepted g (drops skip name)
    → AreLiteralTables g.symbols literals
    → AreLiteralTables (after_edit g (drops skip name)).symbols literals
literals_definition_dropped g skip name literals well taken are = rw (symbols_stay_definition g skip name well taken) are

module _ (version : ℕ) (symbols : List Symbol) (rules : List Rule) (definitions new : List NamedDefinition) (edit : Edit) (p : OldDefinition) where
  abbrev held : Grammar
  held = grammar_in version symbols rules definitions

  pub definition_gone : IsWellFormed held → IsAccepted held edit → IsPlanFor held edit (planned.DropDefinition p)
      → new ≡ filter (λ live. not (live.number.0 == p.number.0)) definitions → grammar_in (version + 1) symbols rules new ≡ after_edit held edit
  definition_gone well accepted plan is =
      let drop = drop_planned held edit p plan in
      let taken = subst (IsAccepted held) drop.is accepted in
      let seen : map seen_of new ≡ (after_edit held (drops drop.skip p.name)).definitions =
      ap (map seen_of) is ∙ seen_without p.number definitions ∙ ap (λ (n : RuleId). filter (λ (live : Definition). not (live.number.0 == n.0))
      (map seen_of definitions)) drop.number
      ∙ sym (definitions_dropped held drop.skip p.name drop.live well taken drop.found) in
      let same = same_grammar (grammar_in (version + 1) symbols rules new) (after_edit held (drops drop.skip p.name))
      (sym (version_next held (drops drop.skip p.name))) (sym (symbols_stay_definition held drop.skip p.name well taken))
      (sym (rules_stay held drop.skip p.name)) seen in
      same ∙ ap (after_edit held) (sym drop.is)

  pub agrees_definition_dropped : (finds : RuleText → Option RuleId) (old_names names : List ℕ → Option RuleId) (lefts : List (Vec RuleId Global))
      (uses : List ℕ) (literals : List (Option Table)) (old_live live : List DefId) (spare : List Rule)
      → Agrees held finds old_names lefts uses literals definitions old_live spare → IsAccepted held edit → IsPlanFor held edit (planned.DropDefinition p)
      → new ≡ filter (λ live. not (live.number.0 == p.number.0)) definitions
      → names p.name ≡ None → ((other : List ℕ) → bytes_eq p.name other ≡ false → names other ≡ old_names other)
      → (IsStrictlySortedBy definition_cmp old_live → ListsDefinitions (λ other. Contains old_live other × (other ≡ named p.number → ⊥)) live)
      → Agrees (grammar_in (version + 1) symbols rules new) finds names lefts uses literals new live spare
  agrees_definition_dropped finds old_names names lefts uses literals old_live live spare agrees accepted plan is gone others removed =
      let drop = drop_planned held edit p plan in
      let well = agrees.well_formed in
      let taken = subst (IsAccepted held) drop.is accepted in
      let same = definition_gone well accepted plan is ∙ ap (after_edit held) drop.is in
      let lists = subst (λ (n : RuleId). ListsDefinitions (λ other. Contains old_live other × (other ≡ named n → ⊥)) live) drop.number
      (removed agrees.has_live.order) in
      subst (λ (g : Grammar). Agrees g finds names lefts uses literals new live spare) (sym same) (record {
        well_formed = well_formed_after held (drops drop.skip p.name) well taken;
        finds_rules = finds_rules_dropped held drop.skip p.name finds well taken agrees.finds_rules;
        finds_definitions = finds_definition_dropped held drop.skip p.name old_names names well taken agrees.finds_definitions gone others;
        has_lefts = lefts_definition_dropped held drop.skip p.name lefts well taken agrees.has_lefts;
        has_uses = uses_definition_dropped held drop.skip p.name uses well taken agrees.has_uses;
        has_literals = literals_definition_dropped held drop.skip p.name literals well taken agrees.has_literals;
        has_positions = subst (AllByRecursion HasPositions) (sym is)
            (all_filter HasPositions (λ d. not (d.number.0 == p.number.0)) definitions agrees.has_positions);
        has_live = live_definition_dropped held drop.skip p.name drop.live old_live live well taken drop.found agrees.has_live lists;
        no_spare = agrees.no_spare;
      })
