-- What a replica keeps still agrees after a token or a skip is added.
use Rattle.std.proofs.Common.{◌≡◌, ◌⊎◌, ℕ, ◌+◌, Bool, true, false, List, [], ◌∷◌, ◌++◌, map, Option, Some, refl, sym, ap, subst, ◌∙◌, Contains, Vec}
use Rattle.std.specs.List.{AllByRecursion}
use Rattle.std.specs.List.Sorted.{IsStrictlySortedBy}
use Rattle.std.specs.Str.{bytes_eq}
use Rattle.std.specs.declared.alloc.Global.{Global}
use Rattle.std.proofs.lemmas.List.{map-append}
use Rattle.grammar_text.specs.declared.symbol.Symbol.{Symbol}
use Rattle.grammar_text.specs.declared.edit.RuleText.{RuleText}
use Rattle.grammar_text.specs.declared.edit.DefText.{DefText}
use Rattle.grammar_text.specs.declared.edit.Edit.{Edit}
use Rattle.grammar_text.specs.declared.edit.Edit.TheVariants.{AddRule, DropRule, AddToken, DropToken, AddSkip, DropSkip}
use Rattle.forest.specs.declared.rules.RuleId.{RuleId}
use Rattle.forest.specs.declared.rules.Rule.{Rule}
use Rattle.forest.specs.Distinct.{IsDistinct}
use Rattle.regex_ast.specs.Positions.{Table}
use Rattle.edit_log.specs.declared.definitions.DefId.{DefId}
use Rattle.edit_log.specs.declared.definitions.DefId.TheVariants.{Named as named}
use Rattle.edit_log.specs.declared.named_definitions.NamedDefinition.{NamedDefinition}
use Rattle.edit_log.specs.declared.ready.NewDefinition.{NewDefinition}
use Rattle.edit_log.specs.declared.ready.Plan.TheVariants as planned
use Rattle.edit_log.specs.History.{Definition, Grammar, after_edit, defined}
use Rattle.edit_log.specs.Verdict.{IsAccepted}
use Rattle.edit_log.specs.Facts.{IsWellFormed}
use Rattle.edit_log.specs.Live.{definition_cmp}
use Rattle.edit_log.specs.Lookups.{ListsDefinitions}
use Rattle.edit_log.specs.Kept.{AreUses}
use Rattle.edit_log.specs.Agreement.{grammar_in, Agrees}
use Rattle.edit_log.specs.Replicas.{IsPlanFor, IsAddedDefinition, AreFreshFor, seen_of, symbols_in, HasPositions, adds}
use Rattle.edit_log.proofs.PlainLists.{all_push}
use Rattle.edit_log.proofs.After.{well_formed_after}
use Rattle.edit_log.proofs.Finders.{finds_rules_added, finds_definition_added}
use Rattle.edit_log.proofs.LeftLists.{with_fresh, lefts_definition_added}
use Rattle.edit_log.proofs.Liveness.{uses_with, literals_with, uses_grown, literals_grown, live_definition_added}
use Rattle.edit_log.proofs.AgreesAfterDropDefinition.{same_grammar, version_next}

-- ---- what the plan tells

-- the edit adds this token or skip
pub record IsAdd (g : Grammar) (edit : Edit) (p : NewDefinition) : Type 0 where
  pub skip : Bool
  pub text : DefText
  pub is : edit ≡ adds skip text
  pub name : p.name ≡ text.name
  pub new : IsAddedDefinition g (adds skip text) p.live (defined (after_edit g (adds skip text)).symbols (g.version + 1) skip text)
  pub fresh : AreFreshFor g (adds skip text) p.fresh.items

pub add_planned : (g : Grammar) (edit : Edit) (p : NewDefinition) → IsPlanFor g edit (planned.AddDefinition p) → IsAdd g edit p
add_planned g (AddRule r) p is = absurd is
add_planned g (DropRule r) p is = absurd is
add_planned g (AddToken d) p is = record { skip = false; text = d; is = refl; name = is.0; new = is.1; fresh = is.2 }
add_planned g (DropToken name) p is = absurd is
add_planned g (AddSkip d) p is = record { skip = true; text = d; is = refl; name = is.0; new = is.1; fresh = is.2 }
add_planned g (DropSkip name) p is = absurd is

-- a symbol that is brought is not there yet
pub symbols_apart : (g : Grammar) (edit : Edit) (p : NewDefinition) → IsWellFormed g → IsAccepted g edit → IsPlanFor g edit (planned.AddDefinition p)
    → IsDistinct (g.symbols ++ symbols_in p.fresh.items)
symbols_apart g edit p well accepted plan =
    let add = add_planned g edit p plan in
    let taken = subst (IsAccepted g) add.is accepted in
    subst (λ (symbols : List Symbol). IsDistinct symbols) add.fresh.symbols (well_formed_after g (adds add.skip add.text) well taken).distinct

-- ---- the grammar after it

rules_kept : (g : Grammar) (skip : Bool) (d : DefText) → (after_edit g (adds skip d)).rules ≡ g.rules
unfolding after_edit
rules_kept g true d = refl
rules_kept g false d = refl

one_more : (g : Grammar) (skip : Bool) (d : DefText) → (after_edit g (adds skip d)).definitions ≡ g.definitions ++ defined (after_edit g (adds skip d)).symbols
    (g.version + 1) skip d ∷ []
unfolding after_edit
one_more g true d = refl
one_more g false d = refl

uses_kept : (g : Grammar) (skip : Bool) (d : DefText) (uses : List ℕ) → AreUses (after_edit g (adds skip d)).symbols g.rules uses
    → AreUses (after_edit g (adds skip d)).symbols (after_edit g (adds skip d)).rules uses
uses_kept g skip d uses are = rw (rules_kept g skip d) are

module _ (version : ℕ) (symbols new_symbols : List Symbol) (rules : List Rule) (definitions new : List NamedDefinition) (edit : Edit) (p : NewDefinition) where
  abbrev held : Grammar
  held = grammar_in version symbols rules definitions

  pub definition_come : IsPlanFor held edit (planned.AddDefinition p) → new_symbols ≡ symbols ++ symbols_in p.fresh.items → new ≡ definitions ++ p.live ∷ []
      → grammar_in (version + 1) new_symbols rules new ≡ after_edit held edit
  definition_come plan symbols-are is =
      let add = add_planned held edit p plan in
      let seen : map seen_of new ≡ (after_edit held (adds add.skip add.text)).definitions =
      ap (map seen_of) is ∙ map-append seen_of definitions (p.live ∷ []) ∙ ap (λ (live : Definition). map seen_of definitions ++ live ∷ []) add.new.is ∙ sym
      (one_more held add.skip add.text) in
      let same = same_grammar (grammar_in (version + 1) new_symbols rules new) (after_edit held (adds add.skip add.text))
      (sym (version_next held (adds add.skip add.text))) (symbols-are ∙ sym add.fresh.symbols) (sym (rules_kept held add.skip add.text)) seen in
      same ∙ ap (after_edit held) (sym add.is)

  pub agrees_definition_added : (finds : RuleText → Option RuleId) (old_names names : List ℕ → Option RuleId) (old_lefts lefts : List (Vec RuleId Global))
      (old_uses uses : List ℕ) (old_literals literals : List (Option Table))
      (old_live live : List DefId) (spare : List Rule)
      → Agrees held finds old_names old_lefts old_uses old_literals definitions old_live spare → IsAccepted held edit
      → IsPlanFor held edit (planned.AddDefinition p)
      → new_symbols ≡ symbols ++ symbols_in p.fresh.items → new ≡ definitions ++ p.live ∷ []
      → lefts ≡ with_fresh old_lefts p.fresh.items → uses ≡ uses_with old_uses p.fresh.items → literals ≡ literals_with old_literals p.fresh.items
      → names p.name ≡ Some p.live.number → ((other : List ℕ) → bytes_eq p.name other ≡ false → names other ≡ old_names other)
      → (IsStrictlySortedBy definition_cmp old_live → ListsDefinitions (λ other. Contains old_live other ⊎ (other ≡ named p.live.number)) live)
      → Agrees (grammar_in (version + 1) new_symbols rules new) finds names lefts uses literals new live spare
  agrees_definition_added finds old_names names old_lefts lefts old_uses uses old_literals literals old_live live spare agrees accepted plan symbols-are is
      lefts-are uses-are literals-are told others put =
      let add = add_planned held edit p plan in
      let well = agrees.well_formed in
      let taken = subst (IsAccepted held) add.is accepted in
      let same = definition_come plan symbols-are is ∙ ap (after_edit held) add.is in
      let next : RuleId = record { 0 = version + 1 } in
      let number : p.live.number ≡ next = ap (λ (live : Definition). live.number) add.new.is in
      let come : names add.text.name ≡ Some next = ap names (sym add.name) ∙ told ∙ ap Some number in
      let apart : (other : List ℕ) → bytes_eq add.text.name other ≡ false → names other ≡ old_names other =
      λ other e. others other (subst (λ (name : List ℕ). bytes_eq name other ≡ false) (sym add.name) e) in
      let lists = subst (λ (n : RuleId). ListsDefinitions (λ other. Contains old_live other ⊎ (other ≡ named n)) live) number (put agrees.has_live.order) in
      subst (λ (g : Grammar). Agrees g finds names lefts uses literals new live spare) (sym same) (record {
        well_formed = well_formed_after held (adds add.skip add.text) well taken;
        finds_rules = finds_rules_added held add.skip add.text finds well taken agrees.finds_rules;
        finds_definitions = finds_definition_added held add.skip add.text old_names names well taken agrees.finds_definitions come apart;
        has_lefts = rw lefts-are (lefts_definition_added held add.skip add.text old_lefts p.fresh.items well taken add.fresh agrees.has_lefts);
        has_uses = rw uses-are (uses_kept held add.skip add.text (uses_with old_uses p.fresh.items)
            (uses_grown held (adds add.skip add.text) old_uses p.fresh.items well add.fresh agrees.has_uses));
        has_literals = rw literals-are (literals_grown held (adds add.skip add.text) old_literals p.fresh.items add.fresh agrees.has_literals);
        has_positions = subst (AllByRecursion HasPositions) (sym is) (all_push HasPositions definitions p.live agrees.has_positions add.new.positions);
        has_live = live_definition_added held add.skip add.text old_live live well taken agrees.has_live lists;
        no_spare = agrees.no_spare;
      })
