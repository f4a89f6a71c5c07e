-- A definition that stays live keeps its pattern.
use Rattle.std.proofs.Common.{◌≡◌, ℕ, ◌+◌, ◌<◌, ◌≤◌, ◌==◌, ◌⊎◌, ◌↔◌, inl, inr, Bool, true, false, not, cond, List, [], ◌∷◌, ◌++◌, filter, find, length, Option}
use Rattle.std.proofs.Common.{Some, None, refl, sym, ◌∙◌, ap, subst, arith, append-nil, IsTrue, Contains}
use Rattle.std.specs.List.{AllByRecursion}
use Rattle.std.specs.Option.{is_some}
use Rattle.std.proofs.lemmas.Bool.{eqb-true, eqb-false, eq-eqb, cases_eq, ne_eqb}
use Rattle.grammar_text.specs.declared.symbol.Symbol.{Symbol}
use Rattle.grammar_text.specs.declared.symbol.Symbol.TheVariants.{Named, Literal}
use Rattle.grammar_text.specs.declared.edit.RuleText.{RuleText}
use Rattle.grammar_text.specs.declared.edit.DefText.{DefText}
use Rattle.grammar_text.specs.declared.edit.Edit.{Edit}
use Rattle.grammar_text.specs.declared.edit.Edit.TheVariants.{AddRule, DropRule, AddToken, DropToken, AddSkip, DropSkip}
use Rattle.forest.specs.declared.symbols.SymbolId.{SymbolId}
use Rattle.forest.specs.declared.rules.RuleId.{RuleId}
use Rattle.forest.specs.declared.rules.Rule.{Rule}
use Rattle.edit_log.specs.declared.definitions.DefId.{DefId}
use Rattle.edit_log.specs.declared.definitions.DefId.TheVariants.{Literal as literal, Named as named}
use Rattle.edit_log.specs.Symbols.{symbol_at, symbols_of, with_symbols}
use Rattle.edit_log.specs.History.{Definition, Grammar, after_edit, defined}
use Rattle.edit_log.specs.Facts.{IsWellFormed, IsNumber}
use Rattle.edit_log.specs.Verdict.{IsAccepted, definition_found}
use Rattle.edit_log.specs.Live.{IsLive, definition_of}
use Rattle.edit_log.specs.Lists.{all_occurrences}
use Rattle.edit_log.specs.Replicas.{adds, drops}
use Rattle.edit_log.proofs.PlainLists.{all_contained, each_contained, find_kept, find_push-first}
use Rattle.edit_log.proofs.NewSymbols.{with_symbols-grown}
use Rattle.edit_log.proofs.LiveByUses.{live_literal, live_named, counted_within, numbers_in}
use Rattle.edit_log.proofs.LiveAfter.{symbol_kept, number_within, live_dropped}
use Rattle.edit_log.proofs.After.{definitions_dropped}
use Rattle.edit_log.proofs.Verdicts.{free, definition_there}
use Rattle.isg_states.specs.Patterns.{Pattern, bytes, expression, IsPatternOf, HasPattern}

-- ---- symbols

pub symbols_after : (g : Grammar) (edit : Edit) → (after_edit g edit).symbols ≡ with_symbols g.symbols (symbols_of edit)
unfolding after_edit
symbols_after g edit = refl

-- a live literal is the same symbol after an edit
pub literal_same : (g : Grammar) (edit : Edit) (s : SymbolId) → IsWellFormed g → IsLive g (literal s)
    → symbol_at (after_edit g edit).symbols s ≡ symbol_at g.symbols s
literal_same g edit s well live =
    let grown = with_symbols-grown g.symbols (symbols_of edit) in
    let used = ((live_literal g s).0 live).1 in
    symbol_kept g.symbols (after_edit g edit).symbols grown.more s (symbols_after g edit ∙ grown.is) (counted_within g.symbols g.rules s well.rights used)

-- ---- tokens and skips

-- the definition with this number is the same in both grammars
abbrev IsSameAt : Grammar → Grammar → RuleId → Type 0
IsSameAt g next n = definition_of next n ≡ definition_of g n

rule_added_same : (g : Grammar) (r : RuleText) (n : RuleId) → IsSameAt g (after_edit g (AddRule r)) n
unfolding after_edit
rule_added_same g r n = refl

rule_dropped_same : (g : Grammar) (r : RuleText) (n : RuleId) → IsSameAt g (after_edit g (DropRule r)) n
unfolding after_edit
rule_dropped_same g r n = refl

added_same : (g : Grammar) (skip : Bool) (d : DefText) (n : RuleId) → n.0 ≤ g.version → IsSameAt g (after_edit g (adds skip d)) n
unfolding after_edit
added_same g true d n old =
    find_push-first (λ (live : Definition). live.number.0 == n.0) g.definitions
    (defined (with_symbols g.symbols (symbols_of (AddSkip d))) (g.version + 1) true d)
    (ne_eqb (g.version + 1) n.0 (λ e. omega arith))
added_same g false d n old =
    find_push-first (λ (live : Definition). live.number.0 == n.0) g.definitions
    (defined (with_symbols g.symbols (symbols_of (AddToken d))) (g.version + 1) false d)
    (ne_eqb (g.version + 1) n.0 (λ e. omega arith))

dropped_same : (g : Grammar) (skip : Bool) (name : List ℕ) (gone : Definition) (n : RuleId) → IsWellFormed g → IsAccepted g (drops skip name)
    → definition_found g skip name ≡ Some gone
    → (n.0 ≡ gone.number.0 → ⊥) → IsSameAt g (after_edit g (drops skip name)) n
dropped_same g skip name gone n well accepted found other =
    let test = λ (live : Definition). live.number.0 == n.0 in
    let kept = λ (live : Definition). not (live.number.0 == gone.number.0) in
    ap (λ definitions. find test definitions) (definitions_dropped g skip name gone well accepted found)
    ∙ find_kept test kept g.definitions (all_contained _ g.definitions (λ live c is.
    let same : live.number.0 ≡ n.0 = eqb-true live.number.0 n.0 is in
    ap not (ne_eqb live.number.0 gone.number.0 (λ e. other (sym same ∙ e)))))

-- the dropped one is not live then
dropped_gone : (g : Grammar) (skip : Bool) (name : List ℕ) (gone : Definition) (n : RuleId) → IsWellFormed g → IsAccepted g (drops skip name)
    → definition_found g skip name ≡ Some gone
    → IsLive (after_edit g (drops skip name)) (named n) → n.0 ≡ gone.number.0 → ⊥
dropped_gone g skip name gone n well accepted found live e =
    let known = (live_dropped g skip name gone well accepted found (named n)).0 live in
    known.1 (ap (λ k. named (let r : RuleId = record { 0 = k } in r)) e)

-- a definition that stays live is the same
pub definition_same : (g : Grammar) (edit : Edit) (n : RuleId) → IsWellFormed g → IsAccepted g edit → IsLive g (named n) → IsLive (after_edit g edit) (named n)
    → IsSameAt g (after_edit g edit) n
definition_same g (AddRule r) n well accepted live stays = rule_added_same g r n
definition_same g (DropRule r) n well accepted live stays = rule_dropped_same g r n
definition_same g (AddToken d) n well accepted live stays =
    added_same g false d n (number_within g.version g.definitions n well.definition_numbers ((live_named g n).0 live))
definition_same g (AddSkip d) n well accepted live stays =
    added_same g true d n (number_within g.version g.definitions n well.definition_numbers ((live_named g n).0 live))
definition_same g (DropToken name) n well accepted live stays =
    let (gone, found) = definition_there g false name (free g (DropToken name) accepted.taken).lack in
    dropped_same g false name gone n well accepted found (dropped_gone g false name gone n well accepted found stays)
definition_same g (DropSkip name) n well accepted live stays =
    let (gone, found) = definition_there g true name (free g (DropSkip name) accepted.taken).lack in
    dropped_same g true name gone n well accepted found (dropped_gone g true name gone n well accepted found stays)

-- ---- patterns

pub pattern_kept : (g : Grammar) (edit : Edit) (d : DefId) (p : Pattern) → IsWellFormed g → IsAccepted g edit → IsLive (after_edit g edit) d → HasPattern g d p
    → HasPattern (after_edit g edit) d p
pattern_kept g edit d p well accepted stays has = record { live = stays; is = by d p stays has.live has.is }
  where
    by : (d : DefId) (p : Pattern) → IsLive (after_edit g edit) d → IsLive g d → IsPatternOf g d p → IsPatternOf (after_edit g edit) d p
    by (literal s) (bytes text) stays live is = literal_same g edit s well live ∙ is
    by (literal s) (expression e) stays live is = absurd is
    by (named n) (bytes text) stays live is = absurd is
    by (named n) (expression e) stays live is = (is.0, definition_same g edit n well accepted live stays ∙ is.1, is.2)

pub pattern_back : (g : Grammar) (edit : Edit) (d : DefId) (p : Pattern) → IsWellFormed g → IsAccepted g edit → IsLive g d → HasPattern (after_edit g edit) d p
    → HasPattern g d p
pattern_back g edit d p well accepted live has = record { live = live; is = by d p has.live live has.is }
  where
    by : (d : DefId) (p : Pattern) → IsLive (after_edit g edit) d → IsLive g d → IsPatternOf (after_edit g edit) d p → IsPatternOf g d p
    by (literal s) (bytes text) stays live is = sym (literal_same g edit s well live) ∙ is
    by (literal s) (expression e) stays live is = absurd is
    by (named n) (bytes text) stays live is = absurd is
    by (named n) (expression e) stays live is = (is.0, sym (definition_same g edit n well accepted live stays) ∙ is.1, is.2)
