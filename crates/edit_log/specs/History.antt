-- A history is a list of edits, and the grammar after it is a plain fold over them.
use Rattle.std.specs.Prelude.{ℕ, ◌+◌, Bool, true, false, not, ◌&&◌, List, [], ◌∷◌, ◌++◌, fold, filter, codes}
use Rattle.grammar_text.specs.declared.symbol.Symbol.{Symbol}
use Rattle.grammar_text.specs.declared.symbol.Symbol.TheVariants.{Named}
use Rattle.grammar_text.specs.declared.edit.RuleText.{RuleText}
use Rattle.grammar_text.specs.declared.edit.DefText.{DefText}
use Rattle.grammar_text.specs.declared.edit.Edit.{Edit}
use Rattle.grammar_text.specs.declared.edit.Edit.TheVariants.{AddRule, DropRule, AddToken, DropToken, AddSkip, DropSkip}
use Rattle.grammar_text.specs.Sameness.{spelling_eq, rule_eq}
use Rattle.forest.specs.declared.symbols.SymbolId.{SymbolId}
use Rattle.forest.specs.declared.rules.RuleId.{RuleId}
use Rattle.forest.specs.declared.rules.Rule.{Rule}
use Rattle.edit_log.specs.Symbols.{number_of, symbol_at, with_symbols, symbols_of, numbered, text_of}

-- a token or a skip: a name, and the expression that matches it
pub record Definition : Type 0 where
  pub number : RuleId
  pub name : SymbolId
  pub is_skip : Bool
  pub expression : List ℕ

-- what a history makes: all symbols by their numbers, and the live rules and definitions, which ascend by number. The number of
-- a rule or a definition is the version that its edit made, so no number is used twice.
pub record Grammar : Type 0 where
  pub version : ℕ
  pub symbols : List Symbol
  pub rules : List Rule
  pub definitions : List Definition

-- version 0, whose one symbol is START
abbrev pub empty_grammar : Grammar
empty_grammar = record { version = 0; symbols = Named (codes "START") ∷ []; rules = []; definitions = [] }

-- the rule is written so
abbrev pub reads : List Symbol → RuleText → Rule → Bool
reads symbols r live = rule_eq (text_of symbols live) r

-- the definition has this name
abbrev pub has_name : List Symbol → List ℕ → Definition → Bool
has_name symbols name live = spelling_eq (symbol_at symbols live.name) (Named name)

-- a skip is looked for, and this is one; or a token, and this is one
abbrev pub is_of_kind : (skip : Bool) → Definition → Bool
is_of_kind true live = live.is_skip
is_of_kind false live = not live.is_skip

-- the skip of this name, or the token
abbrev pub is_named : List Symbol → (skip : Bool) → List ℕ → Definition → Bool
is_named symbols skip name live = has_name symbols name live && is_of_kind skip live

-- the definition with this number
abbrev pub defined : List Symbol → ℕ → Bool → DefText → Definition
defined symbols number is_skip d = record {
  number = record { 0 = number };
  name = number_of symbols (Named d.name);
  is_skip = is_skip;
  expression =
      d.expression;
}

-- the rules after the edit that makes this version
abbrev pub rules_after : List Symbol → ℕ → List Rule → Edit → List Rule
rules_after symbols version rules (AddRule r) = rules ++ numbered symbols version r ∷ []
rules_after symbols version rules (DropRule r) = filter (λ live. not (reads symbols r live)) rules
rules_after symbols version rules (AddToken d) = rules
rules_after symbols version rules (DropToken name) = rules
rules_after symbols version rules (AddSkip d) = rules
rules_after symbols version rules (DropSkip name) = rules

-- the definitions after it
abbrev pub definitions_after : List Symbol → ℕ → List Definition → Edit → List Definition
definitions_after symbols version definitions (AddRule r) = definitions
definitions_after symbols version definitions (DropRule r) = definitions
definitions_after symbols version definitions (AddToken d) = definitions ++ defined symbols version false d ∷ []
definitions_after symbols version definitions (DropToken name) = filter (λ live. not (is_named symbols false name live)) definitions
definitions_after symbols version definitions (AddSkip d) = definitions ++ defined symbols version true d ∷ []
definitions_after symbols version definitions (DropSkip name) = filter (λ live. not (is_named symbols true name live)) definitions

-- the grammar after one more edit
unfoldable pub after_edit : Grammar → Edit → Grammar
after_edit grammar edit =
    let version = grammar.version + 1 in
    let symbols = with_symbols grammar.symbols (symbols_of edit) in
    record {
      version = version;
      symbols = symbols;
      rules = rules_after symbols version grammar.rules edit;
      definitions =
          definitions_after symbols version grammar.definitions edit;
    }

-- the grammar that the edits of a history make
abbrev pub grammar_of : List Edit → Grammar
grammar_of history = fold after_edit empty_grammar history
