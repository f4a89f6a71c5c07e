-- Whether a grammar takes an edit, or why not.
use Rattle.std.specs.Prelude.{◌≡◌, ℕ, ◌==◌, Bool, true, false, ◌||◌, List, [], ◌∷◌, Option, Some, None, option_map, find, if◌then◌else◌, codes}
use Rattle.std.specs.List.{list_any}
use Rattle.std.specs.Option.{option_or, is_some}
use Rattle.std.specs.Str.{bytes_eq}
use Rattle.grammar_text.specs.declared.symbol.Symbol.TheVariants.{Named}
use Rattle.grammar_text.specs.declared.edit.RuleText.{RuleText}
use Rattle.grammar_text.specs.declared.edit.Edit.{Edit}
use Rattle.grammar_text.specs.declared.edit.Edit.TheVariants.{AddRule, DropRule, AddToken, DropToken, AddSkip, DropSkip}
use Rattle.grammar_text.specs.Limits.{IsSound}
use Rattle.grammar_text.specs.Sameness.{spelling_eq}
use Rattle.forest.specs.declared.rules.Rule.{Rule}
use Rattle.regex_ast.specs.Expressions.{Expression}
use Rattle.regex_ast.specs.Refusals.{SpellsWithinLimits}
use Rattle.edit_log.specs.declared.refusal.Refusal.{Refusal}
use Rattle.edit_log.specs.declared.refusal.Refusal.TheVariants.{NameClash, Exists, NoSuch, LogFull}
use Rattle.edit_log.specs.declared.limits.TheConstants.{LOG_LIMIT}
use Rattle.edit_log.specs.Symbols.{symbol_at}
use Rattle.edit_log.specs.History.{Definition, Grammar, after_edit, empty_grammar, reads, has_name, is_named}

-- the live rule that is written so
abbrev pub rule_found : Grammar → RuleText → Option Rule
rule_found grammar r = find (reads grammar.symbols r) grammar.rules

-- the live token, or the live skip, of this name
abbrev pub definition_found : Grammar → Bool → List ℕ → Option Definition
definition_found grammar is_skip name = find (is_named grammar.symbols is_skip name) grammar.definitions

-- the name is that of a live token or skip
abbrev pub is_defined : Grammar → List ℕ → Bool
is_defined grammar name = list_any (has_name grammar.symbols name) grammar.definitions

-- the name is the left side of a live rule
abbrev pub is_left : Grammar → List ℕ → Bool
is_left grammar name = list_any (λ live. spelling_eq (symbol_at grammar.symbols live.left) (Named name)) grammar.rules

-- a token may not have this name, or a skip: it is START, the left side of a live rule, or the name of a live definition of the other kind
abbrev pub is_taken : Grammar → (other : Bool) → List ℕ → Bool
is_taken grammar other name = bytes_eq name (codes "START") || is_left grammar name || is_some (definition_found grammar other name)

abbrev when : {A : Type 0} → Bool → A → Option A
when test refusal = if test then Some refusal else None

-- a name would be both a left side and a definition, or both a token and a skip
abbrev pub clash : Grammar → Edit → Option Refusal
clash grammar (AddRule r) = when (is_defined grammar r.left) (NameClash r.left)
clash grammar (DropRule r) = None
clash grammar (AddToken d) = when (is_taken grammar true d.name) (NameClash d.name)
clash grammar (DropToken name) = None
clash grammar (AddSkip d) = when (is_taken grammar false d.name) (NameClash d.name)
clash grammar (DropSkip name) = None

-- what would be added is there
abbrev pub twin : Grammar → Edit → Option Refusal
twin grammar (AddRule r) = option_map (λ live. Exists live.number.0) (rule_found grammar r)
twin grammar (DropRule r) = None
twin grammar (AddToken d) = option_map (λ live. Exists live.number.0) (definition_found grammar false d.name)
twin grammar (DropToken name) = None
twin grammar (AddSkip d) = option_map (λ live. Exists live.number.0) (definition_found grammar true d.name)
twin grammar (DropSkip name) = None

abbrev unless_found : {A : Type 0} → Option A → Option Refusal
unless_found None = Some NoSuch
unless_found (Some found) = None

-- what would be dropped is not there
abbrev pub lack : Grammar → Edit → Option Refusal
lack grammar (AddRule r) = None
lack grammar (DropRule r) = unless_found (rule_found grammar r)
lack grammar (AddToken d) = None
lack grammar (DropToken name) = unless_found (definition_found grammar false name)
lack grammar (AddSkip d) = None
lack grammar (DropSkip name) = unless_found (definition_found grammar true name)

-- no more edits are taken
abbrev pub fullness : Grammar → Option Refusal
fullness grammar = when (grammar.version == LOG_LIMIT) (LogFull LOG_LIMIT)

-- why the grammar does not take the edit: the first reason in this order, and none where it takes it
unfoldable pub verdict : Grammar → Edit → Option Refusal
verdict grammar edit = option_or (clash grammar edit) (option_or (twin grammar edit) (option_or (lack grammar edit) (fullness grammar)))

-- an added expression is one that is read
abbrev pub HasExpression : Edit → Type 0
HasExpression (AddRule r) = Unit {0}
HasExpression (DropRule r) = Unit {0}
HasExpression (AddToken d) = (e : Expression) × SpellsWithinLimits d.expression e
HasExpression (DropToken name) = Unit {0}
HasExpression (AddSkip d) = (e : Expression) × SpellsWithinLimits d.expression e
HasExpression (DropSkip name) = Unit {0}

-- the edit may be asked for: it can be written, and its expression is read
abbrev pub IsProper : Edit → Type 0
IsProper edit = IsSound edit × HasExpression edit

-- the grammar takes the edit
pub record IsAccepted (grammar : Grammar) (edit : Edit) : Type 0 where
  pub proper : IsProper edit
  pub taken : verdict grammar edit ≡ None

-- each edit is taken by the grammar that those before it make
abbrev pub AreAccepted : Grammar → List Edit → Type 0
AreAccepted grammar [] = Unit {0}
AreAccepted grammar (edit ∷ edits) = IsAccepted grammar edit × AreAccepted (after_edit grammar edit) edits

-- the list of edits is a history
abbrev pub IsHistory : List Edit → Type 0
IsHistory edits = AreAccepted empty_grammar edits
