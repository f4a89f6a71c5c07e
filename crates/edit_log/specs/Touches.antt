-- What an edit touches.
use Rattle.std.specs.Prelude.{◌≡◌, ◌↔◌, ◌⊎◌, Option, Some, None, option_map, IsTrue}
use Rattle.grammar_text.specs.declared.symbol.Symbol.TheVariants.{Named}
use Rattle.grammar_text.specs.declared.edit.Edit.{Edit}
use Rattle.grammar_text.specs.declared.edit.Edit.TheVariants.{AddRule, DropRule, AddToken, DropToken, AddSkip, DropSkip}
use Rattle.forest.specs.declared.symbols.SymbolId.{SymbolId}
use Rattle.forest.specs.declared.rules.RuleId.{RuleId}
use Rattle.edit_log.specs.declared.definitions.DefId.{DefId}
use Rattle.edit_log.specs.declared.touch.Touch.{Touch}
use Rattle.edit_log.specs.Symbols.{number_of}
use Rattle.edit_log.specs.History.{Grammar, after_edit}
use Rattle.edit_log.specs.Live.{IsLive}
use Rattle.edit_log.specs.Lookups.{ListsDefinitions}
use Rattle.edit_log.specs.Verdict.{rule_found}

-- the left side of a rule that is added or dropped
abbrev pub touched_left : Grammar → Edit → Option SymbolId
touched_left grammar (AddRule r) = Some (number_of (after_edit grammar (AddRule r)).symbols (Named r.left))
touched_left grammar (DropRule r) = Some (number_of (after_edit grammar (DropRule r)).symbols (Named r.left))
touched_left grammar (AddToken d) = None
touched_left grammar (DropToken name) = None
touched_left grammar (AddSkip d) = None
touched_left grammar (DropSkip name) = None

-- the rule that is dropped
abbrev pub ended_rule : Grammar → Edit → Option RuleId
ended_rule grammar (AddRule r) = None
ended_rule grammar (DropRule r) = option_map (λ live. live.number) (rule_found grammar r)
ended_rule grammar (AddToken d) = None
ended_rule grammar (DropToken name) = None
ended_rule grammar (AddSkip d) = None
ended_rule grammar (DropSkip name) = None

-- the definition is live in the first grammar, and not in the second
abbrev pub IsEnded : Grammar → Grammar → DefId → Type 0
IsEnded old new definition = IsLive old definition × (IsLive new definition → ⊥)

-- some definition is live in one of the grammars alone
abbrev pub ChangesDefinitions : Grammar → Grammar → Type 0
ChangesDefinitions old new = (definition : DefId) × (IsEnded old new definition ⊎ IsEnded new old definition)

-- what the edit touches where this grammar takes it
pub record IsTouchOf (grammar : Grammar) (edit : Edit) (touch : Touch) : Type 0 where
  pub left : touch.left ≡ touched_left grammar edit
  pub gone_rule : touch.gone_rule ≡ ended_rule grammar edit
  pub scan : IsTrue touch.scan ↔ ChangesDefinitions grammar (after_edit grammar edit)
  pub gone_defs : ListsDefinitions (IsEnded grammar (after_edit grammar edit)) touch.gone_defs
