-- A grammar in memory, and what an edit was prepared for.
use Rattle.std.specs.Prelude.{◌≡◌, ◌≤◌, ℕ, ◌+◌, ◌-◌, Bool, true, false, List, [], ◌++◌, length, map, slice_get, Option, Some, None, IfSome, if◌then◌else◌}
use Rattle.std.specs.Prelude.{Vec, vec_len, vec_capacity}
use Rattle.std.specs.declared.alloc.Global.{Global}
use Rattle.std.specs.List.{AllByRecursion}
use Rattle.grammar_text.specs.declared.symbol.Symbol.{Symbol}
use Rattle.grammar_text.specs.declared.symbol.Symbol.TheVariants.{Named, Literal}
use Rattle.grammar_text.specs.declared.edit.DefText.{DefText}
use Rattle.grammar_text.specs.declared.edit.Edit.{Edit}
use Rattle.grammar_text.specs.declared.edit.Edit.TheVariants.{AddRule, DropRule, AddToken, DropToken, AddSkip, DropSkip}
use Rattle.forest.specs.declared.symbols.SymbolId.{SymbolId}
use Rattle.regex_ast.specs.Expressions.{Expression}
use Rattle.regex_ast.specs.Refusals.{SpellsWithinLimits}
use Rattle.regex_ast.specs.Positions.{Table, ArePositionsOf, ArePositionsOfLiteral}
use Rattle.edit_log.specs.declared.fresh_symbols.FreshSymbol.{FreshSymbol}
use Rattle.edit_log.specs.declared.named_definitions.NamedDefinition.{NamedDefinition}
use Rattle.edit_log.specs.declared.ready.Ready.{Ready}
use Rattle.edit_log.specs.declared.ready.Plan.{Plan}
use Rattle.edit_log.specs.declared.ready.Plan.TheVariants as plan
use Rattle.edit_log.specs.Symbols.{number_of, numbered}
use Rattle.edit_log.specs.History.{Definition, Grammar, after_edit, defined, is_of_kind}
use Rattle.edit_log.specs.Verdict.{IsAccepted, rule_found, definition_found}
use Rattle.edit_log.specs.Touches.{IsTouchOf}

-- for how many more there is memory: of each kind of thing, and of rules under each left side
pub record Spare : Type 0 where
  pub symbols : ℕ
  pub rows : ℕ
  pub live : ℕ
  pub rules : ℕ
  pub rule_numbers : ℕ
  pub definitions : ℕ
  pub definition_numbers : ℕ
  pub under : List ℕ

-- the grammar that it holds, and the memory that it has
pub record Replica : Type 0 where
  pub grammar : Grammar
  pub room : Spare

-- for how many more elements the list has memory
abbrev pub room_of : {X : Type 0} → Vec X Global → ℕ
room_of list = vec_capacity list - vec_len list

-- the first room is at most the second
pub record IsNoMoreThan (old new : Spare) : Type 0 where
  pub symbols : old.symbols ≤ new.symbols
  pub rows : old.rows ≤ new.rows
  pub live : old.live ≤ new.live
  pub rules : old.rules ≤ new.rules
  pub rule_numbers : old.rule_numbers ≤ new.rule_numbers
  pub definitions : old.definitions ≤ new.definitions
  pub definition_numbers : old.definition_numbers ≤ new.definition_numbers
  pub count : length new.under ≡ length old.under
  pub under : (place count : ℕ) → slice_get old.under place ≡ Some count → (more : ℕ) × (slice_get new.under place ≡ Some more) × (count ≤ more)

-- any edit brings at most 17 symbols, 17 definitions, and one rule or one token or skip
pub record HasSpare (room : Spare) : Type 0 where
  pub symbols : 17 ≤ room.symbols
  pub rows : 17 ≤ room.rows
  pub live : 17 ≤ room.live
  pub rules : 1 ≤ room.rules
  pub rule_numbers : 1 ≤ room.rule_numbers
  pub definitions : 1 ≤ room.definitions
  pub definition_numbers : 1 ≤ room.definition_numbers

-- one more rule fits under the left side, where that is a symbol already
abbrev pub HasRoomAt : Spare → Option SymbolId → Type 0
HasRoomAt room left = IfSome left (λ symbol. IfSome (slice_get room.under symbol.0) (λ count. 1 ≤ count))

-- a rule that is added fits under its left side, where that is a symbol already
abbrev pub HasRoomUnder : Replica → Edit → Type 0
HasRoomUnder replica (AddRule r) = IfSome (slice_get replica.room.under (number_of replica.grammar.symbols (Named r.left)).0) (λ count. 1 ≤ count)
HasRoomUnder replica (DropRule r) = Unit {0}
HasRoomUnder replica (AddToken d) = Unit {0}
HasRoomUnder replica (DropToken name) = Unit {0}
HasRoomUnder replica (AddSkip d) = Unit {0}
HasRoomUnder replica (DropSkip name) = Unit {0}

-- ---- what is kept of symbols and definitions

-- the positions of a literal, and none of a name
abbrev pub ArePositionsOfSymbol : Symbol → Option Table → Type 0
ArePositionsOfSymbol (Named name) positions = positions ≡ None
ArePositionsOfSymbol (Literal bytes) positions = (table : Table) × (positions ≡ Some table) × ArePositionsOfLiteral bytes table

-- a symbol that no rule has yet, with room for the first
pub record IsFreshSymbol (one : FreshSymbol) : Type 0 where
  pub positions : ArePositionsOfSymbol one.symbol one.positions
  pub rules : one.rules.items ≡ []
  pub room : 1 ≤ room_of one.rules

abbrev pub symbols_in : List FreshSymbol → List Symbol
symbols_in fresh = map (λ one. one.symbol) fresh

-- a definition without its positions
abbrev pub seen_of : NamedDefinition → Definition
seen_of live = record { number = live.number; name = live.name; is_skip = live.is_skip; expression = live.expression }

-- the definition, where it is of this kind
abbrev pub of_kind : (skip : Bool) → Option Definition → Option Definition
of_kind skip None = None
of_kind skip (Some live) = if is_of_kind skip live then Some live else None

-- the positions are those of the expression
abbrev pub HasPositions : NamedDefinition → Type 0
HasPositions live = (e : Expression) × SpellsWithinLimits live.expression e × ArePositionsOf e live.positions

-- ---- what an edit was prepared for

-- these symbols are not there yet, and with them all symbols of the edit are
pub record AreFreshFor (grammar : Grammar) (edit : Edit) (fresh : List FreshSymbol) : Type 0 where
  pub symbols : (after_edit grammar edit).symbols ≡ grammar.symbols ++ symbols_in fresh
  pub each : AllByRecursion IsFreshSymbol fresh
  pub few : length fresh ≤ 17

-- the definition that the edit adds
pub record IsAddedDefinition (grammar : Grammar) (edit : Edit) (live : NamedDefinition) (seen : Definition) : Type 0 where
  pub is : seen_of live ≡ seen
  pub positions : HasPositions live

-- the plan is that of the edit
abbrev pub IsPlanFor : Grammar → Edit → Plan → Type 0
IsPlanFor grammar (AddRule r) (plan.AddRule p) =
    (p.text ≡ r) × (p.live ≡ numbered (after_edit grammar (AddRule r)).symbols (grammar.version + 1) r) × AreFreshFor grammar (AddRule r) p.fresh.items
IsPlanFor grammar (DropRule r) (plan.DropRule p) = (p.text ≡ r) × ((live : _) × (rule_found grammar r ≡ Some live) × (p.number ≡ live.number))
IsPlanFor grammar (AddToken d) (plan.AddDefinition p) =
    (p.name ≡ d.name) × IsAddedDefinition grammar (AddToken d) p.live (defined (after_edit grammar (AddToken d)).symbols (grammar.version + 1) false d) ×
    AreFreshFor grammar
    (AddToken d) p.fresh.items
IsPlanFor grammar (DropToken name) (plan.DropDefinition p) = (p.name ≡ name) × ((live : _) × (definition_found grammar false name ≡ Some live)
    × (p.number ≡ live.number))
IsPlanFor grammar (AddSkip d) (plan.AddDefinition p) =
    (p.name ≡ d.name) × IsAddedDefinition grammar (AddSkip d) p.live (defined (after_edit grammar (AddSkip d)).symbols (grammar.version + 1) true d) ×
    AreFreshFor grammar
    (AddSkip d) p.fresh.items
IsPlanFor grammar (DropSkip name) (plan.DropDefinition p) = (p.name ≡ name) × ((live : _) × (definition_found grammar true name ≡ Some live)
    × (p.number ≡ live.number))
IsPlanFor grammar edit p = ⊥

-- the replica takes the edit, of which this is the plan, and has the memory for it
pub record IsApplicable (replica : Replica) (edit : Edit) (p : Plan) : Type 0 where
  pub accepted : IsAccepted replica.grammar edit
  pub plan : IsPlanFor replica.grammar edit p
  pub room : HasSpare replica.room
  pub under : HasRoomUnder replica edit

-- the edit was prepared for this replica
pub record IsReadyFor (replica : Replica) (edit : Edit) (ready : Ready) : Type 0 where
  pub applicable : IsApplicable replica edit ready.plan
  pub touch : IsTouchOf replica.grammar edit ready.touch

-- a token or a skip is added, or dropped
abbrev pub adds : (is_skip : Bool) → DefText → Edit
adds true d = AddSkip d
adds false d = AddToken d

abbrev pub drops : (is_skip : Bool) → List ℕ → Edit
drops true name = DropSkip name
drops false name = DropToken name
