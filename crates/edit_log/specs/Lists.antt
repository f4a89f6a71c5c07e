-- What is kept beside the rules, as plain lists.
use Rattle.std.specs.Prelude.{◌≡◌, ◌<◌, ℕ, ◌==◌, Bool, List, [], sum_by, count_by, slice_get, Option, Some, Vec, Contains}
use Rattle.std.specs.declared.alloc.Global.{Global}
use Rattle.std.specs.Option.{option_map_or, option_flatten}
use Rattle.std.specs.HashMap.{HashMap, get}
use Rattle.forest.specs.declared.symbols.SymbolId.{SymbolId}
use Rattle.forest.specs.declared.rules.RuleId.{RuleId}
use Rattle.forest.specs.declared.rules.Rule.{Rule}
use Rattle.regex_ast.specs.Positions.{Table}
use Rattle.edit_log.specs.declared.definitions.DefId.{DefId}
use Rattle.edit_log.specs.declared.definitions.DefId.TheVariants.{Literal as literal, Named as named}

-- the numbers at a place of lists of numbers, and none where there is no list
abbrev pub under : List (Vec RuleId Global) → ℕ → List RuleId
under lists place = option_map_or (λ list. list.items) (slice_get lists place) []

-- the live number of a key
abbrev pub live_number : {K S : Type 0} → (K → K → Bool) → HashMap K (Option RuleId) S → K → Option RuleId
live_number eq numbers key = option_flatten (get eq numbers key)

-- how often the symbol stands among these
abbrev pub occurrences : SymbolId → List SymbolId → ℕ
occurrences symbol parts = count_by (λ part. part.0 == symbol.0) parts

-- how often the symbol stands on the right sides of the rules
abbrev pub all_occurrences : SymbolId → List Rule → ℕ
all_occurrences symbol rules = sum_by (λ r. occurrences symbol r.right) rules

-- there are positions at this place
abbrev pub HasLiteral : List (Option Table) → ℕ → Type 0
HasLiteral literals place = (table : Table) × (slice_get literals place ≡ Some (Some table))

-- a definition is live by these lists: a literal that is used, or one of the tokens and skips
abbrev pub IsLiveBy : List (Option Table) → List ℕ → List RuleId → DefId → Type 0
IsLiveBy literals uses numbers (literal symbol) = HasLiteral literals symbol.0 × ((count : ℕ) × (slice_get uses symbol.0 ≡ Some count) × (0 < count))
IsLiveBy literals uses numbers (named number) = Contains numbers number

-- there is a place for each part
abbrev pub AreWithin : List SymbolId → ℕ → Type 0
AreWithin parts count = (part : SymbolId) → Contains parts part → part.0 < count

-- a rule with this right side makes a literal live that has a place
abbrev pub Wakes : List (Option Table) → List ℕ → List SymbolId → Type 0
Wakes literals uses right = (part : SymbolId) × Contains right part × HasLiteral literals part.0 × (slice_get uses part.0 ≡ Some 0)

-- a literal whose uses all stand on this right side
abbrev pub IsLastUse : List (Option Table) → List ℕ → List SymbolId → DefId → Type 0
IsLastUse literals uses right (literal symbol) = Contains right symbol × HasLiteral literals symbol.0 × (slice_get uses symbol.0
    ≡ Some (occurrences symbol right))
IsLastUse literals uses right (named number) = ⊥
