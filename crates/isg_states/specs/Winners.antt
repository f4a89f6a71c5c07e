-- Which definition a key accepts.
use Rattle.std.specs.Prelude.{◌≡◌, ◌⊎◌, Contains, List, Option, Some, None, MatchOption, if◌then◌else◌}
use Rattle.std.specs.Ordering.{is_lt}
use Rattle.std.specs.declared.cmp.Ordering.TheVariants.{Less}
use Rattle.edit_log.specs.declared.definitions.DefId.{DefId}
use Rattle.edit_log.specs.History.{Grammar}
use Rattle.edit_log.specs.Live.{definition_cmp}
use Rattle.isg_states.specs.declared.mark.Mark.{Mark}
use Rattle.isg_states.specs.declared.scan_key.ScanKey.{ScanKey}
use Rattle.isg_states.specs.declared.scan_key.ScanKey.TheVariants.{Start, Set}
use Rattle.isg_states.specs.Patterns.{IsLastMark}

-- the set has a last position of the definition
abbrev pub HasLast : Grammar → ScanKey → DefId → Type 0
HasLast grammar Start definition = ⊥
HasLast grammar (Set marks) definition = (mark : Mark) × Contains marks mark × (mark.def ≡ definition) × IsLastMark grammar mark

-- of the definitions that have a last position in the set, this one comes first: a literal before tokens and skips, and then the lower number
pub record Accepts (grammar : Grammar) (key : ScanKey) (winner : DefId) : Type 0 where
  pub ends : HasLast grammar key winner
  pub first : (other : DefId) → HasLast grammar key other → (other ≡ winner) ⊎ (definition_cmp winner other ≡ Less)

-- the definition that the set of these marks accepts, and none where it accepts none
abbrev pub IsFirstEnded : Grammar → List Mark → Option DefId → Type 0
IsFirstEnded grammar marks winner = MatchOption winner ((definition : DefId) → HasLast grammar (Set marks) definition → ⊥) (λ w. Accepts grammar (Set marks) w)

-- the first of two definitions, of which the one before may be missing
abbrev pub first_definition : Option DefId → DefId → DefId
first_definition None definition = definition
first_definition (Some other) definition = if is_lt (definition_cmp other definition) then other else definition
