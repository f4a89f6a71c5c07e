-- Which rows an edit leaves in a bench.
use Rattle.std.specs.Prelude.{◌≡◌, ℕ, List, Option, Some, None}
use Rattle.grammar_text.specs.declared.edit.Edit.{Edit}
use Rattle.edit_log.specs.declared.refusal.Refusal.{Refusal}
use Rattle.edit_log.specs.declared.touch.Touch.{Touch}
use Rattle.edit_log.specs.History.{Grammar}
use Rattle.edit_log.specs.Touches.{IsTouchOf}
use Rattle.edit_log.specs.Verdict.{verdict}
use Rattle.pin_rule.specs.Lists.{In}
use Rattle.graph_content.specs.Contents.{IsUntouched}

-- exactly the rows of keys stay that the edit does not affect
pub record LeavesUntouched (grammar : Grammar) (edit : Edit) (old new : List (List ℕ)) : Type 0 where
  pub touch : Touch
  pub touches : IsTouchOf grammar edit touch
  pub kept : (row : List ℕ) → In row new → In row old × IsUntouched grammar touch row
  pub every : (row : List ℕ) → In row old → IsUntouched grammar touch row → In row new

-- the same rows are there
abbrev pub LeavesAll : List (List ℕ) → List (List ℕ) → Type 0
LeavesAll old new = new ≡ old

abbrev pub LeavesBy : Option Refusal → Grammar → Edit → List (List ℕ) → List (List ℕ) → Type 0
LeavesBy None grammar edit old new = LeavesUntouched grammar edit old new
LeavesBy (Some why) grammar edit old new = LeavesAll old new

-- an edit that is taken leaves the rows that it does not touch, and a refused one all rows
abbrev pub LeavesRows : Grammar → Edit → List (List ℕ) → List (List ℕ) → Type 0
LeavesRows grammar edit old new = LeavesBy (verdict grammar edit) grammar edit old new
