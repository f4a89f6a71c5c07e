-- The rows that an edit leaves, by the verdict on it.
use Rattle.std.proofs.Common.{◌≡◌, ℕ, List, Some, None, sym, subst}
use Rattle.grammar_text.specs.declared.edit.Edit.{Edit}
use Rattle.edit_log.specs.declared.refusal.Refusal.{Refusal}
use Rattle.edit_log.specs.History.{Grammar}
use Rattle.edit_log.specs.Touches.{IsTouchOf}
use Rattle.edit_log.specs.Verdict.{verdict}
use Rattle.pin_rule.specs.Lists.{In}
use Rattle.graph_content.specs.Modifications.{Modification}
use Rattle.graph_content.specs.Contents.{KeepsRow}
use Rattle.sections.specs.Editing.{LeavesUntouched, LeavesBy, LeavesRows}

pub rows_refused : (grammar : Grammar) (edit : Edit) (why : Refusal) (old new : List (List ℕ)) → verdict grammar edit ≡ Some why → new ≡ old
    → LeavesRows grammar edit old new
rows_refused grammar edit why old new is same = subst (λ v. LeavesBy v grammar edit old new) (sym is) same

pub rows_taken : (grammar : Grammar) (edit : Edit) (m : Modification) (old new : List (List ℕ)) → verdict grammar edit ≡ None → m.grammar ≡ grammar
    → IsTouchOf m.grammar edit m.touch → ((row : List ℕ) → In row new → In row old × KeepsRow m row)
    → ((row : List ℕ) → In row old → KeepsRow m row → In row new) → LeavesRows grammar edit old new
rows_taken grammar edit m old new is same touches kept every =
    let leaves : LeavesUntouched m.grammar edit old new = record { touch = m.touch; touches = touches; kept = kept; every = every } in
    subst (λ v. LeavesBy v grammar edit old new) (sym is) (subst (λ g. LeavesUntouched g edit old new) same leaves)
