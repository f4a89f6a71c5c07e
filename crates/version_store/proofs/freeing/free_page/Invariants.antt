use Rattle.std.proofs.Common.{◌≡◌, ◌*◌}
use Rattle.pin_rule.specs.declared.view.Role.{Role}
use Rattle.pin_rule.specs.declared.view.GivingUp.{GivingUp}
use Rattle.pin_rule.specs.Hands.{view_of, table_of}
use Rattle.version_store.specs.Freeing.{IsGiving, FreesFirst}
use Rattle.version_store.proofs.freeing.free_page.Given as goal

abbrev pub invariant-loop-group : goal.invariant-loop-group
invariant-loop-group g l = record {
  table : table_of l.hand ≡ table_of l.fn.hand;
  so_far : (role : Role) (given : GivingUp) → IsGiving l.fn.leaving l.fn.carried role given 0 (view_of l.fn.hand)
      → FreesFirst l.fn.leaving l.fn.carried role given (l.group * 8) (view_of l.fn.hand) (view_of l.hand);
}
