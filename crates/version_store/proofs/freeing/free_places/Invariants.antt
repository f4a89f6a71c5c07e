use Rattle.std.proofs.Common.{◌≡◌, ◌+◌}
use Rattle.pin_rule.specs.declared.view.View.{View}
use Rattle.pin_rule.specs.declared.view.Role.{Role}
use Rattle.pin_rule.specs.declared.view.GivingUp.{GivingUp}
use Rattle.pin_rule.specs.Hands.{view_of, table_of}
use Rattle.version_store.specs.Freeing.{IsGiving, FreesFirst}
use Rattle.version_store.proofs.freeing.free_places.Given as goal

abbrev pub invariant-loop-offset : goal.invariant-loop-offset
invariant-loop-offset g l = record {
  table : table_of l.hand ≡ table_of l.fn.hand;
  so_far : (v : View) (role : Role) (given : GivingUp) → IsGiving l.fn.leaving l.fn.carried role given 0 v
      → FreesFirst l.fn.leaving l.fn.carried role given l.fn.first v (view_of l.fn.hand)
      → FreesFirst l.fn.leaving l.fn.carried role given (l.fn.first + l.offset) v (view_of l.hand);
}
