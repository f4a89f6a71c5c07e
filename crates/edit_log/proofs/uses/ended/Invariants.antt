use Rattle.std.proofs.Common.{◌+◌, ◌-◌, ◌≤◌, length, take, vec_len, vec_capacity}
use Rattle.edit_log.specs.Lists.{IsLastUse}
use Rattle.edit_log.specs.Rows.{uses_in, literals_in}
use Rattle.edit_log.specs.Lookups.{ListsDefinitions}
use Rattle.edit_log.proofs.UseLists.{IsAmong}
use Rattle.edit_log.proofs.uses.ended.Given as goal

abbrev pub invariant-loop-part : goal.invariant-loop-part
invariant-loop-part l = record {
  lists : ListsDefinitions (λ d. IsLastUse (literals_in l.rows) (uses_in l.rows) l.right d × IsAmong (take l.part-index l.right) d) l.gone.items;
  room : length l.right ≤ (vec_capacity l.gone - vec_len l.gone) + l.part-index;
}
