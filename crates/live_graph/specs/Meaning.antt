-- What a graph means.
use Rattle.std.specs.Prelude.{List}
use Rattle.edit_log.specs.History.{Grammar}
use Rattle.item_sets.specs.declared.item.Item.{Item}
use Rattle.isg_states.specs.declared.scan_key.ScanKey.{ScanKey}

-- of one kind of key: those that the graph was asked for, in the order of their first ask and none twice, and those of them that it expanded itself
pub record Asked (Key : Type 0) : Type 0 where
  pub keys : List Key
  pub own : List Key

-- the grammar, the states of the scanner and the kernels that the graph was asked for, and what it stands on, which no call changes
pub record GraphMeaning (Base : Type 0) : Type 0 where
  pub grammar : Grammar
  pub scans : Asked ScanKey
  pub kernels : Asked (List Item)
  pub base : Base
