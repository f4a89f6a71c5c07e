-- How many keys the graph of a page holds.
use Rattle.std.specs.Prelude.{ℕ, List}
use Rattle.edit_log.specs.History.{Grammar}
use Rattle.pin_rule.specs.Lists.{In}
use Rattle.row_coding.specs.Rows.{kernel, scan}
use Rattle.live_graph.specs.Growing.{HasRowOf}
use Rattle.sections.specs.Held.{IsCount}

-- so many kernels and so many states of the scanner have their row, with its expansion in the grammar, in the graph
pub record HoldsCounts (grammar : Grammar) (graph : List (List ℕ)) (items scan_keys : ℕ) : Type 0 where
  pub kernels : IsCount (λ key. HasRowOf grammar (kernel key) graph) items
  pub scans : IsCount (λ key. HasRowOf grammar (scan key) graph) scan_keys

-- no row came and none went
pub record HasSameRows (old new : List (List ℕ)) : Type 0 where
  pub kept : (row : List ℕ) → In row new → In row old
  pub every : (row : List ℕ) → In row old → In row new
