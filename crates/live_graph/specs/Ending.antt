-- What the steps of a graph over a page show when it ends.
use Rattle.std.specs.Prelude.{List, Contains}
use Rattle.forest.specs.Distinct.{IsDistinct}
use Rattle.item_sets.specs.declared.item.Item.{Item}
use Rattle.isg_states.specs.declared.scan_key.ScanKey.{ScanKey}
use Rattle.pin_rule.specs.declared.view.Step.{Step}
use Rattle.row_coding.specs.Rows.{key_words, kernel, scan}
use Rattle.live_graph.specs.declared.origin.Origin.{Origin}
use Rattle.live_graph.specs.Sharing.{Shared, keys_in}
use Rattle.live_graph.specs.Showing.{Comes, Came, ShowsKey, IsNarrow}

-- No key comes twice. Only quiet steps were added to those of the basis. They show of each key how its expansion came; and of each whose row is not too
-- wide, that the page has it, or had no room.
pub record EndsShown (graph : Shared) : Type 0 where
  pub kernels_once : IsDistinct (keys_in graph.kernels)
  pub scans_once : IsDistinct (keys_in graph.scans)
  pub added : List Step
  pub comes : Comes graph.basis graph.page added
  pub kernels_came : (items : List Item) (origin : Origin) → Contains graph.kernels (items, origin) → Came graph.basis added graph.grammar (kernel items) origin
  pub scans_came : (key : ScanKey) (origin : Origin) → Contains graph.scans (key, origin) → Came graph.basis added graph.grammar (scan key) origin
  pub kernels_shown : (items : List Item) (origin : Origin) → Contains graph.kernels (items, origin) → IsNarrow graph.basis.sizes graph.grammar (kernel items)
      → ShowsKey graph.basis added (key_words (kernel items))
  pub scans_shown : (key : ScanKey) (origin : Origin) → Contains graph.scans (key, origin) → IsNarrow graph.basis.sizes graph.grammar (scan key)
      → ShowsKey graph.basis added (key_words (scan key))
