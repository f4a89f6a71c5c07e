-- What a graph over a page of a shared table means.
use Rattle.std.specs.Prelude.{List, [], ◌∷◌, map}
use Rattle.edit_log.specs.History.{Grammar}
use Rattle.item_sets.specs.declared.item.Item.{Item}
use Rattle.isg_states.specs.declared.scan_key.ScanKey.{ScanKey}
use Rattle.slot_store.specs.Meaning.{Meaning as PageMeaning}
use Rattle.live_graph.specs.declared.origin.Origin.{Origin}
use Rattle.live_graph.specs.declared.origin.Origin.TheVariants.{Found, Made, Raced, Alone}
use Rattle.live_graph.specs.Meaning.{Asked, GraphMeaning}

-- the grammar, what the page meant at first and means now, and the keys that were asked for, each with how its expansion came
pub record Shared : Type 0 where
  pub grammar : Grammar
  pub basis : PageMeaning
  pub page : PageMeaning
  pub scans : List (ScanKey × Origin)
  pub kernels : List (List Item × Origin)

-- keys in front of those that the graph expanded itself: all but the ones that were found
abbrev pub own_with : {Key : Type 0} → Origin → Key → List Key → List Key
own_with Found key own = own
own_with Made key own = key ∷ own
own_with Raced key own = key ∷ own
own_with Alone key own = key ∷ own

abbrev pub own_keys : {Key : Type 0} → List (Key × Origin) → List Key
own_keys [] = []
own_keys (one ∷ others) = own_with one.1 one.0 (own_keys others)

abbrev pub keys_in : {Key : Type 0} → List (Key × Origin) → List Key
keys_in kept = map (λ one. one.0) kept

-- the keys that were asked for, and those that the graph expanded itself
abbrev pub asked_with : {Key : Type 0} → List (Key × Origin) → Asked Key
asked_with kept = record { keys = keys_in kept; own = own_keys kept }

-- what such a graph means: it stands on what its page meant at first
abbrev pub means_shared : Shared → GraphMeaning PageMeaning
means_shared graph = record { grammar = graph.grammar; scans = asked_with graph.scans; kernels = asked_with graph.kernels; base = graph.basis }
