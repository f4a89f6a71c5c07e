-- How often the expansion of a key came in each way.
use Rattle.std.specs.Prelude.{◌≡◌, suc, ◌+◌, List, fold}
use Rattle.live_graph.specs.declared.origin.Origin.{Origin}
use Rattle.live_graph.specs.declared.origin.Origin.TheVariants.{Found, Made, Raced, Alone}
use Rattle.live_graph.specs.declared.tally.Tally.{Tally}
use Rattle.live_graph.specs.declared.tally.Tallies.{Tallies}
use Rattle.live_graph.specs.Sharing.{Shared}

abbrev pub none_counted : Tally
none_counted = record { reached = 0; made = 0; found = 0; raced = 0; alone = 0 }

-- one key more that came so
abbrev pub counted : Origin → Tally → Tally
counted Found t = record { reached = suc t.reached; made = t.made; found = suc t.found; raced = t.raced; alone = t.alone }
counted Made t = record { reached = suc t.reached; made = suc t.made; found = t.found; raced = t.raced; alone = t.alone }
counted Raced t = record { reached = suc t.reached; made = t.made; found = t.found; raced = suc t.raced; alone = t.alone }
counted Alone t = record { reached = suc t.reached; made = t.made; found = t.found; raced = t.raced; alone = suc t.alone }

-- those of all ways together are those that were reached
abbrev pub AddsUp : Tally → Type 0
AddsUp t = t.reached ≡ t.made + t.found + t.raced + t.alone

-- so many keys were counted, each as it came
abbrev pub tally_of : {Key : Type 0} → List (Key × Origin) → Tally
tally_of kept = fold (λ t one. counted one.1 t) none_counted kept

abbrev pub tallies_of : Shared → Tallies
tallies_of graph = record { items = tally_of graph.kernels; scan = tally_of graph.scans }
