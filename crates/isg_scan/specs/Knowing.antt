-- What a scan knows is true of its graph.
use Rattle.live_graph.specs.Meaning.{GraphMeaning}
use Rattle.isg_scan.specs.declared.states.States.{States}
use Rattle.isg_scan.specs.States.{KnowsStates}

-- what is known of the states holds in the grammar of the graph, by what the graph was asked for
abbrev pub KnowsOf : {Base : Type 0} → GraphMeaning Base → States → Type 0
KnowsOf graph states = KnowsStates graph.grammar graph.scans.keys states.keys.keys states.accepted.items states.table.items
