use Rattle.std.proofs.Common.{◌≡◌, ◌++◌, take}
use Rattle.forest_print.specs.Lines.{name_of, nodes_text}
use Rattle.forest_print.proofs.forest_lines.put_nodes.Given as goal

abbrev pub invariant-loop-node : goal.invariant-loop-node
invariant-loop-node l = l.lines ≡ l.initial.lines ++ nodes_text (name_of l.grammar.grammar.symbols) (take l.node-index l.nodes)
