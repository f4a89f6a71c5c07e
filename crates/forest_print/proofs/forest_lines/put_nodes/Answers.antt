use Rattle.std.proofs.Common.{subst}
use Rattle.forest.specs.declared.nodes.Node.{Node}
use Rattle.forest_print.specs.Lines.{name_of, node_text}
use Rattle.forest_print.specs.Prefixes.{AppendsPrefix}
use Rattle.forest_print.proofs.PrefixSteps.{stops_at, on_err}
use Rattle.forest_print.proofs.forest_lines.put_nodes.Goals as goal

pub returns-in_err-put_node-clause-prefix : goal.returns-in_err-put_node-clause-prefix
returns-in_err-put_node-clause-prefix c =
    let name = name_of c.args.grammar.now.grammar.symbols in
    let nodes = c.args.nodes.now in
    let node = c.node-item.result in
    let named : AppendsPrefix c.loop-node.lines c.put_node.new.lines (node_text (name node.symbol) node) =
    subst (λ bytes. AppendsPrefix c.loop-node.lines c.put_node.new.lines (node_text bytes node)) c.name.ensures c.in_err-put_node.ensures.prefix in
    let begun = subst (λ (n : Node). AppendsPrefix c.loop-node.lines c.put_node.new.lines (node_text (name n.symbol) n)) c.node-item.is named in
    on_err c.from_residual.result
    (stops_at (λ n. node_text (name n.symbol) n) nodes c.loop-node.node-index node c.args.lines.now c.loop-node.lines c.put_node.new.lines c.loop-node-test.true
    c.loop-node.invariant begun)
