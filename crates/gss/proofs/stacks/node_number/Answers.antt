use Rattle.std.proofs.Common.{ap, ◌∙◌, subst, sym}
use Rattle.gss.specs.PlaceGraphs.{PlaceGraph}
use Rattle.gss.specs.Views.{nodes_in, AreNumbered}
use Rattle.gss.proofs.KernelNumbers.{same_nodes, still_numbered, node_there, on_err, there_before, there_now, numbered_now, last_there}
use Rattle.gss.proofs.stacks.node_number.Goals as goal

pub returns-in_err-state-clause-numbered : goal.returns-in_err-state-clause-numbered
returns-in_err-state-clause-numbered c = still_numbered c.args.kernels.now.keys c.kernel_number.new.kernels.keys c.kernel_number.ensures.keeps
    c.args.graph.now.nodes c.requires.numbered c.kernel_number.ensures.distinct

pub returns-in_err-state-clause-refused : goal.returns-in_err-state-clause-refused
returns-in_err-state-clause-refused c = on_err c.from_residual.result (same_nodes c.args.kernels.now.keys c.kernel_number.new.kernels.keys
    c.kernel_number.ensures.keeps c.args.graph.now.nodes c.requires.numbered.within)

pub returns-in-Some-clause-numbered : goal.returns-in-Some-clause-numbered
returns-in-Some-clause-numbered c = still_numbered c.args.kernels.now.keys c.kernel_number.new.kernels.keys c.kernel_number.ensures.keeps
    c.args.graph.now.nodes c.requires.numbered c.kernel_number.ensures.distinct

pub returns-in-Some-clause-there : goal.returns-in-Some-clause-there
returns-in-Some-clause-there c = node_there c.kernel_number.new.kernels.keys c.args.graph.now.nodes c.in_ok-state.state c.args.at c.args.kernel.now
    c.in_ok-state.ensures.there c.in-Some.node c.in-Some.ensures.found

pub returns-in-Some-clause-nodes : goal.returns-in-Some-clause-nodes
returns-in-Some-clause-nodes c = there_before c.args.kernels.now.keys c.kernel_number.new.kernels.keys c.args.graph.now.nodes c.in_ok-state.state c.args.at
    c.args.kernel.now c.requires.numbered c.kernel_number.ensures.keeps c.kernel_number.ensures.distinct c.in_ok-state.ensures.there c.in-Some.node
    c.in-Some.ensures.found

pub returns-in_err-node-clause-numbered : goal.returns-in_err-node-clause-numbered
returns-in_err-node-clause-numbered c =
    subst (λ (graph : PlaceGraph). AreNumbered c.kernel_number.new.kernels.keys graph.nodes) (sym c.in_err-node.ensures.refused)
    (still_numbered c.args.kernels.now.keys c.kernel_number.new.kernels.keys c.kernel_number.ensures.keeps
    c.args.graph.now.nodes c.requires.numbered c.kernel_number.ensures.distinct)

pub returns-in_err-node-clause-refused : goal.returns-in_err-node-clause-refused
returns-in_err-node-clause-refused c = on_err c.from_residual-in_err-node.result
    (ap (λ (graph : PlaceGraph). nodes_in c.kernel_number.new.kernels.keys graph.nodes) c.in_err-node.ensures.refused
    ∙ same_nodes c.args.kernels.now.keys c.kernel_number.new.kernels.keys c.kernel_number.ensures.keeps c.args.graph.now.nodes c.requires.numbered.within)

pub returns-clause-numbered : goal.returns-clause-numbered
returns-clause-numbered c = numbered_now c.args.kernels.now.keys c.kernel_number.new.kernels.keys c.args.graph.now.nodes c.in_ok-state.state c.args.at
    c.args.kernel.now c.requires.numbered c.kernel_number.ensures.keeps c.kernel_number.ensures.distinct c.in_ok-state.ensures.there c.add_node.new.self.nodes
    c.in_ok-node.ensures.nodes

pub returns-clause-there : goal.returns-clause-there
returns-clause-there c = last_there c.args.kernels.now.keys c.kernel_number.new.kernels.keys c.args.graph.now.nodes c.in_ok-state.state c.args.at
    c.args.kernel.now c.requires.numbered c.kernel_number.ensures.keeps c.kernel_number.ensures.distinct c.in_ok-state.ensures.there c.add_node.new.self.nodes
    c.in_ok-node.node c.in_ok-node.ensures.nodes c.in_ok-node.ensures.number

pub returns-clause-nodes : goal.returns-clause-nodes
returns-clause-nodes c = there_now c.args.kernels.now.keys c.kernel_number.new.kernels.keys c.args.graph.now.nodes c.in_ok-state.state c.args.at
    c.args.kernel.now c.requires.numbered c.kernel_number.ensures.keeps c.kernel_number.ensures.distinct c.in_ok-state.ensures.there c.add_node.new.self.nodes
    c.in_ok-node.ensures.nodes c.in_default.ensures.none
