use Rattle.std.proofs.Common.{[], List, sym, ap, subst}
use Rattle.item_sets.specs.declared.item.Item.{Item}
use Rattle.item_sets.specs.Prefixes.{AreItems, start_kernel}
use Rattle.item_sets.proofs.Kernels.{kernel_items, start_list}
use Rattle.parser_states.specs.Known.{Known}
use Rattle.parser_states.specs.Asked.{AsksNew}
use Rattle.parser_states.proofs.AskedKernels.{asks_one}
use Rattle.parser_states.proofs.states.States.start.Goals as goal

pub add-requires-clause-items : goal.add-requires-clause-items
add-requires-clause-items g c =
    let rules = (g.G.Graph.means c.args.graph.now).grammar.rules in
    subst (AreItems rules) (sym c.start-kernel.ensures) (kernel_items rules [] start_kernel (start_list rules))

pub returns-clause-asks : goal.returns-clause-asks
returns-clause-asks g c =
    let graph = g.G.Graph.means c.args.graph.now in
    let graph' = g.G.Graph.means c.add.new.graph in
    let none = ap (λ (v : Known). v.kernels) c.clear.ensures in
    subst (λ (list : List (List Item)). AsksNew list c.add.new.self.keys.keys graph graph' c.args.steps.now c.add.new.steps) none
    (asks_one c.clear.new.self.keys.keys c.add.new.self.keys.keys c.start-kernel.result graph graph' c.args.steps.now c.add.new.steps
    c.in_ok-add.ensures.kernels c.in_ok-add.ensures.asks)
