use Rattle.std.proofs.Common.{length, sym, ap, ◌∙◌}
use Rattle.std.proofs.lemmas.List.{length-map}
use Rattle.gss.specs.KernelGraphs.{KernelGraph}
use Rattle.gss.specs.Views.{kernel_place}
use Rattle.gss.proofs.stacks.Stacks.node_count.Goals as goal

pub returns : goal.returns
returns c = c.node_count.ensures ∙ sym (length-map c.self.inside.graph.nodes (kernel_place c.self.inside.kernels.keys))
    ∙ ap (λ (g : KernelGraph). length g.nodes) c.self.view_is
