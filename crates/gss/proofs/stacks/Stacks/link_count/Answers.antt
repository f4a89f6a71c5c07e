use Rattle.std.proofs.Common.{length, sym, ap, ◌∙◌}
use Rattle.std.proofs.lemmas.List.{length-map}
use Rattle.gss.specs.KernelGraphs.{KernelGraph}
use Rattle.gss.specs.Views.{link_in}
use Rattle.gss.proofs.stacks.Stacks.link_count.Goals as goal

pub returns : goal.returns
returns c = c.link_count.ensures ∙ sym (length-map c.self.inside.graph.links link_in) ∙ ap (λ (g : KernelGraph). length g.links) c.self.view_is
