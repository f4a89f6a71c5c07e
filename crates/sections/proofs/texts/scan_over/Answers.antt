use Rattle.std.proofs.Common.{◌≡◌, rules}
use Rattle.isg_scan.specs.declared.scan_error.ScanError.TheVariants.{NoMemory}
use Rattle.replies.proofs.ReplySteps.{refused_for}
use Rattle.sections.proofs.AskedKeys.{unless_memory, scans_keys}
use Rattle.sections.proofs.texts.scan_over.Goals as goal

pub returns-in-Ok-clause-asks : goal.returns-in-Ok-clause-asks
returns-in-Ok-clause-asks g c =
    scans_keys (g.G.Graph.means c.args.graph.now).grammar c.args.text.now (g.G.Graph.means c.args.graph.now) (g.G.Graph.means c.scan.new.graph)
    c.in-Ok.ensures.kernels c.in-Ok.ensures.asked

pub returns-in-Err-clause-scanned : goal.returns-in-Err-clause-scanned
returns-in-Err-clause-scanned g c =
    let other : c.in-Err.error ≡ NoMemory → ⊥ = λ e. search rules in
    refused_for (g.G.Graph.means c.args.graph.now).grammar c.args.text.now c.in-Err.error other c.in-Err.ensures.refused

pub returns-in-Err-clause-asks : goal.returns-in-Err-clause-asks
returns-in-Err-clause-asks g c =
    let other : c.in-Err.error ≡ NoMemory → ⊥ = λ e. search rules in
    scans_keys (g.G.Graph.means c.args.graph.now).grammar c.args.text.now (g.G.Graph.means c.args.graph.now) (g.G.Graph.means c.scan.new.graph)
    c.in-Err.ensures.kernels (unless_memory c.scan.result c.in-Err.error _ c.in-Err.is other c.scan.ensures.asked)
