use Rattle.std.proofs.Common.{sym, subst}
use Rattle.edit_log.specs.History.{Grammar}
use Rattle.rekers.specs.Answers.{kinds_of}
use Rattle.rekers.specs.Sound.{IsSoundParser}
use Rattle.parser_states.specs.Leads.{LeadsNowhere, LeadsToKernel}
use Rattle.rekers.proofs.Growth.{kernel_at}
use Rattle.rekers.proofs.PlacedNodes.{states_sound}
use Rattle.rekers.proofs.UpperNodes.{others_old}
use Rattle.rekers.proofs.parser.Parser.behind.Goals as goal

pub unreachable-requires : goal.unreachable-requires
unreachable-requires g c =
    let rules = (g.G.Graph.means c.args.graph.now).grammar.rules in
    let is = kernel_at c.requires.linkable.node c.place-state.ensures in
    let leads : LeadsNowhere rules c.args.self.now.states.kernels c.next.new.self.kernels c.requires.linkable.kernel c.args.symbol =
    rw c.in_default.is at (c.in_ok-behind.ensures.leads c.requires.linkable.kernel is.0) in
    leads.0 c.requires.linkable.moves

pub returns-clause-behind : goal.returns-clause-behind
returns-clause-behind g c =
    let rules = (g.G.Graph.means c.args.graph.now).grammar.rules in
    let is = kernel_at c.requires.linkable.node c.place-state.ensures in
    let leads : LeadsToKernel rules c.args.self.now.states.kernels c.next.new.self.kernels c.requires.linkable.kernel c.args.symbol c.in-Some.behind =
    rw c.in-Some.is at (c.in_ok-behind.ensures.leads c.requires.linkable.kernel is.0) in
    let node = c.requires.linkable.node in
    record {
      kernel = c.requires.linkable.kernel;
      from = c.requires.linkable.from;
      node = record { state = node.state; there = node.there; is_kernel = c.in_ok-behind.ensures.keeps node.state c.requires.linkable.kernel node.is_kernel };
      upper = leads.upper;
      is_kernel = leads.numbered.named;
      move = leads.behind;
    }

pub returns-clause-sound : goal.returns-clause-sound
returns-clause-sound g c =
    let p = c.args.self.now in
    let sound = subst (λ (gr : Grammar). IsSoundParser gr.rules (kinds_of c.args.tokens.now) p) (sym c.in_ok-behind.ensures.stands.grammar) c.requires.sound in
    states_sound (g.G.Graph.means c.next.new.graph).grammar.rules (kinds_of c.args.tokens.now) p sound c.next.new.self c.in_ok-behind.ensures.expanded
    c.in_ok-behind.ensures.keeps

pub returns-clause-others : goal.returns-clause-others
returns-clause-others g c =
    let rules = (g.G.Graph.means c.args.graph.now).grammar.rules in
    let is = kernel_at c.requires.linkable.node c.place-state.ensures in
    let leads : LeadsToKernel rules c.args.self.now.states.kernels c.next.new.self.kernels c.requires.linkable.kernel c.args.symbol c.in-Some.behind =
    rw c.in-Some.is at (c.in_ok-behind.ensures.leads c.requires.linkable.kernel is.0) in
    others_old c.args.self.now.states.kernels c.next.new.self.kernels leads.upper c.in-Some.behind leads.numbered.joins leads.numbered.named
    c.in_ok-behind.ensures.expanded.told.one_number
