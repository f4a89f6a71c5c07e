use Rattle.std.proofs.Common.{◌≡◌, inl, inr, slice_get, Some, refl, sym, ◌∙◌, subst, arith}
use Rattle.item_sets.proofs.Chains.{at_below}
use Rattle.rekers.specs.Answers.{kinds_of}
use Rattle.rekers.proofs.PlacedNodes.{node_sound, same_sound, appended, unchanged, never_true}
use Rattle.rekers.proofs.parser.Parser.place.Goals as goal
use Rattle.rekers.proofs.parser.Parser.place.Goals.{else-is_new-via-then-is_new+else-not-opens, else-is_new-via-else-is_new}

pub returns-then-not-opens-clause-sound : goal.returns-then-not-opens-clause-sound
returns-then-not-opens-clause-sound g c =
    let rules = (g.G.Graph.means c.args._graph.now).grammar.rules in
    let p = c.args.self.now in
    let (kernel, named) = at_below p.states.kernels c.args.state c.requires.state in
    let (new, nodes) = appended p.stacks.nodes c.node_of.new.stacks.nodes c.args.state p.level.at c.in_ok-node.node c.in_ok-node.ensures.node
    c.in_ok-node.ensures.nodes (c.if-is_new.true ∙ c.node_count-past.ensures) in
    let count = c.if-is_new.true ∙ c.node_count-past.ensures in
    node_sound rules (kinds_of c.args._tokens.now) p c.requires.sound c.args.state kernel named (c.requires.reached kernel named) c.node_of.new.stacks
    c.pass_over.new.openers new nodes c.in_ok-node.ensures.links c.pass_over.ensures.size
    (λ i node e. elim (c.pass_over.ensures.kept i node e) [
      | inl old ↦ inl old
      | inr (here, is, was) ↦ inr (
        here,
        omega (arith, is, count),
        subst (λ n. slice_get p.openers.items p.level.at ≡ Some n) count was,
        λ opens. never_true ((c.if-not-opens.ensures rules kernel c.requires.sound.expanded named).1 opens),
      )
    ])

pub returns-else-is_new-clause-sound : goal.returns-else-is_new-clause-sound
returns-else-is_new-clause-sound g c =
    let rules = (g.G.Graph.means c.args._graph.now).grammar.rules in
    let p = c.args.self.now in
    let (kernel, named) = at_below p.states.kernels c.args.state c.requires.state in
    elim c.else-is_new.branch [
      | else-is_new-via-then-is_new+else-not-opens w ↦
          let count = w.if-is_new.true ∙ c.node_count-past.ensures in
          let (new, nodes) = appended p.stacks.nodes c.node_of.new.stacks.nodes c.args.state p.level.at c.in_ok-node.node c.in_ok-node.ensures.node
          c.in_ok-node.ensures.nodes count in
          node_sound rules (kinds_of c.args._tokens.now) p c.requires.sound c.args.state kernel named (c.requires.reached kernel named) c.node_of.new.stacks
          p.openers new nodes c.in_ok-node.ensures.links refl (λ i node e. inl e)
      | else-is_new-via-else-is_new w ↦
          same_sound rules (kinds_of c.args._tokens.now) p c.requires.sound c.args.state kernel named (c.requires.reached kernel named) c.node_of.new.stacks
          (unchanged p.stacks.nodes c.node_of.new.stacks.nodes c.args.state p.level.at c.in_ok-node.node c.in_ok-node.ensures.node c.in_ok-node.ensures.nodes
          (λ e. w.if-is_new.false (e ∙ sym c.node_count-past.ensures)))
          c.in_ok-node.ensures.links
    ]
