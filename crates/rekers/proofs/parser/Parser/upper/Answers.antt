use Rattle.std.proofs.Common.{sym, subst, ap}
use Rattle.edit_log.specs.History.{Grammar}
use Rattle.rekers.specs.declared.parser.Parser.{Parser}
use Rattle.rekers.specs.Answers.{kinds_of}
use Rattle.rekers.specs.States.{IsStateAt}
use Rattle.rekers.specs.Found.{found}
use Rattle.rekers.specs.Steps.{IsUpper}
use Rattle.rekers.proofs.UpperNodes.{behind_reached, upper_grows, upper_placed, upper_is}
use Rattle.rekers.proofs.parser.Parser.upper.Goals as goal

pub place-requires-clause-reached : goal.place-requires-clause-reached
place-requires-clause-reached g c = λ kernel e.
    let old = (g.G.Graph.means c.args.graph.now).grammar in
    let tokens = kinds_of c.args.tokens.now in
    let p = c.args.self.now in
    let at = ap (λ (x : Parser). x.level.at) c.in_ok-behind.ensures.same in
    let node = c.requires.linkable.node in
    let reached = behind_reached old.rules tokens p c.requires.sound c.args.lower c.args.symbol p.level.at (found c.behind.new.self) c.in_ok-behind.behind
    c.requires.linkable c.in_ok-behind.ensures.behind
    (record {
      state = node.state;
      there = rw c.in_ok-behind.ensures.same node.there;
      is_kernel = c.in_ok-behind.ensures.keeps node.state c.requires.linkable.kernel node.is_kernel;
    }) kernel e in
    let moved = subst (λ n. IsStateAt old.rules tokens kernel n) (sym at) reached in
    subst (λ (gr : Grammar). IsStateAt gr.rules tokens kernel c.behind.new.self.level.at) (sym c.in_ok-behind.ensures.stands.grammar) moved

pub returns-clause-grows : goal.returns-clause-grows
returns-clause-grows g c = upper_grows c.args.self.now c.behind.new.self c.place.new.self c.in_ok-behind.ensures.same c.in_ok-node.ensures.same
    c.in_ok-behind.ensures.keeps c.in_ok-behind.behind c.behind.new.self.level.at c.in_ok-node.ensures.nodes c.in_ok-node.ensures.links

pub returns-clause-placed : goal.returns-clause-placed
returns-clause-placed g c = upper_placed c.args.self.now c.behind.new.self c.place.new.self c.in_ok-behind.ensures.same c.in_ok-node.ensures.same
    c.in_ok-behind.ensures.keeps c.in_ok-behind.behind c.behind.new.self.level.at c.in_ok-node.ensures.nodes c.in_ok-node.ensures.links c.in_ok-node.node
    c.in_ok-node.ensures.node c.in_ok-behind.ensures.others

pub returns-clause-upper : goal.returns-clause-upper
returns-clause-upper g c =
    let old = (g.G.Graph.means c.args.graph.now).grammar in
    let at = ap (λ (x : Parser). x.level.at) c.in_ok-behind.ensures.same in
    subst (λ n. IsUpper old.rules (found c.place.new.self) n c.args.lower c.args.symbol c.in_ok-node.node) at
    (upper_is c.args.self.now c.behind.new.self c.place.new.self c.in_ok-behind.ensures.same c.in_ok-node.ensures.same
    c.in_ok-behind.ensures.keeps c.in_ok-behind.behind c.behind.new.self.level.at c.in_ok-node.ensures.nodes c.in_ok-node.ensures.links old.rules c.args.lower
    c.args.symbol c.in_ok-node.node c.in_ok-node.ensures.node c.in_ok-behind.ensures.behind)
