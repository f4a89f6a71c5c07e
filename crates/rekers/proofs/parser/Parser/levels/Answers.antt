-- The levels, one after the other: the loop over the tokens.
use Rattle.std.proofs.Common.{◌≡◌, length, subst, arith}
use Rattle.std.proofs.lemmas.Result.{err_from_is_err_and}
use Rattle.rekers.specs.Answers.{kinds_of}
use Rattle.rekers.specs.Levels.{AreLevelsDone}
use Rattle.rekers.proofs.LevelsDone.{done_in, kind_at, stopped_on, rules_in, asks_stopped, done_then, stands_then}
use Rattle.rekers.proofs.parser.Parser.levels.Goals as goal

pub loop-token-init : goal.loop-token-init
loop-token-init g c = record {
  done = c.in_ok-first_level.ensures.done;
  asks = c.in_ok-first_level.ensures.asks;
  stands = c.in_ok-first_level.ensures.stands;
  never_back = c.in_ok-first_level.ensures.never_back;
  inside = omega arith;
}

pub next_level-requires-clause-done : goal.next_level-requires-clause-done
next_level-requires-clause-done g c =
    done_in (kinds_of c.args.tokens.now) c.loop-token.self c.loop-token.token-index c.loop-token.invariant.stands c.loop-token.invariant.done

pub next_level-requires-clause-kind : goal.next_level-requires-clause-kind
next_level-requires-clause-kind g c =
    kind_at c.args.tokens.now c.loop-token.token-index c.loop-token.self.level.at _ c.loop-token.invariant.done.at_is c.loop-token-test.true

pub next_level-requires-clause-place : goal.next_level-requires-clause-place
next_level-requires-clause-place g c = omega (arith, c.loop-token.invariant.done.at_is, c.loop-token-test.true, c.requires.few)

pub returns-in_err-next_level-clause-stopped : goal.returns-in_err-next_level-clause-stopped
returns-in_err-next_level-clause-stopped g c =
    stopped_on (g.G.Graph.means c.args.graph.now).grammar.rules (g.G.Graph.means c.loop-token.graph).grammar.rules (kinds_of c.args.tokens.now)
    c.next_level.new.self c.in_err-next_level.field-0.0 c.from_residual-in_err-next_level.result
    (err_from_is_err_and c.from_residual-in_err-next_level.result c.from_residual-in_err-next_level.ensures.1)
    (rules_in c.loop-token.invariant.stands) c.in_err-next_level.ensures.stopped

pub returns-in_err-next_level-clause-asks : goal.returns-in_err-next_level-clause-asks
returns-in_err-next_level-clause-asks g c =
    asks_stopped c.args.tokens.now (g.G.Graph.means c.args.graph.now) (g.G.Graph.means c.loop-token.graph) (g.G.Graph.means c.next_level.new.graph)
    c.args.steps.now c.loop-token.steps c.next_level.new.steps c.loop-token.self c.next_level.new.self c.loop-token.token-index c.loop-token.invariant
    c.in_err-next_level.field-0.0 c.from_residual-in_err-next_level.result
    (err_from_is_err_and c.from_residual-in_err-next_level.result c.from_residual-in_err-next_level.ensures.1)
    c.in_err-next_level.ensures.asks c.in_err-next_level.ensures.kernels

pub returns-in_err-next_level-clause-stands : goal.returns-in_err-next_level-clause-stands
returns-in_err-next_level-clause-stands g c = stands_then c.loop-token.invariant.stands c.in_err-next_level.ensures.stands

pub returns-in_err-next_level-clause-never_back : goal.returns-in_err-next_level-clause-never_back
returns-in_err-next_level-clause-never_back g c = omega (arith, c.loop-token.invariant.never_back, c.in_err-next_level.ensures.never_back)

pub loop-token-preserved : goal.loop-token-preserved
loop-token-preserved g c =
    done_then c.args.tokens.now (g.G.Graph.means c.args.graph.now) (g.G.Graph.means c.loop-token.graph) (g.G.Graph.means c.next_level.new.graph)
    c.args.steps.now c.loop-token.steps c.next_level.new.steps c.loop-token.self c.next_level.new.self c.loop-token.token-index c.loop-token.invariant
    c.in_ok-next_level.ensures.done c.in_ok-next_level.ensures.asks c.in_ok-next_level.ensures.kernels c.in_ok-next_level.ensures.stands
    c.in_ok-next_level.ensures.never_back c.loop-token-test.true

pub returns-clause-done : goal.returns-clause-done
returns-clause-done g c =
    let all : c.loop-token.token-index ≡ length c.args.tokens.now = omega (arith, c.loop-token.invariant.inside, c.loop-token-test.false) in
    subst (λ n. AreLevelsDone (g.G.Graph.means c.args.graph.now).grammar.rules (kinds_of c.args.tokens.now) c.loop-token.self n) all
    c.loop-token.invariant.done

pub returns-clause-asks : goal.returns-clause-asks
returns-clause-asks g c = c.loop-token.invariant.asks

pub returns-clause-stands : goal.returns-clause-stands
returns-clause-stands g c = c.loop-token.invariant.stands

pub returns-clause-never_back : goal.returns-clause-never_back
returns-clause-never_back g c = c.loop-token.invariant.never_back
