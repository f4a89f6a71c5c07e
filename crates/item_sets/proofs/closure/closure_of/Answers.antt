use Rattle.std.proofs.Common.{◌+◌, ◌-◌, ◌<◌, ◌≤◌, [], length, rules, ◌∙◌, arith}
use Rattle.item_sets.proofs.Walks.{nothing_met}
use Rattle.item_sets.proofs.Numbering.{numbered}
use Rattle.item_sets.proofs.Closures.{universe, begun, few, finished, turn}
use Rattle.item_sets.proofs.closure.closure_of.Goals as goal

pub loop-done-init : goal.loop-done-init
loop-done-init g c = record {
  early = c.in_ok-early.ensures;
  taken = length c.args.kernel.now;
  way = begun _ c.args.kernel.now _ _ _ c.requires.ascends
      (c.in_ok-visit_kernel.ensures.walk [] (rw (c.new-walk.ensures.symbols, c.new-walk.ensures.moves, c.new-walk.ensures.reductions) (nothing_met _)));
  steps = c.in_ok-visit_kernel.ensures.steps;
}

pub loop-done-smaller : goal.loop-done-smaller
loop-done-smaller g c =
    let numbers = numbered c.args.grammar.now.grammar c.requires.formed in
    let most : length c.loop-done.walk.symbols ≤ length (universe c.args.grammar.now.grammar.rules) =
    few _ numbers c.args.kernel.now c.requires.items _ _ _ _ _ c.loop-done.invariant.way in
    let more : c.loop-done.done < length c.loop-done.walk.symbols = search rules in
    let falls : length (universe c.args.grammar.now.grammar.rules) -
    (c.loop-done.done + 1) < length (universe c.args.grammar.now.grammar.rules) - c.loop-done.done = omega arith in falls

pub loop-done-preserved : goal.loop-done-preserved
loop-done-preserved g c =
    let numbers = numbered c.args.grammar.now.grammar c.requires.formed in
    let more : c.loop-done.done < length c.loop-done.walk.symbols = search rules in
    let visit = c.in_ok-visit_rules.ensures in
    record {
      early = c.loop-done.invariant.early;
      taken = _;
      way = turn _ numbers c.args.kernel.now c.requires.items _ _ _ c.loop-done.done c.loop-done.invariant.taken c.loop-done.invariant.way
          c.requires.formed.rule_order c.deref.result.now c.as_slice-in-loop-done.result.now _ _ _
          (c.deref.ensures.value ∙ c.loop-done.invariant.early) c.as_slice-in-loop-done.ensures more visit.extends visit.walk;
      steps = omega (arith, visit.steps, c.loop-done.invariant.steps);
    }

pub returns-clause-closure : goal.returns-clause-closure
returns-clause-closure g c =
    let numbers = numbered c.args.grammar.now.grammar c.requires.formed in
    let way = c.loop-done.invariant.way in
    let all : length c.loop-done.walk.symbols ≤ c.loop-done.done = search rules in
    (way.items, finished _ numbers c.args.kernel.now c.requires.items _ _ _ _ _ way all, way.walk, omega (arith, way.count, c.loop-done.invariant.steps))
