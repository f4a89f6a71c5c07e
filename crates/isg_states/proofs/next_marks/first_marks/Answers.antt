use Rattle.std.proofs.Common.{◌<◌, ◌≤◌, length, arith}
use Rattle.isg_states.proofs.MarkLists.{list_none, contains_none}
use Rattle.isg_states.proofs.Tables.{firsts_small, small_more, first_more, first_all}
use Rattle.isg_states.proofs.next_marks.first_marks.Goals as goal

pub loop-definition-init : goal.loop-definition-init
loop-definition-init g c = record {
  marks = rw c.new-found.ensures.items (list_none (λ m w. contains_none m.def w.1));
  small = rw c.new-found.ensures.items (λ m k. absurd (contains_none m k));
  taken = rw c.new-found.ensures.items (omega arith);
}

pub add_marks-requires-clause-indices : goal.add_marks-requires-clause-indices
add_marks-requires-clause-indices g c = rw c.first.ensures (firsts_small c.live_positions-positions.ensures)

pub loop-definition-preserved : goal.loop-definition-preserved
loop-definition-preserved g c =
    let within : c.loop-definition.definition-index < length c.live_defs-definition-items.result.now = omega arith in
    let added = rw c.first.ensures at c.in_ok-add_marks.ensures.added in
    let taken = c.in_ok-add_marks.ensures.steps in
    let before = c.loop-definition.invariant.taken in
    record {
      marks = first_more _ _ _ _ _ _ _ within c.live_positions-positions.ensures c.loop-definition.invariant.marks added;
      small = small_more _ _ _ _ added c.loop-definition.invariant.small (firsts_small c.live_positions-positions.ensures);
      taken = omega arith;
    }

pub returns-clause-marks : goal.returns-clause-marks
returns-clause-marks g c =
    let whole : length c.live_defs-definition-items.result.now ≤ c.loop-definition.definition-index = omega arith in
    first_all c.args.grammar.now.grammar c.live_defs-definition-items.result.now c.loop-definition.definition-index _ whole
    c.live_defs-definition-items.ensures.members c.loop-definition.invariant.marks
