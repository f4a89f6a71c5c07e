use Rattle.std.proofs.Common.{◌≡◌, ◌-◌, length, refl, subst, arith}
use Rattle.isg_states.specs.Candidates.{Adjoins}
use Rattle.isg_states.proofs.RangeLists.{set_goes_on}
use Rattle.isg_states.proofs.byte_ranges.add_range.Goals as goal

pub returns-then-goes_on : goal.returns-then-goes_on
returns-then-goes_on c =
    let place : c.len-last.result - 1 ≡ length c.args.ranges.now.items - 1 = omega (arith, c.len-last.ensures) in
    let goes : Adjoins c.args.ranges.now.items c.args.low c.args.marks.now = subst
    (λ ranges. Adjoins ranges c.args.low c.args.marks.now) c.deref.ensures.value
    (c.if-goes_on.ensures.0 refl) in
    set_goes_on c.args.ranges.now.items c.args.low c.args.high c.args.marks.now (c.len-last.result - 1) c.index_mut.result.now goes place
    c.index_mut.ensures.value
