use Rattle.std.proofs.Common.{◌≡◌, ℕ, List, ◌*◌, ◌+◌, subst, arith}
use Rattle.isg_states.specs.declared.mark.Mark.{Mark}
use Rattle.isg_states.specs.Expansion.{Range}
use Rattle.isg_states.specs.Candidates.{marks_with, TellsBelow}
use Rattle.isg_states.proofs.RangeLists.{tells_none}
use Rattle.isg_states.proofs.byte_ranges.byte_ranges.Goals as goal

one_word_more : (led : ℕ → List Mark) (number : ℕ) (ranges : List Range) → TellsBelow led (64 * number + 64) ranges → TellsBelow led (64 * (number + 1)) ranges
one_word_more led number ranges = subst (λ n. TellsBelow led n ranges) (let e : 64 * number + 64 ≡ 64 * (number + 1) = omega arith in e)

pub loop-number-init : goal.loop-number-init
loop-number-init c = tells_none _ _ c.new-ranges.ensures.items

pub loop-number-preserved : goal.loop-number-preserved
loop-number-preserved c = one_word_more _ _ _ (c.in_ok-add_word.ensures c.loop-number.invariant)

pub returns : goal.returns
returns c =
    let all : 64 * c.loop-number.number ≡ 256 = omega arith in
    subst (λ n. TellsBelow (marks_with c.args.candidates.now) n c.loop-number.ranges.items) all c.loop-number.invariant
