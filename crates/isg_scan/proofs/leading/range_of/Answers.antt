use Rattle.std.proofs.Common.{inl, inr, ◌<◌, [], ◌∷◌, ◌++◌, length, take, Contains, sym, ap, ◌∙◌, subst, arith}
use Rattle.std.proofs.lemmas.List.{take_more, take_all}
use Rattle.std.proofs.lemmas.List.Elements.{Contains-push_cases}
use Rattle.isg_scan.specs.States.{IsInRange}
use Rattle.isg_scan.proofs.leading.range_of.Goals as goal
use Rattle.isg_scan.proofs.leading.range_of.Goals.{else-range-byte-via-then-range-byte+else-byte-range, else-range-byte-via-else-range-byte}

pub loop-range-preserved : goal.loop-range-preserved
loop-range-preserved c = λ range there has.
    let within : c.loop-range.range-index < length c.args.ranges.now = c.loop-range-test.true in
    elim (Contains-push_cases (take c.loop-range.range-index c.args.ranges.now) c.range-item.result range
    (subst (λ list. Contains list range) (take_more c.args.ranges.now c.loop-range.range-index c.range-item.result within ∙ ap (λ r. take
    c.loop-range.range-index c.args.ranges.now ++ r ∷ []) (sym c.range-item.is)) there)) [
      | inl before ↦ c.loop-range.invariant range before has
      | inr same ↦ elim c.else-range-byte.branch [
        | else-range-byte-via-then-range-byte+else-byte-range w ↦ absurd (omega (
          arith,
          w.if-byte-range.false,
          subst (λ r. IsInRange r c.args.byte) (sym
              same) has,
        ))
        | else-range-byte-via-else-range-byte w ↦ absurd (omega (arith, w.if-range-byte.false, subst (λ r. IsInRange r c.args.byte) (sym same) has))
      ]
    ]

pub returns : goal.returns
returns c = λ range there has. c.loop-range.invariant range (subst (λ list. Contains list range) (sym (take_all c.loop-range.range-index c.args.ranges.now
    c.loop-range-test.false)) there) has
