use Rattle.std.proofs.Common.{◌≡◌, false, true, take, sym, ◌∙◌, subst, arith, Contains}
use Rattle.std.proofs.lemmas.List.{take_all}
use Rattle.edit_log.specs.Rows.{IsUsed}
use Rattle.edit_log.proofs.UseLists.{each_more}
use Rattle.edit_log.proofs.uses.wakes.Goals as goal

pub loop-part-preserved : goal.loop-part-preserved
loop-part-preserved c =
    each_more (λ part. IsUsed c.args.rows.now part 0 → ⊥) c.args.right.now c.loop-part.part-index (record { 0 = 0 }) (omega arith) c.loop-part.invariant
    (λ used. absurd (let never : false ≡ true = sym c.if-is_used.false ∙ c.is_used.ensures.1 used in cc))

pub returns : goal.returns
returns c = (
  λ never. absurd (cc),
  λ (part, there, has, zero).
      let all : take c.loop-part.part-index c.args.right.now ≡ c.args.right.now = take_all c.loop-part.part-index c.args.right.now (omega arith) in
      absurd (c.loop-part.invariant part (subst (λ parts. Contains parts part) (sym all) there) (has, zero)),
)
