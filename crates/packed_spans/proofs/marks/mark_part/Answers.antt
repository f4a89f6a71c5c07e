use Rattle.std.proofs.Common.{◌≡◌, sym, ◌∙◌}
use Rattle.packed_spans.specs.declared.span.TheConstants.{TOKEN_PART}
use Rattle.packed_spans.proofs.Marking.{nothing_marked, same_marked}
use Rattle.packed_spans.proofs.marks.mark_part.Goals as goal

pub returns-then-part-eq-TOKEN_PART : goal.returns-then-part-eq-TOKEN_PART
returns-then-part-eq-TOKEN_PART c =
    nothing_marked (λ n. (n ≡ c.args.part) × (n ≡ TOKEN_PART → ⊥)) _ _ _ (λ n p. p.1 (p.0 ∙ c.if-part-eq-TOKEN_PART.true))

pub returns : goal.returns
returns c =
    same_marked (λ n. n ≡ c.args.part) (λ n. (n ≡ c.args.part) × (n ≡ TOKEN_PART → ⊥)) _ _ _ _ _
    (λ n e. (e, λ f. c.if-part-eq-TOKEN_PART.false (sym e ∙ f))) (λ n p. p.0) c.in_ok-mark.ensures
