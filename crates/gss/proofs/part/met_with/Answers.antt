-- Where the named link is met, with one link more.
use Rattle.std.proofs.Common.{◌≡◌, ◌+◌, ◌++◌, ◌∷◌, [], Some, subst, arith}
use Rattle.gss.specs.Descents.{IsMetAfter}
use Rattle.gss.proofs.TrailParts.{met_before, met_here, met_later}
use Rattle.gss.proofs.part.met_with.Goals as goal

pub returns-then-met-count : goal.returns-then-met-count
returns-then-met-count c part size after =
    met_before c.args.through part c.args.link c.args.met after (omega (arith, c.if-met-count.true, size))

pub returns-then-is_named : goal.returns-then-is_named
returns-then-is_named c part size after =
    let is : c.args.through ≡ Some c.args.link = c.is_named.ensures.0 c.if-is_named.true in
    subst (λ n. IsMetAfter c.args.through (part ++ c.args.link ∷ []) (n + 1)) size
    (met_here c.args.through part c.args.link c.args.met after (omega (arith, c.if-met-count.false, size)) is)

pub returns : goal.returns
returns c part size after =
    subst (λ n. IsMetAfter c.args.through (part ++ c.args.link ∷ []) (n + 2)) size
    (met_later c.args.through part c.args.link c.args.met after (omega (arith, c.if-met-count.false, size))
    (λ is. let no = c.is_named.ensures.1 is in let f = c.if-is_named.false in cc))
