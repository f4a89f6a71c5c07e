-- One link more.
use Rattle.std.proofs.Common.{◌≡◌, List, ℕ, length, sym, subst, arith}
use Rattle.gss.specs.Descents.{IsMetAfter}
use Rattle.gss.proofs.part.Part.put.Goals as goal

pub returns-clause-met : goal.returns-clause-met
returns-clause-met c =
    let size : length c.args.self.now.links.items ≡ c.len-count.result = omega (arith, c.len-count.ensures) in
    subst (λ (ls : List ℕ). IsMetAfter c.args.through ls c.met_with-self.result) (sym c.in_ok-push.ensures.items)
    (c.met_with-self.ensures c.args.self.now.links.items size c.requires)
