use Rattle.std.proofs.Common.{rules, ◌≡◌, [], ◌∷◌, arith}
use Rattle.plain_chart.proofs.CutLists.{end_one, end_none}
use Rattle.plain_chart.proofs.cuts.end_cuts.Goals as goal

pub returns-then-from-to : goal.returns-then-from-to
returns-then-from-to c = rw c.new-found.ensures.items (end_none _ _ _ _ c.if-from-to.true)

pub returns : goal.returns
returns c =
    let items : c.push-2.new.self.items ≡ (c.args.from ∷ []) ∷ [] = search rules in
    let same : c.args.from ≡ c.args.to = omega arith in
    rw items (end_one _ _ _ _ same)
