use Rattle.std.proofs.Common.{sym, subst, arith}
use Rattle.isg_scan.specs.Taken.{IsTaken}
use Rattle.isg_scan.proofs.scanning.take_piece.Goals as goal

pub returns-clause-taken : goal.returns-clause-taken
returns-clause-taken c = subst (λ k. IsTaken k c.args.from c.args.to c.args.tokens.now.items c.push.new.self.items) (sym c.in-Token.is) (
  omega (arith, c.requires.few, c.if-is_full.false, c.len-is_full.ensures, c.args.tokens.now.ok.0),
  c.in_ok-push.ensures.items,
)
