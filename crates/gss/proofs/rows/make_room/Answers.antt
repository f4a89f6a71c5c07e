use Rattle.std.proofs.Common.{◌+◌, arith}
use Rattle.gss.proofs.Growing.{found_resized}
use Rattle.gss.proofs.rows.make_room.Goals as goal

pub returns-in_ok-resize-clause-found : goal.returns-in_ok-resize-clause-found
returns-in_ok-resize-clause-found c = λ nodes are. found_resized nodes c.args.newest.now.items c.resize.new.self.items (c.args.state + 1) _ (omega arith)
    c.in_ok-resize.ensures.items are
