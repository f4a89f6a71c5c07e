use Rattle.std.proofs.Common.{append_assoc, codes}
use Rattle.replies.specs.Lines.{head}
use Rattle.replies.proofs.text_lines.put_too_large.Goals as goal

pub returns : goal.returns
returns c =
    rw (c.in_ok-extend_from_slice.ensures.items, c.in_ok-put_head.ensures) (append_assoc c.args.out.now.items (head (codes "parse") c.args.version)
    (codes " too large\n"))
