use Rattle.std.proofs.Common.{◌++◌, ◌∙◌, append_assoc, codes, decimal}
use Rattle.replies.proofs.edit_lines.put_full.Goals as goal

pub returns : goal.returns
returns c =
    rw (c.in_ok-extend_from_slice-2.ensures.items, c.in_ok-put_number.ensures, c.in_ok-extend_from_slice.ensures.items)
    (append_assoc (c.args.out.now.items ++ codes "refused full ") (decimal c.args.version) (codes "\n") ∙ append_assoc c.args.out.now.items
    (codes "refused full ") (decimal c.args.version ++ codes "\n"))
