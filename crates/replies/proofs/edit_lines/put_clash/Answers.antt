use Rattle.std.proofs.Common.{◌++◌, ◌∙◌, append_assoc, codes}
use Rattle.replies.proofs.edit_lines.put_clash.Goals as goal

pub returns : goal.returns
returns c =
    rw (c.in_ok-extend_from_slice-3.ensures.items, c.in_ok-extend_from_slice-2.ensures.items, c.in_ok-extend_from_slice.ensures.items)
    (append_assoc (c.args.out.now.items ++ codes "refused clash ") c.args.name.now (codes "\n") ∙ append_assoc c.args.out.now.items (codes "refused clash ")
    (c.args.name.now ++ codes "\n"))
