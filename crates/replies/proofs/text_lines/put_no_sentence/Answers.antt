use Rattle.std.proofs.Common.{◌≡◌, ◌++◌, append_assoc, codes}
use Rattle.replies.specs.Lines.{head}
use Rattle.replies.proofs.text_lines.put_no_sentence.Goals as goal

pub returns : goal.returns
returns c =
    let first : c.put_head.new.out.items ≡ c.args.out.now.items ++ head (codes "parse") c.args.version = c.in_ok-put_head.ensures in
    rw (c.in_ok-extend_from_slice-2.ensures.items, c.in_ok-put_number.ensures, c.in_ok-extend_from_slice.ensures.items, first) (simp append_assoc)
