use Rattle.std.proofs.Common.{◌≡◌, false, slice_get, Some, ◌∙◌, ap}
use Rattle.packed_spans.proofs.Lists.{read_at}
use Rattle.packed_spans.proofs.Marking.{newly_marked, newly_waiting}
use Rattle.packed_spans.proofs.marks.Marks.mark.Goals as goal

pub returns-then-number-limit : goal.returns-then-number-limit
returns-then-number-limit c =
    let was : slice_get c.args.self.now.marked.items c.args.number ≡ Some false = read_at _ _ _ c.requires c.index.ensures ∙ ap Some c.if-index.false in
    newly_marked _ _ _ _ was c.if-number-limit.true

pub returns : goal.returns
returns c =
    let was : slice_get c.args.self.now.marked.items c.args.number ≡ Some false = read_at _ _ _ c.requires c.index.ensures ∙ ap Some c.if-index.false in
    rw c.in_ok-push.ensures.items (newly_waiting _ _ _ _ was)
