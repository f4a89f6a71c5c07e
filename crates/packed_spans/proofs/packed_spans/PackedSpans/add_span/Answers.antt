use Rattle.std.proofs.Common.{◌<◌, length, arith}
use Rattle.packed_spans.specs.declared.span.TheConstants.{TOKEN_PART}
use Rattle.packed_spans.proofs.Storing.{span_added}
use Rattle.packed_spans.proofs.packed_spans.PackedSpans.add_span.Goals as goal

pub invariant_of-self-2 : goal.invariant_of-self-2
invariant_of-self-2 c =
    let room : length c.self.inside.table.spans.items < TOKEN_PART = omega arith in
    rw c.in_ok-push.ensures.items (span_added _ _ _ _ room c.self.invariant)
