use Rattle.std.proofs.Common.{◌∙◌, sym, ap, ◌<◌, ◌^◌, not, slice_index, arith}
use Rattle.regex_ast.specs.Bytes.{bit_of}
use Rattle.regex_ast.proofs.SetLemmas.{has_byte, bits-not, bytes_where-same, small_words}
use Rattle.regex_ast.proofs.byte_set.ByteSet.complement.Goals as goal

pub returns : goal.returns
returns c =
    let w : slice_index c.self.inside.words 0 < 2 ^ 64 = omega arith in
    let x : slice_index c.self.inside.words 1 < 2 ^ 64 = omega arith in
    let y : slice_index c.self.inside.words 2 < 2 ^ 64 = omega arith in
    let z : slice_index c.self.inside.words 3 < 2 ^ 64 = omega arith in
    rw (← c.self.view_is)
    (bytes_where-same _ _ (λ b h.
    bits-not c.self.inside.words (small_words _ w x y z) b h ∙ ap not (sym (has_byte (bit_of c.self.inside.words) b h))))
