-- The bit of the byte says whether it is in the set.
use Rattle.std.proofs.Common.{sym, ◌<◌, arith}
use Rattle.std.proofs.lemmas.Nat.Bits.{shr_and_one}
use Rattle.regex_ast.specs.Bytes.{bit_of}
use Rattle.regex_ast.proofs.SetLemmas.{has_byte}
use Rattle.regex_ast.proofs.byte_set.ByteSet.has.Goals as goal

pub returns : goal.returns
unfolding bit_of
returns c =
    let small : c.args.byte < 256 = omega arith in
    rw (c.from.ensures, shr_and_one, ← c.self.view_is) (sym (has_byte (bit_of c.self.inside.words) c.args.byte small))
