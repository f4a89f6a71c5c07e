use Rattle.regex_ast.specs.Bytes.{bit_of}
use Rattle.regex_ast.proofs.SetLemmas.{has-or, bits-or}
use Rattle.regex_ast.proofs.byte_set.ByteSet.union.Goals as goal

pub returns : goal.returns
returns c = λ b.
    rw (← c.self.view_is, ← c.other.view_is)
    (has-or _ (bit_of c.self.inside.words) (bit_of c.other.inside.words) (bits-or c.self.inside.words c.other.inside.words) b)
