-- No bit is set.
use Rattle.std.proofs.Common.{◌∙◌}
use Rattle.regex_ast.specs.Bytes.{bit_of}
use Rattle.std.proofs.Common.{[], ◌∷◌, false}
use Rattle.regex_ast.proofs.SetLemmas.{bytes_where-same, bytes_where-none, bits-zero}
use Rattle.regex_ast.proofs.byte_set.ByteSet.new.Goals as goal

pub returns : goal.returns
returns c = bytes_where-same (bit_of (0 ∷ 0 ∷ 0 ∷ 0 ∷ [])) (λ b. false) bits-zero ∙ bytes_where-none
