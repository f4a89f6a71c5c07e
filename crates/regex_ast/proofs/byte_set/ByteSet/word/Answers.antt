use Rattle.regex_ast.proofs.SetLemmas.{has_in_word}
use Rattle.regex_ast.proofs.byte_set.ByteSet.word.Goals as goal

pub returns : goal.returns
returns c = λ bit small.
    rw (← c.self.view_is) (has_in_word c.self.inside.words c.args.number bit c.requires small)
