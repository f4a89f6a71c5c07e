use Rattle.workbench.proofs.KnownWords.{known_of, taken}
use Rattle.workbench.proofs.laws.words_taken.Goals as goal

pub returns : goal.returns
returns c = λ name words. (known_of name words, taken name words)
