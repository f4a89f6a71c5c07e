use Rattle.regex_ast.proofs.LiteralWords.{literal_matches}
use Rattle.regex_ast.proofs.laws.words_of_literals.Goals as goal

pub returns : goal.returns
returns c = literal_matches
