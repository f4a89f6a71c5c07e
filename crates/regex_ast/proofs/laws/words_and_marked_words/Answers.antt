-- Both directions go by the cases of the expression.
use Rattle.regex_ast.specs.Expressions.{classes_of}
use Rattle.regex_ast.proofs.MarkLemmas.{marked, matched, AreAt-own}
use Rattle.regex_ast.proofs.laws.words_and_marked_words.Goals as goal

pub returns : goal.returns
returns c = λ e word. (
  λ h. marked (classes_of e) 0 e (AreAt-own e) word h,
  λ h. matched (classes_of e) 0 e (AreAt-own e) h.0 word h.1 h.2,
)
