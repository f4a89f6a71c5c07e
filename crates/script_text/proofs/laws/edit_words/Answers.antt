use Rattle.std.proofs.Common.{refl}
use Rattle.grammar_text.specs.declared.edit.Edit.TheVariants.{AddRule, DropRule, AddToken, DropToken, AddSkip, DropSkip}
use Rattle.script_text.proofs.laws.edit_words.Goals as goal

pub returns : goal.returns
returns c (AddRule rule) = refl
returns c (DropRule rule) = refl
returns c (AddToken definition) = refl
returns c (DropToken name) = refl
returns c (AddSkip definition) = refl
returns c (DropSkip name) = refl
