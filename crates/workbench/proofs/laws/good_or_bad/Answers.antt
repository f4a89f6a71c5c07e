use Rattle.script_text.proofs.ScriptLaws.{judged_whole}
use Rattle.workbench.proofs.laws.good_or_bad.Goals as goal

pub returns : goal.returns
returns c = λ script short. judged_whole script
