use Rattle.script_text.proofs.ScriptLaws.{judged_whole, not_both, one_bad}
use Rattle.script_text.proofs.laws.has_first_bad.Goals as goal

pub returns-clause-some : goal.returns-clause-some
returns-clause-some c = judged_whole

pub returns-clause-not_both : goal.returns-clause-not_both
returns-clause-not_both c = not_both

pub returns-clause-one : goal.returns-clause-one
returns-clause-one c = one_bad
