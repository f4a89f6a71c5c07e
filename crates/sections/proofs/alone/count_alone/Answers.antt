use Rattle.replies.specs.Replies.{held}
use Rattle.sections.proofs.alone.count_alone.Goals as goal

pub returns-clause-replied : goal.returns-clause-replied
returns-clause-replied c = λ grammar. held
