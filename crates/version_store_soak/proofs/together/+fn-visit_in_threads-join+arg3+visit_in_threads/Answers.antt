use Rattle.version_store_soak.proofs.ComingBack.{passes_back}
use Rattle.version_store_soak.proofs.together.+fn-visit_in_threads-join+arg3+visit_in_threads.Goals as goal

pub returns-clause-back : goal.returns-clause-back
returns-clause-back g t c = let j = c.join-pass in
    passes_back c.in-Some.last j.result.0.0 c.args.passes.items c.pop.new.self.items j.result.1.0.items c.push_reserved.new.self.items
    c.in-Some.ensures.items c.push_reserved.ensures.items j.ensures.first j.ensures.second.0
