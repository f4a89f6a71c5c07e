use Rattle.std.proofs.Common.{sym, ◌∙◌}
use Rattle.slot_store.proofs.Hashing.{mixes, mixed_all}
use Rattle.slot_store.proofs.paths.mixed.Goals as goal

pub loop-i-preserved : goal.loop-i-preserved
loop-i-preserved c = sym (mixes c.loop-i.hash c.loop-i.i c.args.key.now c.loop-i-test.true) ∙ c.loop-i.invariant

pub returns : goal.returns
returns c = sym (mixed_all c.loop-i.hash c.loop-i.i c.args.key.now c.loop-i-test.false) ∙ c.loop-i.invariant
