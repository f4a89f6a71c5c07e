use Rattle.std.proofs.Common.{arith}
use Rattle.pin_rule.specs.Hands.{view_of}
use Rattle.pin_rule.proofs.KindLoadLog.{keeps_load_log}
use Rattle.slot_store.proofs.CatchingUp.{all_words}
use Rattle.slot_store.proofs.catching.read_known.Goals as goal

pub load_log-requires-clause-keeps : goal.load_log-requires-clause-keeps
load_log-requires-clause-keeps g c = keeps_load_log g.C.Content.lawful g.C.Content.fits (view_of c.loop-index.hand) c.args.entry c.loop-index.index

pub returns-clause-entry : goal.returns-clause-entry
returns-clause-entry g c = let v = view_of c.args.hand.now in let work = c.requires.work in let known = work.caught_up in let out = c.loop-index-test.false in
    all_words v.log c.args.entry c.loop-index.words c.loop-index.index (omega arith) (omega arith) c.loop-index.invariant.words
