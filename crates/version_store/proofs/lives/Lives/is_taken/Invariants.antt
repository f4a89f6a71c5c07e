use Rattle.std.proofs.Common.{take}
use Rattle.pin_rule.specs.Lists.{In}
use Rattle.version_store.specs.LivePages.{pages_noted}
use Rattle.version_store.proofs.lives.Lives.is_taken.Given as goal

abbrev pub invariant-loop-at : goal.invariant-loop-at
invariant-loop-at l = ¬ (In l.page (pages_noted l.self.newest (take l.at l.self.older.items)))
