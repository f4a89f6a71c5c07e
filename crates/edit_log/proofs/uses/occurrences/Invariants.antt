use Rattle.std.proofs.Common.{◌≡◌, ◌≤◌, take}
use Rattle.edit_log.specs.Lists.{occurrences}
use Rattle.edit_log.proofs.uses.occurrences.Given as goal

abbrev pub invariant-loop-part : goal.invariant-loop-part
invariant-loop-part l = (l.count ≡ occurrences l.symbol (take l.part-index l.parts)) × (l.count ≤ l.part-index)
