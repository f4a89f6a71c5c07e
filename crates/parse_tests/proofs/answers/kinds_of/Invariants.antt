use Rattle.std.proofs.Common.{◌≡◌, take}
use Rattle.rekers.specs.Answers.{kinds_of}
use Rattle.parse_tests.proofs.answers.kinds_of.Given as goal

abbrev pub invariant-loop-token : goal.invariant-loop-token
invariant-loop-token l = l.kinds.items ≡ kinds_of (take l.token-index l.tokens)
