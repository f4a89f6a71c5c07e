use Rattle.std.proofs.Common.{ℕ, ◌+◌, ◌*◌, vec_len}
use Rattle.version_store_tests.proofs.working.+fn-work_all-join+arg3+work_all.Given as goal

abbrev pub decreases-join+arg3 : goal.decreases-join+arg3
decreases-join+arg3 g l = 2 * vec_len l.passes + 1

abbrev pub decreases-work_all : goal.decreases-work_all
decreases-work_all g l = 2 * vec_len l.passes
