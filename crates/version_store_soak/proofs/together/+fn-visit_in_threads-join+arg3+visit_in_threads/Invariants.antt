use Rattle.std.proofs.Common.{◌+◌, ◌*◌, vec_len}
use Rattle.version_store_soak.proofs.together.+fn-visit_in_threads-join+arg3+visit_in_threads.Given as goal

abbrev pub decreases-join+arg3 : goal.decreases-join+arg3
decreases-join+arg3 g l = 2 * vec_len l.rest + 1

abbrev pub decreases-visit_in_threads : goal.decreases-visit_in_threads
decreases-visit_in_threads g l = 2 * vec_len l.passes
