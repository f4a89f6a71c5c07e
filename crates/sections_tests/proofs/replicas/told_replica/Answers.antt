use Rattle.std.proofs.Common.{[], refl, sym, subst}
use Rattle.live_graph.specs.CatchingUp.{IsAtPrefix}
use Rattle.version_store.specs.Means.{lone_of}
use Rattle.sections_tests.proofs.replicas.told_replica.Goals as goal

pub catch_up-requires : goal.catch_up-requires
catch_up-requires c =
    subst (IsAtPrefix (lone_of c.args.page.now).log) (sym c.in_ok-replica.ensures)
    (record { history = []; rest = c.requires.0; is = c.requires.1; made = refl })
