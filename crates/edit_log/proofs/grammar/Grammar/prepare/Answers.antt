use Rattle.std.proofs.Common.{◌≡◌, sym, subst}
use Rattle.edit_log.specs.Verdict.{IsAccepted}
use Rattle.edit_log.specs.Replicas.{IsReadyFor}
use Rattle.edit_log.proofs.Planning.{stays_ready, prepared}
use Rattle.edit_log.proofs.grammar.Grammar.prepare.Goals as goal

pub read_entry-requires : goal.read_entry-requires
read_entry-requires c = (c.requires.0, c.requires.2.proper.0, c.requires.1)

pub returns-in_err-reserve-clause-stays : goal.returns-in_err-reserve-clause-stays
returns-in_err-reserve-clause-stays c = stays_ready c.args.self.now c.reserve.new.self c.reserve.ensures.grammar c.reserve.ensures.grows

pub returns-in_err-ready-clause-stays : goal.returns-in_err-ready-clause-stays
returns-in_err-ready-clause-stays c = stays_ready c.args.self.now c.reserve.new.self c.reserve.ensures.grammar c.reserve.ensures.grows

pub returns-in_err-reserve_touched-clause-stays : goal.returns-in_err-reserve_touched-clause-stays
returns-in_err-reserve_touched-clause-stays c edit ready is =
    stays_ready c.reserve.new.self c.reserve_touched.new.self c.reserve_touched.ensures.grammar c.reserve_touched.ensures.grows edit ready
    (stays_ready c.args.self.now c.reserve.new.self c.reserve.ensures.grammar c.reserve.ensures.grows edit ready is)

pub returns-clause-ready : goal.returns-clause-ready
returns-clause-ready c edit entry accepted =
    let same : c.in_ok-edit.edit ≡ edit = c.in_ok-edit.ensures edit accepted.proper.0 entry in
    let middle : IsAccepted c.reserve.new.self.grammar c.in_ok-edit.edit = subst (λ e. IsAccepted c.reserve.new.self.grammar e) (sym same)
    (subst (λ g. IsAccepted g edit) (sym c.reserve.ensures.grammar) accepted) in
    subst (λ e. IsReadyFor c.reserve_touched.new.self e c.in_ok-ready.ready) same
    (prepared c.reserve.new.self c.reserve_touched.new.self c.in_ok-edit.edit c.in_ok-ready.ready c.reserve_touched.ensures.grammar
    c.reserve_touched.ensures.grows c.in_ok-reserve.ensures.room middle c.in_ok-ready.ensures.plan c.in_ok-ready.ensures.touch
    c.reserve_touched.ensures.count c.in_ok-reserve_touched.ensures.room)

pub returns-clause-stays : goal.returns-clause-stays
returns-clause-stays c edit ready is =
    stays_ready c.reserve.new.self c.reserve_touched.new.self c.reserve_touched.ensures.grammar c.reserve_touched.ensures.grows edit ready
    (stays_ready c.args.self.now c.reserve.new.self c.reserve.ensures.grammar c.reserve.ensures.grows edit ready is)
