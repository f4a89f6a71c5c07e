use Rattle.std.proofs.Common.{◌≡◌, refl, sym, subst}
use Rattle.isg_states.specs.Expansion.{AreMarks, IsScanExpansionOf}
use Rattle.indexmap.specs.IndexMap.{keys}
use Rattle.live_graph.specs.Asking.{AsksScan}
use Rattle.live_graph.specs.Kept.{means_alone}
use Rattle.live_graph.proofs.KeptEntries.{value_at}
use Rattle.live_graph.proofs.private_graph.PrivateGraphGraph.scan.Goals as goal

pub place_of_state-requires-clause-marks : goal.place_of_state-requires-clause-marks
place_of_state-requires-clause-marks g c = subst (λ v. AreMarks v.grammar c.args.key.now) (sym c.self.view_is) c.requires

pub returns : goal.returns
returns g c =
    let stands = c.in_ok-place.ensures.stands in
    let value : c.in-Some.expansion.now ≡ stands.0 = value_at c.place_of_state.new.kept.entries c.in_ok-place.place c.in-Some.field-0-0.now c.args.key.now
    c.in-Some.expansion.now stands.0 c.in-Some.ensures.entry stands.1 in
    let expansion : IsScanExpansionOf c.self.inside.grammar.now.grammar c.args.key.now c.in-Some.expansion.now.ranges =
    subst (λ e. IsScanExpansionOf c.self.inside.grammar.now.grammar c.args.key.now e.ranges) (sym value) stands.2 in (
      (
        refl,
        λ other. tt,
        (
          subst (λ v. AsksScan (means_alone v) c.args.key.now (means_alone (record {
            grammar = c.self.inside.grammar.now.grammar;
            scans = keys
                c.place_of_state.new.kept;
            kernels = keys c.self.inside.kernels;
          })) c.args.steps.now c.place_of_state.new.steps) c.self.view_is
              (record { grammar = refl; base = refl; kernels = refl; asks = c.in_ok-place.ensures.asks }),
          tt,
        ),
      ),
      record {
        expansion = subst (λ v. IsScanExpansionOf v.grammar c.args.key.now c.in-Some.expansion.now.ranges) c.self.view_is expansion;
        never_back = c.place_of_state.ensures.never_back;
        asks = tt;
      },
    )
