use Rattle.std.proofs.Common.{◌≡◌, refl, sym, subst}
use Rattle.isg_states.specs.Expansion.{AreMarks, IsScanExpansionOf}
use Rattle.live_graph.specs.Asking.{AsksScan}
use Rattle.live_graph.specs.Sharing.{means_shared}
use Rattle.live_graph.specs.Answers.{origins, scan_key}
use Rattle.live_graph.proofs.KeptEntries.{value_at}
use Rattle.live_graph.proofs.KeptGrowth.{grown_or_later}
use Rattle.live_graph.proofs.Keeping.{scan_kept}
use Rattle.live_graph.proofs.shared_graph.SharedGraphGraph.scan.Goals as goal

pub place_of_scan-requires-clause-marks : goal.place_of_scan-requires-clause-marks
place_of_scan-requires-clause-marks g c = subst (λ v. AreMarks v.grammar c.args.key.now) (sym c.self.view_is) c.requires

pub invariant_of-self : goal.invariant_of-self
invariant_of-self g c =
    scan_kept c.self.inside.grammar.now.grammar (g.P.Page.means c.self.inside.basis.value) (g.P.Page.means c.self.inside.page)
    (g.P.Page.means c.place_of_scan.new.page) c.self.inside.scans.entries c.self.inside.kernels.entries c.self.invariant
    c.place_of_scan.new.kept.entries
    (grown_or_later c.place_of_scan.result c.self.inside.grammar.now.grammar scan_key (g.P.Page.means c.self.inside.page)
    (g.P.Page.means c.place_of_scan.new.page) c.args.key.now c.self.inside.scans.entries c.place_of_scan.new.kept.entries
    c.place_of_scan.ensures.grows c.place_of_scan.ensures.refused c.place_of_scan.ensures.later)
    c.place_of_scan.ensures.holds c.place_of_scan.ensures.few

pub invariant_of-self-in-Some-1 : goal.invariant_of-self-in-Some-1
invariant_of-self-in-Some-1 g c =
    scan_kept c.self.inside.grammar.now.grammar (g.P.Page.means c.self.inside.basis.value) (g.P.Page.means c.self.inside.page)
    (g.P.Page.means c.place_of_scan.new.page) c.self.inside.scans.entries c.self.inside.kernels.entries c.self.invariant
    c.place_of_scan.new.kept.entries
    (grown_or_later c.place_of_scan.result c.self.inside.grammar.now.grammar scan_key (g.P.Page.means c.self.inside.page)
    (g.P.Page.means c.place_of_scan.new.page) c.args.key.now c.self.inside.scans.entries c.place_of_scan.new.kept.entries
    c.place_of_scan.ensures.grows c.place_of_scan.ensures.refused c.place_of_scan.ensures.later)
    c.place_of_scan.ensures.holds c.place_of_scan.ensures.few

pub returns : goal.returns
returns g c =
    let stands = c.in_ok-place.ensures.stands in
    let value : c.in-Some.answer.now ≡ stands.0 = value_at c.place_of_scan.new.kept.entries c.in_ok-place.place c.in-Some.field-0-0.now
    c.args.key.now c.in-Some.answer.now stands.0 c.in-Some.ensures.entry stands.1 in
    let expansion : IsScanExpansionOf c.self.inside.grammar.now.grammar c.args.key.now c.in-Some.answer.now.expansion.ranges =
    subst (λ a. IsScanExpansionOf c.self.inside.grammar.now.grammar c.args.key.now a.expansion.ranges) (sym value) stands.2 in (
      (
        refl,
        λ other. tt,
        (
          subst (λ v. AsksScan (means_shared v) c.args.key.now (means_shared (record {
            grammar = c.self.inside.grammar.now.grammar;
            basis = g.P.Page.means c.self.inside.basis.value;
            page = g.P.Page.means c.place_of_scan.new.page;
            scans = origins c.place_of_scan.new.kept.entries;
            kernels = origins c.self.inside.kernels.entries;
          })) c.args.steps.now c.place_of_scan.new.steps) c.self.view_is
              (record { grammar = refl; base = refl; kernels = refl; asks = c.in_ok-place.ensures.asks }),
          tt,
        ),
      ),
      record {
        expansion = subst (λ v. IsScanExpansionOf v.grammar c.args.key.now c.in-Some.answer.now.expansion.ranges) c.self.view_is expansion;
        never_back = c.place_of_scan.ensures.never_back;
        asks = tt;
      },
    )
