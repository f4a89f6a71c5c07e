use Rattle.std.proofs.Common.{◌≡◌, refl, sym, subst}
use Rattle.item_sets.specs.Prefixes.{AreItems}
use Rattle.item_sets.specs.Expansions.{IsExpansionOf}
use Rattle.live_graph.specs.Asking.{AsksKernel}
use Rattle.live_graph.specs.Sharing.{means_shared}
use Rattle.live_graph.specs.Answers.{origins, kernel_key}
use Rattle.live_graph.proofs.KeptEntries.{value_at}
use Rattle.live_graph.proofs.KeptGrowth.{grown_or_later}
use Rattle.live_graph.proofs.Keeping.{kernel_kept}
use Rattle.live_graph.proofs.shared_graph.SharedGraphGraph.expansion.Goals as goal

pub place_of_items-requires-clause-items : goal.place_of_items-requires-clause-items
place_of_items-requires-clause-items g c = subst (λ v. AreItems v.grammar.rules c.args.kernel.now) (sym c.self.view_is) c.requires

pub invariant_of-self : goal.invariant_of-self
invariant_of-self g c =
    kernel_kept c.self.inside.grammar.now.grammar (g.P.Page.means c.self.inside.basis.value) (g.P.Page.means c.self.inside.page)
    (g.P.Page.means c.place_of_items.new.page) c.self.inside.scans.entries c.self.inside.kernels.entries c.self.invariant
    c.place_of_items.new.kept.entries
    (grown_or_later c.place_of_items.result c.self.inside.grammar.now.grammar kernel_key (g.P.Page.means c.self.inside.page)
    (g.P.Page.means c.place_of_items.new.page) c.args.kernel.now c.self.inside.kernels.entries c.place_of_items.new.kept.entries
    c.place_of_items.ensures.grows c.place_of_items.ensures.refused c.place_of_items.ensures.later)
    c.place_of_items.ensures.holds c.place_of_items.ensures.few

pub invariant_of-self-in-Some-1 : goal.invariant_of-self-in-Some-1
invariant_of-self-in-Some-1 g c =
    kernel_kept c.self.inside.grammar.now.grammar (g.P.Page.means c.self.inside.basis.value) (g.P.Page.means c.self.inside.page)
    (g.P.Page.means c.place_of_items.new.page) c.self.inside.scans.entries c.self.inside.kernels.entries c.self.invariant
    c.place_of_items.new.kept.entries
    (grown_or_later c.place_of_items.result c.self.inside.grammar.now.grammar kernel_key (g.P.Page.means c.self.inside.page)
    (g.P.Page.means c.place_of_items.new.page) c.args.kernel.now c.self.inside.kernels.entries c.place_of_items.new.kept.entries
    c.place_of_items.ensures.grows c.place_of_items.ensures.refused c.place_of_items.ensures.later)
    c.place_of_items.ensures.holds c.place_of_items.ensures.few

pub returns : goal.returns
returns g c =
    let stands = c.in_ok-place.ensures.stands in
    let value : c.in-Some.answer.now ≡ stands.0 = value_at c.place_of_items.new.kept.entries c.in_ok-place.place c.in-Some.field-0-0.now
    c.args.kernel.now c.in-Some.answer.now stands.0 c.in-Some.ensures.entry stands.1 in
    let expansion : IsExpansionOf c.self.inside.grammar.now.grammar.rules c.args.kernel.now c.in-Some.answer.now.expansion =
    subst (λ a. IsExpansionOf c.self.inside.grammar.now.grammar.rules c.args.kernel.now a.expansion) (sym value) stands.2 in (
      (
        refl,
        λ other. tt,
        (
          subst (λ v. AsksKernel (means_shared v) c.args.kernel.now (means_shared (record {
            grammar = c.self.inside.grammar.now.grammar;
            basis = g.P.Page.means c.self.inside.basis.value;
            page = g.P.Page.means c.place_of_items.new.page;
            scans = origins c.self.inside.scans.entries;
            kernels = origins c.place_of_items.new.kept.entries;
          })) c.args.steps.now c.place_of_items.new.steps) c.self.view_is
              (record { grammar = refl; base = refl; scans = refl; asks = c.in_ok-place.ensures.asks }),
          tt,
        ),
      ),
      record {
        expansion = subst (λ v. IsExpansionOf v.grammar.rules c.args.kernel.now c.in-Some.answer.now.expansion) c.self.view_is expansion;
        never_back = c.place_of_items.ensures.never_back;
        asks = tt;
      },
    )
