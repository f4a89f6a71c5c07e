use Rattle.std.proofs.Common.{◌≡◌, refl, sym, subst}
use Rattle.item_sets.specs.Prefixes.{AreItems}
use Rattle.item_sets.specs.Expansions.{IsExpansionOf}
use Rattle.indexmap.specs.IndexMap.{keys}
use Rattle.live_graph.specs.Asking.{AsksKernel}
use Rattle.live_graph.specs.Kept.{means_alone}
use Rattle.live_graph.proofs.KeptEntries.{value_at}
use Rattle.live_graph.proofs.private_graph.PrivateGraphGraph.expansion.Goals as goal

pub place_of_kernel-requires-clause-items : goal.place_of_kernel-requires-clause-items
place_of_kernel-requires-clause-items g c = subst (λ v. AreItems v.grammar.rules c.args.kernel.now) (sym c.self.view_is) c.requires

pub returns : goal.returns
returns g c =
    let stands = c.in_ok-place.ensures.stands in
    let value : c.in-Some.expansion.now ≡ stands.0 = value_at c.place_of_kernel.new.kept.entries c.in_ok-place.place c.in-Some.field-0-0.now
    c.args.kernel.now c.in-Some.expansion.now stands.0 c.in-Some.ensures.entry stands.1 in
    let expansion : IsExpansionOf c.self.inside.grammar.now.grammar.rules c.args.kernel.now c.in-Some.expansion.now =
    subst (λ e. IsExpansionOf c.self.inside.grammar.now.grammar.rules c.args.kernel.now e) (sym value) stands.2 in (
      (
        refl,
        λ other. tt,
        (
          subst (λ v. AsksKernel (means_alone v) c.args.kernel.now (means_alone (record {
            grammar = c.self.inside.grammar.now.grammar;
            scans = keys
                c.self.inside.scans;
            kernels = keys c.place_of_kernel.new.kept;
          })) c.args.steps.now c.place_of_kernel.new.steps) c.self.view_is
              (record { grammar = refl; base = refl; scans = refl; asks = c.in_ok-place.ensures.asks }),
          tt,
        ),
      ),
      record {
        expansion = subst (λ v. IsExpansionOf v.grammar.rules c.args.kernel.now c.in-Some.expansion.now) c.self.view_is expansion;
        never_back = c.place_of_kernel.ensures.never_back;
        asks = tt;
      },
    )
