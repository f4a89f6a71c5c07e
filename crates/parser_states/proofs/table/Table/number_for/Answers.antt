use Rattle.std.proofs.Common.{◌≡◌, inl, inr, ◌+◌, ◌^◌, ◌<◌, ◌++◌, ◌∷◌, [], length, slice_get, refl, sym, ap, ◌∙◌}
use Rattle.edit_log.proofs.PlainLists.{contains_at}
use Rattle.live_graph.specs.Asking.{AsksKernel}
use Rattle.parser_states.specs.Leads.{IsNumbered}
use Rattle.parser_states.specs.Asked.{AsksNew}
use Rattle.parser_states.proofs.PlainParts.{last_at}
use Rattle.parser_states.proofs.Results.{if_ok_more, if_ok_with, on_ok, on_ok_both}
use Rattle.parser_states.proofs.Keys.{placed, not_there}
use Rattle.parser_states.proofs.AskedKernels.{asks_none, asks_one}
use Rattle.parser_states.proofs.table.Table.number_for.Goals as goal

pub returns-in-Some-clause-number : goal.returns-in-Some-clause-number
returns-in-Some-clause-number g c =
    let keys = c.args.self.now.keys.keys in
    let at = placed keys c.args.kernel c.in-Some.number (sym c.in-Some.ensures.index) in
    if_ok_more c.number_of.result (λ n. (n ≡ c.in-Some.number) × (n + 1 < 2 ^ 32)) (λ n. IsNumbered c.args.kernel keys keys n × (n + 1 < 2 ^ 32))
    (λ n is. (
      record { named = ap (slice_get keys) is.0 ∙ at; joins = inl (contains_at keys c.in-Some.number c.args.kernel at, refl) },
      is.1,
    )) c.number_of.ensures

pub returns-in-Some-clause-asks : goal.returns-in-Some-clause-asks
returns-in-Some-clause-asks g c = on_ok c.number_of.result _ (asks_none c.args.self.now.keys.keys (g.G.Graph.means c.args.graph.now) c.args.steps.now)

pub add-requires-clause-fresh : goal.add-requires-clause-fresh
add-requires-clause-fresh g c = not_there c.args.self.now.keys.keys c.args.kernel (sym c.in_default.ensures.found)

pub returns-clause-number : goal.returns-clause-number
returns-clause-number g c =
    let old = c.args.self.now.keys.keys in
    let new = c.add.new.self.keys.keys in
    let fresh = not_there old c.args.kernel (sym c.in_default.ensures.found) in
    if_ok_with c.add.result (λ n. (n ≡ length old) × (n + 1 < 2 ^ 32)) (λ n. IsNumbered c.args.kernel old new n × (n + 1 < 2 ^ 32))
    (new ≡ old ++ c.args.kernel ∷ []) (λ n is added. (
      record {
        named = ap (slice_get new) is.0 ∙ ap (λ l. slice_get l (length old)) added ∙ last_at old c.args.kernel;
        joins = inr (fresh, added);
      },
      is.1,
    )) c.add.ensures.number c.add.ensures.kernels

pub returns-clause-asks : goal.returns-clause-asks
returns-clause-asks g c =
    let old = c.args.self.now.keys.keys in
    let new = c.add.new.self.keys.keys in
    let graph = g.G.Graph.means c.args.graph.now in
    let graph' = g.G.Graph.means c.add.new.graph in
    on_ok_both c.add.result (new ≡ old ++ c.args.kernel ∷ []) (AsksKernel graph c.args.kernel graph' c.args.steps.now c.add.new.steps)
    (AsksNew old new graph graph' c.args.steps.now c.add.new.steps)
    (λ added asks. asks_one old new c.args.kernel graph graph' c.args.steps.now c.add.new.steps added asks) c.add.ensures.kernels c.add.ensures.asks
