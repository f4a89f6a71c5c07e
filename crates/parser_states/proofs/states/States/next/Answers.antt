use Rattle.std.proofs.Common.{◌≡◌, sym, ap, subst}
use Rattle.item_sets.specs.Prefixes.{start_kernel}
use Rattle.edit_log.specs.History.{Grammar}
use Rattle.parser_states.specs.Known.{known}
use Rattle.forest.specs.Numbers.{KeepsNumbers}
use Rattle.parser_states.specs.Rows.{KeepsExpansions}
use Rattle.parser_states.specs.Expanded.{AreExpandedIn}
use Rattle.parser_states.proofs.Results.{on_ok_both}
use Rattle.parser_states.proofs.states.States.next.Goals as goal

pub returns-clause-expanded : goal.returns-clause-expanded
returns-clause-expanded g c =
    let rules = (g.G.Graph.means c.args.graph.now).grammar.rules in
    let rules' = (g.G.Graph.means c.next.new.graph).grammar.rules in
    let same : rules ≡ rules' = ap (λ (h : Grammar). h.rules) (sym c.next.ensures.stands.grammar) in
    let new = known c.next.new.self in
    let before : AreExpandedIn rules (known c.self.inside.table) = subst (AreExpandedIn rules) (sym c.self.view_is) c.requires.expanded in
    on_ok_both c.next.result (KeepsExpansions rules new) (KeepsNumbers c.self.inside.table.keys.keys new.kernels) (AreExpandedIn rules' new)
    (λ told keeps. subst (λ r. AreExpandedIn r new) same (record { start = keeps 0 start_kernel before.start; told = told })) c.next.ensures.told
    c.next.ensures.keeps
