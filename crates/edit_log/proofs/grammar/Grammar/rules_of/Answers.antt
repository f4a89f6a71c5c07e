use Rattle.std.proofs.Common.{◌≡◌, ◌≤◌, ◌<◌, List, length, [], get_or, sym, ap, ◌∙◌, subst, arith}
use Rattle.std.proofs.lemmas.List.{length-map}
use Rattle.edit_log.specs.declared.symbol_table.Row.{Row}
use Rattle.edit_log.specs.Replicas.{Replica}
use Rattle.edit_log.specs.Rows.{lefts_in}
use Rattle.edit_log.specs.Lookups.{numbers_of_left}
use Rattle.edit_log.proofs.RowLists.{column_get}
use Rattle.edit_log.proofs.Unders.{under_get}
use Rattle.edit_log.proofs.LookupLemmas.{no_left}
use Rattle.edit_log.proofs.grammar.Grammar.rules_of.Goals as goal

pub returns-in-None : goal.returns-in-None
returns-in-None c =
    let rows = c.self.inside.table.rows.items in
    let past : length c.self.inside.table.symbols.keys ≤ c.args.left.0 =
    omega (arith, c.self.invariant.has_lefts.len, length-map rows (λ (row : Row). row.rules), ap length c.deref.ensures.value, c.in-None.ensures.lookup) in
    subst (λ (r : Replica). [] ≡ numbers_of_left r.grammar.rules c.args.left) c.self.view_is
    (no_left c.self.inside.table.symbols.keys c.self.inside.rules.rules c.args.left c.self.invariant.well_formed.lefts past)

pub returns-in-Some : goal.returns-in-Some
returns-in-Some c =
    let rows = c.self.inside.table.rows.items in
    let left = c.args.left.0 in
    let row = c.in-Some.row.now in
    let found = c.in-Some.ensures.lookup in
    let within : left < length rows = omega (arith, found.3.0, ap length c.deref.ensures.value) in
    let at : row ≡ get_or rows left row = found.1 ∙ ap (λ (rs : List Row). get_or rs left row) c.deref.ensures.value in
    let kept = under_get (lefts_in rows) left row.rules (column_get (λ (row : Row). row.rules) rows left row within at) in
    let lists = c.self.invariant.has_lefts.lists left (omega (arith, within, c.self.invariant.has_lefts.len, length-map rows (λ (row : Row). row.rules))) in
    subst (λ (r : Replica). c.deref-in-Some.result.now ≡ numbers_of_left r.grammar.rules c.args.left) c.self.view_is (c.deref-in-Some.ensures.value ∙ sym kept
    ∙ lists)
