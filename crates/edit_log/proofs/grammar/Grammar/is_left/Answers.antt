use Rattle.std.proofs.Common.{◌≡◌, ◌<◌, ◌==◌, length, slice_get, Some, not, position, ap, sym, ◌∙◌, arith}
use Rattle.std.proofs.lemmas.List.{length-map}
use Rattle.std.proofs.lemmas.Option.{slice_get_within}
use Rattle.grammar_text.specs.declared.symbol.Symbol.TheVariants.{Named}
use Rattle.grammar_text.specs.Sameness.{spelling_eq}
use Rattle.edit_log.specs.declared.symbol_table.Row.{Row}
use Rattle.edit_log.specs.Rows.{lefts_in}
use Rattle.edit_log.specs.declared.symbol_table.Row.{Row}
use Rattle.edit_log.specs.Rows.{lefts_in}
use Rattle.edit_log.specs.History.{Grammar}
use Rattle.edit_log.specs.Verdict.{is_left}
use Rattle.edit_log.specs.Agreement.{grammar_in}
use Rattle.edit_log.specs.Replicas.{Replica}
use Rattle.edit_log.proofs.RowLists.{column_at}
use Rattle.edit_log.proofs.LeftNames.{found_at, left_by_list, left_unknown, under_index}
use Rattle.edit_log.proofs.grammar.Grammar.is_left.Goals as goal

pub returns-in-Some : goal.returns-in-Some
returns-in-Some c =
    let g : Grammar = grammar_in c.self.inside.version c.self.inside.table.symbols.keys c.self.inside.rules.rules c.self.inside.definitions.items in
    let at : slice_get g.symbols c.in-Some.place ≡ Some (Named c.args.name.now) =
    found_at g.symbols (Named c.args.name.now) c.in-Some.place (ap (λ n. position (spelling_eq (Named n)) g.symbols) (sym c.in_ok-clone.ensures.cases)
    ∙ sym c.get_index_of.ensures.index ∙ c.in-Some.is) in
    let rows = c.self.inside.table.rows.items in
    let row = c.index.result.now in
    let within : c.in-Some.place < length rows = omega (
      arith,
      slice_get_within g.symbols c.in-Some.place (Named c.args.name.now) at,
      c.self.invariant.has_lefts.len,
      length-map rows (λ (row : Row). row.rules),
    ) in
    let kept = sym (column_at (λ (row : Row). row.rules) rows c.in-Some.place row row.rules within c.index.ensures) in
    let numbers = under_index g.symbols g.rules (lefts_in rows) c.in-Some.place row.rules (Named c.args.name.now) c.self.invariant.has_lefts kept at in
    ap not (c.is_empty.ensures ∙ ap (λ n. n == 0) row.rules.ok.0) ∙ left_by_list g c.args.name.now c.in-Some.place row.rules.items c.self.invariant.well_formed
    at numbers ∙ ap (λ (r : Replica). is_left r.grammar c.args.name.now) c.self.view_is

pub returns : goal.returns
returns c =
    let g : Grammar = grammar_in c.self.inside.version c.self.inside.table.symbols.keys c.self.inside.rules.rules c.self.inside.definitions.items in
    left_unknown g c.args.name.now c.self.invariant.well_formed (ap (λ n. position (spelling_eq (Named n)) g.symbols) (sym c.in_ok-clone.ensures.cases)
    ∙ sym c.get_index_of.ensures.index ∙ c.in-None.is)
    ∙ ap (λ (r : Replica). is_left r.grammar c.args.name.now) c.self.view_is
