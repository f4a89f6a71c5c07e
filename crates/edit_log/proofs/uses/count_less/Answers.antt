use Rattle.std.proofs.Common.{◌-◌, ℕ, set, refl, ap, sym, ◌∙◌}
use Rattle.std.proofs.lemmas.List.{map-set}
use Rattle.edit_log.specs.declared.symbol_table.Row.{Row}
use Rattle.edit_log.specs.Rows.{uses_in}
use Rattle.edit_log.proofs.RowLists.{column_stays, column_at}
use Rattle.edit_log.proofs.uses.count_less.Goals as goal

pub returns-clause-uses : goal.returns-clause-uses
returns-clause-uses c =
    let rows = c.args.rows.now.items in
    let place = c.args.symbol.0 in
    map-set (λ (row : Row). row.uses) rows place _
    ∙ ap (λ (n : ℕ). set (uses_in rows) place (n - 1)) (sym (column_at (λ (row : Row). row.uses) rows place c.index_mut.result.now 0 c.requires.within
    c.index_mut.ensures.value))

pub returns-clause-lefts : goal.returns-clause-lefts
returns-clause-lefts c = column_stays (λ (row : Row). row.rules) c.args.rows.now.items c.args.symbol.0 c.index_mut.result.now _ c.index_mut.ensures.value refl

pub returns-clause-literals : goal.returns-clause-literals
returns-clause-literals c = column_stays (λ (row : Row). row.positions) c.args.rows.now.items c.args.symbol.0 c.index_mut.result.now _ c.index_mut.ensures.value
    refl
