use Rattle.std.proofs.Common.{◌≡◌, ◌+◌, ◌∷◌, [], ◌++◌, ◌==◌, ◌<◌, List, length, slice_get, Some, refl, sym, ap, ◌∙◌, arith, Vec}
use Rattle.std.specs.declared.alloc.Global.{Global}
use Rattle.std.proofs.lemmas.List.{map-set, length-map}
use Rattle.forest.specs.declared.rules.RuleId.{RuleId}
use Rattle.edit_log.specs.declared.symbol_table.Row.{Row}
use Rattle.edit_log.specs.Lists.{under}
use Rattle.edit_log.specs.Rows.{lefts_in}
use Rattle.edit_log.proofs.RowLists.{column_stays, column_at, column_get}
use Rattle.edit_log.proofs.Unders.{under_get, under_changed}
use Rattle.edit_log.proofs.lefts.push_left.Goals as goal

pub push_reserved-requires : goal.push_reserved-requires
push_reserved-requires c =
    c.requires.room c.index_mut.result.now.rules (column_get (λ (row : Row). row.rules) c.args.rows.now.items c.args.left.0 c.index_mut.result.now
    c.requires.within c.index_mut.ensures.value)

pub returns-clause-lists : goal.returns-clause-lists
returns-clause-lists c = λ place.
    let rows = c.args.rows.now.items in
    let left = c.args.left.0 in
    let new = c.push_reserved.new.self in
    let read = under_get (lefts_in rows) left c.index_mut.result.now.rules
    (column_get (λ (row : Row). row.rules) rows left c.index_mut.result.now c.requires.within c.index_mut.ensures.value) in
    ap (λ (ls : List (Vec RuleId Global)). under ls place) (map-set (λ (row : Row). row.rules) rows left _)
    ∙ under_changed (lefts_in rows) left new (λ (numbers : List RuleId). numbers ++ c.args.number ∷ [])
    (omega (arith, c.requires.within, length-map rows (λ (row : Row). row.rules)))
    (c.push_reserved.ensures.items ∙ ap (λ (numbers : List RuleId). numbers ++ c.args.number ∷ []) (sym read)) place

pub returns-clause-uses : goal.returns-clause-uses
returns-clause-uses c = column_stays (λ (row : Row). row.uses) c.args.rows.now.items c.args.left.0 c.index_mut.result.now _ c.index_mut.ensures.value refl

pub returns-clause-literals : goal.returns-clause-literals
returns-clause-literals c = column_stays (λ (row : Row). row.positions) c.args.rows.now.items c.args.left.0 c.index_mut.result.now _ c.index_mut.ensures.value
    refl
