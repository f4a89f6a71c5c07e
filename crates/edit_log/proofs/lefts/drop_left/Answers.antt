use Rattle.std.proofs.Common.{◌≡◌, ◌<◌, ◌==◌, List, filter, not, length, slice_get, Some, refl, sym, ap, ◌∙◌, arith, Vec}
use Rattle.std.specs.declared.alloc.Global.{Global}
use Rattle.std.specs.List.{remove}
use Rattle.std.proofs.lemmas.List.{map-set, length-map}
use Rattle.forest.specs.declared.rules.RuleId.{RuleId}
use Rattle.edit_log.specs.declared.symbol_table.Row.{Row}
use Rattle.edit_log.specs.Lists.{under}
use Rattle.edit_log.specs.Rows.{lefts_in}
use Rattle.edit_log.proofs.PlainLists.{sorted_keys}
use Rattle.edit_log.proofs.NumberSearches.{sorted_from_increasing, removed}
use Rattle.edit_log.proofs.RowLists.{column_stays, column_get}
use Rattle.edit_log.proofs.Unders.{under_get, under_within, under_changed}
use Rattle.edit_log.proofs.lefts.drop_left.Goals as goal

pub index_mut-row-requires : goal.index_mut-row-requires
index_mut-row-requires c =
    let rows = c.args.rows.now.items in
    omega (arith, under_within (lefts_in rows) c.args.left.0 c.args.number c.requires.there, length-map rows (λ (row : Row). row.rules))

pub returns-clause-lists : goal.returns-clause-lists
returns-clause-lists c = λ place.
    let rows = c.args.rows.now.items in
    let left = c.args.left.0 in
    let number = c.args.number in
    let old = under (lefts_in rows) left in
    let within = under_within (lefts_in rows) left number c.requires.there in
    let row = c.index_mut-row.result.now in
    let same : old ≡ row.rules.items = under_get (lefts_in rows) left row.rules (column_get (λ (row : Row). row.rules) rows left row (omega (
      arith,
      within,
      length-map rows (λ (row : Row). row.rules),
    )) c.index_mut-row.ensures.value) in
    let at : slice_get old c.place_of-place.result ≡ Some number = ap (λ (xs : List RuleId). slice_get xs c.place_of-place.result)
    (same ∙ sym c.deref.ensures.value) ∙ c.place_of-place.ensures in
    let apart = sorted_keys (λ (n : RuleId). n.0) old (sorted_from_increasing (λ (n : RuleId). n.0) old c.requires.ascends) in
    let items : c.remove.new.self.items ≡ filter (λ n. not (n.0 == number.0)) old =
    c.remove.ensures.items ∙ ap (λ (xs : List RuleId). remove xs c.place_of-place.result) (sym same) ∙ removed
    (λ (n : RuleId). n.0) old c.place_of-place.result number apart at in
    ap (λ (ls : List (Vec RuleId Global)). under ls place) (map-set (λ (row : Row). row.rules) rows left _)
    ∙ under_changed (lefts_in rows) left c.remove.new.self (λ numbers. filter (λ n. not (n.0 == number.0)) numbers) within items place

pub returns-clause-uses : goal.returns-clause-uses
returns-clause-uses c = column_stays (λ (row : Row). row.uses) c.args.rows.now.items c.args.left.0 c.index_mut-row.result.now _ c.index_mut-row.ensures.value
    refl

pub returns-clause-literals : goal.returns-clause-literals
returns-clause-literals c = column_stays (λ (row : Row). row.positions) c.args.rows.now.items c.args.left.0 c.index_mut-row.result.now _
    c.index_mut-row.ensures.value refl
