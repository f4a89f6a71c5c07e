use Rattle.std.proofs.Common.{◌≡◌, ◌≤◌, ◌<◌, ℕ, List, length, map, slice_get, slice_index_or, Some, IfSome, refl, sym, ap, ◌∙◌, subst, arith, Vec}
use Rattle.std.specs.declared.alloc.Global.{Global}
use Rattle.std.proofs.lemmas.List.{map-set, length-map}
use Rattle.forest.specs.declared.rules.RuleId.{RuleId}
use Rattle.edit_log.specs.declared.symbol_table.Row.{Row}
use Rattle.edit_log.specs.Lists.{under}
use Rattle.edit_log.specs.Replicas.{room_of}
use Rattle.edit_log.specs.Rows.{lefts_in}
use Rattle.edit_log.proofs.RowLists.{column_stays, column_at, column_get}
use Rattle.edit_log.proofs.Rooms.{under_set, under_at, under_past}
use Rattle.edit_log.proofs.Unders.{under_get, under_same}
use Rattle.edit_log.proofs.symbol_table.SymbolTable.reserve_rule.Goals as goal

pub returns-in_err-reserve-clause-lefts : goal.returns-in_err-reserve-clause-lefts
returns-in_err-reserve-clause-lefts c = λ place.
    let rows = c.args.self.now.rows.items in
    let left = c.args.left.0 in
    let read = under_get (lefts_in rows) left c.index_mut.result.now.rules (column_get (λ (row : Row). row.rules) rows left c.index_mut.result.now
    (omega arith) c.index_mut.ensures.value) in
    ap (λ (ls : List (Vec RuleId Global)). under ls place) (map-set (λ (row : Row). row.rules) rows left _) ∙ under_same (lefts_in rows) left c.reserve.new.self
    (c.reserve.ensures.items ∙ sym read) place

pub returns-in_err-reserve-clause-uses : goal.returns-in_err-reserve-clause-uses
returns-in_err-reserve-clause-uses c = column_stays (λ (row : Row). row.uses) c.args.self.now.rows.items c.args.left.0 c.index_mut.result.now _
    c.index_mut.ensures.value refl

pub returns-in_err-reserve-clause-literals : goal.returns-in_err-reserve-clause-literals
returns-in_err-reserve-clause-literals c = column_stays (λ (row : Row). row.positions) c.args.self.now.rows.items c.args.left.0 c.index_mut.result.now _
    c.index_mut.ensures.value refl

pub returns-in_err-reserve-clause-grows : goal.returns-in_err-reserve-clause-grows
returns-in_err-reserve-clause-grows c = λ place count told.
    let rows = c.args.self.now.rows.items in
    let left = c.args.left.0 in
    let list = c.index_mut.result.now.rules in
    let at : list ≡ slice_index_or (lefts_in rows) left list =
    sym (column_at (λ (row : Row). row.rules) rows left c.index_mut.result.now list (omega arith) c.index_mut.ensures.value) in
    subst (λ (ls : List (Vec RuleId Global)). (more : ℕ) × (slice_get (map room_of ls) place ≡ Some more) × (count ≤ more))
    (sym (map-set (λ (row : Row). row.rules) rows left (record {
      rules = c.reserve.new.self;
      uses = c.index_mut.result.now.uses;
      positions =
          c.index_mut.result.now.positions;
    })))
    (under_set (lefts_in rows) left list c.reserve.new.self at (omega (arith, c.reserve.ensures.len, c.reserve.ensures.capacity)) place count told)

pub returns-in_ok-reserve-clause-lefts : goal.returns-in_ok-reserve-clause-lefts
returns-in_ok-reserve-clause-lefts c = λ place.
    let rows = c.args.self.now.rows.items in
    let left = c.args.left.0 in
    let read = under_get (lefts_in rows) left c.index_mut.result.now.rules (column_get (λ (row : Row). row.rules) rows left c.index_mut.result.now
    (omega arith) c.index_mut.ensures.value) in
    ap (λ (ls : List (Vec RuleId Global)). under ls place) (map-set (λ (row : Row). row.rules) rows left _) ∙ under_same (lefts_in rows) left c.reserve.new.self
    (c.reserve.ensures.items ∙ sym read) place

pub returns-in_ok-reserve-clause-uses : goal.returns-in_ok-reserve-clause-uses
returns-in_ok-reserve-clause-uses c = column_stays (λ (row : Row). row.uses) c.args.self.now.rows.items c.args.left.0 c.index_mut.result.now _
    c.index_mut.ensures.value refl

pub returns-in_ok-reserve-clause-literals : goal.returns-in_ok-reserve-clause-literals
returns-in_ok-reserve-clause-literals c = column_stays (λ (row : Row). row.positions) c.args.self.now.rows.items c.args.left.0 c.index_mut.result.now _
    c.index_mut.ensures.value refl

pub returns-in_ok-reserve-clause-grows : goal.returns-in_ok-reserve-clause-grows
returns-in_ok-reserve-clause-grows c = λ place count told.
    let rows = c.args.self.now.rows.items in
    let left = c.args.left.0 in
    let list = c.index_mut.result.now.rules in
    let at : list ≡ slice_index_or (lefts_in rows) left list =
    sym (column_at (λ (row : Row). row.rules) rows left c.index_mut.result.now list (omega arith) c.index_mut.ensures.value) in
    subst (λ (ls : List (Vec RuleId Global)). (more : ℕ) × (slice_get (map room_of ls) place ≡ Some more) × (count ≤ more))
    (sym (map-set (λ (row : Row). row.rules) rows left (record {
      rules = c.reserve.new.self;
      uses = c.index_mut.result.now.uses;
      positions =
          c.index_mut.result.now.positions;
    })))
    (under_set (lefts_in rows) left list c.reserve.new.self at (omega (arith, c.reserve.ensures.len, c.reserve.ensures.capacity)) place count told)

pub returns-in_ok-reserve-clause-room : goal.returns-in_ok-reserve-clause-room
returns-in_ok-reserve-clause-room c =
    let rows = c.args.self.now.rows.items in
    let left = c.args.left.0 in
    subst (λ (ls : List (Vec RuleId Global)). IfSome (slice_get (map room_of ls) left) (λ count. 1 ≤ count))
    (sym (map-set (λ (row : Row). row.rules) rows left (record {
      rules = c.reserve.new.self;
      uses = c.index_mut.result.now.uses;
      positions =
          c.index_mut.result.now.positions;
    })))
    (under_at (lefts_in rows) left c.reserve.new.self (omega (arith, c.in_ok-reserve.ensures.ok, c.reserve.ensures.len)))

pub returns-else-place-len-clause-room : goal.returns-else-place-len-clause-room
returns-else-place-len-clause-room c =
    let rows = c.args.self.now.rows.items in
    under_past (lefts_in rows) c.args.left.0 (omega (arith, c.len.ensures, c.if-place-len.false, length-map rows (λ (row : Row). row.rules)))
