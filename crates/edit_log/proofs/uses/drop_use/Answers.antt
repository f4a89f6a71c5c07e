use Rattle.std.proofs.Common.{◌≡◌, ◌-◌, ◌<◌, ℕ, List, get_or, slice_get, Option, Some, true, false, sym, ap, ◌∙◌, refl, subst, arith}
use Rattle.std.proofs.lemmas.Option.{same_Some}
use Rattle.regex_ast.specs.Positions.{Table}
use Rattle.edit_log.specs.declared.symbol_table.Row.{Row}
use Rattle.edit_log.specs.Lists.{HasLiteral}
use Rattle.edit_log.specs.Rows.{uses_in, literals_in, IsUsed}
use Rattle.edit_log.proofs.RowLists.{use_changes, use_counts}
use Rattle.edit_log.proofs.UseLists.{live_ended, live_less}
use Rattle.edit_log.proofs.uses.drop_use.Goals as goal

pub returns-then-is_used-clause-counts : goal.returns-then-is_used-clause-counts
returns-then-is_used-clause-counts c = use_counts (λ (n k : ℕ). n - k) (λ n. omega arith) c.args.rows.now.items
    (uses_in c.count_less.new.rows.items) c.args.symbol c.requires.within c.count_less.ensures.uses

pub returns-else-is_used-clause-counts : goal.returns-else-is_used-clause-counts
returns-else-is_used-clause-counts c = use_counts (λ (n k : ℕ). n - k) (λ n. omega arith) c.args.rows.now.items
    (uses_in c.count_less.new.rows.items) c.args.symbol c.requires.within c.count_less.ensures.uses

pub returns-then-is_used-clause-live : goal.returns-then-is_used-clause-live
returns-then-is_used-clause-live c = λ numbers lists.
    let rows = c.args.rows.now.items in
    let place = c.args.symbol.0 in
    let m = get_or (uses_in rows) place 0 in
    let new = uses_in c.count_less.new.rows.items in
    let changes = use_changes rows new c.args.symbol (m - 1) c.requires.within c.count_less.ensures.uses in
    let used : IsUsed c.count_less.new.rows.items c.args.symbol 0 = subst (λ (rs : List Row). IsUsed rs c.args.symbol 0) c.deref.ensures.value
    (c.is_used.ensures.0 c.if-is_used.true) in
    let ended : m - 1 ≡ 0 = same_Some (m - 1) 0 (sym changes.after ∙ used.1) in
    live_ended (literals_in rows) numbers c.args.symbol (uses_in rows) new m (m - 1) c.args.live.now.items c.remove.new.live.items changes ended lists
    (c.remove.ensures lists.order)

pub returns-else-is_used-clause-live : goal.returns-else-is_used-clause-live
returns-else-is_used-clause-live c = λ numbers lists.
    let rows = c.args.rows.now.items in
    let place = c.args.symbol.0 in
    let m = get_or (uses_in rows) place 0 in
    let new = uses_in c.count_less.new.rows.items in
    let changes = use_changes rows new c.args.symbol (m - 1) c.requires.within c.count_less.ensures.uses in
    live_less (literals_in rows) numbers c.args.symbol (uses_in rows) new m c.args.live.now.items changes c.requires.some
    (λ (has, at). let used = c.is_used.ensures.1 (subst (λ (rs : List Row). IsUsed rs c.args.symbol 0) (sym c.deref.ensures.value)
    (subst (λ (ls : List (Option Table)). HasLiteral ls place) (sym c.count_less.ensures.literals) has, at)) in absurd (let never : false ≡ true =
    sym c.if-is_used.false ∙ used in cc)) lists
