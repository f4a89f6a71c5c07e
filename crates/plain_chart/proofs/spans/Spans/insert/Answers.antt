use Rattle.std.proofs.Common.{◌≡◌, refl, sym, ◌∙◌, ap, arith, set, true}
use Rattle.std.proofs.lemmas.Option.{slice_get_within}
use Rattle.plain_chart.specs.declared.spans.Table.{Table}
use Rattle.plain_chart.proofs.TableLemmas.{indexed_keeps, indexed_insert, read_is, some_same}
use Rattle.plain_chart.proofs.spans.Spans.insert.Goals as goal

pub invariant_of-self-in_err-push : goal.invariant_of-self-in_err-push
invariant_of-self-in_err-push c = rw c.in_err-push.ensures.items (indexed_keeps _ _ _ _ c.self.invariant c.in_ok-at.ensures.found.1)

pub index_mut-table-requires : goal.index_mut-table-requires
index_mut-table-requires c =
    let table = c.in_ok-at.ensures.found.0 in
    omega (arith, slice_get_within c.table_for.new.tables.items c.in_ok-at.at table.0 table.1, c.table_for.new.tables.ok)

pub index_mut-requires : goal.index_mut-requires
index_mut-requires c =
    let table = c.in_ok-at.ensures.found.0 in
    let kept = indexed_keeps _ _ _ _ c.self.invariant c.in_ok-at.ensures.found.1 in
    let there = read_is c.table_for.new.tables.items c.in_ok-at.at c.index_mut-table.result.now c.index_mut-table.ensures.value
    (slice_get_within c.table_for.new.tables.items c.in_ok-at.at table.0 table.1) in
    omega (arith, kept.wide c.in_ok-at.at c.index_mut-table.result.now there, c.index_mut-table.result.now.bits.ok, c.bit_of.ensures)

pub invariant_of-self-2 : goal.invariant_of-self-2
invariant_of-self-2 c =
    let table = c.in_ok-at.ensures.found.0 in
    let kept = indexed_keeps _ _ _ _ c.self.invariant c.in_ok-at.ensures.found.1 in
    let there = read_is c.table_for.new.tables.items c.in_ok-at.at c.index_mut-table.result.now c.index_mut-table.ensures.value
    (slice_get_within c.table_for.new.tables.items c.in_ok-at.at table.0 table.1) in
    let one = some_same c.index_mut-table.result.now table.0 (sym there ∙ table.1) in
    let symbols : c.index_mut-table.result.now.symbol ≡ c.args.symbol = ap (λ (t : Table). t.symbol) one ∙ table.2 in
    rw c.in_ok-push.ensures.items (indexed_insert _ _ kept c.args.symbol c.args.from c.args.to c.in_ok-at.at c.index_mut-table.result.now _ there symbols refl
    (ap (λ n. set c.index_mut-table.result.now.bits.items n true) c.bit_of.ensures) c.requires.begins c.requires.ends)
