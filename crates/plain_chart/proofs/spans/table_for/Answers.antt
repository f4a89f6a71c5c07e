use Rattle.std.proofs.Common.{rules, ◌≡◌, ◌-◌, ◌*◌, length, refl, false, replicate}
use Rattle.plain_chart.specs.declared.spans.Table.{Table}
use Rattle.plain_chart.proofs.TableLemmas.{get_last}
use Rattle.plain_chart.specs.Tables.{same, added}
use Rattle.plain_chart.proofs.spans.table_for.Goals as goal
use Rattle.plain_chart.specs.declared.limits.TheConstants.{PLACES}

pub returns-in-Some-clause-found : goal.returns-in-Some-clause-found
returns-in-Some-clause-found c = (rw c.deref.ensures.value at c.in-Some.ensures.found, same)

pub returns-clause-found : goal.returns-clause-found
returns-clause-found c =
    let t : Table = record { symbol = c.args.symbol; bits = c.in_ok-bits.bits } in
    let place : c.len.result - 1 ≡ length c.args.tables.now.items = search rules in
    let empty : c.in_ok-bits.bits.items ≡ replicate (PLACES * PLACES) false = search rules in
    let none = rw c.deref.ensures.value at c.in_default.ensures.none in
    rw (c.in_ok-push.ensures.items, place) ((t, get_last c.args.tables.now.items t, refl), added t refl empty none)
