use Rattle.std.proofs.Common.{◌≡◌, inl, inr, sym, ◌∙◌, subst, arith}
use Rattle.std.proofs.lemmas.Bool.{cases_lt}
use Rattle.std.proofs.lemmas.Option.{slice_get_within}
use Rattle.plain_chart.specs.declared.spans.Table.{Table}
use Rattle.plain_chart.proofs.TableLemmas.{read_is, some_same}
use Rattle.plain_chart.proofs.spans.table_of.Goals as goal

pub returns-then-is_same-clause-found : goal.returns-then-is_same-clause-found
returns-then-is_same-clause-found c = (
  c.index-tables-at.result,
  read_is c.args.tables.now c.loop-at.at c.index-tables-at.result c.index-tables-at.is
      (omega arith),
  subst (λ (t : Table). t.symbol ≡ c.args.symbol) (sym c.index-tables-at.is) (c.is_same.ensures.0 c.if-is_same.true),
)

pub loop-at-preserved : goal.loop-at-preserved
loop-at-preserved c = λ k l table. elim (cases_lt k c.loop-at.at) [
  | inl below ↦ c.loop-at.invariant k below table
  | inr above ↦
      let same : k ≡ c.loop-at.at = omega arith in
      let there = read_is c.args.tables.now c.loop-at.at c.index-tables-at.result c.index-tables-at.is (omega arith) in
      let is = some_same table.0 c.index-tables-at.result (sym table.1 ∙ rw (sym same) at there) in
      let yes' = c.is_same.ensures.1 (subst (λ (t : Table). t.symbol ≡ c.args.symbol) (is ∙ c.index-tables-at.is) table.2) in
      let no' = c.if-is_same.false in cc
]

pub returns-clause-none : goal.returns-clause-none
returns-clause-none c = λ at table. c.loop-at.invariant at (omega (arith, slice_get_within c.args.tables.now at table.0 table.1)) table
