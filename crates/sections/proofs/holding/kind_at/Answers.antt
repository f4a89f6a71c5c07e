use Rattle.std.proofs.Common.{ℕ, List, subst}
use Rattle.std.specs.Prelude.{Option}
use Rattle.std.specs.Borrow.{Bor}
use Rattle.graph_content.specs.Contents.{FitsLog}
use Rattle.version_store.specs.Means.{bench_of, StandsAt}
use Rattle.version_store.specs.BenchRows.{TellsRow}
use Rattle.version_store.specs.Placed.{ReadsAt}
use Rattle.sections.proofs.HeldRows.{read_some, read_none}
use Rattle.sections.proofs.holding.kind_at.Goals as goal

pub returns-in-Some : goal.returns-in-Some
returns-in-Some c =
    let old = c.args.bench.now in let new = c.row.follows.lender-at-none in
    let told = subst (λ (answer : Option (Bor (List ℕ))). TellsRow (bench_of old) (bench_of new) c.args.place answer
    × ReadsAt FitsLog (bench_of old) (bench_of new) (StandsAt old) (StandsAt new) c.args.place answer) c.in-Some.is c.row.follows.holds-at-none in
    read_some (bench_of old) (bench_of new) (StandsAt old) (StandsAt new) c.args.place c.in-Some.row c.kind_of.result told c.kind_of.ensures

pub returns-in-None : goal.returns-in-None
returns-in-None c =
    let old = c.args.bench.now in let new = c.row.follows.lender-at-none in
    read_none (bench_of old) (bench_of new) (StandsAt old) (StandsAt new) c.args.place
    (subst (λ (answer : Option (Bor (List ℕ))). TellsRow (bench_of old) (bench_of new) c.args.place answer
    × ReadsAt FitsLog (bench_of old) (bench_of new) (StandsAt old) (StandsAt new) c.args.place answer) c.in-None.is c.row.follows.holds-at-none)
