use Rattle.std.proofs.Common.{◌≡◌, ◌+◌, ◌<◌, sym, subst, arith}
use Rattle.version_store.specs.Means.{bench_of, StandsAt}
use Rattle.sections.proofs.HeldRows.{CountsTo, starts, goes_on, ends}
use Rattle.sections.proofs.holding.count_held.Goals as goal

pub loop-place-init : goal.loop-place-init
loop-place-init c = starts (bench_of c.args.bench.now) (StandsAt c.args.bench.now)

pub loop-place-preserved : goal.loop-place-preserved
loop-place-preserved c =
    let first = c.args.bench.now in let old = c.loop-place.bench in let new = c.kind_at-kind.new.bench in
    subst (CountsTo (bench_of first) (bench_of new) (StandsAt first) (StandsAt new) (c.loop-place.place + 1)) (sym c.counted_with-held.ensures)
    (goes_on (bench_of first) (bench_of old) (bench_of new) (StandsAt first) (StandsAt old) (StandsAt new) c.loop-place.place c.loop-place.held
    c.kind_at-kind.result c.loop-place.invariant c.kind_at-kind.ensures)

pub returns-clause-counts : goal.returns-clause-counts
returns-clause-counts c =
    let first = c.args.bench.now in
    let some = (bench_of first).sizes.places_in in
    let all : c.loop-place.place ≡ (bench_of first).sizes.places =
    omega (arith, c.loop-place-test.false, c.loop-place.auto.place-end, c.places-places.ensures) in
    let begun : 0 < c.loop-place.place = omega (arith, all, some.0) in
    ends (bench_of first) (bench_of c.loop-place.bench) (StandsAt first) (StandsAt c.loop-place.bench) c.loop-place.place c.loop-place.held
    c.loop-place.invariant all begun
