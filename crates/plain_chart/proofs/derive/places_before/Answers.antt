use Rattle.std.proofs.Common.{ℕ, refl, arith}
use Rattle.std.proofs.lemmas.List.{length-set}
use Rattle.plain_chart.specs.Known.{ReachesAhead}
use Rattle.plain_chart.proofs.Places.{none_set, bits_more, clear_more, leads_all}
use Rattle.plain_chart.proofs.derive.places_before.Goals as goal
use Rattle.plain_chart.specs.declared.limits.TheConstants.{PLACES}

pub loop-from-init : goal.loop-from-init
loop-from-init c = record { wide = refl; below = λ i l. absurd (omega arith); above = λ i k l. none_set PLACES i l }

pub loop-from-preserved : goal.loop-from-preserved
loop-from-preserved c = record {
  wide = rw length-set c.loop-from.invariant.wide;
  below = bits_more (λ (i : ℕ). ReachesAhead c.args.tokens.now c.args.known.now c.args.symbol i c.args.ahead.now c.args.to) c.loop-from.places c.loop-from.from
      c.leads.result (omega (arith, c.loop-from.invariant.wide)) c.loop-from.invariant.below c.leads.ensures;
  above = clear_more c.loop-from.places c.loop-from.from c.leads.result c.loop-from.invariant.above;
}

pub returns : goal.returns
returns c = leads_all c.args.tokens.now c.args.known.now c.args.symbol c.args.ahead.now c.args.to c.loop-from.from c.loop-from.places
    (omega arith) c.loop-from.invariant.below c.loop-from.invariant.above
