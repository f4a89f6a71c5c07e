use Rattle.std.proofs.Common.{refl, ap, ◌∙◌}
use Rattle.slot_store.specs.Meaning.{Meaning}
use Rattle.version_store_tests.proofs.alone.publish_all.Goals as goal

pub loop-at-init : goal.loop-at-init
loop-at-init c = record { table = refl; share = refl; pins_left = refl }

pub loop-at-preserved : goal.loop-at-preserved
loop-at-preserved c = let i = c.loop-at.invariant in let q = c.publish.ensures.put in record {
  table = ap (λ (m : Meaning). m.table) q.1 ∙ i.table;
  share = ap (λ (m : Meaning). m.share) q.1 ∙ i.share;
  pins_left = ap (λ (m : Meaning). m.pins_left) q.1 ∙ i.pins_left;
}
