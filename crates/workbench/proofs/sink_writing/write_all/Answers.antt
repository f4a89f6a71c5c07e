use Rattle.std.proofs.Common.{◌≡◌, ℕ, ◌-◌, List, length, take, drop, arith, rules}
use Rattle.std.proofs.lemmas.Grind.{common_steps}
use Rattle.std.proofs.Math.Seq.{take-add}
use Rattle.bench_io.proofs.Chains.{Takes-append}
use Rattle.workbench.proofs.sink_writing.write_all.Goals as goal

-- the rest of a slice is what is left of it
rest_is : (bytes : List ℕ) (n : ℕ) → take (length bytes - n) (drop n bytes) ≡ drop n bytes
rest_is bytes n = grind (arith, common_steps)

pub writes-preserved : goal.writes-preserved
writes-preserved g c = record {
  taken =
      rw (take-add c.writes.written c.in_ok-written.field-0 c.args.bytes.now, ← rest_is c.args.bytes.now c.writes.written)
      (Takes-append _ _ _ _ _ c.writes.invariant.taken c.in_ok-written.ensures.takes);
  within = search rules;
  counted = search rules;
}
