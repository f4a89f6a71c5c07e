use Rattle.std.proofs.Common.{refl, arith}
use Rattle.sections_tests.proofs.table.sizes_with.Goals as goal

pub invariant_of-result : goal.invariant_of-result
invariant_of-result c = record {
  log_in = (omega arith, omega arith);
  versions_in = (omega arith, omega arith);
  places_in = (omega arith, omega arith);
  rows_in = (omega arith, omega arith);
  width_in = (omega arith, omega arith);
  pins_in = omega (arith, c.min.ensures);
}

pub returns : goal.returns
returns c = refl
