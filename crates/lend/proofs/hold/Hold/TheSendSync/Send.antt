use Rattle.std.proofs.Common.{ℕ, zero, suc, [], ◌∷◌}
use base.Shift.{Keyless}
use base.Fml.{ftrue}
use denote.RattleType.{RattleType}
use denote.RawPtr.{Ptr, null_ptr, block_ptr, in_block, block_of, count_of}
use denote.Param.Send.{IsSend, IsSync}
use Rattle.lend.specs.Parts.{frac}
use Rattle.lend.specs.contracts.hold.Hold.{the_row}

frac_keyless : (ν n : ℕ) → Keyless (frac ν n)
frac_keyless ν zero = tt
frac_keyless ν (suc n) = λ s c. tt

inside_keyless : (p : Ptr) → Keyless (in_block p ftrue)
inside_keyless null_ptr = tt
inside_keyless (block_ptr b o) = tt

pub send : (T : RattleType) → IsSend T → IsSync T → IsSend (the_row T)
send T s y = record {
  owned = λ d vs. (
    (λ vss. (tt, ((λ uss. (tt, tt)), tt))),
    (
      frac_keyless d.age d.parts,
      (
        inside_keyless d.at,
        y.shared d.value (block_of d.at) (count_of d.at) (d.age ∷ []),
      ),
    ),
  );
  leaving = λ k f vs. tt;
}
