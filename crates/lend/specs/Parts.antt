-- What a hold owns: parts of the token of the lifetime for which the value is lent, of 2 ^ 32 in all, and that the value is shared for that lifetime.
use Rattle.std.specs.Prelude.{ℕ, zero, suc, ◌≤◌, [], ◌∷◌}
use base.FractionLaws.{Counts}
use base.Fml.{Lft, Share, Fml, ftrue, fsep, fex, flft, flent}
use denote.RattleType.{RattleType}
use denote.Sharing.{said, some, one, beside, held}
use denote.RawPtr.{Ptr, coded_ptr, in_block}
use mir.Syntax.{Ty}
use Rattle.std_alloc.specs.Box.Ownership.{box_owns}
use denote.Struct.Lending.{lent_at}
use base.Stored.{Coded}
use Rattle.lend.specs.declared.limits.TheConstants.{WHOLE}

abbrev pub ptr_coded : Coded Ptr
ptr_coded = coded_ptr

abbrev pub frac : ℕ → ℕ → Fml
frac ν zero = ftrue
frac ν (suc n) = fex Share (λ s. fex (Counts 32 s (suc n) × (suc n ≤ WHOLE)) (λ _. flft (ν ∷ []) s))

abbrev pub hold_owns : (R : RattleType) → Ptr → R.Denot → ℕ → ℕ → Fml
hold_owns R p x ν n = fsep (frac ν n) (lent_at R p x (ν ∷ []))

-- what a `&` to a hold holds of those
abbrev pub frac_shares : ℕ → ℕ → Lft → Fml
frac_shares ν zero = said ftrue
frac_shares ν (suc n) = some Share (λ s. some (Counts 32 s (suc n) × (suc n ≤ WHOLE)) (λ _. one (λ q. flft (ν ∷ []) q)))

abbrev pub hold_shares : (R : RattleType) → Ptr → R.Denot → ℕ → ℕ → Lft → Fml
hold_shares R p x ν n = beside (frac_shares ν n) (held (ν ∷ []) (lent_at R p x))

-- the box at p comes back once ν has ended
abbrev pub lent_owns : (Ty → Ptr → Fml) → (R : RattleType) → Ptr → R.Denot → ℕ → Fml
lent_owns h R p x ν = fsep (in_block p ftrue) (flent (ν ∷ []) (box_owns h R p x))
