-- A `&` to a hold shows that the age lasts, where it has a part. Assumes `Logic`.
use Rattle.std.proofs.Common.{ℕ, zero, suc, ◌≤◌, ◌<◌, arith, [], ◌∷◌}
use seplogic.Ra.Ura.{Ura}
use base.Logic.{ent, sep, wand, apply∗, never, id⊢}
use base.FractionLaws.{Counts}
use base.Fml.{Lft, Share, Fml, ftrue, fex, fbor, flft, fshr_bor}
use types.Logic.{Logic, sem, lfts}
use types.Kit.{‵, raw, ◌⊛◌, later, ◌$◌, ◌∵◌, !, qed, by, fpick, move, keep, drop, split, fsplit, use1, use2, updating, await, now, done}
use types.Tokens.{bor_fracture}
use denote.RattleType.{RattleType}
use denote.RawPtr.{Ptr, null_ptr}
use denote.Moves.{moves_from}
use contract.BorrowLft.{meet_⊑_left}
use denote.Param.Laws.{Laws}
use denote.Sharing.{ShrLaws, some, one, held}
use denote.SharingLaws.{said_shr_laws, some_shr_laws, beside_shr_laws, one_shr_laws, held_shr_laws}
use denote.Struct.Lending.{Lends, Lends-both, Lends-said, lent_at, lent_at_shr_laws}
use denote.Model.Laws.{Lends-some}
use Rattle.lend.specs.Parts.{frac, frac_shares, hold_owns, hold_shares}
use Rattle.lend.specs.declared.limits.TheConstants.{WHOLE}

module _ (R : RattleType) (L : Laws R) (p : Ptr) (x : R.Denot) (ν : ℕ) where
  abbrev Φ : Share → Fml
  Φ q = flft (ν ∷ []) q

  abbrev t : Lft → Fml
  t = lent_at R p x

  frac_laws : (n : ℕ) → ShrLaws (frac_shares ν n)
  frac_laws zero = said_shr_laws ftrue tt
  frac_laws (suc n) = some_shr_laws Share (λ s. some (Counts 32 s (suc n) × (suc n ≤ WHOLE)) (λ _. one Φ)) (λ s. some_shr_laws (Counts 32 s (suc n)
      × (suc n ≤ WHOLE)) (λ _. one Φ) (λ _. one_shr_laws Φ))

  pub shown_laws : (n : ℕ) → ShrLaws (hold_shares R p x ν n)
  shown_laws n = beside_shr_laws (frac_shares ν n) (held (ν ∷ []) t) (frac_laws n) (held_shr_laws (ν ∷ []) t (lent_at_shr_laws R L.shr_laws p x))

  module _ {M : Type 1} {𝓤 : Ura M} (𝓛 : Logic 𝓤) (l : Lft) where
    open 𝓛 use {H, A}

    token : (s : Share) → Lends 𝓛 (Φ s) (one Φ) l
    token s κ ts inc sp = qed 𝓛 (‵ (fbor κ (Φ s)) ∷ raw (lfts 𝓛 ts) ∷ []) {P = H.⇛ (sep 𝓤 (sem 𝓛 (fshr_bor κ Φ)) (lfts 𝓛 ts))} (updating ! $
        bor_fracture ! tt Φ s $ now ! $ done !)

    frac_lends : (n : ℕ) → Lends 𝓛 (frac ν n) (frac_shares ν n) l
    frac_lends zero = Lends-said 𝓛 ftrue tt l
    frac_lends (suc n) = let X : Share → Type 0 = λ s. Counts 32 s (suc n) × (suc n ≤ WHOLE) in
        Lends-some 𝓛 Share (λ s. fex (X s) (λ _. Φ s)) (λ s. some (X s) (λ _. one Φ)) l (λ s. Lends-some 𝓛 (X s) (λ _. Φ s) (λ _. one Φ) l (λ _. token s))

    knowledge : Lends 𝓛 (t (ν ∷ [])) (held (ν ∷ []) t) l
    knowledge κ ts inc sp = let P : Fml = t (ν ∷ []) in let Back = H.⇛ (sep 𝓤 (A.bor κ P) (lfts 𝓛 ts)) in
        qed 𝓛 (‵ (fbor κ P) ∷ raw (lfts 𝓛 ts) ∷ []) {P = H.⇛ (sep 𝓤 (sem 𝓛 P) (lfts 𝓛 ts))} (
        updating ! $ use2 𝓛 (later (‵ P ⊛ raw (wand 𝓤 (sem 𝓛 P) Back))) (𝓛.more.bor_acc_by κ ts P sp) $ await ! tt $ split ! $
        use1 𝓛 (‵ P ⊛ ‵ P) ((lent_at_shr_laws R L.shr_laws p x).contraction M 𝓤 𝓛 (ν ∷ [])) $ split ! $ move ! (0 ∷ 2 ∷ []) $
        use2 𝓛 (later (‵ (fbor κ P) ⊛ raw (lfts 𝓛 ts))) (apply∗ 𝓤 (sem 𝓛 P) Back) $ await ! tt $ split ! $ drop ! $ move ! (1 ∷ 0 ∷ []) $ now ! $ done !)

    pub lends_shown : (n : ℕ) → Lends 𝓛 (hold_owns R p x ν n) (hold_shares R p x ν n) l
    lends_shown n = Lends-both 𝓛 (frac ν n) (t (ν ∷ [])) (frac_shares ν n) (held (ν ∷ []) t) l (frac_lends n) knowledge

    pub sees : (n : ℕ) (κ : Lft) → 0 < n → ent 𝓤 (sem 𝓛 (hold_shares R p x ν n κ)) (sem 𝓛 (t κ))
    sees zero κ h = absurd (omega arith)
    sees (suc n) κ h = qed 𝓛 (‵ (hold_shares R p x ν (suc n) κ) ∷ []) ∵ fsplit ! $
        fpick ! (λ s. fpick ! (λ c. by ! (moves_from 𝓛 t (lent_at_shr_laws R L.shr_laws p x) κ (ν ∷ []) (ν ∷ []) (meet_⊑_left (ν ∷ []) κ))))

pub nowhere : {M : Type 1} {𝓤 : Ura M} (𝓛 : Logic 𝓤) (R : RattleType) (x : R.Denot) (κ : Lft) → ent 𝓤 (sem 𝓛 (lent_at R null_ptr x κ)) (never 𝓤)
nowhere {𝓤 = 𝓤} 𝓛 R x κ = qed 𝓛 (‵ (lent_at R null_ptr x κ) ∷ []) ∵ fsplit ! $ keep ! (0 ∷ []) $ by ! (id⊢ 𝓤 (never 𝓤))
