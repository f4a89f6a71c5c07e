-- The machine value of a `Hold`, and one behind a `&mut` opened and shut. Assumes `Logic`.
use Rattle.std.proofs.Common.{◌≡◌, ℕ, ◌+◌, [], ◌∷◌, refl}
use seplogic.Ra.Ura.{Ura}
use mir.Val.{Val, vstruct, vcons, vnil}
use base.Logic.{SProp, ent, sep, wand, all, emp}
use base.Fml.{Lft, Share, Fml, fsep, fobs, fbor, flft}
use types.Logic.{Logic, sem}
use types.SemTy.{Body}
use types.Kit.{‵, ◌⊛◌, later, ◌$◌, ◌∵◌, !, qed, move, keep, split, fsplit, fjoin, frame, each, assume, use1, use2, updating, await, now, done}
use denote.RattleType.{RattleType}
use denote.Param.Laws.{Laws}
use denote.Memory.{mem}
use denote.RawPtr.{Ptr}
use denote.Shadow.{makes_shadow}
use denote.Steps.{opens, closes}
use denote.Struct.Struct.{Struct}
use denote.Struct.Owning.{shape}
use denote.Struct.Lending.{lent_at, lent_at_shr_laws}
use Rattle.lend.specs.Parts.{frac, hold_owns}
use Rattle.lend.proofs.Fractions.{cut_frac, glue_frac}
use Rattle.lend.specs.contracts.hold.Hold as hold

abbrev pub token : Val
token = vstruct (vcons (vstruct vnil) vnil)

module _ {M : Type 1} {𝓤 : Ura M} (𝓛 : Logic 𝓤) (R : RattleType) where
  abbrev pub Hold : RattleType
  Hold = hold.the_row R

  abbrev pub Data : Fml
  Data = (Struct (shape (hold.the_type R))).own_val (tt, tt) (token ∷ [])

  pub hold_made : ent 𝓤 (emp 𝓤) (sem 𝓛 Data)
  hold_made = makes_shadow 𝓛 Data (λ vss. (tt, ((λ uss. (tt, tt)), tt))) ((vstruct vnil ∷ [], tt), (refl, ((tt, (refl, tt)), tt)))

  abbrev pub Mine : Hold.Denot → Fml
  Mine n = hold_owns R n.at n.value n.age n.parts

  pub cuts : (L : Laws R) (p : Ptr) (x : R.Denot) (ν n m k : ℕ) → m + k ≡ n
      → ent 𝓤 (sem 𝓛 (hold_owns R p x ν n)) (sep 𝓤 (sem 𝓛 (hold_owns R p x ν m)) (sem 𝓛 (hold_owns R p x ν k)))
  cuts L p x ν n m k e = qed 𝓛 (‵ (hold_owns R p x ν n) ∷ []) ∵ fsplit ! $ use1 𝓛 (‵ (frac ν m) ⊛ ‵ (frac ν k)) (cut_frac 𝓛 ν n m k e) $ split ! $
      move ! (2 ∷ []) $
      use1 𝓛 (‵ (lent_at R p x (ν ∷ [])) ⊛ ‵ (lent_at R p x (ν ∷ []))) ((lent_at_shr_laws R L.shr_laws p x).contraction M 𝓤 𝓛 (ν ∷ [])) $ split ! $
      move ! (2 ∷ 0 ∷ []) $ fjoin ! $ move ! (2 ∷ 1 ∷ []) $ fjoin ! $ move ! (1 ∷ 0 ∷ []) $ done !

  pub glues : (p q : Ptr) (x y : R.Denot) (ν n m k : ℕ) → m + k ≡ n → ent 𝓤 (sep 𝓤 (sem 𝓛 (hold_owns R p x ν m)) (sem 𝓛 (hold_owns R q y ν k)))
      (𝓛.H.⇛ (sem 𝓛 (hold_owns R p x ν n)))
  glues p q x y ν n m k e = qed 𝓛 (‵ (hold_owns R p x ν m) ∷ ‵ (hold_owns R q y ν k) ∷ []) ∵ updating ! $ fsplit ! $ move ! (2 ∷ []) $ fsplit ! $
      move ! (2 ∷ 0 ∷ []) $
      use2 𝓛 (later (‵ (frac ν n))) (glue_frac 𝓛 ν m k n e) $ await ! tt $ move ! (0 ∷ 2 ∷ []) $ fjoin ! $ now ! $ keep ! (0 ∷ []) $ done !

  module _ (κ : Lft) (q : Share) (b o ν : ℕ) where
    abbrev pub lent : Hold.Denot → Fml
    lent n = fsep (fobs ν (Hold.coded.code n)) (fbor κ (Body (mem Hold) b o ν))

    abbrev pub Shuts : Hold.Denot → SProp 𝓤
    Shuts n = wand 𝓤 (sem 𝓛 (Mine n)) (𝓛.H.⇛ (sep 𝓤 (sem 𝓛 (lent n)) (𝓛.A.lft κ q)))

    pub hold_opens : (n : Hold.Denot) → ent 𝓤 (sep 𝓤 (sem 𝓛 (lent n)) (𝓛.A.lft κ q)) (𝓛.H.⇛ (sep 𝓤 (sem 𝓛 (Mine n)) (all 𝓤 Shuts)))
    hold_opens n = qed 𝓛 (‵ (lent n) ∷ ‵ (flft κ q) ∷ []) ∵ updating ! $ fsplit ! $ opens ! tt Hold b o (λ vs. move ! (1 ∷ []) $ fsplit ! $ now ! $
        move ! (1 ∷ []) $ frame ! $
        each ! Shuts (λ m. assume ! (‵ (Mine m)) $ updating ! $ move ! (1 ∷ 0 ∷ []) $ fjoin ! $ move ! (1 ∷ 0 ∷ []) $ closes ! tt Hold m vs b o $ fjoin ! $
        now ! $ done !))
