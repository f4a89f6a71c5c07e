-- A box is lent out for a new age, with all parts of it, and whoever has all parts takes it back. Assumes `Logic`.
use Rattle.std.proofs.Common.{ℕ, [], ◌∷◌}
use seplogic.Ra.Ura.{Ura}
use mir.Syntax.{Ty}
use base.Fraction.{full_share}
use base.Logic.{SProp, ent, sep, ex}
use base.Fml.{Lft, Share, Fml, flft, flent, Incl-trans}
use types.Logic.{Logic, sem}
use types.Kit.{‵, ◌⊛◌, later, ◌$◌, ◌∵◌, !, qed, move, keep, join, split3, fsplit, fjoin, show, use1, use2, updating, await, now, done}
use types.Tokens.{lft_new, lft_end, bor_new, lent_back}
use contract.BorrowLft.{◌⊑◌, meet_⊑_left, meet_⊑_right}
use mir.Raw.{raw as bare}
use denote.RattleType.{RattleType}
use denote.Memory.{lone}
use denote.RawPtr.{Ptr, lies_at}
use denote.Param.Laws.{Laws}
use denote.Struct.Lending.{lent_at, Lends-first, Lends-lies}
use Rattle.std_alloc.specs.Box.Ownership.{box_owns}
use Rattle.lend.specs.Parts.{frac, hold_owns}
use Rattle.lend.proofs.Fractions.{all_parts, from_all}
use Rattle.lend.specs.declared.limits.TheConstants.{WHOLE}

module _ {M : Type 1} {𝓤 : Ura M} (𝓛 : Logic 𝓤) (R : RattleType) (L : Laws R) (holds : Ty → Ptr → Fml) (p : Ptr) (x : R.Denot) where
  open 𝓛 use {H, A}

  abbrev B : Fml
  B = box_owns holds R p x

  abbrev pub Begun : Lft → Share → ℕ → SProp 𝓤
  Begun μ r ν = sep 𝓤 (sem 𝓛 (hold_owns R p x ν WHOLE)) (sep 𝓤 (sem 𝓛 (flent (ν ∷ []) B)) (A.lft μ r))

  pub begins : (μ : Lft) (r : Share) → μ ⊑ R.lives → ent 𝓤 (sep 𝓤 (sem 𝓛 B) (A.lft μ r)) (H.⇛ (ex 𝓤 (Begun μ r)))
  begins μ r within = qed 𝓛 (‵ B ∷ ‵ (flft μ r) ∷ []) ∵ updating ! $ lft_new ! tt (λ ν. move ! (1 ∷ []) $ bor_new ! tt (ν ∷ []) $
      -- [the borrow; the lender's right; the token; μ's token]
      move ! (2 ∷ 3 ∷ []) $ join ! $ move ! (1 ∷ 0 ∷ []) $
      use2 𝓛 (later (‵ (lent_at R p x (ν ∷ [])) ⊛ ‵ (flft (ν ∷ []) full_share) ⊛ ‵ (flft μ r)))
      (Lends-first 𝓛 (lies_at R full_share p x) (holds (bare (lone R.mir)) p) (lent_at R p x) R.lives (Lends-lies 𝓛 R R.lives p x (L.shares 𝓛 x)) (ν ∷ [])
      ((ν ∷ [], full_share) ∷ (μ, r) ∷ [])
      (Incl-trans (meet_⊑_right (ν ∷ []) μ) within) (meet_⊑_left (ν ∷ []) μ)) $ await ! tt $ split3 ! $
      move ! (1 ∷ []) $ use1 𝓛 (‵ (frac ν WHOLE)) (from_all 𝓛 ν) $ move ! (0 ∷ 1 ∷ []) $ fjoin ! $ now ! $ show ! (Begun μ r) ν $ move ! (0 ∷ 2 ∷ 1 ∷ []) $
      done !)

  pub ends : (q : Ptr) (y : R.Denot) (ν : ℕ) → ent 𝓤 (sep 𝓤 (sem 𝓛 (hold_owns R q y ν WHOLE)) (sem 𝓛 (flent (ν ∷ []) B))) (H.⇛ (sem 𝓛 B))
  ends q y ν = qed 𝓛 (‵ (hold_owns R q y ν WHOLE) ∷ ‵ (flent (ν ∷ []) B) ∷ []) ∵ updating ! $ fsplit ! $ use1 𝓛 (‵ (flft (ν ∷ []) full_share)) (all_parts 𝓛 ν) $
      lft_end ! tt $
      move ! (0 ∷ 2 ∷ []) $ lent_back ! tt $ now ! $ keep ! (0 ∷ []) $ done !
