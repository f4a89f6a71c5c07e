-- The oldest live version: none is below it, and what follows once it is no longer live.
use Rattle.std.proofs.Common.{◌≡◌, ℕ, zero, suc, ◌<◌, ◌≤◌, List, [], ◌∷◌, ◌⊎◌, map, inl, inr, length, sym, refl, ap, arith}
use mathlib.Core.Option as maybe
use lib.ListN.{get_elem?}
use Rattle.pin_rule.specs.declared.sizes.Sizes.{Sizes}
use Rattle.pin_rule.specs.declared.view.Live.{Live}
use Rattle.pin_rule.specs.declared.view.Older.{Older}
use Rattle.pin_rule.specs.declared.view.Role.{Role}
use Rattle.pin_rule.specs.Lists.{In}
use Rattle.pin_rule.specs.Views.{lives, IsLiveVersion}
use Rattle.pin_rule.specs.GivingUp.{last_of, before_last, last_live, oldest}
use Rattle.pin_rule.specs.PartLive.{IsVersions}
use Rattle.pin_rule.proofs.Lists.{in_at, at_in, at_short}

abbrev pub lives_of : List Older → List Live
lives_of os = map (λ (o : Older). o.live) os

last_at : (l : Live) (os : List Older) → get_elem? (l ∷ lives_of os) (length os) ≡ maybe.some (last_live l os)
last_at l [] = refl
last_at l (o ∷ os) = last_at o.live os

count : (os : List Older) → length (lives_of os) ≡ length os
count [] = refl
count (o ∷ os) = ap suc (count os)

module _ (z : Sizes) (role : Role) (h : IsVersions z role) where
  pub oldest_live : IsLiveVersion role (oldest role)
  oldest_live = at_in (oldest role) (lives role) (length role.older) (last_at role.newest role.older)

  pub oldest_first : (l : Live) → IsLiveVersion role l → (oldest role).version ≤ l.version
  oldest_first l i = let r = in_at l (lives role) i in let a = h.consecutive r.0 l r.1 in let b = h.consecutive (length role.older) (oldest role)
      (last_at role.newest role.older) in let short = at_short (lives role) r.0 l r.1 in let n = count role.older in omega arith

-- The last of the older versions, and those before it

pub in_whole : (o a : Older) (os : List Older) → In a (before_last o os) → In a (o ∷ os)
in_whole o a [] i = absurd i
in_whole o a (p ∷ ps) i = elim i [ inl e ↦ inl e | inr t ↦ inr (in_whole p a ps t) ]

pub last_in : (o : Older) (os : List Older) → In (last_of o os) (o ∷ os)
last_in o [] = inl refl
last_in o (p ∷ ps) = inr (last_in p ps)

pub last_place : (o : Older) (os : List Older) → get_elem? (lives_of (o ∷ os)) (length os) ≡ maybe.some (last_of o os).live
last_place o [] = refl
last_place o (p ∷ ps) = last_place p ps

-- those before it stand where they stood, and before it
pub at_before : (o : Older) (os : List Older) (i : ℕ) (l : Live) → get_elem? (lives_of (before_last o os)) i ≡ maybe.some l
    → (get_elem? (lives_of (o ∷ os)) i ≡ maybe.some l) × (i < length os)
at_before o [] i l e = absurd (maybe.some-ne-none l (sym e))
at_before o (p ∷ ps) zero l e = (e, omega arith)
at_before o (p ∷ ps) (suc i) l e = let r = at_before p ps i l e in (r.0, (let lt = r.1 in omega arith))

pub fewer : (o : Older) (os : List Older) → length (lives_of (o ∷ os)) ≡ suc (length (lives_of (before_last o os)))
fewer o [] = refl
fewer o (p ∷ ps) = ap suc (fewer p ps)

pub live_whole : (o : Older) (l : Live) (os : List Older) → In l (lives_of (before_last o os)) → In l (lives_of (o ∷ os))
live_whole o l [] i = absurd i
live_whole o l (p ∷ ps) i = elim i [ inl e ↦ inl e | inr t ↦ inr (live_whole p l ps t) ]

pub live_split : (o : Older) (l : Live) (os : List Older) → In l (lives_of (o ∷ os)) → In l (lives_of (before_last o os)) ⊎ (l ≡ (last_of o os).live)
live_split o l [] i = elim i [ inl e ↦ inr e | inr t ↦ absurd t ]
live_split o l (p ∷ ps) i = elim i [ inl e ↦ inl (inl e) | inr t ↦ elim (live_split p l ps t) [ inl u ↦ inl (inr u) | inr e ↦ inr e ] ]

pub page_of_one : (page : ℕ) (ls : List Live) → In page (map (λ (l : Live). l.page) ls) → (l : Live) × In l ls × (l.page ≡ page)
page_of_one page [] i = absurd i
page_of_one page (l ∷ ls) i = elim i [ inl e ↦ (l, inl refl, sym e) | inr t ↦ let r = page_of_one page ls t in (r.0, inr r.1, r.2) ]
