-- Places that are known better.
use Rattle.std.proofs.Common.{◌≡◌, ℕ, suc, ◌<◌, List, [], ◌∷◌, map, inl, inr, eqb, eq-eqb, ne_eqb, sym, refl, ap, ◌∙◌, subst}
use mathlib.Core.Bool.{cond}
use mathlib.Core.Logic.{dite}
use native.Mathlib.Decide.{ℕ_discrete}
use Rattle.std.specs.Prelude.{Bool, true, false}
use Rattle.pin_rule.specs.declared.sizes.Sizes.{Sizes}
use Rattle.pin_rule.specs.declared.view.View.{View}
use Rattle.pin_rule.specs.declared.view.KnownPlace.{KnownPlace}
use Rattle.pin_rule.specs.Lists.{In}
use Rattle.pin_rule.specs.Views.{whole}
use Rattle.pin_rule.specs.Steps.{keeps_page, learned_place, learned_word, after_load_place, after_load_row}
use Rattle.slot_store.specs.Known.{IsLater, AreLater, KnowsPlaces, LearnsWords, LacksKey, IsFilled}

pub later_self : (ks : List KnownPlace) → AreLater ks ks
later_self [] = tt
later_self (k ∷ ks) = ((refl, refl, λ w i. i), later_self ks)

pub later_on : (ks ls ms : List KnownPlace) → AreLater ks ls → AreLater ls ms → AreLater ks ms
later_on [] [] ms a b = b
later_on [] (l ∷ ls) ms a b = absurd a
later_on (k ∷ ks) [] ms a b = absurd a
later_on (k ∷ ks) (l ∷ ls) [] a b = absurd b
later_on (k ∷ ks) (l ∷ ls) (m ∷ ms) a b = ((b.0.0 ∙ a.0.0, b.0.1 ∙ a.0.1, λ w i. b.0.2 w (a.0.2 w i)), later_on ks ls ms a.1 b.1)

pub later_in : (ks ls : List KnownPlace) → AreLater ks ls → (k : KnownPlace) → In k ks → (l : KnownPlace) × In l ls × IsLater k l
later_in [] ls a k i = absurd i
later_in (x ∷ ks) [] a k i = absurd a
later_in (x ∷ ks) (y ∷ ls) a k i = elim i [
  | inl e ↦ (y, inl refl, subst (λ (t : KnownPlace). IsLater t y) (sym e) a.0)
  | inr t ↦ let r = later_in ks ls a.1 k t in (r.0, inr r.1, r.2)
]

pub later_back : (ks ls : List KnownPlace) → AreLater ks ls → (l : KnownPlace) → In l ls → (k : KnownPlace) × In k ks × IsLater k l
later_back ks [] a l i = absurd i
later_back [] (y ∷ ls) a l i = absurd a
later_back (x ∷ ks) (y ∷ ls) a l i = elim i [
  | inl e ↦ (x, inl refl, subst (IsLater x) (sym e) a.0)
  | inr t ↦ let r = later_back ks ls a.1 l t in (r.0, inr r.1, r.2)
]

pub places_on : (z : Sizes) (ks ls : List KnownPlace) → AreLater ks ls → KnowsPlaces z ks → KnowsPlaces z ls
places_on z ks ls a every place lt = let k = every place lt in let l = later_in ks ls a k.0 k.1 in (l.0, l.1, l.2.0 ∙ k.2)

pub lacks_back : (ks ls : List KnownPlace) (key : List ℕ) → AreLater ks ls → LacksKey ls key → LacksKey ks key
lacks_back ks ls key a lacks k i h = let l = later_in ks ls a k i in
    lacks l.0 l.1 ((λ e. h.0 (sym l.2.1 ∙ e)), λ index of. l.2.2 _ (h.1 index of))

pub filled_back : (ks ls : List KnownPlace) → AreLater ks ls → IsFilled ls → IsFilled ks
filled_back ks ls a filled k i e = let l = later_in ks ls a k i in filled l.0 l.1 (l.2.1 ∙ e)

-- What steps learn

pub learns_same : (v w : View) → w.known ≡ v.known → LearnsWords v w
learns_same v w same all every = subst (AreLater v.known) (sym same) (later_self v.known)

pub learns_on : (u v w : View) → v.sizes ≡ u.sizes → v.share ≡ u.share → LearnsWords u v → LearnsWords v w → LearnsWords u w
learns_on u v w sizes share a b all every = let first = a all every in
    later_on u.known v.known w.known first
    (b (share ∙ all) (subst (λ (z : Sizes). KnowsPlaces z v.known) (sym sizes) (places_on u.sizes u.known v.known first every)))

later_cond : (b : Bool) (ks ls ms : List KnownPlace) → AreLater ks ls → AreLater ks ms → AreLater ks (cond b ls ms)
later_cond true ks ls ms a c = a
later_cond false ks ls ms a c = c

-- a place that is known is not learned again
pub learned_same : (place n : ℕ) (ks : List KnownPlace) → ((k : KnownPlace) × In k ks × (k.place ≡ place)) → learned_place place n ks ≡ ks
learned_same place n [] k = absurd k.1
learned_same place n (x ∷ ks) k = dite (ℕ_discrete x.place place)
    (λ e. ap (λ (b : Bool). cond b (x ∷ ks) (x ∷ learned_place place n ks)) (eq-eqb x.place place e))
    (λ ne. ap (λ (b : Bool). cond b (x ∷ ks) (x ∷ learned_place place n ks)) (ne_eqb x.place place ne)
    ∙ ap (λ (l : List KnownPlace). x ∷ l) (learned_same place n ks (elim k.1 [
      | inl e ↦ absurd (ne (ap (λ (y : KnownPlace). y.place) (sym e) ∙ k.2))
      | inr t ↦ (k.0, t, k.2)
    ])))

pub learns_place : (v : View) (page place n : ℕ) → place < v.sizes.places → LearnsWords v (after_load_place v page place n)
learns_place v page place n inside all every = later_cond (keeps_page v page) v.known (learned_place place n v.known) v.known
    (subst (AreLater v.known) (sym (learned_same place n v.known (every place inside))) (later_self v.known)) (later_self v.known)

word_kept : (b : Bool) (index n : ℕ) (w : ℕ × ℕ) (ws : List (ℕ × ℕ)) → In w ws → In w (cond b ((index, n) ∷ ws) ws)
word_kept true index n w ws i = inr i
word_kept false index n w ws i = i

later_words : (row index n : ℕ) (ks : List KnownPlace) → AreLater ks (map (learned_word row index n) ks)
later_words row index n [] = tt
later_words row index n (k ∷ ks) = ((refl, refl, λ w i. word_kept (eqb k.met (suc row)) index n w k.words i), later_words row index n ks)

pub learns_row : (v : View) (row index n : ℕ) → LearnsWords v (after_load_row v row index n)
learns_row v row index n all every = later_cond (eqb v.share whole) v.known (map (learned_word row index n) v.known) v.known
    (later_words row index n v.known) (later_self v.known)
