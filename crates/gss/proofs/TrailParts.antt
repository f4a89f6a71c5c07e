-- Parts of trails: where they are above the floor, and after how many links they have met the named one.
use Rattle.std.proofs.Common.{◌≡◌, ◌⊎◌, ◌↔◌, inl, inr, ℕ, suc, ◌+◌, ◌<◌, ◌≤◌, List, [], ◌∷◌, ◌++◌, length, take, Option, None, Some, Contains}
use Rattle.std.proofs.Common.{refl, sym, ap, ◌∙◌, subst, arith}
use Rattle.std.proofs.lemmas.Bool.{cases_lt}
use Rattle.std.proofs.lemmas.List.{length-append, append_assoc, take-append-le, take_all}
use Rattle.std.proofs.lemmas.List.Elements.{Contains-append_left, Contains-append_right, Contains-push_cases}
use Rattle.forest.proofs.Ascending.{contains_here}
use Rattle.gss.specs.declared.stack_graph.Edge.{Edge}
use Rattle.gss.specs.declared.trails.Walk.{Walk}
use Rattle.gss.specs.Trails.{LeadsDown, PassesLink, StaysAbove, IsTrailBefore, IsFrom}
use Rattle.gss.specs.Descents.{IsMetAfter}
use Rattle.gss.proofs.TrailOrders.{same_edge}

-- ---- fronts

-- a front of a longer list is the list, or a front of it
front_cases : (part front rest : List ℕ) (link x : ℕ) → part ++ link ∷ [] ≡ front ++ x ∷ rest → (front ≡ part) ⊎ ((more : List ℕ) × (part ≡ front ++ x ∷ more))
front_cases [] [] rest link x e = inl refl
front_cases [] (y ∷ front) rest link x e = absurd (omega (arith, ap length e, length-append front (x ∷ rest)))
front_cases (y ∷ part) [] rest link x e = inr (part, (let is : y ≡ x = cc in ap (λ n. n ∷ part) is))
front_cases (y ∷ part) (z ∷ front) rest link x e =
    let head : z ≡ y = cc in
    let tail : part ++ link ∷ [] ≡ front ++ x ∷ rest = cc in
    elim (front_cases part front rest link x tail) [
      | inl is ↦ inl (ap (λ n. n ∷ front) head ∙ ap (λ ns. y ∷ ns) is)
      | inr (more, is) ↦ inr (more, ap (λ ns. y ∷ ns) is ∙ ap (λ n. n ∷ front ++ x ∷ more) (sym head))
    ]

-- a front of a list is one of a longer list
front_longer : (part front rest : List ℕ) (link x : ℕ) → part ≡ front ++ x ∷ rest → part ++ link ∷ [] ≡ front ++ x ∷ (rest ++ link ∷ [])
front_longer part front rest link x e = ap (λ ns. ns ++ link ∷ []) e ∙ append_assoc front (x ∷ rest) (link ∷ [])

-- links lead down to one node
pub one_node : (links : List Edge) (last top : ℕ) (trail : List ℕ) (a b : ℕ) → LeadsDown links last top trail a → LeadsDown links last top trail b → a ≡ b
one_node links last top [] a b down other = sym down ∙ other
one_node links last top (x ∷ trail) a b (edge, at, up, le, on) (own, at', up', le', on') =
    one_node links last own.lower trail a b (subst (λ (e : Edge). LeadsDown links last e.lower trail a) (same_edge links x x own edge at' at refl) on) on'

-- ---- the floor

module _ (links : List Edge) (walk : Walk) where
  pub above_none : StaysAbove links walk []
  above_none [] rest link node e down unmet = absurd cc
  above_none (x ∷ front) rest link node e down unmet = absurd cc

  pub above_pushed : (part : List ℕ) (node link : ℕ) → StaysAbove links walk part → LeadsDown links walk.last walk.top part node
      → ((PassesLink walk.through part → ⊥) → walk.floor ≤ node) → StaysAbove links walk (part ++ link ∷ [])
  above_pushed part node link above down here front rest x end e on unmet = elim (front_cases part front rest link x e) [
    | inl is ↦
        let same = one_node links walk.last walk.top part node end down (subst (λ ns. LeadsDown links walk.last walk.top ns end) is on) in
        subst (λ n. walk.floor ≤ n) same (here (subst (λ ns. PassesLink walk.through ns → ⊥) is unmet))
    | inr (more, is) ↦ above front more x end is on unmet
  ]

  pub above_popped : (part : List ℕ) (link : ℕ) → StaysAbove links walk (part ++ link ∷ []) → StaysAbove links walk part
  above_popped part link above front rest x node e on unmet = above front (rest ++ link ∷ []) x node (front_longer part front rest link x e) on unmet

  pub above_turned : (part : List ℕ) (link next : ℕ) → StaysAbove links walk (part ++ link ∷ []) → StaysAbove links walk (part ++ next ∷ [])
  above_turned part link next above front rest x node e on unmet = elim (front_cases part front rest next x e) [
    | inl is ↦ above front [] link node (ap (λ ns. ns ++ link ∷ []) (sym is)) on unmet
    | inr (more, is) ↦ above front (more ++ link ∷ []) x node (front_longer part front more link x is) on unmet
  ]

-- a longer trail from the part on goes on from it, or comes later
from_cases : (part trail : List ℕ) → length part < length trail → IsFrom part trail
    → ((link : ℕ) × (rest : List ℕ) × (trail ≡ part ++ link ∷ rest)) ⊎ IsTrailBefore part trail
from_cases [] [] more from = absurd (omega (arith, more))
from_cases [] (x ∷ trail) more from = inl (x, trail, refl)
from_cases (a ∷ part) [] more from = absurd from
from_cases (a ∷ part) (x ∷ trail) more (inl older) = inr (inl older)
from_cases (a ∷ part) (x ∷ trail) more (inr (same, from)) = elim (from_cases part trail (omega (arith, more)) from) [
  | inl (link, rest, is) ↦ inl (link, rest, ap (λ n. n ∷ trail) (sym same) ∙ ap (λ ns. a ∷ ns) is)
  | inr later ↦ inr (inr (same, later))
]

-- where the part is below the floor and has not met the link, all longer trails from it on come later
pub from_below : (links : List Edge) (walk : Walk) (part : List ℕ) (node : ℕ) (trail : List ℕ) → LeadsDown links walk.last walk.top part node
    → node < walk.floor → (PassesLink walk.through part → ⊥) → StaysAbove links walk trail → length part < length trail → IsFrom part trail
    → IsTrailBefore part trail
from_below links walk part node trail down below unmet above more from = elim (from_cases part trail more from) [
  | inl (link, rest, is) ↦ absurd (omega (arith, below, above part rest link node is down unmet))
  | inr later ↦ later
]

-- ---- where the named link was met

met_at_none : (met : ℕ) → met ≡ 0 → IsMetAfter None [] met
met_at_none met is n few = (λ le. tt, λ passes. omega (arith, is))

met_at_some : (named met : ℕ) → met ≡ 1 → IsMetAfter (Some named) [] met
met_at_some named met is n few = (λ le. absurd (omega (arith, le, few, is)), λ passes. absurd (none n passes))
  where
    none : (n : ℕ) → Contains (take n []) named → ⊥
    none n (k, l, e) = absurd (omega (arith, l, subst (λ xs. length xs ≡ 0) (sym (take_all {A = ℕ} n [] (omega arith))) refl))

pub met_none : (through : Option ℕ) (met : ℕ) → (through ≡ None → met ≡ 0) → ((named : ℕ) → through ≡ Some named → met ≡ 1) → IsMetAfter through [] met
met_none None met none some = met_at_none met (none refl)
met_none (Some named) met none some = met_at_some named met (some named refl)

module _ (through : Option ℕ) (part : List ℕ) (link met : ℕ) where
  pub met_popped : IsMetAfter through (part ++ link ∷ []) met → IsMetAfter through part met
  met_popped after n few =
      subst (λ xs. (met ≤ n) ↔ PassesLink through xs) (take-append-le n part (link ∷ []) few) (after n (omega (arith, few, length-append part (link ∷ []))))

  module _ (after : IsMetAfter through part met) where
    pub met_told : (met ≤ length part) ↔ PassesLink through part
    met_told = subst (λ xs. (met ≤ length part) ↔ PassesLink through xs) (take_all (length part) part (omega arith)) (after (length part) (omega arith))

    -- each front of the longer part is a front of the part, or the longer part itself
    longer : (now : ℕ) → ((n : ℕ) → n ≤ length part → (now ≤ n) ↔ PassesLink through (take n part))
        → ((now ≤ suc (length part)) ↔ PassesLink through (part ++ link ∷ [])) → IsMetAfter through (part ++ link ∷ []) now
    longer now shorter whole n few = elim (cases_lt (length part) n) [
      | inl more ↦
          let size : n ≡ suc (length part) = omega (arith, few, more, length-append part (link ∷ [])) in
          let all : take n (part ++ link ∷ []) ≡ part ++ link ∷ [] = take_all n (part ++ link ∷ []) (omega (arith, size, length-append part (link ∷ []))) in
          subst (λ xs. (now ≤ n) ↔ PassesLink through xs) (sym all) (subst (λ m. (now ≤ m) ↔ PassesLink through (part ++ link ∷ [])) (sym size) whole)
      | inr not ↦
          let less : n ≤ length part = omega (arith, not) in
          subst (λ xs. (now ≤ n) ↔ PassesLink through xs) (sym (take-append-le n part (link ∷ []) less)) (shorter n less)
    ]

    pub met_before : met ≤ length part → IsMetAfter through (part ++ link ∷ []) met
    met_before le = longer met after (λ l. passes_on through (met_told.0 le), λ passes. omega (arith, le))
      where
        passes_on : (named : Option ℕ) → PassesLink named part → PassesLink named (part ++ link ∷ [])
        passes_on None is = tt
        passes_on (Some n) is = Contains-append_left part (link ∷ []) n is

    -- it was not met, so none of its fronts has met it
    unmet : length part < met → (now : ℕ) → length part < now → (n : ℕ) → n ≤ length part → (now ≤ n) ↔ PassesLink through (take n part)
    unmet more now behind n few = (λ le. absurd (omega (arith, le, behind, few)), λ passes. absurd (omega (arith, (after n few).1 passes, more, few)))

    pub met_here : length part < met → through ≡ Some link → IsMetAfter through (part ++ link ∷ []) (length part + 1)
    met_here more is = longer (length part + 1) (unmet more (length part + 1) (omega arith)) (
      λ le. subst (λ named. PassesLink named (part ++ link ∷ [])) (sym is) (Contains-append_right part (link ∷ []) link (contains_here link [])),
      λ passes. omega arith,
    )

    pub met_later : length part < met → (through ≡ Some link → ⊥) → IsMetAfter through (part ++ link ∷ []) (length part + 2)
    met_later more other = longer (length part + 2) (unmet more (length part + 2) (omega arith)) (
      λ le. absurd (omega (arith, le)),
      λ passes. absurd (none through other met_told passes),
    )
      where
        none : (named : Option ℕ) → (named ≡ Some link → ⊥) → ((met ≤ length part) ↔ PassesLink named part) → PassesLink named (part ++ link ∷ []) → ⊥
        none None not told passes = omega (arith, told.1 tt, more)
        none (Some n) not told passes = elim (Contains-push_cases part link n passes) [
          | inl before ↦ omega (arith, told.1 before, more)
          | inr now ↦ not (ap Some (sym now))
        ]
