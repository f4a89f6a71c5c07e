-- Parts of trails, and which trails come from them on.
use Rattle.std.proofs.Common.{◌≡◌, ◌⊎◌, inl, inr, ℕ, zero, suc, ◌<◌, ◌≤◌, List, [], ◌∷◌, ◌++◌, length, get_or, Some, slice_get, Contains, refl, sym, ap, ◌∙◌}
use Rattle.std.proofs.Common.{subst, arith}
use Rattle.std.proofs.lemmas.Bool.{cases_lt}
use Rattle.std.proofs.lemmas.Option.{slice_get_within, same_Some}
use Rattle.forest.proofs.Ascending.{contains_cases}
use Rattle.gss.specs.declared.stack_graph.Edge.{Edge}
use Rattle.gss.specs.Numbers.{IsLeast}
use Rattle.gss.specs.PlaceGraphs.{LeadsDownFrom, LeadsFromSame}
use Rattle.gss.specs.Trails.{LeadsDown, IsTrailBefore, IsFrom}

-- ---- the order

pub from_here : (part : List ℕ) → IsFrom part part
from_here [] = tt
from_here (link ∷ part) = inr (refl, from_here part)

pub from_before : (part trail : List ℕ) → IsTrailBefore part trail → IsFrom part trail
from_before [] trail before = tt
from_before (link ∷ part) [] before = absurd before
from_before (link ∷ part) (other ∷ trail) (inl older) = inl older
from_before (link ∷ part) (other ∷ trail) (inr (same, on)) = inr (same, from_before part trail on)

pub from_on : (part middle trail : List ℕ) → IsFrom part middle → IsFrom middle trail → IsFrom part trail
from_on [] middle trail first second = tt
from_on (a ∷ part) [] trail first second = absurd first
from_on (a ∷ part) (b ∷ middle) [] first second = absurd second
from_on (a ∷ part) (b ∷ middle) (c ∷ trail) (inl older) (inl older') = inl (omega (arith, older, older'))
from_on (a ∷ part) (b ∷ middle) (c ∷ trail) (inl older) (inr (same, on)) = inl (omega (arith, older, same))
from_on (a ∷ part) (b ∷ middle) (c ∷ trail) (inr (same, on)) (inl older) = inl (omega (arith, older, same))
from_on (a ∷ part) (b ∷ middle) (c ∷ trail) (inr (same, on)) (inr (same', on')) = inr (same ∙ same', from_on part middle trail on on')

pub before_from : (part middle trail : List ℕ) → IsTrailBefore part middle → IsFrom middle trail → IsTrailBefore part trail
before_from [] middle trail first second = absurd first
before_from (a ∷ part) [] trail first second = absurd first
before_from (a ∷ part) (b ∷ middle) [] first second = absurd second
before_from (a ∷ part) (b ∷ middle) (c ∷ trail) (inl older) (inl older') = inl (omega (arith, older, older'))
before_from (a ∷ part) (b ∷ middle) (c ∷ trail) (inl older) (inr (same, on)) = inl (omega (arith, older, same))
before_from (a ∷ part) (b ∷ middle) (c ∷ trail) (inr (same, on)) (inl older) = inl (omega (arith, older, same))
before_from (a ∷ part) (b ∷ middle) (c ∷ trail) (inr (same, on)) (inr (same', on')) = inr (same ∙ same', before_from part middle trail on on')

-- a longer part comes from the shorter one on
pub from_pushed : (part : List ℕ) (link : ℕ) → IsFrom part (part ++ link ∷ [])
from_pushed [] link = tt
from_pushed (x ∷ part) link = inr (refl, from_pushed part link)

-- a newer link in the last place comes later
pub before_newer : (part : List ℕ) (old new : ℕ) → old < new → IsTrailBefore (part ++ old ∷ []) (part ++ new ∷ [])
before_newer [] old new older = inl older
before_newer (x ∷ part) old new older = inr (refl, before_newer part old new older)

-- what comes behind a part comes behind a longer one
pub before_longer : (part : List ℕ) (link : ℕ) (trail : List ℕ) → IsTrailBefore part trail → IsTrailBefore (part ++ link ∷ []) trail
before_longer [] link trail before = absurd before
before_longer (a ∷ part) link [] before = absurd before
before_longer (a ∷ part) link (x ∷ trail) (inl older) = inl older
before_longer (a ∷ part) link (x ∷ trail) (inr (same, before)) = inr (same, before_longer part link trail before)

-- from a whole trail on comes the trail itself, or one behind it
pub from_whole : (trail other : List ℕ) → length trail ≡ length other → IsFrom trail other → (other ≡ trail) ⊎ IsTrailBefore trail other
from_whole [] [] size from = inl refl
from_whole [] (x ∷ other) size from = absurd (omega (arith, size))
from_whole (link ∷ trail) [] size from = absurd from
from_whole (link ∷ trail) (x ∷ other) size (inl older) = inr (inl older)
from_whole (link ∷ trail) (x ∷ other) size (inr (same, on)) = elim (from_whole trail other (omega (arith, size)) on) [
  | inl is ↦ inl (ap (λ l. l ∷ other) (sym same) ∙ ap (λ ls. link ∷ ls) is)
  | inr later ↦ inr (inr (same, later))
]

-- ---- links that lead down

-- behind the last one are all with the property, if the least is
pub none_until : {P : ℕ → Type 0} (least last : ℕ) → IsLeast P least → last < least → (other : ℕ) → P other → last < other
none_until least last is behind other has = elim (cases_lt other least) [ inl less ↦ absurd (is.least other less has) | inr not ↦ omega (arith, behind, not) ]

pub same_edge : (links : List Edge) (a b : ℕ) (edge other : Edge) → slice_get links a ≡ Some edge → slice_get links b ≡ Some other → a ≡ b → other ≡ edge
same_edge links a b edge other at at' same = same_Some other edge (sym at' ∙ ap (λ l. slice_get links l) (sym same) ∙ at)

module _ (links : List Edge) (last : ℕ) where
  -- each link is one of the graph's
  pub down_within : (top : ℕ) (trail : List ℕ) (node : ℕ) → LeadsDown links last top trail node → (link : ℕ) → Contains trail link → link < length links
  down_within top [] node down link c = absurd (omega (arith, c.1))
  down_within top (x ∷ trail) node (edge, at, up, le, on) link c = elim (contains_cases x trail link c) [
    | inl is ↦ subst (λ l. l < length links) is (slice_get_within links x edge at)
    | inr below ↦ down_within edge.lower trail node on link below
  ]

  pub down_pushed : (top : ℕ) (trail : List ℕ) (node link : ℕ) (edge : Edge) → LeadsDown links last top trail node → slice_get links link ≡ Some edge
      → edge.upper ≡ node → link ≤ last → LeadsDown links last top (trail ++ link ∷ []) edge.lower
  down_pushed top [] node link edge down at up le = (edge, at, up ∙ sym down, le, refl)
  down_pushed top (x ∷ trail) node link edge (own, at', up', le', on) at up le = (own, at', up', le', down_pushed own.lower trail node link edge on at up le)

  -- without its last link, the trail leads down to that link's upper end
  pub down_popped : (top : ℕ) (trail : List ℕ) (node link : ℕ) → LeadsDown links last top (trail ++ link ∷ []) node
      → (edge : Edge) × (slice_get links link ≡ Some edge) × LeadsDown links last top trail edge.upper
  down_popped top [] node link (edge, at, up, le, on) = (edge, at, sym up)
  down_popped top (x ∷ trail) node link (own, at', up', le', on) =
      let (edge, at, down) = down_popped own.lower trail node link on in
      (edge, at, (own, at', up', le', down))

  pub down_end : (top : ℕ) (trail : List ℕ) (node n d : ℕ) (edge : Edge) → LeadsDown links last top trail node → length trail ≡ suc n
      → slice_get links (get_or trail n d) ≡ Some edge → LeadsDown links last top trail edge.lower
  down_end top [] node n d edge down size at = absurd (omega (arith, size))
  down_end top (x ∷ []) node zero d edge (own, at', up', le', on) size at =
      (own, at', up', le', ap (λ (e : Edge). e.lower) (same_edge links x x edge own at at' refl))
  down_end top (x ∷ []) node (suc n) d edge down size at = absurd (omega (arith, size))
  down_end top (x ∷ y ∷ trail) node zero d edge down size at = absurd (omega (arith, size))
  down_end top (x ∷ y ∷ trail) node (suc n) d edge (own, at', up', le', on) size at =
      (own, at', up', le', down_end own.lower (y ∷ trail) node n d edge on (omega (arith, size)) at)

  module _ (end : ℕ) where
    -- a longer trail from the part on goes on by the oldest link, or comes later
    pub from_first : (top : ℕ) (part : List ℕ) (node first : ℕ) (trail : List ℕ) → LeadsDown links last top part node
        → IsLeast (LeadsDownFrom links node) first → LeadsDown links last top trail end → length part < length trail → IsFrom part trail
        → IsFrom (part ++ first ∷ []) trail
    from_first top [] node first [] down least whole more from = absurd (omega (arith, more))
    from_first top [] node first (x ∷ trail) down least (edge, at, up, le, on) more from = elim (cases_lt first x) [
      | inl older ↦ inl older
      | inr not ↦ elim (cases_lt x first) [
        | inl less ↦ absurd (least.least x less (edge, at, up ∙ down))
        | inr not' ↦ inr (omega (arith, not, not'), tt)
      ]
    ]
    from_first top (a ∷ part) node first [] down least whole more from = absurd from
    from_first top (a ∷ part) node first (x ∷ trail) down least whole more (inl older) = inl older
    from_first top (a ∷ part) node first (x ∷ trail) (own, at, up, le, on) least (edge, at', up', le', on') more (inr (same, from)) =
        let is = same_edge links a x own edge at at' same in
        inr (
          same,
          from_first own.lower part node first trail on least (subst (λ (e : Edge). LeadsDown links last e.lower trail end) is on')
              (omega (arith, more)) from,
        )

    -- where the part leads no further, all longer trails from it on come later
    pub from_stuck : (top : ℕ) (part : List ℕ) (node : ℕ) (trail : List ℕ) → LeadsDown links last top part node
        → ((other : ℕ) → LeadsDownFrom links node other → last < other) → LeadsDown links last top trail end → length part < length trail → IsFrom part trail
        → IsTrailBefore part trail
    from_stuck top [] node [] down none whole more from = absurd (omega (arith, more))
    from_stuck top [] node (x ∷ trail) down none (edge, at, up, le, on) more from = absurd (omega (arith, le, none x (edge, at, up ∙ down)))
    from_stuck top (a ∷ part) node [] down none whole more from = absurd from
    from_stuck top (a ∷ part) node (x ∷ trail) down none whole more (inl older) = inl older
    from_stuck top (a ∷ part) node (x ∷ trail) (own, at, up, le, on) none (edge, at', up', le', on') more (inr (same, from)) =
        let is = same_edge links a x own edge at at' same in
        inr (
          same,
          from_stuck own.lower part node trail on none (subst (λ (e : Edge). LeadsDown links last e.lower trail end) is on') (omega
              (arith, more)) from,
        )

    -- behind a part come the trails from the next link on in its last place
    pub from_next : (top : ℕ) (part : List ℕ) (node link next : ℕ) (trail : List ℕ) → LeadsDown links last top (part ++ link ∷ []) node
        → IsLeast (LeadsFromSame links link) next → LeadsDown links last top trail end → IsTrailBefore (part ++ link ∷ []) trail
        → IsFrom (part ++ next ∷ []) trail
    from_next top [] node link next [] down least whole before = absurd before
    from_next top [] node link next (x ∷ trail) (own, at, up, le, on) least (edge, at', up', le', on') (inl older) = elim (cases_lt next x) [
      | inl less ↦ inl less
      | inr not ↦ elim (cases_lt x next) [
        | inl less ↦ absurd (least.least x less (older, own, at, (edge, at', up' ∙ sym up)))
        | inr not' ↦ inr (omega (arith, not, not'), tt)
      ]
    ]
    from_next top [] node link next (x ∷ trail) down least whole (inr (same, none)) = absurd none
    from_next top (a ∷ part) node link next [] down least whole before = absurd before
    from_next top (a ∷ part) node link next (x ∷ trail) down least whole (inl older) = inl older
    from_next top (a ∷ part) node link next (x ∷ trail) (own, at, up, le, on) least (edge, at', up', le', on') (inr (same, before)) =
        let is = same_edge links a x own edge at at' same in
        inr (same, from_next own.lower part node link next trail on least (subst (λ (e : Edge). LeadsDown links last e.lower trail end) is on') before)

    -- where no other link is left in its last place, they come behind the shorter part
    pub before_shorter : (top : ℕ) (part : List ℕ) (node link : ℕ) (trail : List ℕ) → LeadsDown links last top (part ++ link ∷ []) node
        → ((other : ℕ) → LeadsFromSame links link other → last < other) → LeadsDown links last top trail end → IsTrailBefore (part ++ link ∷ []) trail
        → IsTrailBefore part trail
    before_shorter top [] node link [] down none whole before = absurd before
    before_shorter top [] node link (x ∷ trail) (own, at, up, le, on) none (edge, at', up', le', on') (inl older) =
        absurd (omega (arith, le', none x (older, own, at, (edge, at', up' ∙ sym up))))
    before_shorter top [] node link (x ∷ trail) down none whole (inr (same, before)) = absurd before
    before_shorter top (a ∷ part) node link [] down none whole before = absurd before
    before_shorter top (a ∷ part) node link (x ∷ trail) down none whole (inl older) = inl older
    before_shorter top (a ∷ part) node link (x ∷ trail) (own, at, up, le, on) none (edge, at', up', le', on') (inr (same, before)) =
        let is = same_edge links a x own edge at at' same in
        inr (same, before_shorter own.lower part node link trail on none (subst (λ (e : Edge). LeadsDown links last e.lower trail end) is on') before)
