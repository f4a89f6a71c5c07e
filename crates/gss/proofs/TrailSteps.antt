-- Steps of a walk from one trail to the next one.
use Rattle.std.proofs.Common.{◌≡◌, ◌↔◌, inl, inr, ℕ, suc, ◌-◌, ◌<◌, ◌≤◌, List, [], ◌∷◌, ◌++◌, length, Bool, true, false}
use Rattle.std.proofs.Common.{◌⊎◌, IsTrue, refl, sym, ap, ◌∙◌, subst, arith}
use Rattle.std.proofs.lemmas.List.{length-append}
use Rattle.gss.specs.declared.stack_graph.Edge.{Edge}
use Rattle.gss.specs.declared.trails.Walk.{Walk}
use Rattle.gss.specs.Numbers.{IsLeast}
use Rattle.gss.specs.PlaceGraphs.{LeadsDownFrom, LeadsFromSame}
use Rattle.gss.specs.Trails.{LeadsDown, PassesLink, IsTrailOf, IsTrailBefore, IsFrom, IsPartOfTrail, IsOn, Standing, IsToCome, IsNextTrail, IsAtEnd}
use Rattle.gss.specs.Descents.{IsMetAfter, GoesTo, TurnsTo, FindsTrail}
use Rattle.gss.proofs.TrailOrders.{from_here, from_on, from_before, before_from, from_pushed, before_newer, before_longer, from_whole}
use Rattle.gss.proofs.TrailOrders.{down_pushed, down_popped, from_first, from_stuck, from_next, before_shorter}
use Rattle.gss.proofs.TrailParts.{above_none, above_pushed, above_popped, above_turned, from_below}
use Rattle.gss.proofs.TrailRanks.{lists_of, rank, rank_below, rank_before, fits_down}

pub part_of_trail : (links : List Edge) (walk : Walk) (trail : List ℕ) → IsTrailOf links walk trail → IsPartOfTrail links walk trail
part_of_trail links walk trail is = record { node = is.node; down = is.down; few = omega (arith, is.size); above = is.above }

-- ---- down

-- so far the walk only went down
pub record IsGoing (links : List Edge) (walk : Walk) (old new : List ℕ) : Type 0 where
  pub part : IsPartOfTrail links walk new
  pub from : IsFrom old new
  pub rest : (trail : List ℕ) → IsTrailOf links walk trail → IsFrom old trail → IsFrom new trail

-- so far the walk only went down, and knows whether it has met the link that is named
pub record IsDescending (links : List Edge) (walk : Walk) (old new : List ℕ) (met : ℕ) : Type 0 where
  pub going : IsGoing links walk old new
  pub met_is : IsMetAfter walk.through new met

module _ (links : List Edge) (walk : Walk) (old : List ℕ) where
  pub going_none : IsPartOfTrail links walk old → IsGoing links walk old old
  going_none part = record { part = part; from = from_here old; rest = λ trail is from. from }

  module _ (part : List ℕ) (going : IsGoing links walk old part) where
    pub going_more : (node first : ℕ) → length part < walk.length → LeadsDown links walk.last walk.top part node
        → ((PassesLink walk.through part → ⊥) → walk.floor ≤ node) → IsLeast (LeadsDownFrom links node) first → first ≤ walk.last
        → IsGoing links walk old (part ++ first ∷ [])
    going_more node first more down above least le =
        let (edge, at, up) = least.is in
        record {
          part = record {
            node = edge.lower;
            down = down_pushed links walk.last walk.top part node first edge down at up le;
            few = omega (arith, more, length-append part (first ∷ []));
            above = above_pushed links walk part node first going.part.above down above;
          };
          from = from_on old part (part ++ first ∷ []) going.from (from_pushed part first);
          rest = λ trail is from. from_first links walk.last is.node walk.top part node first trail down least is.down (omega (arith, more, is.size))
              (going.rest trail is from);
        }

    pub going_stuck : (node : ℕ) → length part < walk.length → LeadsDown links walk.last walk.top part node
        → ((other : ℕ) → LeadsDownFrom links node other → walk.last < other) → GoesTo links walk old part false
    going_stuck node more down none = record {
      part = going.part;
      from = going.from;
      whole = λ t. absurd cc;
      rest = λ trail is from. inr (from_stuck links walk.last is.node walk.top part node trail down none is.down (omega (arith, more, is.size))
          (going.rest trail is from));
    }

    pub going_below : (node : ℕ) → length part < walk.length → LeadsDown links walk.last walk.top part node
        → node < walk.floor → (PassesLink walk.through part → ⊥) → GoesTo links walk old part false
    going_below node more down below unmet = record {
      part = going.part;
      from = going.from;
      whole = λ t. absurd cc;
      rest = λ trail is from. inr (from_below links walk part node trail down below unmet is.above (omega (arith, more, is.size)) (going.rest trail is from));
    }

    pub going_whole : (passes : Bool) → walk.length ≤ length part → (IsTrue passes ↔ PassesLink walk.through part) → GoesTo links walk old part passes
    going_whole passes most told = record {
      part = going.part;
      from = going.from;
      whole = λ t. record { node = going.part.node; down = going.part.down; size = size; passes = told.0 t; above = going.part.above };
      rest = λ trail is from. elim (from_whole part trail (size ∙ sym is.size) (going.rest trail is from)) [
        | inl same ↦ inl (told.1 (subst (λ ts. PassesLink walk.through ts) same is.passes), same)
        | inr later ↦ inr later
      ];
    }
      where
        size : length part ≡ walk.length
        size = omega (arith, most, going.part.few)

-- ---- up

-- so far the walk only went up
pub record IsRising (links : List Edge) (walk : Walk) (old new : List ℕ) : Type 0 where
  pub part : IsPartOfTrail links walk new
  pub before : (trail : List ℕ) → IsTrailBefore new trail → IsTrailBefore old trail
  pub rest : (trail : List ℕ) → IsPartOfTrail links walk trail → IsTrailBefore old trail → IsTrailBefore new trail

-- so far the walk only went up, and knows whether it has met the link that is named
pub record IsAscending (links : List Edge) (walk : Walk) (old new : List ℕ) (met : ℕ) : Type 0 where
  pub rising : IsRising links walk old new
  pub met_is : IsMetAfter walk.through new met

module _ (links : List Edge) (walk : Walk) (old : List ℕ) where
  module _ (part : List ℕ) (link : ℕ) (rising : IsRising links walk old (part ++ link ∷ [])) where
    shorter : length part ≤ walk.length
    shorter = omega (arith, rising.part.few, length-append part (link ∷ []))

    pub rising_more : ((other : ℕ) → LeadsFromSame links link other → walk.last < other) → IsRising links walk old part
    rising_more none =
        let (edge, at, down) = down_popped links walk.last walk.top part rising.part.node link rising.part.down in
        record {
          part = record { node = edge.upper; down = down; few = shorter; above = above_popped links walk part link rising.part.above };
          before = λ trail is. rising.before trail (before_longer part link trail is);
          rest = λ trail is before. before_shorter links walk.last is.node walk.top part rising.part.node link trail rising.part.down none is.down
              (rising.rest trail is before);
        }

    module _ (next : ℕ) (least : IsLeast (LeadsFromSame links link) next) (le : next ≤ walk.last) where
      pub turned_part : IsPartOfTrail links walk (part ++ next ∷ [])
      turned_part =
          let (edge, at, down) = down_popped links walk.last walk.top part rising.part.node link rising.part.down in
          let (older, own, at', (other, there, up)) = least.is in
          let same : own.upper ≡ edge.upper = cc in
          record {
            node = other.lower;
            down = down_pushed links walk.last walk.top part edge.upper next other down there (up ∙ same) le;
            few = omega (arith, rising.part.few, length-append part (link ∷ []), length-append part (next ∷ []));
            above = above_turned links walk part link next rising.part.above;
          }

      pub turned : TurnsTo links walk old (part ++ next ∷ []) true
      turned = (
        rising.before (part ++ next ∷ []) (before_newer part link next least.is.0),
        λ trail is before. from_next links walk.last is.node walk.top part rising.part.node link next trail rising.part.down least is.down
            (rising.rest trail is before),
      )

-- ---- both

-- the walk has come past no trail, and knows whether it has met the link that is named
pub record IsFinding (links : List Edge) (walk : Walk) (old new : List ℕ) (met : ℕ) (is_whole : Bool) : Type 0 where
  pub goes : GoesTo links walk old new is_whole
  pub met_is : IsMetAfter walk.through new met

module _ (links : List Edge) (walk : Walk) (old part : List ℕ) (goes : GoesTo links walk old part false) where
  -- what comes behind the part that leads no further
  behind : (trail : List ℕ) → IsTrailOf links walk trail → IsFrom old trail → IsTrailBefore part trail
  behind trail is from = elim (goes.rest trail is from) [ inl whole ↦ absurd (let no = whole.0 in cc) | inr later ↦ later ]

  pub goes_on : (middle new : List ℕ) (is_whole : Bool) → TurnsTo links walk part middle true → GoesTo links walk middle new is_whole
      → GoesTo links walk old new is_whole
  goes_on middle new is_whole turns more = record {
    part = more.part;
    from = from_on old part new goes.from (from_before part new (before_from part middle new turns.0 more.from));
    whole = more.whole;
    rest = λ trail is from. more.rest trail is (turns.1 trail (part_of_trail links walk trail is) (behind trail is from));
  }

  pub finds_none : (new : List ℕ) → TurnsTo links walk part new false → FindsTrail links walk old new false
  finds_none new turns trail is from = turns trail (part_of_trail links walk trail is) (behind trail is from)

-- how many lists of numbers come from the part on
abbrev pub left_from : Walk → List ℕ → ℕ
left_from walk part = lists_of (suc walk.last) walk.length - rank (suc walk.last) walk.length part

module _ (links : List Edge) (walk : Walk) (old new : List ℕ) (part : IsPartOfTrail links walk old) (part' : IsPartOfTrail links walk new) where
  pub fewer_left : IsTrailBefore old new → left_from walk new < left_from walk old
  fewer_left before =
      let base = suc walk.last in
      let fits = fits_down links walk.last walk.top walk.length old part.node part.down part.few in
      let fits' = fits_down links walk.last walk.top walk.length new part'.node part'.down part'.few in
      let some : 0 < base = omega arith in
      omega (arith, rank_before base some walk.length old new fits fits' before, rank_below base some walk.length new fits')

-- ---- what is told of it

module _ (links : List Edge) (at : Standing) where
  module _ (begun : IsTrue at.is_begun) where
    pub next_turned : (middle trail : List ℕ) → TurnsTo links at.walk at.trail middle true → FindsTrail links at.walk middle trail true
        → IsNextTrail links at trail
    next_turned middle trail turns finds = record {
      is = finds.is;
      to_come = (from_before at.trail trail (before_from at.trail middle trail turns.0 finds.from), λ b. before_from at.trail middle trail turns.0 finds.from);
      first = λ other is to_come. finds.first other is (turns.1 other (part_of_trail links at.walk other is) (to_come.1 begun));
    }

    pub end_turned : (middle trail : List ℕ) → TurnsTo links at.walk at.trail middle true → FindsTrail links at.walk middle trail false → IsAtEnd links at
    end_turned middle trail turns finds other is to_come = finds other is (turns.1 other (part_of_trail links at.walk other is) (to_come.1 begun))

    pub end_here : (new : List ℕ) → TurnsTo links at.walk at.trail new false → IsAtEnd links at
    end_here new turns other is to_come = turns other (part_of_trail links at.walk other is) (to_come.1 begun)

-- the top alone is a part
pub part_none : (links : List Edge) (walk : Walk) → IsPartOfTrail links walk []
part_none links walk = record { node = walk.top; down = refl; few = omega arith; above = above_none links walk }

-- ---- from call to call

-- what a call of the walk tells of the trails that were to come
pub comes : (links : List Edge) (at at' : Standing) (found : Bool) → (IsTrue found → IsNextTrail links at at'.trail) → (found ≡ false → IsAtEnd links at)
    → (trail : List ℕ) → IsTrailOf links at.walk trail → IsToCome at trail → IsTrue found × ((trail ≡ at'.trail) ⊎ IsTrailBefore at'.trail trail)
comes links at at' true next end trail is to_come = (refl, (next refl).first trail is to_come)
comes links at at' false next end trail is to_come = absurd (end refl trail is to_come)

-- how many calls are left at most
abbrev pub calls_left : Standing → Bool → ℕ
calls_left at true = suc (left_from at.walk at.trail)
calls_left at false = 0

-- a call leaves fewer
pub fewer_calls : (links : List Edge) (at at' : Standing) (found : Bool) → IsTrue at.is_begun → IsOn links at → at'.walk ≡ at.walk → IsOn links at'
    → (IsTrue found → IsNextTrail links at at'.trail) → calls_left at' found < calls_left at true
fewer_calls links at at' found begun on walk on' next = fewer found refl
  where
    fewer : (more : Bool) → found ≡ more → calls_left at' more < calls_left at true
    fewer false is = omega arith
    fewer true is =
        let before = (next (let t : IsTrue found = cc in t)).to_come.1 begun in
        let part = subst (λ (w : Walk). IsPartOfTrail links w at'.trail) walk on' in
        let less = fewer_left links at.walk at.trail at'.trail on part before in
        let same : left_from at'.walk at'.trail ≡ left_from at.walk at'.trail = ap (λ (w : Walk). left_from w at'.trail) walk in
        omega (arith, less, same)
