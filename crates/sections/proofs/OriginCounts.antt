-- A tally counts the keys whose expansions came in each way.
use Rattle.std.proofs.Common.{◌≡◌, ℕ, ◌+◌, Bool, true, false, cond, List, [], ◌∷◌, inl, inr, length, fold, filter, Contains, refl, sym, ap, subst, arith}
use Rattle.forest.specs.Distinct.{IsDistinct, AreAll}
use Rattle.forest.proofs.Ascending.{contains_here, contains_there, contains_cases}
use Rattle.edit_log.proofs.PlainLists.{each_contained, contains_filter, filter_passes, contains_map, contains_map_from, distinct_filter}
use Rattle.live_graph.specs.declared.origin.Origin.{Origin}
use Rattle.live_graph.specs.declared.origin.Origin.TheVariants.{Found, Made, Raced, Alone}
use Rattle.live_graph.specs.declared.tally.Tally.{Tally}
use Rattle.live_graph.specs.Sharing.{keys_in, own_keys}
use Rattle.live_graph.specs.Tallying.{none_counted, counted, tally_of, AddsUp}
use Rattle.live_graph.proofs.TallyCounts.{adds_up_on}
use Rattle.sections.specs.Held.{IsCount}

-- ---- how one key counts

is_found : Origin → Bool
is_found Found = true
is_found Made = false
is_found Raced = false
is_found Alone = false

is_made : Origin → Bool
is_made Found = false
is_made Made = true
is_made Raced = false
is_made Alone = false

is_raced : Origin → Bool
is_raced Found = false
is_raced Made = false
is_raced Raced = true
is_raced Alone = false

-- all but the keys that were found are the graph's own
is_own : Origin → Bool
is_own Found = false
is_own Made = true
is_own Raced = true
is_own Alone = true

-- a number of the tally counts the keys that came in a certain way
abbrev Counts : (Tally → ℕ) → (Origin → Bool) → Type 0
Counts number test = (origin : Origin) (t : Tally) → number (counted origin t) ≡ number t + cond (test origin) 1 0

reached_counts : Counts (λ t. t.reached) (λ origin. true)
reached_counts Found t = omega arith
reached_counts Made t = omega arith
reached_counts Raced t = omega arith
reached_counts Alone t = omega arith

found_counts : Counts (λ t. t.found) is_found
unfolding is_found
found_counts Found t = omega arith
found_counts Made t = omega arith
found_counts Raced t = omega arith
found_counts Alone t = omega arith

made_counts : Counts (λ t. t.made) is_made
unfolding is_made
made_counts Found t = omega arith
made_counts Made t = omega arith
made_counts Raced t = omega arith
made_counts Alone t = omega arith

raced_counts : Counts (λ t. t.raced) is_raced
unfolding is_raced
raced_counts Found t = omega arith
raced_counts Made t = omega arith
raced_counts Raced t = omega arith
raced_counts Alone t = omega arith

found_only : (origin : Origin) → is_found origin ≡ true → origin ≡ Found
unfolding is_found
found_only Found e = refl
found_only Made e = cc
found_only Raced e = cc
found_only Alone e = cc

made_only : (origin : Origin) → is_made origin ≡ true → origin ≡ Made
unfolding is_made
made_only Found e = cc
made_only Made e = refl
made_only Raced e = cc
made_only Alone e = cc

raced_only : (origin : Origin) → is_raced origin ≡ true → origin ≡ Raced
unfolding is_raced
raced_only Found e = cc
raced_only Made e = cc
raced_only Raced e = refl
raced_only Alone e = cc

own_only : (origin : Origin) → is_own origin ≡ true → origin ≡ Found → ⊥
unfolding is_own
own_only Found own same = cc own
own_only Made own same = cc same
own_only Raced own same = cc same
own_only Alone own same = cc same

is_own_if : (origin : Origin) → (origin ≡ Found → ⊥) → is_own origin ≡ true
unfolding is_own
is_own_if Found other = absurd (other refl)
is_own_if Made other = refl
is_own_if Raced other = refl
is_own_if Alone other = refl

-- ---- how many keys came so

module _ {K : Type 0} where
  -- the keys that came in a certain way
  keys_by : (Origin → Bool) → List (K × Origin) → List K
  keys_by test kept = keys_in (filter (λ one. test one.1) kept)

  counts : (number : Tally → ℕ) (test : Origin → Bool) → Counts number test → (kept : List (K × Origin)) (t : Tally)
      → number (fold (λ t one. counted one.1 t) t kept) ≡ number t + length (keys_by test kept)
  unfolding keys_by
  counts number test step [] t = omega arith
  counts number test step (one ∷ kept) t =
      by (test one.1) (number (fold (λ t one. counted one.1 t) (counted one.1 t) kept)) (step one.1 t) (counts number test step kept (counted one.1 t))
    where
      by : (passes : Bool) (total : ℕ) → number (counted one.1 t) ≡ number t + cond passes 1 0
          → total ≡ number (counted one.1 t) + length (keys_by test kept)
          → total ≡ number t + length (keys_in (cond passes (one ∷ filter (λ one. test one.1) kept) (filter (λ one. test one.1) kept)))
      by true total more rest = omega (arith, more, rest)
      by false total more rest = omega (arith, more, rest)

  came_by : (test : Origin → Bool) (kept : List (K × Origin)) (key : K) → Contains (keys_by test kept) key
      → (origin : Origin) × (test origin ≡ true) × Contains kept (key, origin)
  unfolding keys_by
  came_by test kept key there =
      let from = contains_map_from (λ (one : K × Origin). one.0) (filter (λ one. test one.1) kept) key there in
      let passes = each_contained (λ (one : K × Origin). test one.1 ≡ true) (filter (λ one. test one.1) kept) from.from
      (filter_passes (λ one. test one.1) kept) from.there in
      let known = contains_filter (λ one. test one.1) kept from.from from.there in
      (from.from.1, passes, subst (λ k. Contains kept (k, from.from.1)) from.is known)

  stays : (test : Origin → Bool) (kept : List (K × Origin)) (one : K × Origin) → test one.1 ≡ true → Contains kept one
      → Contains (filter (λ one. test one.1) kept) one
  stays test [] one passes (k, l, e) = absurd (omega (arith, l))
  stays test (other ∷ kept) one passes there = elim (contains_cases other kept one there) [
    | inl same ↦ by_first (test other.1) (subst (λ (o : K × Origin). test o.1 ≡ true) (sym same) passes) same
    | inr later ↦ by_later (test other.1) (stays test kept one passes later)
  ]
    where
      by_first : (it : Bool) → it ≡ true → other ≡ one → Contains (cond it (other ∷ filter (λ one. test one.1) kept) (filter (λ one. test one.1) kept)) one
      by_first true e same =
          subst (λ o. Contains (other ∷ filter (λ one. test one.1) kept) o) same (contains_here other (filter (λ one. test one.1) kept))
      by_first false e same = cc e

      by_later : (it : Bool) → Contains (filter (λ one. test one.1) kept) one
          → Contains (cond it (other ∷ filter (λ one. test one.1) kept) (filter (λ one. test one.1) kept)) one
      by_later true found = contains_there other (filter (λ one. test one.1) kept) one found
      by_later false found = found

  comes_by : (test : Origin → Bool) (kept : List (K × Origin)) (key : K) (origin : Origin) → test origin ≡ true → Contains kept (key, origin)
      → Contains (keys_by test kept) key
  unfolding keys_by
  comes_by test kept key origin passes there =
      contains_map (λ (one : K × Origin). one.0) (filter (λ one. test one.1) kept) (key, origin) (stays test kept (key, origin) passes there)

  -- ---- the tally

  all_by : (test : Origin → Bool) (kept : List (K × Origin)) → IsDistinct (keys_in kept) → (P : K → Type 0)
      → ((key : K) (origin : Origin) → test origin ≡ true → Contains kept (key, origin) → P key)
      → ((key : K) → P key → (origin : Origin) × (test origin ≡ true) × Contains kept (key, origin)) → AreAll P (keys_by test kept)
  unfolding keys_by
  all_by test kept distinct P holds comes = record {
    distinct = distinct_filter (λ (one : K × Origin). one.0) (λ one. test one.1) kept distinct;
    within = λ key there. let (origin, passes, has) = came_by test kept key there in holds key origin passes has;
    all = λ key is. let (origin, passes, has) = comes key is in comes_by test kept key origin passes has;
  }

  own_by : (kept : List (K × Origin)) → own_keys kept ≡ keys_by is_own kept
  unfolding keys_by is_own
  own_by [] = refl
  own_by ((key, Found) ∷ kept) = own_by kept
  own_by ((key, Made) ∷ kept) = ap (λ keys. key ∷ keys) (own_by kept)
  own_by ((key, Raced) ∷ kept) = ap (λ keys. key ∷ keys) (own_by kept)
  own_by ((key, Alone) ∷ kept) = ap (λ keys. key ∷ keys) (own_by kept)

  pub own_all : (kept : List (K × Origin)) → IsDistinct (keys_in kept) → (P : K → Type 0)
      → ((key : K) (origin : Origin) → (origin ≡ Found → ⊥) → Contains kept (key, origin) → P key)
      → ((key : K) → P key → (origin : Origin) × (origin ≡ Found → ⊥) × Contains kept (key, origin)) → AreAll P (own_keys kept)
  own_all kept distinct P holds comes =
      subst (AreAll P) (sym (own_by kept))
      (all_by is_own kept distinct P (λ key origin own has. holds key origin (own_only origin own) has)
      (λ key is. let (origin, other, has) = comes key is in (origin, is_own_if origin other, has)))

  counted_set : (number : Tally → ℕ) (test : Origin → Bool) → Counts number test → number none_counted ≡ 0 → (kept : List (K × Origin))
      → IsDistinct (keys_in kept) → (P : K → Type 0)
      → ((key : K) (origin : Origin) → test origin ≡ true → Contains kept (key, origin) → P key)
      → ((key : K) → P key → (origin : Origin) × (test origin ≡ true) × Contains kept (key, origin)) → IsCount P (number (tally_of kept))
  unfolding keys_by
  counted_set number test step none kept distinct P holds comes = record {
    members = keys_by test kept;
    are_all = all_by test kept distinct P holds comes;
    many = let total = counts number test step kept none_counted in omega (arith, total, none);
  }

  module _ (kept : List (K × Origin)) (distinct : IsDistinct (keys_in kept)) (P : K → Type 0) where
    pub reached_count : ((key : K) (origin : Origin) → Contains kept (key, origin) → P key)
        → ((key : K) → P key → (origin : Origin) × Contains kept (key, origin)) → IsCount P (tally_of kept).reached
    reached_count holds comes =
        counted_set (λ t. t.reached) (λ origin. true) reached_counts refl kept distinct P (λ key origin passes has. holds key origin has)
        (λ key is. let (origin, has) = comes key is in (origin, refl, has))

    pub found_count : ((key : K) → Contains kept (key, Found) → P key) → ((key : K) → P key → Contains kept (key, Found)) → IsCount P (tally_of kept).found
    unfolding is_found
    found_count holds comes =
        counted_set (λ t. t.found) is_found found_counts refl kept distinct P
        (λ key origin passes has. holds key (subst (λ o. Contains kept (key, o)) (found_only origin passes) has)) (λ key is. (Found, refl, comes key is))

    pub made_count : ((key : K) → Contains kept (key, Made) → P key) → ((key : K) → P key → Contains kept (key, Made)) → IsCount P (tally_of kept).made
    unfolding is_made
    made_count holds comes =
        counted_set (λ t. t.made) is_made made_counts refl kept distinct P
        (λ key origin passes has. holds key (subst (λ o. Contains kept (key, o)) (made_only origin passes) has)) (λ key is. (Made, refl, comes key is))

  nothing : (keys : List K) → ((key : K) → Contains keys key → ⊥) → length keys ≡ 0
  nothing [] none = refl
  nothing (key ∷ keys) none = absurd (none key (contains_here key keys))

  pub none_raced : (kept : List (K × Origin)) → ((key : K) → Contains kept (key, Raced) → ⊥) → (tally_of kept).raced ≡ 0
  none_raced kept none =
      let total = counts (λ t. t.raced) is_raced raced_counts kept none_counted in
      let no_key : (key : K) → Contains (keys_by is_raced kept) key → ⊥ = λ key there.
      let (origin, passes, has) = came_by is_raced kept key there in none key (subst (λ o. Contains kept (key, o)) (raced_only origin passes) has) in
      let empty = nothing (keys_by is_raced kept) no_key in
      omega (arith, total, empty)

  adds_up_from : (kept : List (K × Origin)) (t : Tally) → AddsUp t → AddsUp (fold (λ t one. counted one.1 t) t kept)
  adds_up_from [] t sum = sum
  adds_up_from (one ∷ kept) t sum = adds_up_from kept (counted one.1 t) (adds_up_on one.1 t sum)

  pub adds_up : (kept : List (K × Origin)) → AddsUp (tally_of kept)
  adds_up kept = adds_up_from kept none_counted refl
