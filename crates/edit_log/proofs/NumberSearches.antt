-- What is found by number in a list that ascends by number.
use Rattle.std.proofs.Common.{◌≡◌, ℕ, zero, suc, ◌<◌, ◌≤◌, ◌==◌, inl, inr, List, [], ◌∷◌, length, map, filter, not, Bool, true, get_or, slice_get, Option, Some}
use Rattle.std.proofs.Common.{None, option_map, Result, Ok, Err, refl, sym, ap, ◌∙◌, arith, Contains, subst}
use Rattle.std.specs.List.{AllByRecursion, AllPairs, find, remove}
use Rattle.std.specs.List.Sorted.{IsStrictlySortedBy, IsStrictlyIncreasing, IsSearchInRange, IsBinarySearchResult, IsNonDecreasingBy}
use Rattle.std.specs.Ordering.{nat_cmp, ordering_index}
use Rattle.std.specs.Cmp.{nat_cmp_is}
use Rattle.std.specs.Result.{result_ok}
use Rattle.std.specs.declared.cmp.Ordering.TheVariants.{Less, Equal, Greater}
use Rattle.std.proofs.lemmas.Bool.{cases_lt, eqb-true, eq-eqb, ne_eqb, lt-ltb}
use Rattle.std.proofs.lemmas.Bool.Decides.{nat_tests}
use Rattle.std.proofs.lemmas.List.Kept.{AllPairs-from_increasing}
use Rattle.std.proofs.lemmas.Map.Keys.{Less-from_sorted}
use Rattle.std.proofs.lemmas.Map.Lookups.{exact_unsigned}
use Rattle.std.proofs.lemmas.Option.{slice_get_cases, slice_get-map, slice_get_read, slice_get_within, get_or_from_slice_get}
use Rattle.forest.specs.Distinct.{IsDistinct}
use Rattle.edit_log.proofs.PlainLists.{each_contained, all_also, found, none_found, all_contained, find_only, find_none, contains_at, contains_map}
use Rattle.edit_log.proofs.PlainLists.{distinct_map, by_key, nat_cmp_less, sorted_keys}

-- ---- a binary search

index_rises : (a b n : ℕ) → a ≤ b → ordering_index (nat_cmp a n) ≤ ordering_index (nat_cmp b n)
index_rises a b n up = grind (arith, nat_tests)

module _ {X : Type 0} (key : X → ℕ) (xs : List X) (sorted : IsStrictlySortedBy (by_key key) xs) (n : ℕ) where
  along : IsNonDecreasingBy (λ y. ordering_index (nat_cmp (key y) n)) xs
  along i j d up within = elim (cases_lt i j) [
    | inl less ↦
        let rises : key (get_or xs i d) < key (get_or xs j d) = nat_cmp_less (key (get_or xs i d)) (key (get_or xs j d))
        (Less-from_sorted (by_key key) xs i j d sorted less within) in
        index_rises (key (get_or xs i d)) (key (get_or xs j d)) n (omega arith)
    | inr more ↦ let same : i ≡ j = omega arith in rw same (omega arith)
  ]

  -- the element with the number is the one that is found
  pub found_at : (i : ℕ) (x : X) → slice_get xs i ≡ Some x → key x ≡ n → find (λ y. key y == n) xs ≡ Some x
  found_at i x at is = find_only (λ y. key y == n) xs x
      (record { there = contains_at xs i x at; passes = eq-eqb (key x) n is })
      (λ y there passes. distinct_map key xs y x (sorted_keys key xs sorted) there (contains_at xs i x at) (eqb-true (key y) n passes ∙ sym is))

  absent : (at : ℕ) → IsBinarySearchResult (λ y. nat_cmp (key y) n) xs (Err at) → (y : X) → Contains xs y → key y ≡ n → ⊥
  absent at h y (k, within, is) same =
      let equal : nat_cmp (key (get_or xs k y)) n ≡ Equal = ap (λ z. nat_cmp (key z) n) is ∙ ap (λ m. nat_cmp m n) same ∙ sym (nat_cmp_is n n Equal refl) in
      elim (cases_lt k at) [
        | inl below ↦ let less : nat_cmp (key (get_or xs k y)) n ≡ Less = (h along).0 k y (omega arith) below in absurd cc
        | inr above ↦ let more : nat_cmp (key (get_or xs k y)) n ≡ Greater = (h along).1 k y above within in absurd cc
      ]

  pub searched : (r : Result ℕ ℕ) → IsSearchInRange r (length xs) → IsBinarySearchResult (λ y. nat_cmp (key y) n) xs r
      → option_map (λ place. slice_get xs place) (result_ok r) ≡ option_map Some (find (λ y. key y == n) xs)
  searched (Ok at) range h = elim (slice_get_cases xs at).1 [
    | inl (x, within, is, same) ↦
        let equal : key x ≡ n = ap key (sym same) ∙ exact_unsigned (key (get_or xs at x)) n (h x) in
        rw (found_at at x is equal) (ap Some is)
    | inr (past, none) ↦ absurd (omega arith)
  ]
  searched (Err at) range h = rw (find_none (λ y. key y == n) xs (all_contained _ xs (λ y there. ne_eqb (key y) n (absent at h y there)))) refl

  -- a number that is there is found at its place
  pub there_found : (r : Result ℕ ℕ) (y : X) → Contains xs y → key y ≡ n → IsBinarySearchResult (λ y. nat_cmp (key y) n) xs r → (at : ℕ) × (r ≡ Ok at)
  there_found (Ok at) y there same h = (at, refl)
  there_found (Err at) y there same h = absurd (absent at h y there same)

  pub there_at : (at : ℕ) (y : X) → Contains xs y → key y ≡ n → at < length xs → IsBinarySearchResult (λ y. nat_cmp (key y) n) xs (Ok at)
      → slice_get xs at ≡ Some y
  there_at at y there same range h = elim (slice_get_cases xs at).1 [
    | inl (x, within, is, here) ↦
        let equal : key x ≡ n = ap key (sym here) ∙ exact_unsigned (key (get_or xs at x)) n (h x) in
        is ∙ ap Some (distinct_map key xs x y (sorted_keys key xs sorted) (contains_at xs at x is) there (equal ∙ sym same))
    | inr (past, none) ↦ absurd (omega arith)
  ]

-- ---- what a search by number tells

pub record IsFoundAt {X : Type 0} (test : X → Bool) (xs : List X) (place : ℕ) : Type 0 where
  pub item : X
  pub found : find test xs ≡ Some item
  pub at : slice_get xs place ≡ Some item

pub some_found : {X : Type 0} (test : X → Bool) (xs : List X) (place : ℕ) → Some (slice_get xs place) ≡ option_map Some (find test xs) → IsFoundAt test xs place
some_found {X} test xs place e = by (find test xs) refl e
  where
    by : (o : Option X) → find test xs ≡ o → Some (slice_get xs place) ≡ option_map Some o → IsFoundAt test xs place
    by None is e = absurd cc
    by (Some x) is e = let at : slice_get xs place ≡ Some x = cc in record { item = x; found = is; at = at }

pub no_place : {X : Type 0} (o : Option X) → None ≡ option_map Some o → o ≡ None
no_place None e = refl
no_place (Some x) e = absurd cc

-- the same of an answer that is known to be the place, or none
pub found_in : {X : Type 0} (test : X → Bool) (xs : List X) (answer : Option ℕ) (place : ℕ) → answer ≡ Some place
    → option_map (λ place. slice_get xs place) answer ≡ option_map Some (find test xs) → IsFoundAt test xs place
found_in test xs answer place is e = some_found test xs place (ap (option_map (λ place. slice_get xs place)) (sym is) ∙ e)

pub none_in : {X : Type 0} (test : X → Bool) (xs : List X) (answer : Option ℕ) → answer ≡ None
    → option_map (λ place. slice_get xs place) answer ≡ option_map Some (find test xs) → find test xs ≡ None
none_in test xs answer is e = no_place (find test xs) (ap (option_map (λ place. slice_get xs place)) (sym is) ∙ e)

-- ---- numbers that ascend

pub sorted_map : {X Y : Type 0} (f : X → Y) (key : Y → ℕ) (xs : List X) → IsStrictlySortedBy (by_key key) (map f xs)
    → IsStrictlySortedBy (by_key (λ x. key (f x))) xs
unfolding IsStrictlySortedBy
sorted_map f key [] sorted = tt
sorted_map f key (x ∷ xs) sorted = (
  all_contained _ xs (λ y there. each_contained _ (map f xs) (f y) sorted.0 (contains_map f xs y there)),
  sorted_map f key xs sorted.1,
)

sorted_pairs : {X : Type 0} (key : X → ℕ) (xs : List X) → AllPairs (λ a b. a < b) (map key xs) → IsStrictlySortedBy (by_key key) xs
unfolding IsStrictlySortedBy
sorted_pairs key [] pairs = tt
sorted_pairs key (x ∷ xs) pairs = (
  all_contained _ xs (λ y (k, within, is).
      let at : slice_get (map key xs) k ≡ Some (key y) = slice_get-map key xs k ∙ ap (option_map key)
      (slice_get_read xs (length xs) k y refl within (sym is)) in
      let less : key x < get_or (map key xs) k 0 = pairs 0 (suc k) 0 (omega arith) (omega (arith, slice_get_within (map key xs) k (key y) at)) in
      let same : get_or (map key xs) k 0 ≡ key y = get_or_from_slice_get (map key xs) k (key y) 0 at in
      rw (lt-ltb (key x) (key y) (omega arith)) refl),
  sorted_pairs key xs (λ i j d less within. pairs (suc i) (suc j) d (omega arith) (omega arith)),
)

pub sorted_from_increasing : {X : Type 0} (key : X → ℕ) (xs : List X) → IsStrictlyIncreasing (map key xs) → IsStrictlySortedBy (by_key key) xs
sorted_from_increasing key xs increasing = sorted_pairs key xs (AllPairs-from_increasing (map key xs) increasing)

-- ---- one element less

filter_all : {X : Type 0} (test : X → Bool) (xs : List X) → AllByRecursion (λ x. test x ≡ true) xs → filter test xs ≡ xs
filter_all test [] all = refl
filter_all test (x ∷ xs) all = rw all.0 (ap (λ rest. x ∷ rest) (filter_all test xs all.1))

pub nothing_removed : {X : Type 0} (key : X → ℕ) (n : ℕ) (xs : List X) → find (λ y. key y == n) xs ≡ None → xs ≡ filter (λ y. not (key y == n)) xs
nothing_removed key n xs none = sym (filter_all (λ y. not (key y == n)) xs (all_also _ _ xs (λ y no. ap not no) (none_found (λ y. key y == n) xs none)))

-- without the element at a place the others are left
pub removed : {X : Type 0} (key : X → ℕ) (xs : List X) (i : ℕ) (x : X) → IsDistinct (map key xs) → slice_get xs i ≡ Some x
    → remove xs i ≡ filter (λ y. not (key y == key x)) xs
removed key [] i x apart at = absurd (omega (arith, slice_get_within [] i x at))
removed key (y ∷ ys) zero x apart at =
    let same : y ≡ x = cc in
    let others = filter_all (λ z. not (key z == key x)) ys (all_contained _ ys (λ z there.
    let other : key z ≡ key x → ⊥ = λ e. apart.0 (subst (λ (m : ℕ). Contains (map key ys) m) (e ∙ ap key (sym same)) (contains_map key ys z there)) in
    rw (ne_eqb (key z) (key x) other) refl)) in
    rw (eq-eqb (key y) (key x) (ap key same)) (sym others)
removed key (y ∷ ys) (suc i) x apart at =
    let other : key y ≡ key x → ⊥ = λ e. apart.0 (subst (λ (m : ℕ). Contains (map key ys) m) (sym e) (contains_map key ys x (contains_at ys i x at))) in
    rw (ne_eqb (key y) (key x) other) (ap (λ rest. y ∷ rest) (removed key ys i x apart.1 at))

-- without the one that is found
pub found_removed : {X : Type 0} (key : X → ℕ) (n : ℕ) (xs : List X) (place : ℕ) → IsStrictlySortedBy (by_key key) xs → IsFoundAt (λ y. key y == n) xs place
    → remove xs place ≡ filter (λ y. not (key y == n)) xs
found_removed key n xs place sorted h =
    let passes = (found (λ y. key y == n) xs h.item h.found).passes in
    removed key xs place h.item (sorted_keys key xs sorted) h.at ∙ ap (λ m. filter (λ y. not (key y == m)) xs) (eqb-true (key h.item) n passes)
