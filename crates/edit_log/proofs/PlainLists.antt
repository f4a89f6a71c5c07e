-- Facts about plain lists.
use Rattle.std.proofs.Common.{◌≡◌, ℕ, zero, suc, ◌<◌, inl, inr, List, [], ◌∷◌, ◌++◌, map, filter, Bool, true, false, cond, ltb, eqb, Some, None, slice_get}
use Rattle.std.proofs.Common.{refl, sym, ap, subst, ◌∙◌, arith, Contains}
use Rattle.std.specs.List.{AllByRecursion, find, list_any}
use Rattle.std.specs.List.Sorted.{IsStrictlySortedBy}
use Rattle.std.specs.Ordering.{nat_cmp}
use Rattle.std.specs.declared.cmp.Ordering.{Ordering}
use Rattle.std.specs.declared.cmp.Ordering.TheVariants.{Less, Equal, Greater}
use Rattle.std.proofs.lemmas.Bool.{ltb-true, lt-ltb, or_parts}
use Rattle.std.proofs.lemmas.Option.{slice_get_within, get_or_from_slice_get}
use Rattle.std.proofs.lemmas.List.Elements.{Contains-push_cases, Contains-append_right}
use Rattle.forest.specs.Distinct.{IsDistinct}
use Rattle.forest.proofs.Ascending.{contains_here, contains_there, contains_cases}

-- ---- what holds of each element

pub each_contained : {X : Type 0} (P : X → Type 0) (xs : List X) (x : X) → AllByRecursion P xs → Contains xs x → P x
each_contained P [] x all (k, l, e) = absurd (omega arith)
each_contained P (y ∷ ys) x all c = elim (contains_cases y ys x c) [ inl e ↦ subst P e all.0 | inr d ↦ each_contained P ys x all.1 d ]

pub all_contained : {X : Type 0} (P : X → Type 0) (xs : List X) → ((x : X) → Contains xs x → P x) → AllByRecursion P xs
all_contained P [] each = tt
all_contained P (x ∷ xs) each = (each x (contains_here x xs), all_contained P xs (λ y c. each y (contains_there x xs y c)))

pub all_also : {X : Type 0} (P Q : X → Type 0) (xs : List X) → ((x : X) → P x → Q x) → AllByRecursion P xs → AllByRecursion Q xs
all_also P Q [] leads all = tt
all_also P Q (x ∷ xs) leads all = (leads x all.0, all_also P Q xs leads all.1)

pub all_push : {X : Type 0} (P : X → Type 0) (xs : List X) (x : X) → AllByRecursion P xs → P x → AllByRecursion P (xs ++ x ∷ [])
all_push P [] x all here = (here, tt)
all_push P (y ∷ ys) x all here = (all.0, all_push P ys x all.1 here)

-- ---- filters

pub all_filter : {X : Type 0} (P : X → Type 0) (test : X → Bool) (xs : List X) → AllByRecursion P xs → AllByRecursion P (filter test xs)
all_filter P test [] all = tt
all_filter {X} P test (x ∷ xs) all = by (test x) (all_filter P test xs all.1)
  where
    by : (passes : Bool) → AllByRecursion P (filter test xs) → AllByRecursion P (cond passes (x ∷ filter test xs) (filter test xs))
    by true rest = (all.0, rest)
    by false rest = rest

pub contains_filter : {X : Type 0} (test : X → Bool) (xs : List X) (x : X) → Contains (filter test xs) x → Contains xs x
contains_filter test xs x c = each_contained (Contains xs) (filter test xs) x (all_filter (Contains xs) test xs (all_contained (Contains xs) xs (λ y d. d))) c

pub filter_same : {X : Type 0} (p q : X → Bool) (xs : List X) → AllByRecursion (λ x. p x ≡ q x) xs → filter p xs ≡ filter q xs
filter_same p q [] all = refl
filter_same p q (x ∷ xs) all =
    let rest : filter p xs ≡ filter q xs = filter_same p q xs all.1 in
    (λ i. cond (all.0 i) (x ∷ rest i) (rest i))

-- ---- the first element that passes

pub record Finds {X : Type 0} (test : X → Bool) (xs : List X) (x : X) : Type 0 where
  pub there : Contains xs x
  pub passes : test x ≡ true

pub found : {X : Type 0} (test : X → Bool) (xs : List X) (x : X) → find test xs ≡ Some x → Finds test xs x
found test [] x e = absurd cc
found {X} test (y ∷ ys) x e = by (test y) refl (found test ys x) e
  where
    by : (passes : Bool) → test y ≡ passes → (find test ys ≡ Some x → Finds test ys x) → cond passes (Some y) (find test ys) ≡ Some x → Finds test (y ∷ ys) x
    by true is others e = let same : y ≡ x = cc in record {
      there = subst (Contains (y ∷ ys)) same (contains_here y ys);
      passes =
          subst (λ z. test z ≡ true) same is;
    }
    by false is others e = let rest = others e in record { there = contains_there y ys x rest.there; passes = rest.passes }

pub none_found : {X : Type 0} (test : X → Bool) (xs : List X) → find test xs ≡ None → AllByRecursion (λ x. test x ≡ false) xs
none_found test [] e = tt
none_found {X} test (y ∷ ys) e = by (test y) refl (none_found test ys) e
  where
    by : (passes : Bool) → test y ≡ passes → (find test ys ≡ None → AllByRecursion (λ x. test x ≡ false) ys) → cond passes (Some y) (find test ys) ≡ None
        → (test y ≡ false) × AllByRecursion (λ x. test x ≡ false) ys
    by true is others e = absurd cc
    by false is others e = (is, others e)

pub none_any : {X : Type 0} (test : X → Bool) (xs : List X) → list_any test xs ≡ false → AllByRecursion (λ x. test x ≡ false) xs
none_any test [] e = tt
none_any test (x ∷ xs) e = let both = or_parts (test x) (list_any test xs) e in (both.0, none_any test xs both.1)

pub find_none : {X : Type 0} (test : X → Bool) (xs : List X) → AllByRecursion (λ x. test x ≡ false) xs → find test xs ≡ None
find_none test [] all = refl
find_none test (y ∷ ys) all = rw all.0 (find_none test ys all.1)

-- the one element that passes is found
pub find_only : {X : Type 0} (test : X → Bool) (xs : List X) (x : X) → Finds test xs x → ((y : X) → Contains xs y → test y ≡ true → y ≡ x)
    → find test xs ≡ Some x
find_only {X} test xs x finds only = by (find test xs) refl
  where
    by : (answer : _) → find test xs ≡ answer → answer ≡ Some x
    by None is = let no : test x ≡ false = each_contained _ xs x (none_found test xs is) finds.there in let yes = finds.passes in absurd cc
    by (Some y) is = let at = found test xs y is in ap Some (only y at.there at.passes)

-- with one more element behind
pub find_push-first : {X : Type 0} (test : X → Bool) (xs : List X) (x : X) → test x ≡ false → find test (xs ++ x ∷ []) ≡ find test xs
find_push-first test [] x fails = rw fails refl
find_push-first test (y ∷ ys) x fails = ap (λ rest. cond (test y) (Some y) rest) (find_push-first test ys x fails)

pub find_push-last : {X : Type 0} (test : X → Bool) (xs : List X) (x : X) → find test xs ≡ None → test x ≡ true → find test (xs ++ x ∷ []) ≡ Some x
find_push-last test xs x none passes = go xs (none_found test xs none)
  where
    go : (ys : _) → AllByRecursion (λ y. test y ≡ false) ys → find test (ys ++ x ∷ []) ≡ Some x
    go [] all = rw passes refl
    go (y ∷ ys) all = rw all.0 (go ys all.1)

pub filter_passes : {X : Type 0} (test : X → Bool) (xs : List X) → AllByRecursion (λ x. test x ≡ true) (filter test xs)
filter_passes test [] = tt
filter_passes {X} test (x ∷ xs) = by (test x) refl (filter_passes test xs)
  where
    by : (passes : Bool) → test x ≡ passes → AllByRecursion (λ x. test x ≡ true) (filter test xs)
        → AllByRecursion (λ x. test x ≡ true) (cond passes (x ∷ filter test xs) (filter test xs))
    by true is rest = (is, rest)
    by false is rest = rest

-- a filter that keeps all that pass
pub find_kept : {X : Type 0} (test kept : X → Bool) (xs : List X) → AllByRecursion (λ x. test x ≡ true → kept x ≡ true) xs
    → find test (filter kept xs) ≡ find test xs
find_kept test kept [] all = refl
find_kept {X} test kept (x ∷ xs) all = by (kept x) (test x) refl refl (find_kept test kept xs all.1)
  where
    by : (keeps passes : Bool) → kept x ≡ keeps → test x ≡ passes → find test (filter kept xs) ≡ find test xs
        → find test (cond keeps (x ∷ filter kept xs) (filter kept xs)) ≡ cond passes (Some x) (find test xs)
    by true passes is answers rest = rw answers (ap (λ o. cond passes (Some x) o) rest)
    by false true is answers rest = let keeps = all.0 answers in absurd cc
    by false false is answers rest = rest

pub find_same : {X : Type 0} (p q : X → Bool) (xs : List X) → AllByRecursion (λ x. p x ≡ q x) xs → find p xs ≡ find q xs
find_same p q [] all = refl
find_same p q (x ∷ xs) all =
    let rest : find p xs ≡ find q xs = find_same p q xs all.1 in
    (λ i. cond (all.0 i) (Some x) (rest i))

-- ---- elements of a mapped list

pub contains_map : {X Y : Type 0} (f : X → Y) (xs : List X) (x : X) → Contains xs x → Contains (map f xs) (f x)
contains_map f [] x (k, l, e) = absurd (omega arith)
contains_map f (y ∷ ys) x c = elim (contains_cases y ys x c) [
  | inl e ↦ subst (λ z. Contains (f y ∷ map f ys) (f z)) e (contains_here (f y) (map f ys))
  | inr d ↦ contains_there (f y) (map f ys) (f x) (contains_map f ys x d)
]

pub record Comes {X Y : Type 0} (f : X → Y) (xs : List X) (y : Y) : Type 0 where
  pub from : X
  pub there : Contains xs from
  pub is : f from ≡ y

pub contains_map_from : {X Y : Type 0} (f : X → Y) (xs : List X) (y : Y) → Contains (map f xs) y → Comes f xs y
contains_map_from f [] y (k, l, e) = absurd (omega arith)
contains_map_from f (x ∷ xs) y c = elim (contains_cases (f x) (map f xs) y c) [
  | inl e ↦ record { from = x; there = contains_here x xs; is = e }
  | inr d ↦ let rest = contains_map_from f xs y d in record { from = rest.from; there = contains_there x xs rest.from rest.there; is = rest.is }
]

-- ---- no element comes twice

pub distinct_map : {X Y : Type 0} (f : X → Y) (xs : List X) (a b : X) → IsDistinct (map f xs) → Contains xs a → Contains xs b → f a ≡ f b → a ≡ b
distinct_map f [] a b apart (k, l, e) there same = absurd (omega arith)
distinct_map {X} {Y} f (x ∷ xs) a b apart left right same = elim (contains_cases x xs a left) [
  | inl e ↦ elim (contains_cases x xs b right) [
    | inl h ↦ sym e ∙ h
    | inr c ↦ absurd (apart.0 (subst (λ (y : Y). Contains (map f xs) y) (sym same ∙ ap f (sym e)) (contains_map f xs b c)))
  ]
  | inr c ↦ elim (contains_cases x xs b right) [
    | inl h ↦ absurd (apart.0 (subst (λ (y : Y). Contains (map f xs) y) (same ∙ ap f (sym h)) (contains_map f xs a c)))
    | inr d ↦ distinct_map f xs a b apart.1 c d same
  ]
]

contains_map_filter : {X Y : Type 0} (f : X → Y) (test : X → Bool) (xs : List X) (y : Y) → Contains (map f (filter test xs)) y → Contains (map f xs) y
contains_map_filter {X} {Y} f test xs y c =
    let at = contains_map_from f (filter test xs) y c in
    subst (λ (z : Y). Contains (map f xs) z) at.is (contains_map f xs at.from (contains_filter test xs at.from at.there))

pub distinct_filter : {X Y : Type 0} (f : X → Y) (test : X → Bool) (xs : List X) → IsDistinct (map f xs) → IsDistinct (map f (filter test xs))
distinct_filter f test [] apart = tt
distinct_filter {X} {Y} f test (x ∷ xs) apart = by (test x) (distinct_filter f test xs apart.1)
  where
    by : (passes : Bool) → IsDistinct (map f (filter test xs)) → IsDistinct (map f (cond passes (x ∷ filter test xs) (filter test xs)))
    by true rest = (λ c. apart.0 (contains_map_filter f test xs (f x) c), rest)
    by false rest = rest

pub distinct_push : {X : Type 0} (xs : List X) (x : X) → IsDistinct xs → (Contains xs x → ⊥) → IsDistinct (xs ++ x ∷ [])
distinct_push [] x apart new = (λ (k, l, e). absurd (omega arith), tt)
distinct_push (y ∷ ys) x apart new = (
  λ c. elim (Contains-push_cases ys x y c) [ inl d ↦ apart.0 d | inr e ↦ new (subst (Contains (y ∷ ys)) (sym e) (contains_here y ys)) ],
  distinct_push ys x apart.1 (λ c. new (contains_there y ys x c)),
)

pub contains_at : {X : Type 0} (xs : List X) (i : ℕ) (x : X) → slice_get xs i ≡ Some x → Contains xs x
contains_at xs i x at = (i, slice_get_within xs i x at, get_or_from_slice_get xs i x x at)

pub distinct_places : {X : Type 0} (xs : List X) (i j : ℕ) (x : X) → IsDistinct xs → slice_get xs i ≡ Some x → slice_get xs j ≡ Some x → i ≡ j
distinct_places [] i j x apart left right = absurd (omega (arith, slice_get_within [] i x left))
distinct_places (y ∷ ys) zero zero x apart left right = refl
distinct_places (y ∷ ys) zero (suc j) x apart left right = let same : y ≡ x = cc in absurd (apart.0 (subst (Contains ys) (sym same) (contains_at ys j x right)))
distinct_places (y ∷ ys) (suc i) zero x apart left right = let same : y ≡ x = cc in absurd (apart.0 (subst (Contains ys) (sym same) (contains_at ys i x left)))
distinct_places (y ∷ ys) (suc i) (suc j) x apart left right = ap suc (distinct_places ys i j x apart.1 left right)

-- what comes behind others is none of them
pub distinct_middle : {X : Type 0} (xs ys : List X) (x : X) → IsDistinct (xs ++ x ∷ ys) → Contains xs x → ⊥
distinct_middle [] ys x apart (k, l, e) = absurd (omega arith)
distinct_middle (y ∷ xs) ys x apart c = elim (contains_cases y xs x c) [
  | inl e ↦ apart.0 (subst (Contains (xs ++ x ∷ ys)) (sym e) (Contains-append_right xs (x ∷ ys) x (contains_here x ys)))
  | inr d ↦ distinct_middle xs ys x apart.1 d
]

-- ---- ascending lists

pub nat_cmp_less : (a b : ℕ) → nat_cmp a b ≡ Less → a < b
nat_cmp_less a b less = by (ltb a b) (eqb a b) refl less
  where
    by : (below same : Bool) → ltb a b ≡ below → cond below Less (cond same Equal Greater) ≡ Less → a < b
    by true same is less = ltb-true a b is
    by false true is less = absurd cc
    by false false is less = absurd cc

abbrev pub by_key : {X : Type 0} → (X → ℕ) → X → X → Ordering
by_key key a b = nat_cmp (key a) (key b)

pub sorted_keys : {X : Type 0} (key : X → ℕ) (xs : List X) → IsStrictlySortedBy (by_key key) xs → IsDistinct (map key xs)
unfolding IsStrictlySortedBy
sorted_keys key [] sorted = tt
sorted_keys key (x ∷ xs) sorted = (
  λ c.
      let at = contains_map_from key xs (key x) c in
      let less : key x < key at.from = nat_cmp_less (key x) (key at.from) (each_contained _ xs at.from sorted.0 at.there) in
      absurd (omega (arith, at.is)),
  sorted_keys key xs sorted.1,
)

pub sorted_push : {X : Type 0} (key : X → ℕ) (xs : List X) (x : X) → AllByRecursion (λ y. key y < key x) xs → IsStrictlySortedBy (by_key key) xs
    → IsStrictlySortedBy (by_key key) (xs ++ x ∷ [])
unfolding IsStrictlySortedBy
sorted_push key [] x below sorted = (tt, tt)
sorted_push key (y ∷ ys) x below sorted = (all_push _ ys x sorted.0 (rw (lt-ltb (key y) (key x) below.0) refl), sorted_push key ys x below.1 sorted.1)
