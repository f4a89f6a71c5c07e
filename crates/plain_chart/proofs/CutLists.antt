-- The cuts of a right side, first by the second cut, then by the rest.
use Rattle.std.proofs.Common.{◌≡◌, ℕ, ◌+◌, ◌<◌, ◌≤◌, inl, inr, List, [], ◌∷◌, ◌++◌, length, map, refl, sym, ◌∙◌, ap, subst, arith, Contains, ◌-◌, take, drop}
use Rattle.std.proofs.Common.{get_or}
use Rattle.std.proofs.lemmas.List.{take_all}
use Rattle.std.specs.Ordering.{nat_cmp, ordering_then}
use Rattle.std.specs.declared.cmp.Ordering.{Ordering}
use Rattle.std.specs.declared.cmp.Ordering.TheVariants.{Less, Equal}
use Rattle.std.specs.Cmp.{nat_cmp_is}
use Rattle.std.specs.Cmp.Lexicographic.{slice_cmp}
use Rattle.std.specs.List.{AllByRecursion}
use Rattle.std.specs.List.Sorted.{IsStrictlySortedBy}
use Rattle.std.proofs.lemmas.Bool.{cases_lt}
use Rattle.std.proofs.lemmas.List.Elements.{Contains-append_cases, Contains-append_left, Contains-append_right}
use Rattle.forest.specs.declared.symbols.SymbolId.{SymbolId}
use Rattle.forest.proofs.Ascending.{contains_cases, contains_there, contains_here}
use Rattle.plain_chart.specs.declared.spans.Span.{Span}
use Rattle.plain_chart.specs.Known.{IsKnownToDerive, AreKnown}
use Rattle.plain_chart.specs.Cuts.{AreKnownCuts, AreAllCuts}

-- lists in order, one after the other
each_append : {X : Type 0} (P : X → Type 0) (xs ys : List X) → AllByRecursion P xs → ((y : X) → Contains ys y → P y) → AllByRecursion P (xs ++ ys)
each_append P [] [] a f = tt
each_append P [] (y ∷ ys) a f = (f y (contains_here y ys), each_append P [] ys tt (λ z c. f z (contains_there y ys z c)))
each_append P (x ∷ xs) ys a f = (a.0, each_append P xs ys a.1 f)

pub sorted_append : {X : Type 0} (R : X → X → Ordering) (xs ys : List X) → IsStrictlySortedBy R xs → IsStrictlySortedBy R ys
    → ((x y : X) → Contains xs x → Contains ys y → R x y ≡ Less) → IsStrictlySortedBy R (xs ++ ys)
unfolding IsStrictlySortedBy
sorted_append R [] ys a b f = b
sorted_append R (x ∷ xs) ys a b f = (
  each_append _ xs ys a.0 (λ y c. f x y (contains_here x xs) c),
  sorted_append R xs ys a.1 b (λ z y c d. f z y (contains_there x xs z c) d),
)

pub nat_cmp-refl : (i : ℕ) → nat_cmp i i ≡ Equal
nat_cmp-refl i = sym (nat_cmp_is i i Equal refl)

pub nat_cmp-less : (i j : ℕ) → i < j → nat_cmp i j ≡ Less
nat_cmp-less i j l = sym (nat_cmp_is i j Less l)

cons_cmp : (i : ℕ) (a b : List ℕ) → slice_cmp nat_cmp (i ∷ a) (i ∷ b) ≡ slice_cmp nat_cmp a b
cons_cmp i a b = ap (λ o. ordering_then o (slice_cmp nat_cmp a b)) (nat_cmp-refl i)

each_map : (i : ℕ) (a : List ℕ) (paths : List (List ℕ)) → AllByRecursion (λ b. slice_cmp nat_cmp a b ≡ Less) paths
    → AllByRecursion (λ b. slice_cmp nat_cmp (i ∷ a) b ≡ Less) (map (λ p. i ∷ p) paths)
each_map i a [] e = tt
each_map i a (q ∷ qs) e = (cons_cmp i a q ∙ e.0, each_map i a qs e.1)

sorted_map : (i : ℕ) (paths : List (List ℕ)) → IsStrictlySortedBy (slice_cmp nat_cmp) paths → IsStrictlySortedBy (slice_cmp nat_cmp) (map (λ p. i ∷ p) paths)
unfolding IsStrictlySortedBy
sorted_map i [] s = tt
sorted_map i (q ∷ qs) s = (each_map i q qs s.0, sorted_map i qs s.1)

contains_map : (node : ℕ) (paths : List (List ℕ)) (path : List ℕ) → Contains (map (λ p. node ∷ p) paths) path
    → (rest : List ℕ) × (path ≡ node ∷ rest) × Contains paths rest
contains_map node [] path c = absurd (omega (arith, c.1))
contains_map node (q ∷ qs) path c = elim (contains_cases (node ∷ q) (map (λ p. node ∷ p) qs) path c) [
  | inl e ↦ (q, sym e, contains_here q qs)
  | inr d ↦ let (rest, f, m) = contains_map node qs path d in (rest, f, contains_there q qs rest m)
]

map_contains : (node : ℕ) (paths : List (List ℕ)) (rest : List ℕ) → Contains paths rest → Contains (map (λ p. node ∷ p) paths) (node ∷ rest)
map_contains node [] rest c = absurd (omega (arith, c.1))
map_contains node (q ∷ qs) rest c = elim (contains_cases q qs rest c) [
  | inl e ↦ subst (λ r. Contains ((node ∷ q) ∷ map (λ p. node ∷ p) qs) (node ∷ r)) e (contains_here (node ∷ q) (map (λ p. node ∷ p) qs))
  | inr d ↦ contains_there (node ∷ q) (map (λ p. node ∷ p) qs) (node ∷ rest) (map_contains node qs rest d)
]

-- the cuts whose second is below middle
pub record AreFront (tokens : List SymbolId) (known : List Span) (x : SymbolId) (xs : List SymbolId) (i j middle : ℕ) (found : List (List ℕ)) : Type 0 where
  pub order : IsStrictlySortedBy (slice_cmp nat_cmp) found
  pub within : (cuts : List ℕ) → Contains found cuts → (k : ℕ) × (rest : List ℕ) × (i ≤ k) × (k ≤ j) × (k < middle) × (cuts ≡ i ∷ rest)
      × IsKnownToDerive tokens known x i k × AreKnownCuts tokens known xs k j rest
  pub all : (k : ℕ) (rest : List ℕ) → i ≤ k → k ≤ j → k < middle → IsKnownToDerive tokens known x i k → AreKnownCuts tokens known xs k j rest
      → Contains found (i ∷ rest)

-- where there are cuts the symbols are known
cuts_known : (tokens : List SymbolId) (known : List Span) (xs : List SymbolId) (i j : ℕ) (cuts : List ℕ) → AreKnownCuts tokens known xs i j cuts
    → AreKnown tokens known xs i j
cuts_known tokens known [] i j cuts a = a.0
cuts_known tokens known (x ∷ xs) i j cuts a = (a.0, a.2, a.3, a.5, cuts_known tokens known xs a.0 j a.1 a.6)

-- cuts begin with their start
cuts_head : (tokens : List SymbolId) (known : List Span) (xs : List SymbolId) (i j : ℕ) (cuts : List ℕ) → AreKnownCuts tokens known xs i j cuts
    → (rest : List ℕ) × (cuts ≡ i ∷ rest)
cuts_head tokens known [] i j cuts a = ([], a.1)
cuts_head tokens known (x ∷ xs) i j cuts a = (a.1, a.4)

pub front_more : (tokens : List SymbolId) (known : List Span) (x : SymbolId) (xs : List SymbolId) (i j middle : ℕ) (found below : List (List ℕ))
    → AreFront tokens known x xs i j middle found → IsKnownToDerive tokens known x i middle → i ≤ middle → middle ≤ j
    → AreAllCuts tokens known xs middle j below
    → AreFront tokens known x xs i j (middle + 1) (found ++ map (λ p. i ∷ p) below)
front_more tokens known x xs i j middle found below f kn lo hi b = record {
  order = sorted_append (slice_cmp nat_cmp) found (map (λ p. i ∷ p) below) f.order (sorted_map i below b.order) (λ a c m n.
      let w = f.within a m in
      let (r, e, d) = contains_map i below c n in
      let (s, g) = cuts_head tokens known xs w.0 j w.1 w.7 in
      let (t, h) = cuts_head tokens known xs middle j r (b.within r d) in
      let first : slice_cmp nat_cmp (w.0 ∷ s) (middle ∷ t) ≡ Less = ap (λ o. ordering_then o (slice_cmp nat_cmp s t)) (nat_cmp-less w.0 middle w.4) in
      let lists : slice_cmp nat_cmp w.1 r ≡ Less = rw (g, h) first in
      rw (w.5, e) (cons_cmp i w.1 r ∙ lists));
  within = λ cuts c. elim (Contains-append_cases found (map (λ p. i ∷ p) below) cuts c) [
    | inl d ↦ let w = f.within cuts d in (w.0, w.1, w.2, w.3, omega (arith, w.4), w.5, w.6, w.7)
    | inr d ↦ let (r, e, m) = contains_map i below cuts d in (middle, r, lo, hi, omega arith, e, kn, b.within r m)
  ];
  all = λ k rest a c l n cuts. elim (cases_lt k middle) [
    | inl less ↦ Contains-append_left found (map (λ p. i ∷ p) below) (i ∷ rest) (f.all k rest a c less n cuts)
    | inr more ↦ let same : k ≡ middle = omega arith in
        Contains-append_right found (map (λ p. i ∷ p) below) (i ∷ rest)
        (map_contains i below rest (b.all rest (subst (λ m. AreKnownCuts tokens known xs m j rest) same cuts)))
  ];
}

pub front_same : (tokens : List SymbolId) (known : List Span) (x : SymbolId) (xs : List SymbolId) (i j middle : ℕ) (found : List (List ℕ))
    → AreFront tokens known x xs i j middle found → (IsKnownToDerive tokens known x i middle → AreKnown tokens known xs middle j → ⊥)
    → AreFront tokens known x xs i j (middle + 1) found
front_same tokens known x xs i j middle found f none = record {
  order = f.order;
  within = λ cuts c. let w = f.within cuts c in (w.0, w.1, w.2, w.3, omega (arith, w.4), w.5, w.6, w.7);
  all = λ k rest a c l n cuts. elim (cases_lt k middle) [
    | inl less ↦ f.all k rest a c less n cuts
    | inr more ↦ let same : k ≡ middle = omega arith in
        absurd (none (subst (λ m. IsKnownToDerive tokens known x i m) same n) (subst (λ m. AreKnown tokens known xs m j) same
        (cuts_known tokens known xs k j rest cuts)))
  ];
}

pub front_none : (tokens : List SymbolId) (known : List Span) (x : SymbolId) (xs : List SymbolId) (i j : ℕ) → AreFront tokens known x xs i j i []
unfolding IsStrictlySortedBy
front_none tokens known x xs i j = record { order = tt; within = λ cuts c. absurd (omega (arith, c.1)); all = λ k rest a c l n cuts. absurd (omega arith) }

pub front_all : (tokens : List SymbolId) (known : List Span) (x : SymbolId) (xs : List SymbolId) (i j middle : ℕ) (found : List (List ℕ))
    → AreFront tokens known x xs i j middle found → j < middle → AreAllCuts tokens known (x ∷ xs) i j found
front_all tokens known x xs i j middle found f l = record {
  order = f.order;
  within = λ cuts c. let w = f.within cuts c in (w.0, w.1, w.2, w.3, w.5, w.6, w.7);
  all = λ cuts a. subst (λ q. Contains found q) (sym a.4) (f.all a.0 a.1 a.2 a.3 (omega (arith, a.3)) a.5 a.6);
}

pub end_one : (tokens : List SymbolId) (known : List Span) (i j : ℕ) → i ≡ j → AreAllCuts tokens known [] i j ((i ∷ []) ∷ [])
unfolding IsStrictlySortedBy
end_one tokens known i j e = record {
  order = (tt, tt);
  within = λ cuts c. elim (contains_cases (i ∷ []) [] cuts c) [ inl f ↦ (e, sym f) | inr d ↦ absurd (omega (arith, d.1)) ];
  all = λ cuts a. subst (λ q. Contains ((i ∷ []) ∷ []) q) (sym a.1) (contains_here (i ∷ []) []);
}

pub end_none : (tokens : List SymbolId) (known : List Span) (i j : ℕ) → (i ≡ j → ⊥) → AreAllCuts tokens known [] i j []
unfolding IsStrictlySortedBy
end_none tokens known i j n = record { order = tt; within = λ cuts c. absurd (omega (arith, c.1)); all = λ cuts a. absurd (n a.0) }

-- a list of at least one, as its first and the rest
pub first_rest : {X : Type 0} (xs : List X) (d : X) → 1 ≤ length xs → xs ≡ get_or xs 0 d ∷ take (length xs - 1) (drop 1 xs)
first_rest [] d l = absurd (omega arith)
first_rest (x ∷ xs) d l = let size : length (x ∷ xs) - 1 ≡ length xs = omega arith in
    ap (λ ys. x ∷ ys) (sym (ap (λ n. take n xs) size ∙ take_all (length xs) xs (omega arith)))
