-- The splits of a span, rule after rule.
use Rattle.std.proofs.Common.{◌≡◌, ℕ, ◌+◌, ◌<◌, ◌≤◌, inl, inr, List, [], ◌∷◌, ◌++◌, length, map, get_or, refl, sym, ◌∙◌, ap, subst, arith, Contains, slice_get}
use Rattle.std.proofs.Common.{Some}
use Rattle.std.proofs.lemmas.Bool.{cases_lt}
use Rattle.std.proofs.lemmas.Map.Keys.{Less-from_sorted}
use Rattle.std.proofs.lemmas.List.Elements.{Contains-append_cases, Contains-append_left, Contains-append_right}
use Rattle.std.proofs.lemmas.Option.{slice_get_within, slice_get_read, unwrap_or-slice_get}
use Rattle.std.specs.Option.{unwrap_or}
use Rattle.std.specs.Ordering.{nat_cmp, ordering_then}
use Rattle.std.specs.declared.cmp.Ordering.TheVariants.{Less}
use Rattle.std.specs.Cmp.Lexicographic.{slice_cmp}
use Rattle.std.specs.List.{AllByRecursion}
use Rattle.std.specs.List.Sorted.{IsStrictlySortedBy}
use Rattle.forest.specs.declared.symbols.SymbolId.{SymbolId}
use Rattle.forest.specs.declared.rules.Rule.{Rule}
use Rattle.forest.specs.declared.nodes.Split.{Split}
use Rattle.forest.specs.Derivation.{DerivesAlong, done, part}
use Rattle.forest.specs.Orders.{rule_cmp, split_cmp}
use Rattle.forest.proofs.Ascending.{contains_cases, contains_there, contains_here}
use Rattle.forest.proofs.Derivations.{Derives-le, Derives-within, Along-le}
use Rattle.plain_chart.specs.declared.spans.Span.{Span}
use Rattle.plain_chart.specs.Known.{IsWhole}
use Rattle.plain_chart.specs.Cuts.{AreKnownCuts, AreAllCuts, AreSplits, split_of}
use Rattle.plain_chart.proofs.Fine.{known_derived}
use Rattle.plain_chart.proofs.CutLists.{nat_cmp-refl, sorted_append}

-- an element that is read is in the list
pub get_contained : {X : Type 0} (xs : List X) (k : ℕ) (x : X) → slice_get xs k ≡ Some x → get_or xs k x ≡ x
get_contained xs k x e = sym (unwrap_or-slice_get xs k x) ∙ ap (λ o. unwrap_or o x) e

pub contained : {X : Type 0} (xs : List X) (k : ℕ) (x : X) → slice_get xs k ≡ Some x → Contains xs x
contained xs k x e = (k, slice_get_within xs k x e, get_contained xs k x e)

pub at_of : {X : Type 0} (xs : List X) (x : X) (c : Contains xs x) → slice_get xs c.0 ≡ Some x
at_of xs x (k, l, e) = slice_get_read xs (length xs) k x refl l (sym e)

pub map_cases : {X Y : Type 0} (f : X → Y) (xs : List X) (y : Y) → Contains (map f xs) y → (x : X) × (y ≡ f x) × Contains xs x
map_cases f [] y c = absurd (omega (arith, c.1))
map_cases f (x ∷ xs) y c = elim (contains_cases (f x) (map f xs) y c) [
  | inl e ↦ (x, sym e, contains_here x xs)
  | inr d ↦ let (z, e, m) = map_cases f xs y d in (z, e, contains_there x xs z m)
]

pub map_has : {X Y : Type 0} (f : X → Y) (xs : List X) (x : X) → Contains xs x → Contains (map f xs) (f x)
map_has f [] x c = absurd (omega (arith, c.1))
map_has f (z ∷ xs) x c = elim (contains_cases z xs x c) [
  | inl e ↦ subst (λ w. Contains (f z ∷ map f xs) (f w)) e (contains_here (f z) (map f xs))
  | inr d ↦ contains_there (f z) (map f xs) (f x) (map_has f xs x d)
]

same_rule : (r : Rule) (a b : List ℕ) → split_cmp (split_of r a) (split_of r b) ≡ slice_cmp nat_cmp a b
same_rule r a b = ap (λ o. ordering_then o (slice_cmp nat_cmp a b)) (nat_cmp-refl r.number.0)

each_split : (r : Rule) (a : List ℕ) (cuts : List (List ℕ)) → AllByRecursion (λ b. slice_cmp nat_cmp a b ≡ Less) cuts
    → AllByRecursion (λ s. split_cmp (split_of r a) s ≡ Less) (map (split_of r) cuts)
each_split r a [] e = tt
each_split r a (b ∷ cuts) e = (same_rule r a b ∙ e.0, each_split r a cuts e.1)

sorted_splits : (r : Rule) (cuts : List (List ℕ)) → IsStrictlySortedBy (slice_cmp nat_cmp) cuts → IsStrictlySortedBy split_cmp (map (split_of r) cuts)
unfolding IsStrictlySortedBy
sorted_splits r [] s = tt
sorted_splits r (a ∷ cuts) s = (each_split r a cuts s.0, sorted_splits r cuts s.1)

-- rules in order
number_less : (rules : List Rule) (k n : ℕ) (q r : Rule) → IsStrictlySortedBy rule_cmp rules → slice_get rules k ≡ Some q → slice_get rules n ≡ Some r → k < n
    → nat_cmp q.number.0 r.number.0 ≡ Less
number_less rules k n q r sorted at_k at_n l =
    let first : get_or rules k q ≡ q = get_contained rules k q at_k in
    let second : get_or rules n q ≡ r = sym (unwrap_or-slice_get rules n q) ∙ ap (λ o. unwrap_or o q) at_n in
    let less : rule_cmp (get_or rules k q) (get_or rules n q) ≡ Less = Less-from_sorted rule_cmp rules k n q sorted l (slice_get_within rules n r at_n) in
    subst (λ (z : Rule). nat_cmp q.number.0 z.number.0 ≡ Less) second (subst (λ (z : Rule). nat_cmp z.number.0 (get_or rules n q).number.0 ≡ Less) first less)

-- the splits of the first n rules
pub record AreFirst (rules : List Rule) (tokens : List SymbolId) (known : List Span) (s : Span) (n : ℕ) (found : List Split) : Type 0 where
  pub order : IsStrictlySortedBy split_cmp found
  pub within : (split : Split) → Contains found split → (k : ℕ) × (r : Rule) × (cuts : List ℕ) × (k < n) × (slice_get rules k ≡ Some r) × (r.left ≡ s.symbol) ×
      (split ≡ split_of r cuts) × AreKnownCuts tokens known r.right s.from s.to cuts
  pub all : (k : ℕ) (r : Rule) (cuts : List ℕ) → k < n → slice_get rules k ≡ Some r → r.left ≡ s.symbol → AreKnownCuts tokens known r.right s.from s.to cuts
      → Contains found (split_of r cuts)

pub first_none : (rules : List Rule) (tokens : List SymbolId) (known : List Span) (s : Span) → AreFirst rules tokens known s 0 []
unfolding IsStrictlySortedBy
first_none rules tokens known s = record { order = tt; within = λ split c. absurd (omega (arith, c.1)); all = λ k r cuts l. absurd (omega arith) }

module _ (rules : List Rule) (tokens : List SymbolId) (known : List Span) (s : Span) (n : ℕ) (found : List Split)
    (first : AreFirst rules tokens known s n found) (r : Rule) (at_n : slice_get rules n ≡ Some r) where
  -- the rule at n, where it is read again
  same_at : (k : ℕ) (q : Rule) → n ≤ k → k < n + 1 → slice_get rules k ≡ Some q → r ≡ q
  same_at k q lo hi e =
      let same : k ≡ n = omega arith in
      let both : Some r ≡ Some q = sym at_n ∙ subst (λ m. slice_get rules m ≡ Some q) same e in
      ap (λ o. unwrap_or o r) both

  pub first_same : (r.left ≡ s.symbol → ⊥) → AreFirst rules tokens known s (n + 1) found
  first_same other = record {
    order = first.order;
    within = λ split c. let w = first.within split c in (w.0, w.1, w.2, omega (arith, w.3), w.4, w.5, w.6, w.7);
    all = λ k q cuts l e left c. elim (cases_lt k n) [
      | inl below ↦ first.all k q cuts below e left c
      | inr above ↦ absurd (other (ap (λ (z : Rule). z.left) (same_at k q above l e) ∙ left))
    ];
  }

  pub first_more : IsStrictlySortedBy rule_cmp rules → r.left ≡ s.symbol → (cuts : List (List ℕ)) → AreAllCuts tokens known r.right s.from s.to cuts
      → AreFirst rules tokens known s (n + 1) (found ++ map (split_of r) cuts)
  first_more sorted left cuts exact = record {
    order = sorted_append split_cmp found (map (split_of r) cuts) first.order (sorted_splits r cuts exact.order) (λ a b c d.
        let w = first.within a c in
        let (q, e, m) = map_cases (split_of r) cuts b d in
        let less : nat_cmp w.1.number.0 r.number.0 ≡ Less = number_less rules w.0 n w.1 r sorted w.4 at_n w.3 in
        let here : split_cmp (split_of w.1 w.2) (split_of r q) ≡ Less = ap (λ o. ordering_then o (slice_cmp nat_cmp w.2 q)) less in
        rw (w.6, e) here);
    within = λ split c. elim (Contains-append_cases found (map (split_of r) cuts) split c) [
      | inl d ↦ let w = first.within split d in (w.0, w.1, w.2, omega (arith, w.3), w.4, w.5, w.6, w.7)
      | inr d ↦ let (q, e, m) = map_cases (split_of r) cuts split d in (n, r, q, omega arith, at_n, left, e, exact.within q m)
    ];
    all = λ k q p l e other c. elim (cases_lt k n) [
      | inl below ↦ Contains-append_left found (map (split_of r) cuts) (split_of q p) (first.all k q p below e other c)
      | inr above ↦
          let same : r ≡ q = same_at k q above l e in
          let here : AreKnownCuts tokens known r.right s.from s.to p = subst (λ (z : Rule). AreKnownCuts tokens known z.right s.from s.to p) (sym same) c in
          subst (λ (z : Rule). Contains (found ++ map (split_of r) cuts) (split_of z p)) same (Contains-append_right found (map (split_of r) cuts)
          (split_of r p) (map_has (split_of r) cuts p (exact.all p here)))
    ];
  }

module _ (rules : List Rule) (tokens : List SymbolId) (known : List Span) (whole : IsWhole rules tokens known) where
  cuts_along : (xs : List SymbolId) (i j : ℕ) (cuts : List ℕ) → AreKnownCuts tokens known xs i j cuts
      → (ends : List ℕ) × (cuts ≡ i ∷ ends) × DerivesAlong rules tokens xs i ends j
  cuts_along [] i j cuts c = ([], c.1, subst (λ k. DerivesAlong rules tokens [] i [] k) c.0 done)
  cuts_along (x ∷ xs) i j cuts c =
      let (ends, e, along) = cuts_along xs c.0 j c.1 c.6 in
      (c.1, c.4, subst (λ q. DerivesAlong rules tokens (x ∷ xs) i q j) (sym e) (part (known_derived rules tokens known whole.fine.derived x i c.0 c.5) along))

  along_cuts : (xs : List SymbolId) (i : ℕ) (ends : List ℕ) (j : ℕ) → DerivesAlong rules tokens xs i ends j → i ≤ length tokens
      → AreKnownCuts tokens known xs i j (i ∷ ends)
  along_cuts xs i ends j done h = (refl, refl)
  along_cuts xs i ends j (part {x = x} {xs = ys} {k = k} {cuts = rest} d a) h =
      (k, k ∷ rest, Derives-le d, Along-le a, refl, whole.all x i k d h, along_cuts ys k rest j a (Derives-within d h))

  pub first_all : (s : Span) (n : ℕ) (found : List Split) → s.from ≤ length tokens → length rules ≤ n → AreFirst rules tokens known s n found
      → AreSplits rules tokens s found
  first_all s n found begins end first = record {
    order = first.order;
    within = λ split c.
        let w = first.within split c in
        let (ends, e, along) = cuts_along w.1.right s.from s.to w.2 w.7 in
        record {
          rule = w.1;
          live = contained rules w.0 w.1 w.4;
          number = ap (λ (z : Split). z.rule) (sym w.6);
          left = w.5;
          ends = ends;
          cuts =
              ap (λ (z : Split). z.cuts) w.6 ∙ e;
          along = along;
        };
    all = λ split is.
        let cuts = along_cuts is.rule.right s.from is.ends s.to is.along begins in
        let there = first.all is.live.0 is.rule (s.from ∷ is.ends) (omega (arith, is.live.1)) (at_of rules is.rule is.live) is.left cuts in
        let same : split_of is.rule (s.from ∷ is.ends) ≡ split = ap (λ z. let p : Split = record { rule = z; cuts = s.from ∷ is.ends } in p) is.number ∙ ap
        (λ z. let p : Split = record { rule = split.rule; cuts = z } in p) (sym is.cuts) in
        subst (λ z. Contains found z) same there;
  }
