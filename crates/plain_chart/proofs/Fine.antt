-- What is known stays fine, and a closed set of known spans has all that is derived.
use Rattle.std.proofs.Common.{◌≡◌, ℕ, ◌+◌, ◌<◌, ◌≤◌, ◌⊎◌, inl, inr, List, [], ◌∷◌, ◌++◌, length, refl, sym, ◌∙◌, ap, subst, arith, Contains, Bool, true, false}
use Rattle.std.proofs.Common.{◌||◌, add-one, length-append}
use Rattle.std.proofs.lemmas.Bool.{cases_lt}
use Rattle.std.proofs.lemmas.Option.{slice_get_within}
use Rattle.std.proofs.lemmas.List.Elements.{Contains-append_cases, Contains-append_left}
use Rattle.forest.specs.declared.symbols.SymbolId.{SymbolId}
use Rattle.forest.specs.declared.rules.Rule.{Rule}
use Rattle.forest.specs.Derivation.{Derives, DerivesAlong, token, by_rule, done, part, IsNonterminal}
use Rattle.forest.specs.Distinct.{IsDistinct}
use Rattle.forest.proofs.Derivations.{IsClosed, Along, end, more, least}
use Rattle.forest.proofs.Ascending.{contains_cases, contains_there, contains_here}
use Rattle.plain_chart.specs.declared.spans.Span.{Span}
use Rattle.plain_chart.specs.Span.{span}
use Rattle.plain_chart.specs.Known.{IsKnownToDerive, AreKnown, AreDerived, AreSettled, AreFine, ExtendsKnown}

-- what is known so is derived
pub known_derived : (rules : List Rule) (tokens : List SymbolId) (known : List Span) → AreDerived rules tokens known → (x : SymbolId) (i j : ℕ)
    → IsKnownToDerive tokens known x i j → Derives rules tokens x i j
known_derived rules tokens known d x i j (inl t) = subst (λ k. Derives rules tokens x i k) (sym (t.1 ∙ add-one i)) (token t.0)
known_derived rules tokens known d x i j (inr c) = d x i j c

pub known_along : (rules : List Rule) (tokens : List SymbolId) (known : List Span) → AreDerived rules tokens known → (xs : List SymbolId) (i j : ℕ)
    → AreKnown tokens known xs i j → (cuts : List ℕ) × DerivesAlong rules tokens xs i cuts j
known_along rules tokens known d [] i j a = ([], subst (λ k. DerivesAlong rules tokens [] i [] k) a done)
known_along rules tokens known d (x ∷ xs) i j a = let (cuts, rest) = known_along rules tokens known d xs a.0 j a.4 in
    (a.0 ∷ cuts, part (known_derived rules tokens known d x i a.0 a.3) rest)

pub distinct_push : {X : Type 0} (xs : List X) (x : X) → IsDistinct xs → (Contains xs x → ⊥) → IsDistinct (xs ++ x ∷ [])
distinct_push [] x d n = (λ c. absurd (omega (arith, c.1)), tt)
distinct_push (y ∷ ys) x d n = (
  λ c. elim (Contains-append_cases ys (x ∷ []) y c) [
    | inl e ↦ d.0 e
    | inr e ↦ elim (contains_cases x [] y e) [ inl f ↦ n (subst (λ z. Contains (y ∷ ys) z) (sym f) (contains_here y ys)) | inr f ↦ absurd (omega (arith, f.1)) ]
  ],
  distinct_push ys x d.1 (λ c. n (contains_there y ys x c)),
)

pub contains_push : {X : Type 0} (xs : List X) (x z : X) → Contains (xs ++ x ∷ []) z → (x ≡ z) ⊎ Contains xs z
contains_push xs x z c = elim (Contains-append_cases xs (x ∷ []) z c) [
  | inl e ↦ inr e
  | inr e ↦ elim (contains_cases x [] z e) [ inl f ↦ inl f | inr f ↦ absurd (omega (arith, f.1)) ]
]

pub fine_more : (rules : List Rule) (tokens : List SymbolId) (known : List Span) (r : Rule) (i j : ℕ) → AreFine rules tokens known → Contains rules r
    → AreKnown tokens known r.right i j → i ≤ length tokens → j ≤ length tokens → (Contains known (span r.left i j) → ⊥)
    → AreFine rules tokens (known ++ span r.left i j ∷ [])
fine_more rules tokens known r i j f c a li lj n = record {
  derived = λ x a' b' m. elim (contains_push known (span r.left i j) (span x a' b') m) [
    | inl e ↦ subst (λ (s : Span). Derives rules tokens s.symbol s.from s.to) e (by_rule c (known_along rules tokens known f.derived r.right i j a).1)
    | inr m' ↦ f.derived x a' b' m'
  ];
  distinct = distinct_push known (span r.left i j) f.distinct n;
  within = λ s m. elim (contains_push known (span r.left i j) s m) [
    | inl e ↦ subst (λ (t : Span). IsNonterminal rules t.symbol × (t.from ≤ length tokens) × (t.to ≤ length tokens)) e ((r, c, refl), li, lj)
    | inr m' ↦ f.within s m'
  ];
}

-- one more span, which was not known
pub grows_more : (rules : List Rule) (tokens : List SymbolId) (old known : List Span) (x : Bool) (r : Rule) (i j : ℕ) → ExtendsKnown rules tokens old known x
    → Contains rules r → AreKnown tokens known r.right i j → i ≤ length tokens → j ≤ length tokens → (Contains known (span r.left i j) → ⊥)
    → ExtendsKnown rules tokens old (known ++ span r.left i j ∷ []) true
grows_more rules tokens old known x r i j g c a li lj n = record {
  fine = fine_more rules tokens known r i j g.fine c a li lj n;
  kept = λ s m. Contains-append_left known (span r.left i j ∷ []) s (g.kept s m);
  more = λ e. omega (arith, length-append known (span r.left i j ∷ []), longer x refl);
  same = λ e. absurd cc;
}
  where
    longer : (y : Bool) → x ≡ y → length old ≤ length known
    longer true e = omega (arith, g.more e)
    longer false e = let same : length known ≡ length old = ap length (g.same e) in omega arith

pub grows_none : (rules : List Rule) (tokens : List SymbolId) (known : List Span) → AreFine rules tokens known → ExtendsKnown rules tokens known known false
grows_none rules tokens known f = record { fine = f; kept = λ s m. m; more = λ e. absurd cc; same = λ e. refl }

-- what is known stays known
pub known_more : (tokens : List SymbolId) (old new : List Span) → ((s : Span) → Contains old s → Contains new s) → (xs : List SymbolId) (i j : ℕ)
    → AreKnown tokens old xs i j → AreKnown tokens new xs i j
known_more tokens old new f [] i j a = a
known_more tokens old new f (x ∷ xs) i j a = (a.0, a.1, a.2, elim a.3 [ inl t ↦ inl t | inr c ↦ inr (f _ c) ], known_more tokens old new f xs a.0 j a.4)

pub grows_then : (rules : List Rule) (tokens : List SymbolId) (a b c : List Span) (x y : Bool) → ExtendsKnown rules tokens a b x
    → ExtendsKnown rules tokens b c y
    → ExtendsKnown rules tokens a c (x || y)
grows_then rules tokens a b c true y g h = record { fine = h.fine; kept = λ s m. h.kept s (g.kept s m); more = λ e. longer y refl; same = λ e. absurd cc }
  where
    longer : (z : Bool) → y ≡ z → length a < length c
    longer true e = omega (arith, g.more refl, h.more e)
    longer false e = let same : length c ≡ length b = ap length (h.same e) in omega (arith, g.more refl)
grows_then rules tokens a b c false y g h = record {
  fine = h.fine;
  kept = λ s m. h.kept s (g.kept s m);
  more = λ e. let same : length b ≡ length a =
      ap length (g.same refl) in omega (arith, h.more e);
  same = λ e. h.same e ∙ g.same refl;
}

-- one more is settled, if nothing was added
pub settled_more : (P : List Span → ℕ → Type 0) (old new : List Span) (x y : Bool) (n : ℕ) → (y ≡ false → new ≡ old) → (x ≡ false → (i : ℕ) → i < n → P old i)
    → (y ≡ false → P new n) → (x || y) ≡ false → (i : ℕ) → i < n + 1 → P new i
settled_more P old new true y n s before here e i l = absurd cc
settled_more P old new false y n s before here e i l = elim (cases_lt i n) [
  | inl below ↦ subst (λ k. P k i) (sym (s e)) (before refl i below)
  | inr above ↦ subst (λ k. P new k) (let same : n ≡ i = omega arith in same) (here e)
]

pub AreKnown-le : (tokens : List SymbolId) (known : List Span) (xs : List SymbolId) (i j : ℕ) → AreKnown tokens known xs i j → i ≤ j
AreKnown-le tokens known [] i j a = omega arith
AreKnown-le tokens known (x ∷ xs) i j a = omega (arith, a.1, a.2)

-- within the text
IsKnownWithin : List SymbolId → List Span → SymbolId → ℕ → ℕ → Type 0
IsKnownWithin tokens known x i j = i ≤ length tokens → IsKnownToDerive tokens known x i j × (i ≤ j) × (j ≤ length tokens)

known_parts : (tokens : List SymbolId) (known : List Span) (xs : List SymbolId) (i : ℕ) (cuts : List ℕ) (j : ℕ) → Along (IsKnownWithin tokens known) xs i cuts j
    → i ≤ length tokens → AreKnown tokens known xs i j × (i ≤ j) × (j ≤ length tokens)
unfolding IsKnownWithin
known_parts tokens known xs i cuts j end h = (refl, omega arith, h)
known_parts tokens known xs i cuts j (more {xs = ys} {k = k} {cuts = rest} f a) h =
    let here = f h in
    let after = known_parts tokens known ys k rest j a here.2 in
    ((k, here.1, after.1, here.0, after.0), omega (arith, here.1, after.1), after.2)

-- where each rule is settled, what is derived is known
known_closed : (rules : List Rule) (tokens : List SymbolId) (known : List Span) → AreSettled rules tokens known
    → IsClosed rules tokens (IsKnownWithin tokens known)
unfolding IsKnownWithin
known_closed rules tokens known s = record {
  tokens_in = λ i x e h. (inl (e, sym (add-one i)), omega arith, slice_get_within tokens i x e);
  rules_in = λ r i j cuts c a h. let parts = known_parts tokens known r.right i cuts j a h in (inr (s r i j c parts.2 parts.0), parts.1, parts.2);
}

pub known_all : (rules : List Rule) (tokens : List SymbolId) (known : List Span) → AreSettled rules tokens known → (x : SymbolId) (i j : ℕ)
    → Derives rules tokens x i j → i ≤ length tokens → IsKnownToDerive tokens known x i j
unfolding IsKnownWithin
known_all rules tokens known s x i j d h = (least rules tokens (IsKnownWithin tokens known) (known_closed rules tokens known s) d h).0
