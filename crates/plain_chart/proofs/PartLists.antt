-- The parts of splits, and the spans that the forest reaches.
use Rattle.std.proofs.Common.{◌≡◌, ℕ, zero, suc, ◌+◌, ◌<◌, ◌≤◌, ◌↔◌, ◌⊎◌, inl, inr, List, [], ◌∷◌, ◌++◌, length, length-append, refl, sym, ◌∙◌, ap, subst}
use Rattle.std.proofs.Common.{append_assoc, arith, Contains, slice_get, Some}
use Rattle.std.proofs.lemmas.Bool.{cases_lt}
use Rattle.std.proofs.lemmas.List.{append-nil}
use Rattle.std.proofs.lemmas.Option.{slice_get_within}
use Rattle.std.proofs.lemmas.List.Elements.{Contains-append_left, Contains-append_right}
use Rattle.forest.specs.declared.symbols.SymbolId.{SymbolId}
use Rattle.forest.specs.declared.symbols.TheConstants.{START}
use Rattle.forest.specs.declared.rules.Rule.{Rule}
use Rattle.forest.specs.Derivation.{Derives, DerivesAlong, done, part, IsNonterminal, AreTerminals}
use Rattle.forest.specs.Distinct.{IsDistinct}
use Rattle.forest.specs.Forests.{IsPart, here, later, InForest, root, part_of}
use Rattle.forest.proofs.Ascending.{contains_cases, contains_there, contains_here}
use Rattle.forest.proofs.Counting.{at_most}
use Rattle.forest.proofs.Derivations.{Derives-le, Derives-within, Along-le}
use Rattle.plain_chart.specs.declared.spans.Span.{Span}
use Rattle.plain_chart.specs.Span.{span}
use Rattle.plain_chart.specs.Known.{IsKnownToDerive, AreKnown, IsWhole}
use Rattle.plain_chart.specs.Parts.{IsPartSpan, IsPartOfSpan, Adds, AreReached}
use Rattle.plain_chart.proofs.Fine.{known_derived, known_along, distinct_push, contains_push}
use Rattle.plain_chart.proofs.SplitLists.{contained, at_of}
use Rattle.plain_chart.proofs.TableLemmas.{some_same}

module _ (known : List Span) where
  -- nothing comes, since all are there
  pub adds_none : (P : Span → Type 0) (old : List Span) → ((s : Span) → Contains known s → P s → Contains old s) → Adds known P old old
  adds_none P old f = record { more = []; grown = sym (append-nil old); distinct = λ d. d; within = λ s c. inl c; all = f }

  pub adds_one : (P : Span → Type 0) (old : List Span) (s : Span) → (Contains old s → ⊥) → Contains known s → P s → ((t : Span) → P t → s ≡ t)
      → Adds known P old (old ++ s ∷ [])
  adds_one P old s new k p f = record {
    more = s ∷ [];
    grown = refl;
    distinct = λ d. distinct_push old s d new;
    within = λ t c. elim (contains_push old s t c) [ inl e ↦ inr (subst (λ q. Contains known q × P q) e (k, p)) | inr m ↦ inl m ];
    all = λ t m q. subst (λ u. Contains (old ++ s ∷ []) u) (f t q) (Contains-append_right old (s ∷ []) s (contains_here s []));
  }

  pub kept : (P : Span → Type 0) (old new : List Span) → Adds known P old new → (s : Span) → Contains old s → Contains new s
  kept P old new a s c = subst (λ q. Contains q s) (sym a.grown) (Contains-append_left old a.more s c)

  -- one after the other
  pub adds_then : (P Q : Span → Type 0) (a b c : List Span) → Adds known P a b → Adds known Q b c → Adds known (λ s. P s ⊎ Q s) a c
  adds_then P Q a b c f g = record {
    more = f.more ++ g.more;
    grown = g.grown ∙ ap (λ q. q ++ g.more) f.grown ∙ append_assoc a f.more g.more;
    distinct = λ d. g.distinct (f.distinct d);
    within = λ s m. elim (g.within s m) [
      | inl n ↦ elim (f.within s n) [ inl o ↦ inl o | inr o ↦ inr (o.0, inl o.1) ]
      | inr n ↦ inr (n.0, inr n.1)
    ];
    all = λ s k p. elim p [ inl q ↦ kept Q b c g s (f.all s k q) | inr q ↦ g.all s k q ];
  }

  pub adds_same : (P Q : Span → Type 0) (a b : List Span) → ((s : Span) → P s → Q s) → ((s : Span) → Q s → P s) → Adds known P a b → Adds known Q a b
  adds_same P Q a b f g h = record {
    more = h.more;
    grown = h.grown;
    distinct = h.distinct;
    within = λ s m. elim (h.within s m) [ inl n ↦ inl n | inr n ↦ inr (n.0, f s n.1) ];
    all = λ s k q. h.all s k (g s q);
  }

-- the parts along cuts whose second is below middle
pub IsFrontSpan : List SymbolId → List Span → SymbolId → List SymbolId → ℕ → ℕ → ℕ → Span → Type 0
IsFrontSpan tokens known x xs i j middle s = (k : ℕ) × (i ≤ k) × (k ≤ j) × (k < middle) × IsKnownToDerive tokens known x i k × AreKnown tokens known xs k j ×
    ((span x i k ≡ s) ⊎ IsPartSpan tokens known xs k j s)

module _ (tokens : List SymbolId) (known : List Span) (x : SymbolId) (xs : List SymbolId) (i j : ℕ) where
  pub adds_front_none : (old : List Span) → Adds known (IsFrontSpan tokens known x xs i j i) old old
  unfolding IsFrontSpan
  adds_front_none old = adds_none known _ old (λ s k p. absurd (omega (arith, p.1, p.3)))

  pub adds_front_more : (middle : ℕ) (a b c d : List Span) → i ≤ middle → middle ≤ j → IsKnownToDerive tokens known x i middle
      → AreKnown tokens known xs middle j
      → Adds known (IsFrontSpan tokens known x xs i j middle) a b → Adds known (λ (s : Span). span x i middle ≡ s) b c
      → Adds known (IsPartSpan tokens known xs middle j) c d → Adds known (IsFrontSpan tokens known x xs i j (middle + 1)) a d
  unfolding IsFrontSpan
  adds_front_more middle a b c d lo hi kn more f g h =
      adds_same known _ _ a d
      (λ s p. elim p [
        | inl q ↦ elim q [
          | inl r ↦ (r.0, r.1, r.2, omega (arith, r.3), r.4, r.5, r.6)
          | inr e ↦ (middle, lo, hi, omega arith, kn, more, inl e)
        ]
        | inr q ↦ (middle, lo, hi, omega arith, kn, more, inr q)
      ])
      (λ s r. elim (cases_lt r.0 middle) [
        | inl below ↦ inl (inl (r.0, r.1, r.2, below, r.4, r.5, r.6))
        | inr above ↦
            let same : r.0 ≡ middle = omega (arith, r.3) in
            elim r.6 [
              | inl e ↦ inl (inr (subst (λ k. span x i k ≡ s) same e))
              | inr q ↦ inr (subst (λ k. IsPartSpan tokens known xs k j s) same q)
            ]
      ])
      (adds_then known _ _ a c d (adds_then known _ _ a b c f g) h)

  pub adds_front_same : (middle : ℕ) (a b : List Span) → (IsKnownToDerive tokens known x i middle → AreKnown tokens known xs middle j → ⊥)
      → Adds known (IsFrontSpan tokens known x xs i j middle) a b → Adds known (IsFrontSpan tokens known x xs i j (middle + 1)) a b
  unfolding IsFrontSpan
  adds_front_same middle a b none f =
      adds_same known _ _ a b
      (λ s r. (r.0, r.1, r.2, omega (arith, r.3), r.4, r.5, r.6))
      (λ s r. elim (cases_lt r.0 middle) [
        | inl below ↦ (r.0, r.1, r.2, below, r.4, r.5, r.6)
        | inr above ↦
            let same : r.0 ≡ middle = omega (arith, r.3) in
            absurd (none (subst (λ k. IsKnownToDerive tokens known x i k) same r.4) (subst (λ k. AreKnown tokens known xs k j) same r.5))
      ])
      f

  pub adds_front_all : (middle : ℕ) (a b : List Span) → j < middle → Adds known (IsFrontSpan tokens known x xs i j middle) a b
      → Adds known (IsPartSpan tokens known (x ∷ xs) i j) a b
  unfolding IsFrontSpan
  adds_front_all middle a b l f =
      adds_same known _ _ a b
      (λ s r. (r.0, r.1, r.2, r.4, r.5, r.6))
      (λ s r. (r.0, r.1, r.2, omega (arith, r.2), r.3, r.4, r.5))
      f

-- the rule at a place, where it is read again
again : (rules : List Rule) (n : ℕ) (r : Rule) → slice_get rules n ≡ Some r → (k : ℕ) (q : Rule) → n ≤ k → k < n + 1 → slice_get rules k ≡ Some q → q ≡ r
again rules n r at k q lo hi e =
    let same : k ≡ n = omega arith in
    some_same q r (sym (subst (λ m. slice_get rules m ≡ Some q) same e) ∙ at)

-- the parts of the first n rules
pub IsBelowFirst : List Rule → List SymbolId → List Span → Span → ℕ → Span → Type 0
IsBelowFirst rules tokens known t n s = (k : ℕ) × (r : Rule) × (k < n) × (slice_get rules k ≡ Some r) × (r.left ≡ t.symbol)
    × IsPartSpan tokens known r.right t.from t.to s

module _ (rules : List Rule) (tokens : List SymbolId) (known : List Span) (t : Span) where
  pub below_none : (old : List Span) → Adds known (IsBelowFirst rules tokens known t 0) old old
  unfolding IsBelowFirst
  below_none old = adds_none known _ old (λ s k p. absurd (omega (arith, p.2)))

  pub below_more : (n : ℕ) (r : Rule) (a b c : List Span) → slice_get rules n ≡ Some r → r.left ≡ t.symbol
      → Adds known (IsBelowFirst rules tokens known t n) a b → Adds known (IsPartSpan tokens known r.right t.from t.to) b c
      → Adds known (IsBelowFirst rules tokens known t (n + 1)) a c
  unfolding IsBelowFirst
  below_more n r a b c at left f g =
      adds_same known _ _ a c
      (λ s p. elim p [
        | inl q ↦ (q.0, q.1, omega (arith, q.2), q.3, q.4, q.5)
        | inr q ↦ (n, r, omega arith, at, left, q)
      ])
      (λ s q. elim (cases_lt q.0 n) [
        | inl less ↦ inl (q.0, q.1, less, q.3, q.4, q.5)
        | inr more ↦ inr (subst (λ (z : Rule). IsPartSpan tokens known z.right t.from t.to s) (again rules n r at q.0 q.1 more q.2 q.3) q.5)
      ])
      (adds_then known _ _ a b c f g)

  pub below_same : (n : ℕ) (r : Rule) (a b : List Span) → slice_get rules n ≡ Some r → (r.left ≡ t.symbol → ⊥)
      → Adds known (IsBelowFirst rules tokens known t n) a b → Adds known (IsBelowFirst rules tokens known t (n + 1)) a b
  unfolding IsBelowFirst
  below_same n r a b at other f =
      adds_same known _ _ a b
      (λ s q. (q.0, q.1, omega (arith, q.2), q.3, q.4, q.5))
      (λ s q. elim (cases_lt q.0 n) [
        | inl less ↦ (q.0, q.1, less, q.3, q.4, q.5)
        | inr more ↦ absurd (other (ap (λ (z : Rule). z.left) (sym (again rules n r at q.0 q.1 more q.2 q.3)) ∙ q.4))
      ])
      f

  pub below_all : (n : ℕ) (a b : List Span) → length rules ≤ n → Adds known (IsBelowFirst rules tokens known t n) a b
      → Adds known (IsPartOfSpan rules tokens known t) a b
  unfolding IsBelowFirst
  below_all n a b end f =
      adds_same known _ _ a b
      (λ s q. record { rule = q.1; live = contained rules q.0 q.1 q.3; left = q.4; part = q.5 })
      (λ s q. (q.live.0, q.rule, omega (arith, q.live.1), at_of rules q.rule q.live, q.left, q.part))
      f

module _ (rules : List Rule) (tokens : List SymbolId) (known : List Span) (whole : IsWhole rules tokens known) where
  along_known : (xs : List SymbolId) (i : ℕ) (ends : List ℕ) (j : ℕ) → DerivesAlong rules tokens xs i ends j → i ≤ length tokens → AreKnown tokens known xs i j
  along_known xs i ends j done h = refl
  along_known xs i ends j (part {x = x} {xs = ys} {k = k} {cuts = rest} d a) h =
      (k, Derives-le d, Along-le a, whole.all x i k d h, along_known ys k rest j a (Derives-within d h))

  -- a part along cuts is a part span, and is derived
  part_span : (xs : List SymbolId) (i : ℕ) (ends : List ℕ) (j : ℕ) (y : SymbolId) (a b : ℕ) → IsPart xs i ends y a b → DerivesAlong rules tokens xs i ends j
      → i ≤ length tokens → IsPartSpan tokens known xs i j (span y a b) × Derives rules tokens y a b × (a ≤ length tokens)
  part_span xs i ends j y a b here (part {x = x} {xs = ys} {k = k} {cuts = rest} d e) h =
      ((k, Derives-le d, Along-le e, whole.all x i k d h, along_known ys k rest j e (Derives-within d h), inl refl), d, h)
  part_span xs i ends j y a b (later p) (part {x = x} {xs = ys} {k = k} {cuts = rest} d e) h =
      let (q, der, l) = part_span ys k rest j y a b p e (Derives-within d h) in
      ((k, Derives-le d, Along-le e, whole.all x i k d h, along_known ys k rest j e (Derives-within d h), inr q), der, l)

  -- and the other way
  span_part : (xs : List SymbolId) (i j : ℕ) (s : Span) → IsPartSpan tokens known xs i j s
      → (ends : List ℕ) × DerivesAlong rules tokens xs i ends j × IsPart xs i ends s.symbol s.from s.to
  span_part [] i j s p = absurd p
  span_part (x ∷ xs) i j s (k, lo, hi, kn, more, which) =
      let first = known_derived rules tokens known whole.fine.derived x i k kn in
      elim which [
        | inl e ↦
            let (ends, along) = known_along rules tokens known whole.fine.derived xs k j more in
            (k ∷ ends, part first along, subst (λ (q : Span). IsPart (x ∷ xs) i (k ∷ ends) q.symbol q.from q.to) e here)
        | inr p ↦
            let (ends, along, is) = span_part xs k j s p in
            (k ∷ ends, part first along, later is)
      ]

  -- a derived span of a nonterminal is known
  pub nonterminal_known : AreTerminals rules tokens → (y : SymbolId) (a b : ℕ) → IsNonterminal rules y → Derives rules tokens y a b → a ≤ length tokens
      → Contains known (span y a b)
  nonterminal_known terminals y a b n d l = elim (whole.all y a b d l) [
    | inl t ↦ absurd (terminals y (contained tokens a y t.0) n)
    | inr c ↦ c
  ]

  -- what is below a span of the forest is in the forest
  pub below_in_forest : (t s : Span) → InForest rules tokens t.symbol t.from t.to → Contains known s → IsPartOfSpan rules tokens known t s
      → InForest rules tokens s.symbol s.from s.to
  below_in_forest t s f k b =
      let (ends, along, is) = span_part b.rule.right t.from t.to s b.part in
      let n = (whole.fine.within s k).0 in
      part_of (subst (λ z. InForest rules tokens z t.from t.to) (sym b.left) f) b.live along is n

  -- a set with the root and all that is below its members has the forest
  pub forest_in : AreTerminals rules tokens → (reached : List Span) → Contains reached (span START 0 (length tokens))
      → ((t : Span) → Contains reached t → t.from ≤ length tokens)
      → ((t s : Span) → Contains reached t → Contains known s → IsPartOfSpan rules tokens known t s → Contains reached s) → (x : SymbolId) (i j : ℕ)
      → InForest rules tokens x i j → Contains reached (span x i j)
  forest_in terminals reached first begins closed x i j root = first
  forest_in terminals reached first begins closed x i j (part_of {r = r} {i = a} {j = b} {cuts = cuts} f c along is n) =
      let above = forest_in terminals reached first begins closed r.left a b f in
      let (p, d, l) = part_span r.right a cuts b x i j is along (begins (span r.left a b) above) in
      closed (span r.left a b) (span x i j) above (nonterminal_known terminals x i j n d l) (record { rule = r; live = c; left = refl; part = p })

-- the element at a place before the end of the first list
pub get_prefix : {X : Type 0} (xs ys : List X) (k : ℕ) (x : X) → k < length xs → slice_get (xs ++ ys) k ≡ Some x → slice_get xs k ≡ Some x
get_prefix [] ys k x l e = absurd (omega arith)
get_prefix (z ∷ zs) ys zero x l e = e
get_prefix (z ∷ zs) ys (suc k) x l e = get_prefix zs ys k x (omega arith) e

-- spans of the forest, of which the first ones have all that is below them in the list
pub record AreReaching (rules : List Rule) (tokens : List SymbolId) (known reached : List Span) (at : ℕ) : Type 0 where
  pub within : (s : Span) → Contains reached s → InForest rules tokens s.symbol s.from s.to
  pub spans : (s : Span) → Contains reached s → (span START 0 (length tokens) ≡ s) ⊎ Contains known s
  pub first : Contains reached (span START 0 (length tokens))
  pub distinct : IsDistinct reached
  pub passed : at ≤ length reached
  pub closed : (k : ℕ) (t s : Span) → k < at → slice_get reached k ≡ Some t → Contains known s → IsPartOfSpan rules tokens known t s → Contains reached s

module _ (rules : List Rule) (tokens : List SymbolId) (known : List Span) (whole : IsWhole rules tokens known) where
  pub reaching_first : AreReaching rules tokens known (span START 0 (length tokens) ∷ []) 0
  reaching_first =
      let only : (s : Span) → Contains (span START 0 (length tokens) ∷ []) s → span START 0 (length tokens) ≡ s =
      λ s c. elim (contains_cases (span START 0 (length tokens)) [] s c) [ inl e ↦ e | inr d ↦ absurd (omega (arith, d.1)) ] in
      record {
        within = λ s c. subst (λ (q : Span). InForest rules tokens q.symbol q.from q.to) (only s c) root;
        spans = λ s c. inl (only s c);
        first = contains_here (span START 0 (length tokens)) [];
        distinct = (λ c. absurd (omega (arith, c.1)), tt);
        passed = omega arith;
        closed = λ k t s l. absurd (omega arith);
      }

  module _ (reached : List Span) (at : ℕ) (inv : AreReaching rules tokens known reached at) where
    pub reaching_ends : (s : Span) → Contains reached s → (s.from ≤ length tokens) × (s.to ≤ length tokens)
    reaching_ends s c = elim (inv.spans s c) [
      | inl e ↦ subst (λ (q : Span). (q.from ≤ length tokens) × (q.to ≤ length tokens)) e (omega arith, omega arith)
      | inr k ↦ let w = whole.fine.within s k in (w.1, w.2)
    ]

    pub reaching_bound : length reached ≤ length known + 1
    reaching_bound =
        let bound : length reached ≤ length (span START 0 (length tokens) ∷ known) = at_most reached (span START 0 (length tokens) ∷ known) inv.distinct
        (λ s c. elim (inv.spans s c) [
          | inl e ↦ subst (λ q. Contains (span START 0 (length tokens) ∷ known) q) e (contains_here (span START 0 (length tokens)) known)
          | inr k ↦ contains_there (span START 0 (length tokens)) known s k
        ]) in
        omega (arith, bound)

    pub reaching_more : (t : Span) (new : List Span) → slice_get reached at ≡ Some t → Adds known (IsPartOfSpan rules tokens known t) reached new
        → AreReaching rules tokens known new (at + 1)
    reaching_more t new get_t a = record {
      within = λ s c. elim (a.within s c) [
        | inl d ↦ inv.within s d
        | inr d ↦ below_in_forest rules tokens known whole t s (inv.within t (contained reached at t get_t)) d.0 d.1
      ];
      spans = λ s c. elim (a.within s c) [ inl d ↦ inv.spans s d | inr d ↦ inr d.0 ];
      first = kept known (IsPartOfSpan rules tokens known t) reached new a (span START 0 (length tokens)) inv.first;
      distinct = a.distinct inv.distinct;
      passed = omega (arith, slice_get_within reached at t get_t, ap length a.grown, length-append reached a.more);
      closed = λ k u s l get c b. elim (cases_lt k at) [
        | inl below ↦
            let old : slice_get (reached ++ a.more) k ≡ Some u = subst (λ q. slice_get q k ≡ Some u) a.grown get in
            let there = get_prefix reached a.more k u (omega (arith, inv.passed)) old in
            kept known (IsPartOfSpan rules tokens known t) reached new a s (inv.closed k u s below there c b)
        | inr above ↦
            let same : k ≡ at = omega arith in
            let old : slice_get (reached ++ a.more) at ≡ Some u = subst (λ q. slice_get q at ≡ Some u) a.grown
            (subst (λ m. slice_get new m ≡ Some u) same get) in
            let there = get_prefix reached a.more at u (slice_get_within reached at t get_t) old in
            let one : u ≡ t = some_same u t (sym there ∙ get_t) in
            a.all s c (subst (λ q. IsPartOfSpan rules tokens known q s) one b)
      ];
    }

    pub reaching_all : AreTerminals rules tokens → length reached ≤ at → AreReached rules tokens reached
    reaching_all terminals end = record {
      within = inv.within;
      all = forest_in rules tokens known whole terminals reached inv.first (λ t c. (reaching_ends t c).0) (λ t s c k b. inv.closed c.0 t s (omega (arith, c.1))
          (at_of reached t c) k b);
    }

part_ends : {rules : List Rule} {tokens : List SymbolId} {xs : List SymbolId} {i : ℕ} {ends : List ℕ} {j : ℕ} {y : SymbolId} {a b : ℕ} → IsPart xs i ends y a b
    → DerivesAlong rules tokens xs i ends j → (a ≤ b) × (b ≤ j)
part_ends here (part d rest) = (Derives-le d, Along-le rest)
part_ends (later p) (part d rest) = part_ends p rest

-- the spans of the forest lie within the text
pub forest_ends : {rules : List Rule} {tokens : List SymbolId} {x : SymbolId} {i j : ℕ} → InForest rules tokens x i j
    → (i ≤ length tokens) × (j ≤ length tokens)
forest_ends root = (omega arith, omega arith)
forest_ends (part_of f c along p n) = let above = forest_ends f in let ends = part_ends p along in
    (omega (arith, ends.0, ends.1, above.1), omega (arith, ends.1, above.1))

-- another list of the same spans
pub reached_same : (rules : List Rule) (tokens : List SymbolId) (reached spans : List Span) → AreReached rules tokens reached
    → ((s : Span) → Contains spans s ↔ Contains reached s) → AreReached rules tokens spans
reached_same rules tokens reached spans a same = record { within = λ s c. a.within s ((same s).0 c); all = λ x i j f. (same (span x i j)).1 (a.all x i j f) }
