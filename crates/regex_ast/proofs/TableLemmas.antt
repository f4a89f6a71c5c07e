-- Lists of positions, and the rows of a table of them.
use Rattle.std.proofs.Common.{◌≡◌, ℕ, suc, zero, ◌+◌, ◌<◌, ◌≤◌, Bool, true, false, ◌||◌, ◌&&◌, ◌==◌, nat_lt, nat_le, cond, List, [], ◌∷◌, ◌++◌, length}
use Rattle.std.proofs.Common.{slice_index, filter, refl, sym, ap, ◌∙◌, subst, ◌⊎◌, inl, inr, arith, add-one, append-nil, map, slice_index_or, replicate, ◌-◌}
use Rattle.std.proofs.Common.{if◌then◌else◌}
use Rattle.std.proofs.lemmas.List.{map-append, length-replicate}
use Rattle.std.specs.List.Sorted.{IsStrictlyIncreasing}
use Rattle.std.proofs.lemmas.Bool.{eqb-true, eq-eqb, and_parts, and_from, or_cases, false≢true, lt-ltb, ltb-true, le-leb, cases_Bool}
use Rattle.regex_ast.specs.Bytes.{has, numbers_from, only}
use Rattle.regex_ast.specs.Expressions.{Expression, sequence, star, class_count, classes_of}
use Rattle.regex_ast.specs.Matching.{IsMarkedWord}
use Rattle.regex_ast.specs.Positions.{Begins, Ends, Succeeds, ListsExactly, IsTableOf, ArePositionsOf, ArePositionsOfLiteral}
use Rattle.regex_ast.proofs.MarkLemmas.{length-classes_of}
use Rattle.regex_ast.proofs.LinkLemmas.{nullable-true, from-nullable, firsts-true, from-firsts, firsts-lt, lasts-true, from-lasts, lasts-lt, follows-true}
use Rattle.regex_ast.proofs.LinkLemmas.{from-follows, follows-lt}
use Rattle.regex_ast.specs.Links.{nullable, firsts, lasts, follows, next_below}
use Rattle.regex_ast.proofs.SetLemmas.{has-filter, has-numbers_from, has-bytes_where}

numbers_from-more : (n k : ℕ) → numbers_from n (suc k) ≡ numbers_from n k ++ (n + k) ∷ []
numbers_from-more n zero = let e : n ≡ n + 0 = omega arith in ap (λ m. m ∷ []) e
numbers_from-more n (suc k) = let e : suc n + k ≡ n + suc k = omega arith in
    ap (λ t. n ∷ t) (numbers_from-more (suc n) k ∙ ap (λ m. numbers_from (suc n) k ++ m ∷ []) e)

filter-append : (t : ℕ → Bool) (xs ys : List ℕ) → filter t (xs ++ ys) ≡ filter t xs ++ filter t ys
filter-append t [] ys = refl
filter-append t (x ∷ xs) ys = go (t x) (filter-append t xs ys) where
  go : (b : Bool) → filter t (xs ++ ys) ≡ filter t xs ++ filter t ys → cond b (x ∷ filter t (xs ++ ys)) (filter t (xs ++ ys)) ≡ cond b (x ∷ filter t xs)
      (filter t xs) ++ filter t ys
  go true e = ap (λ r. x ∷ r) e
  go false e = e

numbers_upto : (k : ℕ) → numbers_from 0 (k + 1) ≡ numbers_from 0 k ++ k ∷ []
numbers_upto k =
    let e : 0 + k ≡ k = omega arith in
    ap (λ m. numbers_from 0 m) (add-one k) ∙ numbers_from-more 0 k ∙ ap (λ m. numbers_from 0 k ++ m ∷ []) e

one_in : (t : ℕ → Bool) (k : ℕ) → t k ≡ true → filter t (k ∷ []) ≡ k ∷ []
one_in t k e = ap (λ b. cond b (k ∷ []) []) e

one_out : (t : ℕ → Bool) (k : ℕ) → t k ≡ false → filter t (k ∷ []) ≡ []
one_out t k e = ap (λ b. cond b (k ∷ []) []) e

-- the next number passes the test
pub below_in : (t : ℕ → Bool) (k : ℕ) → t k ≡ true → filter t (numbers_from 0 (k + 1)) ≡ filter t (numbers_from 0 k) ++ k ∷ []
below_in t k e = ap (λ xs. filter t xs) (numbers_upto k) ∙ filter-append t (numbers_from 0 k) (k ∷ []) ∙ ap (λ r. filter t (numbers_from 0 k) ++ r)
    (one_in t k e)

pub below_out : (t : ℕ → Bool) (k : ℕ) → t k ≡ false → filter t (numbers_from 0 (k + 1)) ≡ filter t (numbers_from 0 k)
below_out t k e =
    ap (λ xs. filter t xs) (numbers_upto k) ∙ filter-append t (numbers_from 0 k) (k ∷ []) ∙ ap (λ r. filter t (numbers_from 0 k) ++ r) (one_out t k e)
    ∙ append-nil (filter t (numbers_from 0 k))

-- ---- the rows of a table
pub has-only : (n p : ℕ) → n < 256 → has (only n) p ≡ (p == n)
has-only n p small = has-bytes_where (λ b. b == n) p ∙ go (cases_Bool (p == n)) where
  go : ((p == n) ≡ true) ⊎ ((p == n) ≡ false) → ((p == n) && nat_lt p 256) ≡ (p == n)
  go (inl e) = let k : p ≡ n = eqb-true p n e in rw e (lt-ltb p 256 (omega arith))
  go (inr e) = rw e refl

turn : (x y z k : Bool) → (((x || y) || z) || k) ≡ (x || ((y || z) || k))
turn true y z k = refl
turn false y z k = refl

pub rows_in_turn : (a b : Expression) (n m q p : ℕ) (x0 x1 x2 x3 la fb : Bool) → x3 ≡ (x2 || (la && fb)) → x2 ≡ (x1 || follows m b q p)
    → x1 ≡ (x0 || follows n a q p)
    → la ≡ lasts n a q → fb ≡ firsts m b p → m ≡ n + class_count a → x3 ≡ (x0 || follows n (sequence a b) q p)
rows_in_turn a b n m q p x0 x1 x2 x3 la fb e2 e1 e0 l f next =
    rw (e2, e1, e0, l, f, next) (turn x0 (follows n a q p) (follows (n + class_count a) b q p) (lasts n a q && firsts (n + class_count a) b p))

assoc : (x y k : Bool) → ((x || y) || k) ≡ (x || (y || k))
assoc true y k = refl
assoc false y k = refl

pub rows_looped : (a : Expression) (n q p : ℕ) (x0 x1 x2 la fa : Bool) → x2 ≡ (x1 || (la && fa)) → x1 ≡ (x0 || follows n a q p) → la ≡ lasts n a q
    → fa ≡ firsts n a p → x2 ≡ (x0 || follows n (star a) q p)
rows_looped a n q p x0 x1 x2 la fa e1 e0 l f = rw (e1, e0, l, f) (assoc x0 (follows n a q p) (lasts n a q && firsts n a p))

-- ---- a list of the numbers below a bound that pass a test
abbrev Rising : ℕ → List ℕ → Type 0
Rising n [] = Unit {0}
Rising n (x ∷ xs) = (n ≤ x) × Rising (suc x) xs

Rising-less : (m n : ℕ) (xs : List ℕ) → m ≤ n → Rising n xs → Rising m xs
Rising-less m n [] h r = tt
Rising-less m n (x ∷ xs) h r = (omega (arith, r.0), r.1)

Rising-filter : (t : ℕ → Bool) (n k : ℕ) → Rising n (filter t (numbers_from n k))
Rising-filter t n zero = tt
Rising-filter t n (suc k) = go (t n) (Rising-filter t (suc n) k) where
  go : (b : Bool) → Rising (suc n) (filter t (numbers_from (suc n) k))
      → Rising n (cond b (n ∷ filter t (numbers_from (suc n) k)) (filter t (numbers_from (suc n) k)))
  go true r = (omega arith, r)
  go false r = Rising-less n (suc n) (filter t (numbers_from (suc n) k)) (omega arith) r

increasing : (n : ℕ) (xs : List ℕ) → Rising n xs → (k : ℕ) → suc k < length xs → slice_index xs k < slice_index xs (suc k)
increasing n [] r k h = absurd (omega arith)
increasing n (x ∷ []) r k h = absurd (omega arith)
increasing n (x ∷ y ∷ xs) r zero h = omega (arith, r.1.0)
increasing n (x ∷ y ∷ xs) r (suc k) h = increasing (suc x) (y ∷ xs) r.1 k (omega arith)

pub ascends : (t : ℕ → Bool) (k : ℕ) → IsStrictlyIncreasing (filter t (numbers_from 0 k))
ascends t k = λ i h.
    subst (λ j. slice_index (filter t (numbers_from 0 k)) i < slice_index (filter t (numbers_from 0 k)) j) (sym (add-one i))
    (increasing 0 (filter t (numbers_from 0 k)) (Rising-filter t 0 k) i (subst (λ j. j < length (filter t (numbers_from 0 k))) (add-one i) h))

pub map-more : (f : ℕ → List ℕ) (k : ℕ) → map f (numbers_from 0 (k + 1)) ≡ map f (numbers_from 0 k) ++ f k ∷ []
map-more f k = ap (λ xs. map f xs) (numbers_upto k) ∙ map-append f (numbers_from 0 k) (k ∷ [])

get_or-map : (f : List ℕ → List ℕ) (rows : List (List ℕ)) (q : ℕ) → q < length rows → slice_index_or (map f rows) q [] ≡ f (slice_index_or rows q [])
get_or-map f [] q h = absurd (omega arith)
get_or-map f (r ∷ rows) zero h = refl
get_or-map f (r ∷ rows) (suc q) h = get_or-map f rows q (omega arith)

-- the numbers below k that pass t are those with P
pub lists_exactly : (t : ℕ → Bool) (P : ℕ → Type 0) (k : ℕ) → ((p : ℕ) → t p ≡ true → P p) → ((p : ℕ) → P p → (t p ≡ true) × (p < k))
    → ListsExactly P (filter t (numbers_from 0 k))
lists_exactly t P k gives needs = record {
  ascending = ascends t k;
  members = λ p. (
    (λ h. gives p (and_parts (t p) (has (numbers_from 0 k) p) (sym (has-filter t (numbers_from 0 k) p) ∙ h)).0),
    (λ h. has-filter t (numbers_from 0 k) p ∙ and_from (t p) (has (numbers_from 0 k) p) (needs p h).0
        (has-numbers_from 0 k p ∙ and_from (nat_le 0 p) (nat_lt p (0 + k)) (le-leb 0 p (omega arith)) (lt-ltb p (0 + k) (omega (arith, (needs p h).1))))),
  );
}

-- what is computed part by part is the table of the expression
pub table_of_links : (e : Expression) (count : ℕ) → class_count e ≡ count → (nil : Bool) → nil ≡ nullable e → (first last : List ℕ) (rows : List (List ℕ))
    → length rows ≡ count
    → ((p : ℕ) → has first p ≡ firsts 0 e p) → ((p : ℕ) → has last p ≡ lasts 0 e p)
    → ((q p : ℕ) → q < count → has (slice_index_or rows q []) p ≡ follows 0 e q p)
    → ArePositionsOf e (record {
      nullable = nil;
      first = filter (has first) (numbers_from 0 count);
      last = filter (has last) (numbers_from 0 count);
      follow =
          map (λ r. filter (has r) (numbers_from 0 count)) rows;
      classes = classes_of e;
    })
table_of_links e count fits nil is first last rows long f l r = record {
  classes = refl;
  nullable = ((λ h. from-nullable 0 e (sym is ∙ h)), (λ h. is ∙ nullable-true 0 e h));
  first = lists_exactly (has first) (Begins (IsMarkedWord e)) count
      (λ p h. from-firsts 0 e p (sym (f p) ∙ h))
      (λ p h. let k = firsts-true 0 e p h.0 h.1 in (f p ∙ k, omega (arith, (firsts-lt 0 e p k).1)));
  last = lists_exactly (has last) (Ends (IsMarkedWord e)) count
      (λ p h. from-lasts 0 e p (sym (l p) ∙ h))
      (λ p h. let k = lasts-true 0 e p h.0 h.1 in (l p ∙ k, omega (arith, (lasts-lt 0 e p k).1)));
  follow = λ q h.
      let below : q < count = omega (arith, length-classes_of e) in
      subst (λ xs. ListsExactly (Succeeds (IsMarkedWord e) q) xs) (sym (get_or-map (λ r. filter (has r) (numbers_from 0 count)) rows q (omega arith)))
      (lists_exactly (has (slice_index_or rows q [])) (Succeeds (IsMarkedWord e) q) count
      (λ p k. from-follows 0 e q p (sym (r q p below) ∙ k))
      (λ p k. let m = follows-true 0 e q p k.0 k.1 k.2 in (r q p below ∙ m, omega (arith, follows-lt 0 e q p m))));
}

-- ---- a literal
no_cons : {x : ℕ} {xs : List ℕ} → x ∷ xs ≡ [] → ⊥
no_cons e = cc

no_pair : {x y : ℕ} {xs : List ℕ} → x ∷ y ∷ xs ≡ [] → ⊥
no_pair e = cc

no_second : {x y n : ℕ} {xs : List ℕ} → x ∷ y ∷ xs ≡ n ∷ [] → ⊥
no_second e = cc

no_rest : {p x y : ℕ} {xs : List ℕ} → p ∷ [] ≡ x ∷ y ∷ xs → ⊥
no_rest e = cc

no_snoc : (f : List ℕ) (p : ℕ) → f ++ p ∷ [] ≡ [] → ⊥
no_snoc [] p e = cc
no_snoc (x ∷ f) p e = cc

has_own : (n : ℕ) → has (n ∷ []) n ≡ true
has_own n = rw (eq-eqb n n refl) refl

ap2 : {A B C : Type 0} (f : A → B → C) {a a' : A} {b b' : B} → a ≡ a' → b ≡ b' → f a b ≡ f a' b'
ap2 f {a} {a'} {b} {b'} p q = ap (λ x. f x b) p ∙ ap (λ y. f a' y) q

one_number : (n p : ℕ) → has (n ∷ []) p ≡ true → n ≡ p
one_number n p h = eqb-true n p (elim (or_cases (n == p) false h) [ inl e ↦ e | inr e ↦ absurd (false≢true e) ])

one_increasing : (n : ℕ) → IsStrictlyIncreasing (n ∷ [])
one_increasing n = λ k h. absurd (omega arith)

none_increasing : IsStrictlyIncreasing []
none_increasing = λ k h. absurd (omega arith)

lists_one : (n : ℕ) (P : ℕ → Type 0) → P n → ((p : ℕ) → P p → n ≡ p) → ListsExactly P (n ∷ [])
lists_one n P here alone = record {
  ascending = one_increasing n;
  members = λ p. ((λ h. subst P (one_number n p h) here), (λ h. subst (λ k. has (n ∷ []) k ≡ true) (alone p h) (has_own n)));
}

lists_none : (P : ℕ → Type 0) → ((p : ℕ) → P p → ⊥) → ListsExactly P []
lists_none P none = record { ascending = none_increasing; members = λ p. ((λ h. absurd (false≢true h)), (λ h. absurd (none p h))) }

-- the numbers from n on, with p directly after q
pub pair-numbers : (f : List ℕ) (q p : ℕ) (r : List ℕ) (n k : ℕ) → f ++ q ∷ p ∷ r ≡ numbers_from n k → (p ≡ q + 1) × (p < n + k)
pair-numbers [] q p r n zero e = absurd (no_pair e)
pair-numbers [] q p r n (suc zero) e = absurd (no_second e)
pair-numbers [] q p r n (suc (suc k)) e = let a : q ≡ n = cc in let b : p ≡ suc n = cc in (omega arith, omega arith)
pair-numbers (x ∷ f) q p r n zero e = absurd (no_cons e)
pair-numbers (x ∷ f) q p r n (suc k) e =
    let rest : f ++ q ∷ p ∷ r ≡ numbers_from (suc n) k = cc in let m = pair-numbers f q p r (suc n) k rest in (m.0, omega (arith, m.1))

pub last-numbers : (f : List ℕ) (p n k : ℕ) → f ++ p ∷ [] ≡ numbers_from n (suc k) → p ≡ n + k
last-numbers [] p n zero e = let a : p ≡ n = cc in omega arith
last-numbers [] p n (suc k) e = absurd (no_rest e)
last-numbers (x ∷ f) p n zero e = let a : f ++ p ∷ [] ≡ [] = cc in absurd (no_snoc f p a)
last-numbers (x ∷ f) p n (suc k) e = let a : f ++ p ∷ [] ≡ numbers_from (suc n) (suc k) = cc in omega (arith, last-numbers f p (suc n) k a)

split-numbers : (n q k : ℕ) → suc q < k → (f : List ℕ) × (r : List ℕ) × (f ++ (n + q) ∷ (n + suc q) ∷ r ≡ numbers_from n k)
split-numbers n q zero h = absurd (omega arith)
split-numbers n q (suc zero) h = absurd (omega arith)
split-numbers n zero (suc (suc k)) h = (
  [],
  numbers_from (suc (suc n)) k,
  let a : n + 0 ≡ n = omega arith in let b : n + suc 0 ≡ suc n =
      omega arith in rw (a, b) refl,
)
split-numbers n (suc q) (suc (suc k)) h =
    let m = split-numbers (suc n) q (suc k) (omega arith) in
    let a : n + suc q ≡ suc n + q = omega arith in let b : n + suc (suc q) ≡ suc n + suc q = omega arith in
    (n ∷ m.0, m.1, ap (λ t. n ∷ t) (ap2 (λ x y. m.0 ++ x ∷ y ∷ m.1) a b ∙ m.2))

pub length_only : (bytes : List ℕ) → length (map only bytes) ≡ length bytes
length_only [] = refl
length_only (b ∷ bytes) = ap suc (length_only bytes)

pub length_rows : (f : ℕ → List ℕ) (n k : ℕ) → length (map f (numbers_from n k)) ≡ k
length_rows f n zero = refl
length_rows f n (suc k) = ap suc (length_rows f (suc n) k)

pub length_lists : (f : List ℕ → List ℕ) (rows : List (List ℕ)) → length (map f rows) ≡ length rows
length_lists f [] = refl
length_lists f (r ∷ rows) = ap suc (length_lists f rows)

none_more : (m : ℕ) → 0 + m ≡ m
none_more m = omega arith

first_number : {p x : ℕ} {w v : List ℕ} → p ∷ w ≡ x ∷ v → x ≡ p
first_number e = cc

row_of_numbers : (f : ℕ → List ℕ) (n k q : ℕ) → q < k → slice_index_or (map f (numbers_from n k)) q [] ≡ f (n + q)
row_of_numbers f n zero q h = absurd (omega arith)
row_of_numbers f n (suc k) zero h = let e : n ≡ n + 0 = omega arith in ap f e
row_of_numbers f n (suc k) (suc q) h = let e : suc n + q ≡ n + suc q = omega arith in row_of_numbers f (suc n) k q (omega arith) ∙ ap f e

-- the words of a literal of m + 1 bytes
abbrev InTurn : ℕ → List ℕ → Type 0
InTurn m w = w ≡ numbers_from 0 (suc m)

next_row : (m q : ℕ) (below : Bool) → below ≡ nat_lt (q + 1) (suc m) → ListsExactly (Succeeds (InTurn m) q) (if below then (q + 1) ∷ [] else [])
next_row m q true e =
    let within : suc q < suc m = omega (arith, ltb-true (q + 1) (suc m) (sym e)) in
    let s = split-numbers 0 q (suc m) within in
    let a : 0 + q ≡ q = omega arith in let b : 0 + suc q ≡ q + 1 = omega arith in
    lists_one (q + 1) (Succeeds (InTurn m) q) (s.0, s.1, sym (ap2 (λ x y. s.0 ++ x ∷ y ∷ s.1) a b) ∙ s.2)
    (λ p h. sym (pair-numbers h.0 q p h.1 0 (suc m) h.2).0)
next_row m q false e =
    lists_none (Succeeds (InTurn m) q) (λ p h. let k = pair-numbers h.0 q p h.1 0 (suc m) h.2 in false≢true (e ∙ lt-ltb (q + 1) (suc m) (omega (
      arith,
      k.0,
      k.1,
    ))))

literal_table : (m : ℕ) (sets : List (List ℕ)) → length sets ≡ suc m
    → IsTableOf (InTurn m) sets (record {
      nullable = false;
      first = 0 ∷ [];
      last = m ∷ [];
      follow = map (next_below (suc m)) (numbers_from 0 (suc m));
      classes =
          sets;
    })
literal_table m sets long = record {
  classes = refl;
  nullable = ((λ h. absurd (false≢true h)), (λ h. absurd (no_cons (sym h))));
  first = lists_one 0 (Begins (InTurn m)) (numbers_from 1 m, refl) (λ p h. first_number h.1);
  last = lists_one m (Ends (InTurn m)) (numbers_from 0 m, sym (numbers_from-more 0 m ∙ ap (λ k. numbers_from 0 m ++ k ∷ []) (none_more m)))
      (λ p h. sym (last-numbers h.0 p 0 m h.1 ∙ none_more m));
  follow = λ q h. subst (λ xs. ListsExactly (Succeeds (InTurn m) q) xs) (sym (row_of_numbers (next_below (suc m)) 0 (suc m) q (omega arith)
      ∙ ap (next_below (suc m)) (none_more q))) (next_row m q (nat_lt (q + 1) (suc m)) refl);
}

-- what is made of a literal is its table
pub table_of_literal : (bytes : List ℕ) → 0 < length bytes → (first last : List ℕ) (follow sets : List (List ℕ))
    → first ≡ 0 ∷ [] → last ≡ (length bytes - 1) ∷ [] → follow ≡ map (next_below (length bytes)) (numbers_from 0 (length bytes)) → sets ≡ map only bytes
    → ArePositionsOfLiteral bytes (record { nullable = false; first = first; last = last; follow = follow; classes = sets })
table_of_literal [] some first last follow sets e1 e2 e3 e4 = absurd (omega arith)
table_of_literal (b ∷ bytes) some first last follow sets e1 e2 e3 e4 =
    let e5 : length bytes ≡ suc (length bytes) - 1 = omega arith in
    rw (e1, e2, e3, e4, ← e5) (literal_table (length bytes) (map only (b ∷ bytes)) (ap suc (length_only bytes)))

row_of_none : (n q p : ℕ) → has (slice_index_or (replicate n []) q []) p ≡ false
row_of_none zero q p = refl
row_of_none (suc n) zero p = refl
row_of_none (suc n) (suc q) p = row_of_none n q p

-- the rows that were empty before
pub rows_from_none : (before rows : List (List ℕ)) (count : ℕ) (e : Expression) → before ≡ replicate count []
    → ((q p : ℕ) → q < length before → has (slice_index_or rows q []) p ≡ (has (slice_index_or before q []) p || follows 0 e q p))
    → (q p : ℕ) → q < count → has (slice_index_or rows q []) p ≡ follows 0 e q p
rows_from_none before rows count e is step q p h =
    step q p (omega (arith, ap length is ∙ length-replicate count [])) ∙ ap (λ b. b || follows 0 e q p) (ap (λ r. has (slice_index_or r q []) p) is
    ∙ row_of_none count q p)

-- what is computed, list by list, is the table of the expression
pub table_is : (e : Expression) (count : ℕ) → class_count e ≡ count → (nil : Bool) → nil ≡ nullable e → (fs ls : List ℕ) (rows : List (List ℕ))
    → length rows ≡ count
    → ((p : ℕ) → has fs p ≡ firsts 0 e p) → ((p : ℕ) → has ls p ≡ lasts 0 e p) → ((q p : ℕ) → q < count → has (slice_index_or rows q []) p ≡ follows 0 e q p)
    → (first last : List ℕ) (follow sets : List (List ℕ))
    → first ≡ filter (has fs) (numbers_from 0 count) → last ≡ filter (has ls) (numbers_from 0 count)
    → follow ≡ map (λ r. filter (has r) (numbers_from 0 count)) rows → sets ≡ classes_of e
    → ArePositionsOf e (record { nullable = nil; first = first; last = last; follow = follow; classes = sets })
table_is e count fits nil is fs ls rows long f l r first last follow sets e1 e2 e3 e4 =
    rw (e1, e2, e3, e4) (table_of_links e count fits nil is fs ls rows long f l r)

pub rows_are : (rows now : List (List ℕ)) (count : ℕ) → now ≡ rows → length rows ≡ count → (lists : List (List ℕ))
    → lists ≡ map (λ r. filter (has r) (numbers_from 0 (length now))) now → lists ≡ map (λ r. filter (has r) (numbers_from 0 count)) rows
rows_are rows now count e long lists h = h ∙ ap2 (λ xs n. map (λ r. filter (has r) (numbers_from 0 n)) xs) e (ap length e ∙ long)
