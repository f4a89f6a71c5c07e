-- The positions that are computed part by part are those of the marked words.
use Rattle.std.proofs.Common.{◌≡◌, ℕ, ◌+◌, ◌<◌, ◌≤◌, Bool, true, false, ◌||◌, ◌&&◌, List, [], ◌∷◌, ◌++◌, refl, sym, ap, ◌∙◌, subst, ◌⊎◌, inl, inr, arith}
use Rattle.std.proofs.Common.{append_assoc, append-nil}
use Rattle.std.specs.List.{concat, AllByRecursion}
use Rattle.std.proofs.lemmas.Bool.{eqb-true, eq-eqb, and_parts, and_from, or_cases, false≢true}
use Rattle.regex_ast.specs.Expressions.{Expression, class, sequence, choice, star, plus, maybe, class_count}
use Rattle.regex_ast.specs.Matching.{MarksFrom}
use Rattle.regex_ast.specs.Links.{nullable, firsts, lasts, follows}

-- ---- lists that are joined
abbrev Nil : List ℕ → Type 0
Nil [] = Unit {0}
Nil (x ∷ xs) = ⊥

pub nil-append : (u v : List ℕ) → [] ≡ u ++ v → ([] ≡ u) × ([] ≡ v)
nil-append [] v e = (refl, e)
nil-append (x ∷ u) v e = absurd (subst Nil e tt)

pub cons-append : (u v : List ℕ) (p : ℕ) (w : List ℕ) → p ∷ w ≡ u ++ v → (([] ≡ u) × (p ∷ w ≡ v)) ⊎ ((t : List ℕ) × (p ∷ t ≡ u))
cons-append [] v p w e = inl (refl, e)
cons-append (x ∷ u) v p w e = let h : p ≡ x = cc in inr (u, ap (λ k. k ∷ u) h)

pub snoc-append : (u v w : List ℕ) (p : ℕ) → w ++ p ∷ [] ≡ u ++ v → (([] ≡ v) × (w ++ p ∷ [] ≡ u)) ⊎ ((t : List ℕ) × (t ++ p ∷ [] ≡ v))
snoc-append [] v w p e = inr (w, e)
snoc-append (x ∷ u) v [] p e =
    let h : p ≡ x = cc in let k : [] ≡ u ++ v = cc in let parts = nil-append u v k in
    inl (parts.1, ap (λ y. y ∷ []) h ∙ ap (λ t. x ∷ t) parts.0)
snoc-append (x ∷ u) v (y ∷ w) p e =
    let h : y ≡ x = cc in let k : w ++ p ∷ [] ≡ u ++ v = cc in
    elim (snoc-append u v w p k) [
      | inl r ↦ inl (r.0, ap (λ z. z ∷ (w ++ p ∷ [])) h ∙ ap (λ t. x ∷ t) r.1)
      | inr r ↦ inr r
    ]

-- a pair in a join stands in one part, or across them
pub pair-append : (u v f : List ℕ) (q p : ℕ) (r : List ℕ) → f ++ q ∷ p ∷ r ≡ u ++ v
    → ((s : List ℕ) × (t : List ℕ) × (s ++ q ∷ p ∷ t ≡ u)) ⊎ (((s : List ℕ) × (s ++ q ∷ [] ≡ u)) × ((t : List ℕ) × (p ∷ t ≡ v)) ⊎ ((s : List ℕ) × (t : List ℕ)
    × (s ++ q ∷ p ∷ t ≡ v)))
pair-append [] v f q p r e = inr (inr (f, r, e))
pair-append (x ∷ u) v [] q p r e =
    let h : q ≡ x = cc in let k : p ∷ r ≡ u ++ v = cc in
    elim (cons-append u v p r k) [
      | inl n ↦ inr (inl (([], ap (λ y. y ∷ []) h ∙ ap (λ t. x ∷ t) n.0), (r, n.1)))
      | inr n ↦ inl ([], n.0, ap (λ y. y ∷ (p ∷ n.0)) h ∙ ap (λ t. x ∷ t) n.1)
    ]
pair-append (x ∷ u) v (y ∷ f) q p r e =
    let h : y ≡ x = cc in let k : f ++ q ∷ p ∷ r ≡ u ++ v = cc in
    elim (pair-append u v f q p r k) [
      | inl n ↦ inl (y ∷ n.0, n.1, ap (λ z. z ∷ (n.0 ++ q ∷ p ∷ n.1)) h ∙ ap (λ t. x ∷ t) n.2)
      | inr m ↦ elim m [
        | inl n ↦ inr (inl ((y ∷ n.0.0, ap (λ z. z ∷ (n.0.0 ++ q ∷ [])) h ∙ ap (λ t. x ∷ t) n.0.1), n.1))
        | inr n ↦ inr (inr n)
      ]
    ]

snoc_nil : (w : List ℕ) (p : ℕ) → w ++ p ∷ [] ≡ [] → ⊥
snoc_nil [] p e = subst Nil (sym e) tt
snoc_nil (x ∷ w) p e = subst Nil (sym e) tt

pair_nil : (f : List ℕ) (q p : ℕ) (r : List ℕ) → f ++ q ∷ p ∷ r ≡ [] → ⊥
pair_nil [] q p r e = subst Nil (sym e) tt
pair_nil (x ∷ f) q p r e = subst Nil (sym e) tt

only_last : (w : List ℕ) (p n : ℕ) → w ++ p ∷ [] ≡ n ∷ [] → p ≡ n
only_last [] p n e = cc
only_last (x ∷ w) p n e = let k : w ++ p ∷ [] ≡ [] = cc in absurd (snoc_nil w p k)

pair_one : (f : List ℕ) (q p : ℕ) (r : List ℕ) (n : ℕ) → f ++ q ∷ p ∷ r ≡ n ∷ [] → ⊥
pair_one [] q p r n e = let k : p ∷ r ≡ [] = cc in subst Nil (sym k) tt
pair_one (x ∷ f) q p r n e = let k : f ++ q ∷ p ∷ r ≡ [] = cc in pair_nil f q p r k

two_pieces : (s : List ℕ) (q p : ℕ) (t : List ℕ) → s ++ q ∷ p ∷ t ≡ (s ++ q ∷ []) ++ ((p ∷ t) ++ [])
two_pieces s q p t = sym (append_assoc s (q ∷ []) (p ∷ t)) ∙ ap (λ k. (s ++ q ∷ []) ++ k) (sym (append-nil (p ∷ t)))

or_left : (a b : Bool) → a ≡ true → (a || b) ≡ true
or_left a b e = subst (λ k. (k || b) ≡ true) (sym e) refl

or_right : (a b : Bool) → b ≡ true → (a || b) ≡ true
or_right true b e = refl
or_right false b e = e

-- ---- pieces that are joined
pub first_in_pieces : (P : List ℕ → Type 0) (ws : List (List ℕ)) (p : ℕ) (w : List ℕ) → AllByRecursion P ws → p ∷ w ≡ concat ws → (t : List ℕ) × P (p ∷ t)
first_in_pieces P [] p w all e = absurd (subst Nil (sym e) tt)
first_in_pieces P (u ∷ ws) p w all e =
    elim (cons-append u (concat ws) p w e) [
      | inl n ↦ first_in_pieces P ws p w all.1 n.1
      | inr n ↦ (n.0, subst P (sym n.1) all.0)
    ]

pub last_in_pieces : (P : List ℕ → Type 0) (ws : List (List ℕ)) (w : List ℕ) (p : ℕ) → AllByRecursion P ws → w ++ p ∷ [] ≡ concat ws
    → (t : List ℕ) × P (t ++ p ∷ [])
last_in_pieces P [] w p all e = absurd (snoc_nil w p e)
last_in_pieces P (u ∷ ws) w p all e =
    elim (snoc-append u (concat ws) w p e) [
      | inl n ↦ (w, subst P (sym n.1) all.0)
      | inr n ↦ last_in_pieces P ws n.0 p all.1 n.1
    ]

pub pair_in_pieces : (P : List ℕ → Type 0) (ws : List (List ℕ)) (f : List ℕ) (q p : ℕ) (r : List ℕ) → AllByRecursion P ws → f ++ q ∷ p ∷ r ≡ concat ws
    → ((s : List ℕ) × (t : List ℕ) × P (s ++ q ∷ p ∷ t)) ⊎ (((s : List ℕ) × P (s ++ q ∷ [])) × ((t : List ℕ) × P (p ∷ t)))
pair_in_pieces P [] f q p r all e = absurd (pair_nil f q p r e)
pair_in_pieces P (u ∷ ws) f q p r all e =
    elim (pair-append u (concat ws) f q p r e) [
      | inl n ↦ inl (n.0, n.1, subst P (sym n.2) all.0)
      | inr m ↦ elim m [
        | inl n ↦ inr ((n.0.0, subst P (sym n.0.1) all.0), first_in_pieces P ws p n.1.0 all.1 n.1.1)
        | inr n ↦ pair_in_pieces P ws n.0 q p n.1 all.1 n.2
      ]
    ]

-- ---- each expression has a marked word
pub some_word : (n : ℕ) (e : Expression) → (w : List ℕ) × MarksFrom n e w
some_word n (class set) = (n ∷ [], refl)
some_word n (sequence a b) = let x = some_word n a in let y = some_word (n + class_count a) b in (x.0 ++ y.0, (x.0, y.0, x.1, y.1, refl))
some_word n (choice a b) = let x = some_word n a in (x.0, inl x.1)
some_word n (star a) = ([], ([], tt, refl))
some_word n (plus a) = let x = some_word n a in (x.0 ++ [], (x.0, [], (x.1, tt), refl))
some_word n (maybe a) = ([], inl refl)

-- ---- nullable
pub nullable-true : (n : ℕ) (e : Expression) → MarksFrom n e [] → nullable e ≡ true
nullable-true n (class set) h = absurd (subst Nil h tt)
nullable-true n (sequence a b) h =
    let parts = nil-append h.0 h.1 h.4 in
    and_from (nullable a) (nullable b) (nullable-true n a (subst (MarksFrom n a) (sym parts.0) h.2))
    (nullable-true (n + class_count a) b (subst (MarksFrom (n + class_count a) b) (sym parts.1) h.3))
nullable-true n (choice a b) (inl h) = or_left (nullable a) (nullable b) (nullable-true n a h)
nullable-true n (choice a b) (inr h) = or_right (nullable a) (nullable b) (nullable-true (n + class_count a) b h)
nullable-true n (star a) h = refl
nullable-true n (plus a) h = nullable-true n a (subst (MarksFrom n a) (sym (nil-append h.0 (concat h.1) h.3).0) h.2.0)
nullable-true n (maybe a) h = refl

pub from-nullable : (n : ℕ) (e : Expression) → nullable e ≡ true → MarksFrom n e []
from-nullable n (class set) h = absurd (false≢true h)
from-nullable n (sequence a b) h =
    let parts = and_parts (nullable a) (nullable b) h in ([], [], from-nullable n a parts.0, from-nullable (n + class_count a) b parts.1, refl)
from-nullable n (choice a b) h =
    elim (or_cases (nullable a) (nullable b) h) [ inl k ↦ inl (from-nullable n a k) | inr k ↦ inr (from-nullable (n + class_count a) b k) ]
from-nullable n (star a) h = ([], tt, refl)
from-nullable n (plus a) h = ([], [], (from-nullable n a h, tt), refl)
from-nullable n (maybe a) h = inl refl

-- ---- first
pub firsts-true : (n : ℕ) (e : Expression) (p : ℕ) (w : List ℕ) → MarksFrom n e (p ∷ w) → firsts n e p ≡ true
firsts-true n (class set) p w h = let k : p ≡ n = cc in eq-eqb p n k
firsts-true n (sequence a b) p w h =
    elim (cons-append h.0 h.1 p w h.4) [
      | inl k ↦ or_right (firsts n a p) _ (and_from (nullable a) _ (nullable-true n a (subst (MarksFrom n a) (sym k.0) h.2))
          (firsts-true (n + class_count a) b p w (subst (MarksFrom (n + class_count a) b) (sym k.1) h.3)))
      | inr k ↦ or_left (firsts n a p) _ (firsts-true n a p k.0 (subst (MarksFrom n a) (sym k.1) h.2))
    ]
firsts-true n (choice a b) p w (inl h) = or_left (firsts n a p) _ (firsts-true n a p w h)
firsts-true n (choice a b) p w (inr h) = or_right (firsts n a p) _ (firsts-true (n + class_count a) b p w h)
firsts-true n (star a) p w h = let k = first_in_pieces (MarksFrom n a) h.0 p w h.1 h.2 in firsts-true n a p k.0 k.1
firsts-true n (plus a) p w h = let k = first_in_pieces (MarksFrom n a) (h.0 ∷ h.1) p w h.2 h.3 in firsts-true n a p k.0 k.1
firsts-true n (maybe a) p w (inl h) = absurd (subst Nil (sym h) tt)
firsts-true n (maybe a) p w (inr h) = firsts-true n a p w h

pub from-firsts : (n : ℕ) (e : Expression) (p : ℕ) → firsts n e p ≡ true → (w : List ℕ) × MarksFrom n e (p ∷ w)
from-firsts n (class set) p h = ([], ap (λ k. k ∷ []) (eqb-true p n h))
from-firsts n (sequence a b) p h =
    elim (or_cases (firsts n a p) _ h) [
      | inl k ↦ (let x = from-firsts n a p k in let y = some_word (n + class_count a) b in (x.0 ++ y.0, (p ∷ x.0, y.0, x.1, y.1, refl)))
      | inr k ↦ (let parts = and_parts (nullable a) _ k in let y = from-firsts (n + class_count a) b p parts.1 in (
        y.0,
        (
          [],
          p ∷ y.0,
          from-nullable n a parts.0,
          y.1,
          refl,
        ),
      ))
    ]
from-firsts n (choice a b) p h =
    elim (or_cases (firsts n a p) _ h) [
      | inl k ↦ (let x = from-firsts n a p k in (x.0, inl x.1))
      | inr k ↦ (let y = from-firsts (n + class_count a) b p k in (y.0, inr y.1))
    ]
from-firsts n (star a) p h = let x = from-firsts n a p h in (x.0, ((p ∷ x.0) ∷ [], (x.1, tt), sym (append-nil (p ∷ x.0))))
from-firsts n (plus a) p h = let x = from-firsts n a p h in (x.0, (p ∷ x.0, [], (x.1, tt), sym (append-nil (p ∷ x.0))))
from-firsts n (maybe a) p h = let x = from-firsts n a p h in (x.0, inr x.1)

-- ---- last
pub lasts-true : (n : ℕ) (e : Expression) (p : ℕ) (w : List ℕ) → MarksFrom n e (w ++ p ∷ []) → lasts n e p ≡ true
lasts-true n (class set) p w h = eq-eqb p n (only_last w p n h)
lasts-true n (sequence a b) p w h =
    elim (snoc-append h.0 h.1 w p h.4) [
      | inl k ↦ or_right (lasts (n + class_count a) b p) _ (and_from (nullable b) _ (nullable-true (n + class_count a) b
          (subst (MarksFrom (n + class_count a) b) (sym k.0) h.3)) (lasts-true n a p w (subst (MarksFrom n a) (sym k.1) h.2)))
      | inr k ↦ or_left (lasts (n + class_count a) b p) _ (lasts-true (n + class_count a) b p k.0 (subst (MarksFrom (n + class_count a) b) (sym k.1) h.3))
    ]
lasts-true n (choice a b) p w (inl h) = or_left (lasts n a p) _ (lasts-true n a p w h)
lasts-true n (choice a b) p w (inr h) = or_right (lasts n a p) _ (lasts-true (n + class_count a) b p w h)
lasts-true n (star a) p w h = let k = last_in_pieces (MarksFrom n a) h.0 w p h.1 h.2 in lasts-true n a p k.0 k.1
lasts-true n (plus a) p w h = let k = last_in_pieces (MarksFrom n a) (h.0 ∷ h.1) w p h.2 h.3 in lasts-true n a p k.0 k.1
lasts-true n (maybe a) p w (inl h) = absurd (snoc_nil w p h)
lasts-true n (maybe a) p w (inr h) = lasts-true n a p w h

pub from-lasts : (n : ℕ) (e : Expression) (p : ℕ) → lasts n e p ≡ true → (w : List ℕ) × MarksFrom n e (w ++ p ∷ [])
from-lasts n (class set) p h = ([], ap (λ k. k ∷ []) (eqb-true p n h))
from-lasts n (sequence a b) p h =
    elim (or_cases (lasts (n + class_count a) b p) _ h) [
      | inl k ↦ (let x = some_word n a in let y = from-lasts (n + class_count a) b p k in (
        x.0 ++ y.0,
        (
          x.0,
          y.0 ++ p ∷ [],
          x.1,
          y.1,
          append_assoc x.0 y.0 (p ∷ []),
        ),
      ))
      | inr k ↦ (let parts = and_parts (nullable b) _ k in let x =
          from-lasts n a p parts.1 in (x.0, (x.0 ++ p ∷ [], [], x.1, from-nullable (n + class_count a) b parts.0, sym (append-nil (x.0 ++ p ∷ [])))))
    ]
from-lasts n (choice a b) p h =
    elim (or_cases (lasts n a p) _ h) [
      | inl k ↦ (let x = from-lasts n a p k in (x.0, inl x.1))
      | inr k ↦ (let y = from-lasts (n + class_count a) b p k in (y.0, inr y.1))
    ]
from-lasts n (star a) p h = let x = from-lasts n a p h in (x.0, ((x.0 ++ p ∷ []) ∷ [], (x.1, tt), sym (append-nil (x.0 ++ p ∷ []))))
from-lasts n (plus a) p h = let x = from-lasts n a p h in (x.0, (x.0 ++ p ∷ [], [], (x.1, tt), sym (append-nil (x.0 ++ p ∷ []))))
from-lasts n (maybe a) p h = let x = from-lasts n a p h in (x.0, inr x.1)

looped : (n : ℕ) (a : Expression) (q p : ℕ) → ((f r : List ℕ) → MarksFrom n a (f ++ q ∷ p ∷ r) → follows n a q p ≡ true)
    → ((s : List ℕ) × (t : List ℕ) × MarksFrom n a (s ++ q ∷ p ∷ t)) ⊎ (((s : List ℕ) × MarksFrom n a (s ++ q ∷ [])) × ((t : List ℕ) × MarksFrom n a (p ∷ t)))
    → (follows n a q p || (lasts n a q && firsts n a p)) ≡ true
looped n a q p inside (inl k) = or_left (follows n a q p) _ (inside k.0 k.1 k.2)
looped n a q p inside (inr k) = or_right (follows n a q p) _ (and_from (lasts n a q) _ (lasts-true n a q k.0.0 k.0.1) (firsts-true n a p k.1.0 k.1.1))

-- ---- follow
pub follows-true : (n : ℕ) (e : Expression) (q p : ℕ) (f r : List ℕ) → MarksFrom n e (f ++ q ∷ p ∷ r) → follows n e q p ≡ true
follows-true n (class set) q p f r h = absurd (pair_one f q p r n h)
follows-true n (sequence a b) q p f r h =
    elim (pair-append h.0 h.1 f q p r h.4) [
      | inl k ↦ or_left (follows n a q p || follows (n + class_count a) b q p) _
          (or_left (follows n a q p) _ (follows-true n a q p k.0 k.1 (subst (MarksFrom n a) (sym k.2) h.2)))
      | inr m ↦ elim m [
        | inl k ↦ or_right (follows n a q p || follows (n + class_count a) b q p) _
            (and_from (lasts n a q) _ (lasts-true n a q k.0.0 (subst (MarksFrom n a) (sym k.0.1) h.2)) (firsts-true (n + class_count a) b p k.1.0
            (subst (MarksFrom (n + class_count a) b) (sym k.1.1) h.3)))
        | inr k ↦ or_left (follows n a q p || follows (n + class_count a) b q p) _ (or_right (follows n a q p) _ (follows-true (n + class_count a) b q p k.0 k.1
            (subst (MarksFrom (n + class_count a) b) (sym k.2) h.3)))
      ]
    ]
follows-true n (choice a b) q p f r (inl h) = or_left (follows n a q p) _ (follows-true n a q p f r h)
follows-true n (choice a b) q p f r (inr h) = or_right (follows n a q p) _ (follows-true (n + class_count a) b q p f r h)
follows-true n (star a) q p f r h = looped n a q p (follows-true n a q p) (pair_in_pieces (MarksFrom n a) h.0 f q p r h.1 h.2)
follows-true n (plus a) q p f r h = looped n a q p (follows-true n a q p) (pair_in_pieces (MarksFrom n a) (h.0 ∷ h.1) f q p r h.2 h.3)
follows-true n (maybe a) q p f r (inl h) = absurd (pair_nil f q p r h)
follows-true n (maybe a) q p f r (inr h) = follows-true n a q p f r h

pub from-follows : (n : ℕ) (e : Expression) (q p : ℕ) → follows n e q p ≡ true → (f : List ℕ) × (r : List ℕ) × MarksFrom n e (f ++ q ∷ p ∷ r)
from-follows n (class set) q p h = absurd (false≢true h)
from-follows n (sequence a b) q p h =
    elim (or_cases (follows n a q p || follows (n + class_count a) b q p) _ h) [
      | inl m ↦ elim (or_cases (follows n a q p) _ m) [
        | inl k ↦ (let x = from-follows n a q p k in let y = some_word (n + class_count a) b in
            (x.0, x.1 ++ y.0, (x.0 ++ q ∷ p ∷ x.1, y.0, x.2, y.1, sym (append_assoc x.0 (q ∷ p ∷ x.1) y.0))))
        | inr k ↦ (let x = some_word n a in let y = from-follows (n + class_count a) b q p k in
            (x.0 ++ y.0, y.1, (x.0, y.0 ++ q ∷ p ∷ y.1, x.1, y.2, append_assoc x.0 y.0 (q ∷ p ∷ y.1))))
      ]
      | inr m ↦ (let parts = and_parts (lasts n a q) _ m in let x = from-lasts n a q parts.0 in let y = from-firsts (n + class_count a) b p parts.1 in
          (x.0, y.0, (x.0 ++ q ∷ [], p ∷ y.0, x.1, y.1, sym (append_assoc x.0 (q ∷ []) (p ∷ y.0)))))
    ]
from-follows n (choice a b) q p h =
    elim (or_cases (follows n a q p) _ h) [
      | inl k ↦ (let x = from-follows n a q p k in (x.0, x.1, inl x.2))
      | inr k ↦ (let y = from-follows (n + class_count a) b q p k in (y.0, y.1, inr y.2))
    ]
from-follows n (star a) q p h =
    elim (or_cases (follows n a q p) _ h) [
      | inl k ↦ (let x = from-follows n a q p k in (x.0, x.1, ((x.0 ++ q ∷ p ∷ x.1) ∷ [], (x.2, tt), sym (append-nil (x.0 ++ q ∷ p ∷ x.1)))))
      | inr m ↦ (let parts = and_parts (lasts n a q) _ m in let x = from-lasts n a q parts.0 in let y = from-firsts n a p parts.1 in
          (x.0, y.0, ((x.0 ++ q ∷ []) ∷ (p ∷ y.0) ∷ [], (x.1, (y.1, tt)), two_pieces x.0 q p y.0)))
    ]
from-follows n (plus a) q p h =
    elim (or_cases (follows n a q p) _ h) [
      | inl k ↦ (let x = from-follows n a q p k in (x.0, x.1, (x.0 ++ q ∷ p ∷ x.1, [], (x.2, tt), sym (append-nil (x.0 ++ q ∷ p ∷ x.1)))))
      | inr m ↦ (let parts = and_parts (lasts n a q) _ m in let x = from-lasts n a q parts.0 in let y = from-firsts n a p parts.1 in
          (x.0, y.0, (x.0 ++ q ∷ [], (p ∷ y.0) ∷ [], (x.1, (y.1, tt)), two_pieces x.0 q p y.0)))
    ]
from-follows n (maybe a) q p h = let x = from-follows n a q p h in (x.0, x.1, inr x.2)

-- ---- all of them are numbers of classes
pub firsts-lt : (n : ℕ) (e : Expression) (p : ℕ) → firsts n e p ≡ true → (n ≤ p) × (p < n + class_count e)
firsts-lt n (class set) p h = let k = eqb-true p n h in (omega arith, omega arith)
firsts-lt n (sequence a b) p h =
    elim (or_cases (firsts n a p) _ h) [
      | inl k ↦ (let x = firsts-lt n a p k in (x.0, omega arith))
      | inr k ↦ (let y = firsts-lt (n + class_count a) b p (and_parts (nullable a) _ k).1 in (omega arith, omega arith))
    ]
firsts-lt n (choice a b) p h =
    elim (or_cases (firsts n a p) _ h) [
      | inl k ↦ (let x = firsts-lt n a p k in (x.0, omega arith))
      | inr k ↦ (let y = firsts-lt (n + class_count a) b p k in (omega arith, omega arith))
    ]
firsts-lt n (star a) p h = firsts-lt n a p h
firsts-lt n (plus a) p h = firsts-lt n a p h
firsts-lt n (maybe a) p h = firsts-lt n a p h

pub lasts-lt : (n : ℕ) (e : Expression) (p : ℕ) → lasts n e p ≡ true → (n ≤ p) × (p < n + class_count e)
lasts-lt n (class set) p h = let k = eqb-true p n h in (omega arith, omega arith)
lasts-lt n (sequence a b) p h =
    elim (or_cases (lasts (n + class_count a) b p) _ h) [
      | inl k ↦ (let y = lasts-lt (n + class_count a) b p k in (omega arith, omega arith))
      | inr k ↦ (let x = lasts-lt n a p (and_parts (nullable b) _ k).1 in (x.0, omega arith))
    ]
lasts-lt n (choice a b) p h =
    elim (or_cases (lasts n a p) _ h) [
      | inl k ↦ (let x = lasts-lt n a p k in (x.0, omega arith))
      | inr k ↦ (let y = lasts-lt (n + class_count a) b p k in (omega arith, omega arith))
    ]
lasts-lt n (star a) p h = lasts-lt n a p h
lasts-lt n (plus a) p h = lasts-lt n a p h
lasts-lt n (maybe a) p h = lasts-lt n a p h

pub follows-lt : (n : ℕ) (e : Expression) (q p : ℕ) → follows n e q p ≡ true → p < n + class_count e
follows-lt n (class set) q p h = absurd (false≢true h)
follows-lt n (sequence a b) q p h =
    elim (or_cases (follows n a q p || follows (n + class_count a) b q p) _ h) [
      | inl m ↦ elim (or_cases (follows n a q p) _ m) [
        | inl k ↦ (let x = follows-lt n a q p k in omega arith)
        | inr k ↦ (let y = follows-lt (n + class_count a) b q p k in omega arith)
      ]
      | inr m ↦ (let y = firsts-lt (n + class_count a) b p (and_parts (lasts n a q) _ m).1 in omega arith)
    ]
follows-lt n (choice a b) q p h =
    elim (or_cases (follows n a q p) _ h) [
      | inl k ↦ (let x = follows-lt n a q p k in omega arith)
      | inr k ↦ (let y = follows-lt (n + class_count a) b q p k in omega arith)
    ]
follows-lt n (star a) q p h =
    elim (or_cases (follows n a q p) _ h) [ inl k ↦ follows-lt n a q p k | inr m ↦ (firsts-lt n a p (and_parts (lasts n a q) _ m).1).1 ]
follows-lt n (plus a) q p h =
    elim (or_cases (follows n a q p) _ h) [ inl k ↦ follows-lt n a q p k | inr m ↦ (firsts-lt n a p (and_parts (lasts n a q) _ m).1).1 ]
follows-lt n (maybe a) q p h = follows-lt n a q p h
