-- Marked words are local: what may come after a number in them does not depend on what stands before it.
use Rattle.std.proofs.Common.{◌≡◌, ℕ, zero, suc, ◌+◌, ◌<◌, ◌≤◌, List, [], ◌∷◌, ◌++◌, length, refl, sym, ap, ◌∙◌, subst, inl, inr, arith, append_assoc}
use Rattle.std.specs.List.{concat, AllByRecursion}
use Rattle.regex_ast.specs.Bytes.{numbers_from}
use Rattle.regex_ast.specs.Expressions.{Expression, class, sequence, choice, star, plus, maybe, class_count}
use Rattle.regex_ast.specs.Matching.{MarksFrom, IsMarkedLiteral}
use Rattle.isg_states.proofs.WordCuts.{InPiece, cut_nil, cut_one, cut_two, cut_pieces, place_is, same_back}

-- a number in a marked word is that of a class
pub in_range : (n : ℕ) (e : Expression) (u : List ℕ) (q : ℕ) (v : List ℕ) → MarksFrom n e (u ++ q ∷ v) → (n ≤ q) × (q < n + class_count e)
in_range n (class set) u q v h = let k = (cut_one u q v n h).1 in (omega arith, omega arith)
in_range n (sequence a b) u q v h =
    elim (cut_two u q v h.0 h.1 h.4) [
      | inl k ↦ (let r = in_range n a u q k.back (subst (MarksFrom n a) (sym k.word) h.2) in (r.0, omega arith))
      | inr k ↦ (let r = in_range (n + class_count a) b k.front q v (subst (MarksFrom (n + class_count a) b) (sym k.word) h.3) in (omega arith, omega arith))
    ]
in_range n (choice a b) u q v (inl h) = let r = in_range n a u q v h in (r.0, omega arith)
in_range n (choice a b) u q v (inr h) = let r = in_range (n + class_count a) b u q v h in (omega arith, omega arith)
in_range n (star a) u q v h = let k = cut_pieces (MarksFrom n a) u q v h.0 h.1 h.2 in in_range n a k.front q k.back k.piece
in_range n (plus a) u q v h = let k = cut_pieces (MarksFrom n a) u q v (h.0 ∷ h.1) h.2 h.3 in in_range n a k.front q k.back k.piece
in_range n (maybe a) u q v (inl h) = absurd (cut_nil u q v h)
in_range n (maybe a) u q v (inr h) = in_range n a u q v h

all_joined : (P : List ℕ → Type 0) (xs : List (List ℕ)) (x : List ℕ) (ys : List (List ℕ)) → AllByRecursion P xs → P x → AllByRecursion P ys
    → AllByRecursion P (xs ++ x ∷ ys)
all_joined P [] x ys a p b = (p, b)
all_joined P (z ∷ xs) x ys a p b = (a.0, all_joined P xs x ys a.1 p b)

concat_joined : (xs : List (List ℕ)) (x : List ℕ) (ys : List (List ℕ)) → concat (xs ++ x ∷ ys) ≡ concat xs ++ (x ++ concat ys)
concat_joined [] x ys = refl
concat_joined (z ∷ xs) x ys = ap (λ t. z ++ t) (concat_joined xs x ys) ∙ sym (append_assoc z (concat xs) (x ++ concat ys))

-- the words before the number of one cut, and those after it of another
joined : (P : List ℕ → Type 0) (u : List ℕ) (q : ℕ) (v w z : List ℕ) (one : InPiece P u q v) (other : InPiece P w q z) (middle : List ℕ)
    → middle ≡ one.front ++ q ∷ other.back
    → u ++ q ∷ z ≡ concat (one.before ++ middle ∷ other.after)
joined P u q v w z one other middle is =
    ap (λ t. t ++ q ∷ z) one.left ∙ append_assoc (concat one.before) one.front (q ∷ z)
    ∙ ap (λ t. concat one.before ++ (one.front ++ q ∷ t)) other.right
    ∙ ap (λ t. concat one.before ++ t) (sym (append_assoc one.front (q ∷ other.back) (concat other.after)))
    ∙ ap (λ t. concat one.before ++ (t ++ concat other.after)) (sym is)
    ∙ sym (concat_joined one.before middle other.after)

-- some word, and others
some_pieces : (P : List ℕ → Type 0) (word : List ℕ) (xs : List (List ℕ)) (x : List ℕ) (ys : List (List ℕ)) → AllByRecursion P (xs ++ x ∷ ys)
    → word ≡ concat (xs ++ x ∷ ys)
    → (piece : List ℕ) × (pieces : List (List ℕ)) × AllByRecursion P (piece ∷ pieces) × (word ≡ concat (piece ∷ pieces))
some_pieces P word [] x ys all e = (x, ys, all, e)
some_pieces P word (z ∷ xs) x ys all e = (z, xs ++ x ∷ ys, all, e)

-- what stands before the number in one marked word, and after it in another
pub exchange : (n : ℕ) (e : Expression) (u : List ℕ) (q : ℕ) (v w z : List ℕ) → MarksFrom n e (u ++ q ∷ v) → MarksFrom n e (w ++ q ∷ z)
    → MarksFrom n e (u ++ q ∷ z)
exchange n (class set) u q v w z h k =
    let back : v ≡ z = (cut_one u q v n h).2 ∙ sym (cut_one w q z n k).2 in
    ap (λ t. u ++ q ∷ t) (sym back) ∙ h
exchange n (sequence a b) u q v w z h k =
    let second : ℕ = n + class_count a in
    elim (cut_two u q v h.0 h.1 h.4) [
      | inl c ↦ elim (cut_two w q z k.0 k.1 k.4) [
        | inl d ↦ (
          u ++ q ∷ d.back,
          k.1,
          exchange n a u q c.back w d.back (subst (MarksFrom n a) (sym c.word) h.2) (subst (MarksFrom n a) (sym d.word) k.2),
          k.3,
          ap (λ t. u ++ q ∷ t) d.after ∙ sym (append_assoc u (q ∷ d.back) k.1),
        )
        | inr d ↦ (
            let one = in_range n a u q c.back (subst (MarksFrom n a) (sym c.word) h.2) in
            let other = in_range (n + class_count a) b d.front q z (subst (MarksFrom (n + class_count a) b) (sym d.word) k.3) in absurd (omega arith))
      ]
      | inr c ↦ elim (cut_two w q z k.0 k.1 k.4) [
        | inl d ↦ (
            let one = in_range (n + class_count a) b c.front q v (subst (MarksFrom (n + class_count a) b) (sym c.word) h.3) in
            let other = in_range n a w q d.back (subst (MarksFrom n a) (sym d.word) k.2) in absurd (omega arith))
        | inr d ↦ (
          h.0,
          c.front ++ q ∷ z,
          h.2,
          exchange (n + class_count a) b c.front q v d.front z (subst (MarksFrom (n + class_count a) b) (sym c.word) h.3)
              (subst (MarksFrom (n + class_count a) b) (sym d.word) k.3),
          ap (λ t. t ++ q ∷ z) c.before ∙ append_assoc h.0 c.front (q ∷ z),
        )
      ]
    ]
exchange n (choice a b) u q v w z (inl h) (inl k) = inl (exchange n a u q v w z h k)
exchange n (choice a b) u q v w z (inl h) (inr k) =
    let one = in_range n a u q v h in let other = in_range (n + class_count a) b w q z k in absurd (omega arith)
exchange n (choice a b) u q v w z (inr h) (inl k) =
    let one = in_range (n + class_count a) b u q v h in let other = in_range n a w q z k in absurd (omega arith)
exchange n (choice a b) u q v w z (inr h) (inr k) = inr (exchange (n + class_count a) b u q v w z h k)
exchange n (star a) u q v w z h k =
    let one = cut_pieces (MarksFrom n a) u q v h.0 h.1 h.2 in
    let other = cut_pieces (MarksFrom n a) w q z k.0 k.1 k.2 in
    let middle = exchange n a one.front q one.back other.front other.back one.piece other.piece in (
      one.before ++ (one.front ++ q ∷ other.back) ∷ other.after,
      all_joined (MarksFrom n a) one.before (one.front ++ q ∷ other.back) other.after one.each_before middle other.each_after,
      joined (MarksFrom n a) u q v w z one other (one.front ++ q ∷ other.back) refl,
    )
exchange n (plus a) u q v w z h k =
    let one = cut_pieces (MarksFrom n a) u q v (h.0 ∷ h.1) h.2 h.3 in
    let other = cut_pieces (MarksFrom n a) w q z (k.0 ∷ k.1) k.2 k.3 in
    let middle = exchange n a one.front q one.back other.front other.back one.piece other.piece in
    some_pieces (MarksFrom n a) (u ++ q ∷ z) one.before (one.front ++ q ∷ other.back) other.after
    (all_joined (MarksFrom n a) one.before (one.front ++ q ∷ other.back) other.after one.each_before middle other.each_after)
    (joined (MarksFrom n a) u q v w z one other (one.front ++ q ∷ other.back) refl)
exchange n (maybe a) u q v w z (inl h) k = absurd (cut_nil u q v h)
exchange n (maybe a) u q v w z (inr h) (inl k) = absurd (cut_nil w q z k)
exchange n (maybe a) u q v w z (inr h) (inr k) = inr (exchange n a u q v w z h k)

pub literal_exchange : (text u : List ℕ) (q : ℕ) (v w z : List ℕ) → IsMarkedLiteral text (u ++ q ∷ v) → IsMarkedLiteral text (w ++ q ∷ z)
    → IsMarkedLiteral text (u ++ q ∷ z)
literal_exchange text u q v w z h k =
    let one : q ≡ 0 + length u = place_is 0 (length text) u q v h in
    let other : q ≡ 0 + length w = place_is 0 (length text) w q z k in
    let lengths : length u ≡ length w = omega arith in
    let backs : q ∷ v ≡ q ∷ z = same_back u w (q ∷ v) (q ∷ z) lengths (h ∙ sym k) in
    ap (λ t. u ++ t) (sym backs) ∙ h

pub in_literal : (text u : List ℕ) (q : ℕ) (v : List ℕ) → IsMarkedLiteral text (u ++ q ∷ v) → q < length text
in_literal text u q v h = let r = below 0 (length text) u q v h in omega arith where
  below : (n k : ℕ) (u : List ℕ) (q : ℕ) (v : List ℕ) → u ++ q ∷ v ≡ numbers_from n k → q < n + k
  below n zero u q v h = absurd (cut_nil u q v h)
  below n (suc k) [] q v h = let same : q ≡ n = cc in omega arith
  below n (suc k) (x ∷ u) q v h = let rest : u ++ q ∷ v ≡ numbers_from (suc n) k = cc in omega (arith, below (suc n) k u q v rest)
