-- Where a number stands in words that are joined.
use Rattle.std.proofs.Common.{◌≡◌, ℕ, zero, suc, ◌+◌, List, [], ◌∷◌, ◌++◌, length, refl, sym, ap, ◌∙◌, subst, ◌⊎◌, inl, inr, arith, append_assoc}
use Rattle.std.specs.List.{concat, AllByRecursion}
use Rattle.regex_ast.specs.Bytes.{numbers_from}

abbrev Nil : List ℕ → Type 0
Nil [] = Unit {0}
Nil (x ∷ xs) = ⊥

pub cut_nil : (u : List ℕ) (q : ℕ) (v : List ℕ) → u ++ q ∷ v ≡ [] → ⊥
cut_nil [] q v e = subst Nil (sym e) tt
cut_nil (x ∷ u) q v e = subst Nil (sym e) tt

-- in a word of one number there is no other
pub cut_one : (u : List ℕ) (q : ℕ) (v : List ℕ) (n : ℕ) → u ++ q ∷ v ≡ n ∷ [] → (u ≡ []) × (q ≡ n) × (v ≡ [])
cut_one [] q v n e = (refl, cc, cc)
cut_one (x ∷ u) q v n e = let k : u ++ q ∷ v ≡ [] = cc in absurd (cut_nil u q v k)

-- the number stands in the first of two words, or in the second
pub record InFirst (u : List ℕ) (q : ℕ) (v x y : List ℕ) : Type 0 where
  pub back : List ℕ
  pub word : u ++ q ∷ back ≡ x
  pub after : v ≡ back ++ y

pub record InSecond (u : List ℕ) (q : ℕ) (v x y : List ℕ) : Type 0 where
  pub front : List ℕ
  pub word : front ++ q ∷ v ≡ y
  pub before : u ≡ x ++ front

pub cut_two : (u : List ℕ) (q : ℕ) (v x y : List ℕ) → u ++ q ∷ v ≡ x ++ y → InFirst u q v x y ⊎ InSecond u q v x y
cut_two u q v [] y e = inr (record { front = u; word = e; before = refl })
cut_two [] q v (z ∷ x) y e =
    let same : q ≡ z = cc in let rest : v ≡ x ++ y = cc in
    inl (record { back = x; word = ap (λ n. n ∷ x) same; after = rest })
cut_two (w ∷ u) q v (z ∷ x) y e =
    let same : w ≡ z = cc in let rest : u ++ q ∷ v ≡ x ++ y = cc in
    elim (cut_two u q v x y rest) [
      | inl k ↦ inl (record { back = k.back; word = ap (λ n. n ∷ (u ++ q ∷ k.back)) same ∙ ap (λ t. z ∷ t) k.word; after = k.after })
      | inr k ↦ inr (record { front = k.front; word = k.word; before = ap (λ n. n ∷ u) same ∙ ap (λ t. z ∷ t) k.before })
    ]

-- the number stands in one of many words, each of which is as P says
pub record InPiece (P : List ℕ → Type 0) (u : List ℕ) (q : ℕ) (v : List ℕ) : Type 0 where
  pub before : List (List ℕ)
  pub front : List ℕ
  pub back : List ℕ
  pub after : List (List ℕ)
  pub each_before : AllByRecursion P before
  pub piece : P (front ++ q ∷ back)
  pub each_after : AllByRecursion P after
  pub left : u ≡ concat before ++ front
  pub right : v ≡ back ++ concat after

pub cut_pieces : (P : List ℕ → Type 0) (u : List ℕ) (q : ℕ) (v : List ℕ) (words : List (List ℕ)) → AllByRecursion P words → u ++ q ∷ v ≡ concat words
    → InPiece P u q v
cut_pieces P u q v [] all e = absurd (cut_nil u q v e)
cut_pieces P u q v (x ∷ words) all e =
    elim (cut_two u q v x (concat words) e) [
      | inl k ↦ record {
        before = [];
        front = u;
        back = k.back;
        after = words;
        each_before = tt;
        piece = subst P (sym k.word) all.0;
        each_after = all.1;
        left = refl;
        right = k.after;
      }
      | inr k ↦ let rest = cut_pieces P k.front q v words all.1 k.word in
          record {
            before = x ∷ rest.before;
            front = rest.front;
            back = rest.back;
            after = rest.after;
            each_before = (all.0, rest.each_before);
            piece = rest.piece;
            each_after = rest.each_after;
            left = k.before ∙ ap (λ t. x ++ t) rest.left ∙ sym (append_assoc x (concat rest.before) rest.front);
            right = rest.right;
          }
    ]

-- a number of the numbers from n on tells its place
pub place_is : (n k : ℕ) (u : List ℕ) (q : ℕ) (v : List ℕ) → u ++ q ∷ v ≡ numbers_from n k → q ≡ n + length u
place_is n zero u q v e = absurd (cut_nil u q v e)
place_is n (suc k) [] q v e = let same : q ≡ n = cc in omega arith
place_is n (suc k) (x ∷ u) q v e =
    let rest : u ++ q ∷ v ≡ numbers_from (suc n) k = cc in
    omega (arith, place_is (suc n) k u q v rest)

pub same_back : (u w v z : List ℕ) → length u ≡ length w → u ++ v ≡ w ++ z → v ≡ z
same_back [] [] v z l e = e
same_back [] (y ∷ w) v z l e = absurd (omega arith)
same_back (x ∷ u) [] v z l e = absurd (omega arith)
same_back (x ∷ u) (y ∷ w) v z l e = let rest : u ++ v ≡ w ++ z = cc in same_back u w v z (omega arith) rest
