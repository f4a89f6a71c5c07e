-- Marks, one after the other.
use Rattle.std.proofs.Common.{◌≡◌, ℕ, ◌+◌, ◌<◌, ◌⊎◌, inl, inr, Bool, true, false, not, cond, List}
use Rattle.std.proofs.Common.{[], ◌∷◌, ◌++◌, set, get_or, length, refl, sym, ◌∙◌, subst, arith, Contains, slice_get, Some}
use Rattle.std.proofs.lemmas.Bool.{cases_eq}
use Rattle.std.proofs.lemmas.List.{length-set, length_push}
use Rattle.std.proofs.lemmas.List.Sums.{sum_by-set}
use Rattle.std.proofs.lemmas.List.Elements.{Contains-append_left, Contains-push, Contains-push_cases}
use Rattle.std.proofs.lemmas.Option.{get_or_from_slice_get, slice_get_within}
use Rattle.std.specs.List.{count_by}
use Rattle.packed_spans.specs.Marks.{IsMarked, MarksExactly}
use Rattle.packed_spans.proofs.Lists.{at_set, at_other}

-- nothing to mark
pub nothing_marked : (P : ℕ → Type 0) (limit : ℕ) (marked : List Bool) (waiting : List ℕ) → ((n : ℕ) → P n → ⊥)
    → MarksExactly P limit marked waiting marked waiting
nothing_marked P limit marked waiting none = record {
  size = refl;
  keeps = λ n m. m;
  only = λ n m. inl m;
  whole = λ n p. absurd (none n p);
  stays = λ n c. c;
  waits = λ n l m. inl m;
  within = λ n c. inl c;
  spends = omega arith;
}

-- one that was marked already
pub was_marked : (limit number : ℕ) (marked : List Bool) (waiting : List ℕ) → IsMarked marked number
    → MarksExactly (λ n. n ≡ number) limit marked waiting marked waiting
was_marked limit number marked waiting there = record {
  size = refl;
  keeps = λ n m. m;
  only = λ n m. inl m;
  whole = λ n e. subst (IsMarked marked) (sym e) there;
  stays = λ n c. c;
  waits = λ n l m. inl m;
  within = λ n c. inl c;
  spends = omega arith;
}

module _ (limit number : ℕ) (marked : List Bool) (waiting : List ℕ) (is : slice_get marked number ≡ Some false) where
  after : List Bool
  after = set marked number true

  within_list : number < length marked
  within_list = slice_get_within marked number false is

  itself : IsMarked (set marked number true) number
  itself = at_set marked number true within_list

  others : (n : ℕ) → IsMarked marked n → IsMarked (set marked number true) n
  others n m = elim (cases_eq n number) [
    | inl e ↦ subst (IsMarked (set marked number true)) (sym e) itself
    | inr ne ↦ at_other marked number n true ne ∙ m
  ]

  back : (n : ℕ) → IsMarked (set marked number true) n → IsMarked marked n ⊎ (n ≡ number)
  back n m = elim (cases_eq n number) [ inl e ↦ inr e | inr ne ↦ inl (sym (at_other marked number n true ne) ∙ m) ]

  fewer : count_by not (set marked number true) + 1 ≡ count_by not marked
  fewer =
      let was : get_or marked number false ≡ false = get_or_from_slice_get marked number false false is in
      let counts = sum_by-set (λ b. cond (not b) 1 0) marked number true false within_list in
      let gone : count_by not (set marked number true) + 1 ≡ count_by not marked + 0 = subst
      (λ b. count_by not (set marked number true) + cond (not b) 1 0 ≡ count_by not marked + 0) was counts in
      omega arith

  -- one whose turn is still to come
  pub newly_marked : number < limit → MarksExactly (λ n. n ≡ number) limit marked waiting (set marked number true) waiting
  newly_marked low = record {
    size = length-set marked number true;
    keeps = others;
    only = back;
    whole = λ n e. subst (IsMarked (set marked number true)) (sym e) itself;
    stays = λ n c. c;
    waits = λ n l m. elim (back n m) [ inl was ↦ inl was | inr e ↦ absurd (omega arith) ];
    within = λ n c. inl c;
    spends = omega (arith, fewer);
  }

  -- one whose turn has been
  pub newly_waiting : MarksExactly (λ n. n ≡ number) limit marked waiting (set marked number true) (waiting ++ number ∷ [])
  newly_waiting = record {
    size = length-set marked number true;
    keeps = others;
    only = back;
    whole = λ n e. subst (IsMarked (set marked number true)) (sym e) itself;
    stays = λ n c. Contains-append_left waiting (number ∷ []) n c;
    waits = λ n l m. elim (back n m) [
      | inl was ↦ inl was
      | inr e ↦ inr (subst (Contains (waiting ++ number ∷ [])) (sym e) (Contains-push waiting number))
    ];
    within = λ n c. elim (Contains-push_cases waiting number n c) [
      | inl d ↦ inl d
      | inr e ↦ inr (subst (IsMarked (set marked number true)) e itself)
    ];
    spends = omega (arith, fewer, length_push waiting number);
  }

module _ {P Q R : ℕ → Type 0} {limit : ℕ} {m0 m1 m2 : List Bool} {w0 w1 w2 : List ℕ} (a : MarksExactly P limit m0 w0 m1 w1)
    (b : MarksExactly Q limit m1 w1 m2 w2) (first : (n : ℕ) → P n → R n) (second : (n : ℕ) → Q n → R n) (cover : (n : ℕ) → R n → P n ⊎ Q n) where
  -- first some, and then others
  pub joined : MarksExactly R limit m0 w0 m2 w2
  joined = record {
    size = b.size ∙ a.size;
    keeps = λ n m. b.keeps n (a.keeps n m);
    only = λ n m. elim (b.only n m) [
      | inl one ↦ elim (a.only n one) [ inl none ↦ inl none | inr p ↦ inr (first n p) ]
      | inr q ↦ inr (second n q)
    ];
    whole = λ n r. elim (cover n r) [ inl p ↦ b.keeps n (a.whole n p) | inr q ↦ b.whole n q ];
    stays = λ n c. b.stays n (a.stays n c);
    waits = λ n l m. elim (b.waits n l m) [
      | inl one ↦ elim (a.waits n l one) [ inl none ↦ inl none | inr c ↦ inr (b.stays n c) ]
      | inr c ↦ inr c
    ];
    within = λ n c. elim (b.within n c) [
      | inl d ↦ elim (a.within n d) [ inl e ↦ inl e | inr m ↦ inr (b.keeps n m) ]
      | inr m ↦ inr m
    ];
    spends = omega (arith, a.spends, b.spends);
  }

-- the same spans in other words
pub same_marked : (P Q : ℕ → Type 0) (limit : ℕ) (m0 m1 : List Bool) (w0 w1 : List ℕ) → ((n : ℕ) → P n → Q n) → ((n : ℕ) → Q n → P n)
    → MarksExactly P limit m0 w0 m1 w1 → MarksExactly Q limit m0 w0 m1 w1
same_marked P Q limit m0 m1 w0 w1 there back a = record {
  size = a.size;
  keeps = a.keeps;
  only = λ n m. elim (a.only n m) [ inl was ↦ inl was | inr p ↦ inr (there n p) ];
  whole = λ n q. a.whole n (back n q);
  stays = a.stays;
  waits = a.waits;
  within = a.within;
  spends = a.spends;
}
