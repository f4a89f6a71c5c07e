-- The sweep over the spans, from the newest down.
use Rattle.std.proofs.Common.{◌≡◌, ℕ, ◌+◌, ◌-◌, ◌<◌, ◌⊎◌, inl, inr, Bool, true, false, List, []}
use Rattle.std.proofs.Common.{◌++◌, take, set, length, refl, sym, ◌∙◌, ap, subst, arith, Contains, slice_get, Some, replicate}
use Rattle.std.proofs.lemmas.Bool.{cases_eq}
use Rattle.std.proofs.lemmas.List.{length-set, take_all, length-replicate, get_or-replicate}
use Rattle.std.proofs.lemmas.Option.{slice_get_within, get_or_from_slice_get}
use Rattle.packed_spans.specs.declared.table.SplitRow.{SplitRow}
use Rattle.packed_spans.specs.Marks.{IsPartBelow, Reaches, itself, below, IsMarked, MarksExactly, IsSwept, MarksReached}
use Rattle.packed_spans.proofs.Lists.{at_set, at_other}

none_is_marked : (count n : ℕ) → IsMarked (replicate count false) n → ⊥
none_is_marked count n m =
    let within = slice_get_within (replicate count false) n true m in
    let low : n < count = omega (arith, length-replicate count false) in
    let is : false ≡ true = sym (get_or-replicate count n false false low) ∙ get_or_from_slice_get (replicate count false) n true false m in
    absurd cc

module _ (splits : List SplitRow) (parts : List ℕ) (root : ℕ) where
  pub sweep_begins : (count : ℕ) → root < count → IsSwept splits parts root count (set (replicate count false) root true) (λ n. ⊥)
  sweep_begins count l =
      let size : length (replicate count false) ≡ count = length-replicate count false in
      record {
        sound = λ n m. elim (cases_eq n root) [
          | inl e ↦ subst (Reaches splits parts root) (sym e) itself
          | inr ne ↦ absurd (none_is_marked count n (sym (at_other (replicate count false) root n true ne) ∙ m))
        ];
        start = at_set (replicate count false) root true (omega arith);
        settled = λ n low m.
            let within = slice_get_within (set (replicate count false) root true) n true m in
            absurd (omega (arith, length-set (replicate count false) root true));
      }

  -- a span that is not marked needs nothing
  pub passed : (number : ℕ) (marked : List Bool) → slice_get marked number ≡ Some false → IsSwept splits parts root (number + 1) marked (λ n. ⊥)
      → IsSwept splits parts root number marked (λ n. ⊥)
  passed number marked not_marked s = record {
    sound = s.sound;
    start = s.start;
    settled = λ n low m. elim (cases_eq n number) [
      | inl e ↦
          let both : Some true ≡ Some false = sym m ∙ ap (slice_get marked) e ∙ not_marked in
          let no : true ≡ false = cc in
          absurd cc
      | inr ne ↦ s.settled n (omega arith) m
    ];
  }

  -- the turn of a span comes
  pub turn : (number : ℕ) (marked : List Bool) → IsSwept splits parts root (number + 1) marked (λ n. ⊥)
      → IsSwept splits parts root number marked (λ n. n ≡ number)
  turn number marked s = record {
    sound = s.sound;
    start = s.start;
    settled = λ n low m. elim (cases_eq n number) [
      | inl e ↦ inl e
      | inr ne ↦ elim (s.settled n (omega arith) m) [ inl none ↦ absurd none | inr all ↦ inr all ]
    ];
  }

  -- the parts of one that waited are marked
  pub settled_more : (x limit : ℕ) (marked after : List Bool) (waiting behind : List ℕ) (Waits : ℕ → Type 0) → IsSwept splits parts root limit marked Waits
      → IsMarked marked x → MarksExactly (IsPartBelow splits parts x 0) limit marked waiting after behind
      → ((n : ℕ) → Waits n → (n ≡ x) ⊎ Contains waiting n) → IsSwept splits parts root limit after (Contains behind)
  settled_more x limit marked after waiting behind Waits s here m cover = record {
    sound = λ n a. elim (m.only n a) [ inl was ↦ s.sound n was | inr b ↦ below (s.sound x here) b ];
    start = m.keeps root s.start;
    settled = λ n low a. elim (m.waits n low a) [
      | inr c ↦ inl c
      | inl was ↦ elim (s.settled n low was) [
        | inr all ↦ inr (λ k b. m.keeps k (all k b))
        | inl w ↦ elim (cover n w) [
          | inl e ↦ inr (λ k b. m.whole k (subst (λ y. IsPartBelow splits parts y 0 k) e b))
          | inr c ↦ inl (m.stays n c)
        ]
      ]
    ];
  }

  -- none waits any more
  pub sweep_rests : (limit : ℕ) (marked : List Bool) (waiting : List ℕ) → length waiting ≡ 0 → IsSwept splits parts root limit marked (Contains waiting)
      → IsSwept splits parts root limit marked (λ n. ⊥)
  sweep_rests limit marked waiting none s = record {
    sound = s.sound;
    start = s.start;
    settled = λ n low m. elim (s.settled n low m) [ inl c ↦ absurd (omega (arith, c.1)) | inr all ↦ inr all ];
  }

  pub sweep_ends : (marked : List Bool) → IsSwept splits parts root 0 marked (λ n. ⊥) → MarksReached splits parts root marked
  sweep_ends marked s = record { sound = s.sound; whole = λ n r. all r }
    where
      all : {n : ℕ} → Reaches splits parts root n → IsMarked marked n
      all itself = s.start
      all (below {span = x} r b) = elim (s.settled x (omega arith) (all r)) [ inl none ↦ absurd none | inr each ↦ each _ b ]

-- a cleared list that was filled up
pub filled : (n k : ℕ) (xs : List Bool) → xs ≡ [] → k ≡ 0 → take n xs ++ replicate (n - k) false ≡ replicate n false
filled n k xs none zero =
    let size : n - k ≡ n = omega arith in
    let short : take n xs ≡ xs = take_all n xs (omega (arith, ap length none)) in
    rw (short, none, size) refl
