-- How many rows the graph has where each place has a row, and where each row of the table stands at a place.
use Rattle.std.proofs.Common.{◌≡◌, ◌≢◌, ℕ, zero, suc, ◌+◌, ◌<◌, ◌≤◌, List, [], ◌∷◌, inl, inr, length, sym, refl, ap, ◌∙◌, subst, arith}
use Rattle.std.proofs.lemmas.Bool.{cases_lt}
use Rattle.pin_rule.specs.declared.sizes.Sizes.{Sizes}
use Rattle.pin_rule.specs.declared.view.KnownPlace.{KnownPlace}
use Rattle.pin_rule.specs.Lists.{In}
use Rattle.pin_rule.specs.Told.{IsOfOnePage, StandsKnown}
use Rattle.pin_rule.proofs.Frames.{content_same}
use Rattle.slot_store.specs.Known.{AreTaken}
use Rattle.slot_store.specs.GraphAnswers.{AllDiffer, HasRows}
use Rattle.version_store.specs.Graphs.{word_in, row_known, rows_known, IsReadWhole, IsWholeKnown}
use Rattle.version_store.proofs.GraphRows.{row_from, row_to}
use Rattle.version_store.proofs.KeyedRows.{content_word}
use Rattle.version_store.proofs.LaterRows.{row_of_met}

module _ (z : Sizes) (ks : List KnownPlace) (known : IsWholeKnown z ks) (one : IsOfOnePage z ks) where
  read : (k : KnownPlace) → In k ks → k.met ≢ 0 → IsReadWhole k.words
  read k i ne = let row = row_of_met k.met ne in known.rows k row.0 i row.1

  -- a row stands at one place
  one_place : (k l : KnownPlace) → In k ks → In l ks → k.met ≢ 0 → l.met ≢ 0 → row_known k ≡ row_known l → k.place ≡ l.place
  one_place k l i j ne me e = let a = row_of_met k.met ne in let b = row_of_met l.met me in let f = word_in k.words in
      let same = content_word (word_in k.words) (word_in l.words) e in
      let c : word_in k.words 0 ≡ word_in l.words 0 = same 0 (omega arith) in
      one.keys_once k l a.0 b.0 (word_in k.words) i j a.1 b.1 (λ index of. let lt = of.0 in read k i ne index (omega arith))
      (λ index of. let lt = of.0 in subst (λ (x : ℕ). In (index, x) l.words) (sym (same index (omega arith))) (read l j me index (omega arith)))

  -- a row has one content
  pub one_row : (k l : KnownPlace) (row : ℕ) → In k ks → In l ks → k.met ≡ suc row → l.met ≡ suc row → row_known k ≡ row_known l
  one_row k l row i j is met = let there = known.rows k row i is in let here = known.rows l row j met in
      let same : (index : ℕ) → In (index, word_in k.words index) k.words → In (index, word_in l.words index) l.words
      → word_in k.words index ≡ word_in l.words index
      = λ index x y. one.words k l row index (word_in k.words index) (word_in l.words index) i j is met x y in
      let a = same 0 (there 0 (omega arith)) (here 0 (omega arith)) in let b = same 1 (there 1 (omega arith)) (here 1 (omega arith)) in
      content_same (word_in k.words) (word_in l.words) (2 + (word_in k.words 0 + word_in k.words 1)) (omega arith)
      (λ index lt. same index (there index lt) (here index (omega arith)))

  -- places by number, each with a row, no two the same, and all rows among them
  module _ (n : ℕ) (at : ℕ → KnownPlace) (there : (i : ℕ) → i < n → In (at i) ks) (taken : (i : ℕ) → i < n → (at i).met ≢ 0)
      (apart : (i j : ℕ) → i < n → j < n → (at i).place ≡ (at j).place → i ≡ j)
      (every : (k : KnownPlace) → In k ks → k.met ≢ 0 → (i : ℕ) × (i < n) × (row_known k ≡ row_known (at i))) where
    rows_to : ℕ → List (List ℕ)
    rows_to zero = []
    rows_to (suc m) = row_known (at m) ∷ rows_to m

    long : (m : ℕ) → length (rows_to m) ≡ m
    unfolding rows_to
    long zero = refl
    long (suc m) = ap suc (long m)

    of_rows : (m : ℕ) (r : List ℕ) → In r (rows_to m) → (i : ℕ) × (i < m) × (r ≡ row_known (at i))
    unfolding rows_to
    of_rows zero r i = absurd i
    of_rows (suc m) r i = elim i [ inl e ↦ (m, omega arith, e) | inr t ↦ let x = of_rows m r t in let lt = x.1 in (x.0, omega arith, x.2) ]

    in_rows : (m i : ℕ) → i < m → In (row_known (at i)) (rows_to m)
    unfolding rows_to
    in_rows zero i lt = absurd (omega arith)
    in_rows (suc m) i lt = elim (cases_lt i m) [
      | inl below ↦ inr (in_rows m i below)
      | inr above ↦ inl (ap (λ (j : ℕ). row_known (at j)) (let r : i ≡ m = omega arith in r))
    ]

    differ : (m : ℕ) → m ≤ n → AllDiffer (rows_to m)
    unfolding rows_to
    differ zero le = tt
    differ (suc m) le = (
      (λ i. let x = of_rows m (row_known (at m)) i in let lt = x.1 in let first : m < n = omega arith in let second : x.0 < n = omega arith in
          let e = apart m x.0 first second (one_place (at m) (at x.0) (there m first) (there x.0 second) (taken m first)
          (taken x.0 second) x.2) in omega arith),
      differ m (omega arith),
    )

    counted : HasRows (rows_known ks) n
    counted = record {
      rows = rows_to n;
      many = long n;
      once = differ n (omega arith);
      known = λ r i. let x = of_rows n r i in subst (λ (y : List ℕ). In y (rows_known ks)) (sym x.2) (row_to ks (at x.0) (there x.0 x.1) (taken x.0 x.1));
      every = λ r i. let k = row_from ks r i in let x = every k.0 k.1 k.2 in subst (λ (y : List ℕ). In y (rows_to n)) (sym (k.3 ∙ x.2)) (in_rows n x.0 x.1);
    }

  nowhere : KnownPlace
  nowhere = record { place = 0; met = 0; words = [] }

  module _ (filled : AreTaken ks) where
    at_place : (i : ℕ) → (k : KnownPlace) × (i < z.places → In k ks × (k.place ≡ i))
    at_place i = elim (cases_lt i z.places) [
      | inl lt ↦ let k = known.every i lt in (k.0, λ _. (k.1, k.2))
      | inr ge ↦ (nowhere, λ lt. absurd (omega arith))
    ]

    -- each place has a row
    pub filled_rows : HasRows (rows_known ks) z.places
    filled_rows = counted z.places (λ i. (at_place i).0) (λ i lt. ((at_place i).1 lt).0) (λ i lt. filled (at_place i).0 ((at_place i).1 lt).0)
        (λ i j lt less e. sym ((at_place i).1 lt).1 ∙ e ∙ ((at_place j).1 less).1)
        (λ k i ne. let lt = known.inside k i in let l = (at_place k.place).1 lt in let row = row_of_met k.met ne in
        (k.place, lt, one_row k (at_place k.place).0 row.0 i l.0 row.1 (one.places (at_place k.place).0 k l.0 i l.1 ∙ row.1)))

  module _ (stand : (row : ℕ) → row < z.rows → StandsKnown z ks row) where
    at_row : (row : ℕ) → (k : KnownPlace) × (row < z.rows → In k ks × (k.met ≡ suc row))
    at_row row = elim (cases_lt row z.rows) [
      | inl lt ↦ let s = stand row lt in let k = known.every s.0 s.1 in (k.0, λ _. (k.1, s.2 k.0 k.1 k.2))
      | inr ge ↦ (nowhere, λ lt. absurd (omega arith))
    ]

    -- each row of the table stands at a place
    pub pool_rows : HasRows (rows_known ks) z.rows
    pool_rows = counted z.rows (λ i. (at_row i).0) (λ i lt. ((at_row i).1 lt).0)
        (λ i lt e. let m = ((at_row i).1 lt).1 in let s : 0 ≡ suc i = sym e ∙ m in omega arith)
        (λ i j lt less e. let k = (at_row i).1 lt in let l = (at_row j).1 less in
        let m : suc i ≡ suc j = sym k.1 ∙ one.places (at_row i).0 (at_row j).0 k.0 l.0 e ∙ l.1 in omega arith)
        (λ k i ne. let row = row_of_met k.met ne in let lt = one.rows k row.0 i row.1 in let l = (at_row row.0).1 lt in
        (row.0, lt, one_row k (at_row row.0).0 row.0 i l.0 row.1 l.1))
