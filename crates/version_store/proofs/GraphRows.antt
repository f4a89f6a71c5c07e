-- The rows that are known of a page are those that were found there, and those of a new page the ones that are kept.
use Rattle.std.proofs.Common.{◌≡◌, ◌≢◌, ◌⊎◌, ℕ, zero, suc, ◌+◌, ◌<◌, List, [], ◌∷◌, inl, inr, length, slice_index, eqb, eq-eqb, ne_eqb, sym, refl}
use Rattle.std.proofs.Common.{ap, ◌∙◌, subst, arith}
use Rattle.std.proofs.lemmas.Bool.{eqb-true}
use mathlib.Core.Option as maybe
use mathlib.Core.Bool.{cond}
use lib.ListN.{get_elem?}
use Rattle.std.specs.Prelude.{Option, Some, None, Bool, true, false}
use Rattle.pin_rule.specs.declared.sizes.Sizes.{Sizes}
use Rattle.pin_rule.specs.declared.view.KnownPlace.{KnownPlace}
use Rattle.pin_rule.specs.declared.view.WordFact.{WordFact}
use Rattle.pin_rule.specs.Lists.{In, is_in}
use Rattle.pin_rule.specs.Making.{facts_on, words_on, places_known}
use Rattle.pin_rule.proofs.Frames.{content_same}
use Rattle.pin_rule.proofs.Lists.{each_in, in_mapped, at_short}
use Rattle.pin_rule.proofs.Seats.{none_some, same_some}
use Rattle.pin_rule.proofs.Places.{each_fact}
use Rattle.pin_rule.proofs.Spare.{is_in_tells}
use Rattle.pin_rule.proofs.Bools.{no_bool}
use Rattle.version_store.specs.Rows.{Found, IsWholeRow, rows_found}
use Rattle.version_store.specs.Graphs.{word_in, row_known, rows_known, IsReadWhole, IsWholeKnown}
use Rattle.version_store.specs.Learning.{Learns}
use Rattle.version_store.specs.Choices.{HasChosen, KeepsRows}
use Rattle.version_store.specs.Stages.{IsFoundAt}
use Rattle.version_store.proofs.WholeRows.{content_is}
use Rattle.version_store.proofs.KnownPlaces.{mapped_back}

-- Pairs of an index and a word

word_there : (b : Bool) (w : ℕ × ℕ) (ws : List (ℕ × ℕ)) (index a : ℕ) → eqb w.0 index ≡ b → (In (index, a) ws → In (index, word_in ws index) ws)
    → In (index, a) (w ∷ ws) → In (index, cond b w.1 (word_in ws index)) (w ∷ ws)
word_there true w ws index a e rest i = inl (λ k. (sym (eqb-true w.0 index e) k, w.1))
word_there false w ws index a e rest i = elim i [
  | inl same ↦ absurd (no_bool (sym e ∙ eq-eqb w.0 index (ap (λ (p : ℕ × ℕ). p.0) (sym same))))
  | inr t ↦ inr (rest t)
]

-- where there is a word at an index, the first one is among the pairs
pub word_in_is : (ws : List (ℕ × ℕ)) (index a : ℕ) → In (index, a) ws → In (index, word_in ws index) ws
word_in_is [] index a i = absurd i
word_in_is (w ∷ ws) index a i = word_there (eqb w.0 index) w ws index a refl (word_in_is ws index a) i

-- a place whose words are those of a whole row has that row
pub row_is : (k : KnownPlace) (words : List ℕ) → IsWholeRow words → ((index : ℕ) → index < length words → word_in k.words index ≡ slice_index words index)
    → row_known k ≡ words
row_is k words whole same = let a = same 0 (omega arith) in let b = same 1 (omega arith) in
    content_same (word_in k.words) (slice_index words) (length words) (omega arith) (λ i lt. same i lt) ∙ content_is words whole

pub read_whole : (k : KnownPlace) (words : List ℕ) → IsWholeRow words → ((index : ℕ) → index < length words → word_in k.words index ≡ slice_index words index)
    → ((index : ℕ) → index < length words → In (index, slice_index words index) k.words) → IsReadWhole k.words
read_whole k words whole same there index lt = let a = same 0 (omega arith) in let b = same 1 (omega arith) in
    let inside : index < length words = omega arith in word_in_is k.words index (slice_index words index) (there index inside)

-- Lists of rows

rows_cond : (b : Bool) (k : KnownPlace) (ks : List KnownPlace) (r : List ℕ) → eqb k.met 0 ≡ b → In r (cond b (rows_known ks) (row_known k ∷ rows_known ks))
    → In r (rows_known ks) ⊎ ((k.met ≢ 0) × (r ≡ row_known k))
rows_cond true k ks r e i = inl i
rows_cond false k ks r e i = elim i [ inl s ↦ inr (λ z. no_bool (sym e ∙ eq-eqb k.met 0 z), s) | inr t ↦ inl t ]

pub row_from : (ks : List KnownPlace) (r : List ℕ) → In r (rows_known ks) → (k : KnownPlace) × In k ks × (k.met ≢ 0) × (r ≡ row_known k)
row_from [] r i = absurd i
row_from (k ∷ ks) r i = elim (rows_cond (eqb k.met 0) k ks r refl i) [
  | inl t ↦ let x = row_from ks r t in (x.0, inr x.1, x.2, x.3)
  | inr t ↦ (k, inl refl, t.0, t.1)
]

rows_rest : (b : Bool) (k : KnownPlace) (ks : List KnownPlace) (r : List ℕ) → In r (rows_known ks) → In r (cond b (rows_known ks) (row_known k ∷ rows_known ks))
rows_rest true k ks r i = i
rows_rest false k ks r i = inr i

pub row_to : (ks : List KnownPlace) (k : KnownPlace) → In k ks → k.met ≢ 0 → In (row_known k) (rows_known ks)
row_to [] k i ne = absurd i
row_to (l ∷ ks) k i ne = elim i [
  | inl e ↦ let n : l.met ≢ 0 = λ z. ne (ap (λ (x : KnownPlace). x.met) e ∙ z) in
      subst (λ (b : Bool). In (row_known k) (cond b (rows_known ks) (row_known l ∷ rows_known ks))) (sym (ne_eqb l.met 0 n)) (inl (ap row_known e))
  | inr t ↦ rows_rest (eqb l.met 0) l ks (row_known k) (row_to ks k t ne)
]

pub found_to : (fs : List (Option Found)) (o : ℕ) (f : Found) → IsFoundAt fs o f → In f.words (rows_found fs)
found_to [] o f e = absurd (maybe.some-ne-none (Some f) (sym e))
found_to (None ∷ fs) zero f e = absurd (none_some f (maybe.some-injective None (Some f) e))
found_to (None ∷ fs) (suc o) f e = found_to fs o f e
found_to (Some g ∷ fs) zero f e = inl (ap (λ (x : Found). x.words) (sym (same_some g f (maybe.some-injective (Some g) (Some f) e))))
found_to (Some g ∷ fs) (suc o) f e = inr (found_to fs o f e)

pub found_from : (fs : List (Option Found)) (r : List ℕ) → In r (rows_found fs) → (o : ℕ) × (f : Found) × IsFoundAt fs o f × (r ≡ f.words)
found_from [] r i = absurd i
found_from (None ∷ fs) r i = let x = found_from fs r i in (suc x.0, x.1, x.2, x.3)
found_from (Some g ∷ fs) r i = elim i [ inl e ↦ (0, g, refl, e) | inr t ↦ let x = found_from fs r t in (suc x.0, x.1, x.2, x.3) ]

pub at_each : {A : Type 0} (xs : List A) (i : ℕ) → i < length xs → (x : A) × (get_elem? xs i ≡ maybe.some x)
at_each [] i lt = absurd (omega arith)
at_each (x ∷ xs) zero lt = (x, refl)
at_each (x ∷ xs) (suc i) lt = at_each xs i (omega arith)

-- What was found at each place is known there

module _ (z : Sizes) (ks ls : List KnownPlace) (found : List (Option Found)) (many : length found ≡ z.places) (learns : Learns ks ls found)
    (wholes : (o : ℕ) (f : Found) → IsFoundAt found o f → IsWholeRow f.words)
    (alike : (o : ℕ) (f : Found) (l : KnownPlace) (index word : ℕ) → IsFoundAt found o f → In l ls → l.met ≡ suc f.row → In (index, word) l.words
    → index < length f.words → word ≡ slice_index f.words index) where
  same_words : (o : ℕ) (f : Found) (l : KnownPlace) → IsFoundAt found o f → In l ls → l.place ≡ o → (index : ℕ) → index < length f.words
      → word_in l.words index ≡ slice_index f.words index
  same_words o f l e i at index lt = let r = learns.rows o f l e i at in
      alike o f l index (word_in l.words index) e i r.0 (word_in_is l.words index (slice_index f.words index) (r.1 index lt)) lt

  row_at : (o : ℕ) (f : Found) (l : KnownPlace) → IsFoundAt found o f → In l ls → l.place ≡ o → row_known l ≡ f.words
  row_at o f l e i at = row_is l f.words (wholes o f e) (same_words o f l e i at)

  whole_at : (o : ℕ) (f : Found) (l : KnownPlace) → IsFoundAt found o f → In l ls → l.place ≡ o → IsReadWhole l.words
  whole_at o f l e i at = read_whole l f.words (wholes o f e) (same_words o f l e i at) (learns.rows o f l e i at).1

  option_cases : (x : Option Found) (p : ℕ) → get_elem? found p ≡ maybe.some x → (l : KnownPlace) → In l ls → l.place ≡ p → l.met ≢ 0
      → (f : Found) × IsFoundAt found p f
  option_cases None p e l i at ne = absurd (ne (learns.empty p l e i at))
  option_cases (Some f) p e l i at ne = (f, e)

  -- of a place that is not empty
  found_at : (l : KnownPlace) (p : ℕ) → In l ls → l.place ≡ p → p < length found → l.met ≢ 0 → (f : Found) × IsFoundAt found p f
  found_at l p i at lt ne = let x = at_each found p lt in option_cases x.0 p x.1 l i at ne

  -- whatever was known before
  module _ (within : (l : KnownPlace) → In l ls → l.place < z.places) where
    inside : (l : KnownPlace) → In l ls → l.place < length found
    inside l i = let lt = within l i in omega arith

    pub whole_known : IsWholeKnown z ls
    whole_known = record {
      every = λ place lt. learns.covers place (omega arith);
      inside = λ l i. let lt = inside l i in omega arith;
      rows = λ l row i e. let f = found_at l l.place i refl (inside l i) (λ n. let s : 0 ≡ suc row = sym n ∙ e in omega arith) in
          whole_at l.place f.0 l f.1 i refl;
    }

    pub known_found : (r : List ℕ) → In r (rows_known ls) → In r (rows_found found)
    known_found r i = let k = row_from ls r i in let f = found_at k.0 k.0.place k.1 refl (inside k.0 k.1) k.2 in
        subst (λ (x : List ℕ). In x (rows_found found)) (sym (k.3 ∙ row_at k.0.place f.0 k.0 f.1 k.1 refl)) (found_to found k.0.place f.0 f.1)

    pub found_known : (r : List ℕ) → In r (rows_found found) → In r (rows_known ls)
    found_known r i = let x = found_from found r i in let short = at_short found x.0 (Some x.1) x.2 in let l = learns.covers x.0 short in
        let m = (learns.rows x.0 x.1 l.0 x.2 l.1 l.2).0 in
        subst (λ (y : List ℕ). In y (rows_known ls)) (row_at x.0 x.1 l.0 x.2 l.1 l.2 ∙ sym x.3)
        (row_to ls l.0 l.1 (λ n. let s : 0 ≡ suc x.1.row = sym n ∙ m in omega arith))

  -- all was known before
  module _ (before : IsWholeKnown z ks) where
    old_row : (k : KnownPlace) (f : Found) → In k ks → IsFoundAt found k.place f → (k.met ≡ suc f.row) × (row_known k ≡ f.words)
    old_row k f i e = let l = learns.on k i in let r = learns.rows k.place f l.0 e l.1 l.2.0 in let met : k.met ≡ suc f.row = sym l.2.1 ∙ r.0 in
        let read = before.rows k f.row i met in let whole = wholes k.place f e in
        let agree : (index : ℕ) → index < 2 + (word_in k.words 0 + word_in k.words 1) → index < length f.words
        → word_in k.words index ≡ slice_index f.words index
        = λ index inside lt. alike k.place f l.0 index (word_in k.words index) e l.1 r.0 (l.2.2 _ (read index inside)) lt in
        let a = agree 0 (omega arith) (omega arith) in let b = agree 1 (omega arith) (omega arith) in
        (met, row_is k f.words whole (λ index lt. agree index (omega arith) lt))

    pub was_found : (r : List ℕ) → In r (rows_known ks) → (o : ℕ) × (f : Found) × IsFoundAt found o f × (r ≡ f.words)
    was_found r i = let k = row_from ks r i in let l = learns.on k.0 k.1 in let lt = before.inside k.0 k.1 in
        let f = found_at l.0 k.0.place l.1 l.2.0 (omega arith) (λ n. k.2 (sym l.2.1 ∙ n)) in
        (k.0.place, f.0, f.1, k.3 ∙ (old_row k.0 f.0 k.1 f.1).1)

    pub is_found : (o : ℕ) (f : Found) → IsFoundAt found o f → In f.words (rows_known ks)
    is_found o f e = let lt = at_short found o (Some f) e in let k = before.every o (omega arith) in
        let r = old_row k.0 f k.1 (ap (get_elem? found) k.2 ∙ e) in
        subst (λ (x : List ℕ). In x (rows_known ks)) r.1 (row_to ks k.0 k.1 (λ n. let s : 0 ≡ suc f.row = sym n ∙ r.0 in omega arith))

-- The new page

facts_cond : (a b : Bool) (w x : WordFact) (rest : List WordFact) → In x rest → In x (cond a (cond b (w ∷ rest) rest) rest)
facts_cond true true w x rest i = inr i
facts_cond true false w x rest i = i
facts_cond false b w x rest i = i

in_facts : (version : ℕ) (rows : List ℕ) (ws : List WordFact) (x : WordFact) → In x ws → x.version ≡ version → In x.row rows → In x (facts_on version rows ws)
in_facts version rows [] x i e r = absurd i
in_facts version rows (w ∷ ws) x i e r = elim i [
  | inl same ↦ let a = eq-eqb w.version version (ap (λ (y : WordFact). y.version) (sym same) ∙ e) in
      let there : In w.row rows = subst (λ (y : WordFact). In y.row rows) same r in elim (is_in_tells w.row rows) [
        | inl t ↦ subst (λ (b : Bool × Bool). In x (cond b.0 (cond b.1 (w ∷ facts_on version rows ws) (facts_on version rows ws)) (facts_on version rows ws)))
            (λ k. (sym a k, sym t.0 k)) (inl same)
        | inr t ↦ absurd (t.1 there)
      ]
  | inr t ↦ facts_cond (eqb w.version version) (is_in w.row rows) w x (facts_on version rows ws) (in_facts version rows ws x t e r)
]

of_facts : (version : ℕ) (rows : List ℕ) (ws : List WordFact) (x : WordFact) → In x (facts_on version rows ws) → In x ws × (x.version ≡ version) × In x.row rows
of_facts version rows ws x i = each_in (λ (w : WordFact). In w ws × (w.version ≡ version) × In w.row rows) x (facts_on version rows ws)
    (each_fact (λ (w : WordFact). In w ws × (w.version ≡ version) × In w.row rows) version rows ws (λ w j e r. (j, e, r))) i

abbrev fact : ℕ → ℕ → ℕ → ℕ → WordFact
fact version row index word = record { version = version; row = row; index = index; word = word }

pair_in : (version row : ℕ) (ws : List WordFact) (index word : ℕ) → In (fact version row index word) ws → In (index, word) (words_on version ws (suc row))
pair_in version row ws index word i = in_mapped (λ (w : WordFact). (w.index, w.word)) (fact version row index word) (facts_on version (row ∷ []) ws)
    (in_facts version (row ∷ []) ws (fact version row index word) i refl (inl refl))

pair_of : (version row : ℕ) (ws : List WordFact) (index word : ℕ) → In (index, word) (words_on version ws (suc row)) → In (fact version row index word) ws
pair_of version row ws index word i = let r = mapped_back (λ (w : WordFact). (w.index, w.word)) (index, word) (facts_on version (row ∷ []) ws) i in
    let f = of_facts version (row ∷ []) ws r.0 r.1 in let there : r.0.row ≡ row = elim f.2 [ inl e ↦ e | inr n ↦ absurd n ] in
    subst (λ (w : WordFact). In w ws) (λ k. record { version = f.1 k; row = there k; index = (sym r.2 k).0; word = (sym r.2 k).1 }) f.0

abbrev place_known : ℕ → List WordFact → ℕ → ℕ → KnownPlace
place_known version ws place n = record { place = place; met = n; words = words_on version ws n }

in_places : (version : ℕ) (ws : List WordFact) (from : ℕ) (ns : List ℕ) (p : ℕ) → p < length ns
    → In (place_known version ws (from + p) (slice_index ns p)) (places_known version ws from ns)
in_places version ws from [] p lt = absurd (omega arith)
in_places version ws from (n ∷ ns) zero lt = inl (ap (λ (q : ℕ). place_known version ws q n) (let r : from + 0 ≡ from = omega arith in r))
in_places version ws from (n ∷ ns) (suc p) lt = inr (subst (λ (q : ℕ). In (place_known version ws q (slice_index ns p)) (places_known version ws (suc from) ns))
    (let r : suc from + p ≡ from + suc p = omega arith in r) (in_places version ws (suc from) ns p (omega arith)))

of_places : (version : ℕ) (ws : List WordFact) (from : ℕ) (ns : List ℕ) (k : KnownPlace) → In k (places_known version ws from ns)
    → (p : ℕ) × (p < length ns) × (k ≡ place_known version ws (from + p) (slice_index ns p))
of_places version ws from [] k i = absurd i
of_places version ws from (n ∷ ns) k i = elim i [
  | inl e ↦ (0, omega arith, e ∙ ap (λ (q : ℕ). place_known version ws q n) (let r : from ≡ from + 0 = omega arith in r))
  | inr t ↦ let r = of_places version ws (suc from) ns k t in let lt = r.1 in (
    suc r.0,
    omega arith,
    r.2 ∙ ap (λ (q : ℕ). place_known version ws q (slice_index ns r.0)) (let s : suc from + r.0 ≡ from + suc r.0 = omega arith in s),
  )
]

-- the places of the new page have rows that were found and are kept
module _ (z : Sizes) (keeps next : List ℕ → Type 0) (ks : List KnownPlace) (found : List (Option Found)) (places : List ℕ) (version : ℕ) (ws : List WordFact)
    (chosen : HasChosen keeps next z found places) (wholes : (o : ℕ) (f : Found) → IsFoundAt found o f → IsWholeRow f.words)
    (known : (o : ℕ) (f : Found) (index : ℕ) → IsFoundAt found o f → index < length f.words → In (fact version f.row index (slice_index f.words index)) ws)
    (once : (o : ℕ) (f : Found) (index word : ℕ) → IsFoundAt found o f → In (fact version f.row index word) ws → index < length f.words
    → word ≡ slice_index f.words index)
    (was_found : (r : List ℕ) → In r (rows_known ks) → (o : ℕ) × (f : Found) × IsFoundAt found o f × (r ≡ f.words))
    (is_found : (o : ℕ) (f : Found) → IsFoundAt found o f → In f.words (rows_known ks)) where
  abbrev new : List KnownPlace
  new = places_known version ws 0 places

  at_row : (p : ℕ) (o : ℕ) (f : Found) → IsFoundAt found o f → slice_index places p ≡ suc f.row
      → (row_known (place_known version ws (0 + p) (slice_index places p)) ≡ f.words) × IsReadWhole (words_on version ws (slice_index places p))
  at_row p o f e is =
      let there : (index : ℕ) → index < length f.words → In (index, slice_index f.words index) (words_on version ws (slice_index places p))
      = λ index lt. subst (λ (n : ℕ). In (index, slice_index f.words index) (words_on version ws n)) (sym is)
      (pair_in version f.row ws index (slice_index f.words index) (known o f index e lt)) in
      let same : (index : ℕ) → index < length f.words → word_in (words_on version ws (slice_index places p)) index ≡ slice_index f.words index
      = λ index lt. let w : ℕ = word_in (words_on version ws (slice_index places p)) index in
      once o f index w e (pair_of version f.row ws index w (subst (λ (n : ℕ). In (index, w) (words_on version ws n)) is
      (word_in_is (words_on version ws (slice_index places p)) index (slice_index f.words index) (there index lt)))) lt in (
        row_is (place_known version ws (0 + p) (slice_index places p)) f.words (wholes o f e) same,
        read_whole (place_known version ws (0 + p) (slice_index places p)) f.words (wholes o f e) same there,
      )

  of_kept : (k : KnownPlace) (row : ℕ) → In k (places_known version ws 0 places) → k.met ≡ suc row
      → (o : ℕ) × (f : Found) × IsFoundAt found o f × keeps f.words × (row_known k ≡ f.words) × IsReadWhole k.words
  of_kept k row i e = let q = of_places version ws 0 places k i in let met : slice_index places q.0 ≡ suc row = sym (ap (λ (x : KnownPlace). x.met) q.2) ∙ e in
      let c = chosen.kept q.0 row met in let r = at_row q.0 c.0 c.1 c.2 (met ∙ ap suc (sym c.3)) in
      (c.0, c.1, c.2, c.4, ap row_known q.2 ∙ r.0, subst IsReadWhole (sym (ap (λ (x : KnownPlace). x.words) q.2)) r.1)

  some_row : (n : ℕ) → n ≢ 0 → (row : ℕ) × (n ≡ suc row)
  some_row zero ne = absurd (ne refl)
  some_row (suc n) ne = (n, refl)

  pub keeps_rows : KeepsRows keeps z ks (places_known version ws 0 places)
  keeps_rows = record {
    all_known = record {
      every = λ place lt. let room = chosen.room in (
        place_known version ws (0 + place) (slice_index places place),
        in_places version ws 0 places place (omega arith),
        (let r : 0 + place ≡ place = omega arith in r),
      );
      inside = λ k i. let q = of_places version ws 0 places k i in let room = chosen.room in let lt = q.1 in let p = ap (λ (x : KnownPlace). x.place) q.2 in
          omega arith;
      rows = λ k row i e. (of_kept k row i e).5;
    };
    kept = λ r i. let k = row_from (places_known version ws 0 places) r i in let s = some_row k.0.met k.2 in let x = of_kept k.0 s.0 k.1 s.1 in
        let same = sym (k.3 ∙ x.4) in (
          subst (λ (y : List ℕ). In y (rows_known ks)) same (is_found x.0 x.1 x.2),
          subst keeps same x.3,
        );
    every = λ r i keep. let x = was_found r i in let c = chosen.every x.0 x.1 x.2 (subst keeps x.3 keep) in let room = chosen.room in let lt = c.1 in
        let k : KnownPlace = place_known version ws (0 + c.0) (slice_index places c.0) in
        subst (λ (y : List ℕ). In y (rows_known (places_known version ws 0 places))) ((at_row c.0 x.0 x.1 x.2 c.2).0 ∙ sym x.3)
        (row_to (places_known version ws 0 places) (place_known version ws (0 + c.0) (slice_index places c.0))
        (in_places version ws 0 places c.0 (omega arith)) (λ n. let s : 0 ≡ suc x.1.row = sym n ∙ c.2 in omega arith));
  }
