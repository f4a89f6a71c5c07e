-- The loop that reads a row.
use Rattle.std.proofs.Common.{◌≡◌, ℕ, ◌+◌, ◌<◌, ◌≤◌, List, [], ◌∷◌, ◌++◌, inl, inr, length, length-append, length-set, take, set, slice_index}
use Rattle.std.proofs.Common.{get_or-set_same, get_or-set_other, sym, refl, ap, ◌∙◌, subst, arith}
use Rattle.std.proofs.Math.ListN.{get_or-append}
use Rattle.std.proofs.Math.Seq.{get_or-append_seam}
use Rattle.std.proofs.lemmas.Bool.{cases_lt}
use Rattle.std.proofs.lemmas.List.{length-take-le, get_or-take, take_more_set}
use Rattle.std.specs.Prelude.{Option, Some}
use Rattle.pin_rule.specs.declared.sizes.Sizes.{Sizes}
use Rattle.pin_rule.specs.declared.content.Entry.{Entry}
use Rattle.pin_rule.specs.declared.view.View.{View}
use Rattle.pin_rule.specs.declared.view.WordFact.{WordFact}
use Rattle.pin_rule.specs.Lists.{In}
use Rattle.pin_rule.specs.Views.{whole}
use Rattle.pin_rule.specs.Steps.{version_of, met_word, loaded_row, learned_word, known_read, after_load_row}
use Rattle.pin_rule.specs.Told.{KnowsRow, KnowsWord, IsTold, Tells}
use Rattle.slot_store.proofs.Single.{names_known}
use Rattle.version_store.specs.declared.current.Current.{Current}
use Rattle.version_store.specs.Roles.{role_of}
use Rattle.version_store.specs.Rows.{IsWholeRow}
use Rattle.version_store.specs.Edits.{row_loads}
use Rattle.version_store.specs.Learning.{Shows}
use Rattle.version_store.specs.Stages.{IsEditorOf, Goes, ReadsRow}
use Rattle.version_store.proofs.KnownPlaces.{grown_still, grown_on, grown_read, grown_words, read_is, word_learned}
use Rattle.version_store.proofs.Going.{goes_nowhere, goes_on, goes_as, editor_on, row_next}

-- what the rule tells of an editor's view
pub told_of : (L : List Entry → Type 0) (F : List Entry → List ℕ → Type 0) (c : Current) (v : View) → IsEditorOf c v → Tells L F v
    → L v.log × IsTold (F v.log) v c.version
told_of L F c v e told = let t = told (inr (role_of v, e.has)) in (t.0, subst (λ (n : ℕ). IsTold (F v.log) v n) (sym e.at) t.1)

-- what is known by index of some words is known of one word more
more_known : (P : ℕ → ℕ → Type 0) (xs : List ℕ) (x : ℕ) → ((i : ℕ) → i < length xs → P i (slice_index xs i)) → P (length xs) x
    → (i : ℕ) → i < length (xs ++ x ∷ []) → P i (slice_index (xs ++ x ∷ []) i)
more_known P xs x h last i lt = elim (cases_lt i (length xs)) [
  | inl below ↦ subst (P i) (sym (get_or-append xs (x ∷ []) 0 i below)) (h i below)
  | inr above ↦ let n = length-append xs (x ∷ []) in let e : i ≡ length xs = omega arith in
      subst (λ (j : ℕ). P j (slice_index (xs ++ x ∷ []) j)) (sym e) (subst (P (length xs)) (sym (get_or-append_seam xs x [] 0)) last)
]

-- the words of a row are known wherever it stands, and one word more
shows_more : (w : View) (row : ℕ) (xs : List ℕ) (x : ℕ) → w.share ≡ whole → Shows w.known row xs → Shows (known_read w row (length xs) x) row (xs ++ x ∷ [])
shows_more w row xs x all shows l i e = let f = learned_word row (length xs) x in let j = subst (In l) (read_is w row (length xs) x all) i in
    let b = (grown_words row (length xs) x w.known).back l j in
    more_known (λ (index word : ℕ). In (index, word) l.words) xs x (λ index lt. b.2.2 _ (shows b.0 b.1 (sym b.2.1 ∙ e) index lt))
    (word_learned row (length xs) x w.known l j e)

module _ (c : Current) (v : View) (row : ℕ) (editor : IsEditorOf c v) (named : version_of v.entries row ≡ Some c.version) where
  pub begins : ReadsRow c v v row []
  begins = record {
    goes = goes_nowhere v;
    role = refl;
    entries = refl;
    earlier = λ _ i. i;
    known = λ i lt. absurd (omega arith);
    grown = grown_still v.known;
    shows = λ all l i e index lt. absurd (omega arith);
  }

  -- the view after some words
  module _ (w : View) (xs : List ℕ) (so_far : ReadsRow c v w row xs) where
    pub editor_then : IsEditorOf c w
    editor_then = editor_on c v w _ editor so_far.goes (role_of v) (so_far.role ∙ editor.has) refl refl

    pub named_then : version_of w.entries row ≡ Some c.version
    named_then = ap (λ es. version_of es row) so_far.entries ∙ named

    pub knows_then : KnowsRow w c.version row
    knows_then = names_known w c.version row named_then

    pub more : (u : View) (index x : ℕ) → index ≡ length xs → u ≡ after_load_row w row index x → ReadsRow c v u row (xs ++ x ∷ [])
    more u index x at is = let t : View = after_load_row w row (length xs) x in let same : w.sizes ≡ c.sizes = so_far.goes.stays.sizes ∙ editor.sizes in
        let one : Goes w t (loaded_row c.sizes row (length xs) x ∷ []) = record {
          stays = record { sizes = refl; share = refl; pins_left = refl; log_words = refl; pinned = refl; own = refl };
          log = refl;
          steps = ap (λ (z : Sizes). w.steps ++ loaded_row z row (length xs) x ∷ []) same;
        } in
        let fact : WordFact = record { version = c.version; row = row; index = length xs; word = x } in
        let words : t.words ≡ fact ∷ w.words = ap (λ (o : Option ℕ). met_word o w.words row (length xs) x) named_then in
        let keeps : (y : WordFact) → In y w.words → In y t.words = λ y i. subst (In y) (sym words) (inr i) in
        subst (λ (y : View). ReadsRow c v y row (xs ++ x ∷ [])) (sym (is ∙ ap (λ (n : ℕ). after_load_row w row n x) at)) (record {
          goes = goes_as v t _ (row_loads c.sizes row 0 (xs ++ x ∷ [])) (sym (row_next c.sizes row xs x))
              (goes_on v w t (row_loads c.sizes row 0 xs) _ so_far.goes one);
          role = so_far.role;
          entries = so_far.entries;
          earlier = λ y i. keeps y (so_far.earlier y i);
          known = more_known (λ i word. KnowsWord t c.version row i word) xs x (λ i lt. keeps _ (so_far.known i lt)) (subst (In fact) (sym words) (inl refl));
          grown = grown_on v.known w.known t.known so_far.grown (grown_read w row (length xs) x);
          shows = λ all. shows_more w row xs x (so_far.goes.stays.share ∙ all) (so_far.shows all);
        })

  -- after the two lengths
  module _ (u w : View) (key payload : ℕ) (first : u ≡ after_load_row v row 0 key) (second : w ≡ after_load_row u row 1 payload) where
    one_read : ReadsRow c v u row (key ∷ [])
    one_read = more v [] begins u 0 key refl first

    pub both_read : ReadsRow c v w row (key ∷ payload ∷ [])
    both_read = more u (key ∷ []) one_read w 1 payload refl second

    -- the row has room for its key and its payload
    pub fits_row : (L : List Entry → Type 0) (F : List Entry → List ℕ → Type 0) → Tells L F w → 2 + (key + payload) ≤ c.sizes.width
    fits_row L F told = let e = editor_then w (key ∷ payload ∷ []) both_read in
        subst (λ (z : Sizes). 2 + (key + payload) ≤ z.width) e.sizes ((told_of L F c w e told).1.room row key payload
        (knows_then w (key ∷ payload ∷ []) both_read) (both_read.known 0 (omega arith)) (both_read.known 1 (omega arith)))

-- The buffer

-- the first words of a row
module _ (buffer : List ℕ) (key payload : ℕ) (room : 2 ≤ length buffer) where
  abbrev both : List ℕ
  both = set (set buffer 0 key) 1 payload

  pub first_word : take 1 (set buffer 0 key) ≡ [] ++ key ∷ []
  first_word = take_more_set buffer 0 key (omega arith)

  pub first_words : take 2 (set (set buffer 0 key) 1 payload) ≡ (key ∷ []) ++ payload ∷ []
  first_words = take_more_set (set buffer 0 key) 1 payload (let n = length-set buffer 0 key in omega arith)
      ∙ ap (λ (l : List ℕ). l ++ payload ∷ []) first_word

  pub key_there : slice_index (set (set buffer 0 key) 1 payload) 0 ≡ key
  key_there = get_or-set_other (set buffer 0 key) 1 0 payload 0 (λ e. omega arith) ∙ get_or-set_same buffer 0 key 0 (omega arith)

  pub payload_there : slice_index (set (set buffer 0 key) 1 payload) 1 ≡ payload
  payload_there = get_or-set_same (set buffer 0 key) 1 payload 0 (let n = length-set buffer 0 key in omega arith)

-- a buffer whose lengths tell how many words were read has a whole row
pub whole_row : (buffer : List ℕ) (count : ℕ) → count ≡ 2 + (slice_index buffer 0 + slice_index buffer 1) → count ≤ length buffer
    → IsWholeRow (take count buffer)
whole_row buffer count is few = length-take-le count buffer few ∙ is ∙ (let a = get_or-take count buffer 0 0 (omega arith) in
    let b = get_or-take count buffer 1 0 (omega arith) in omega arith)

-- a word further on leaves the lengths
pub lengths_stay : (buffer : List ℕ) (index x : ℕ) → 2 ≤ index
    → slice_index buffer 0 + slice_index buffer 1 ≡ slice_index (set buffer index x) 0 + slice_index (set buffer index x) 1
lengths_stay buffer index x le = let a = get_or-set_other buffer index 0 x 0 (λ e. omega arith) in
    let b = get_or-set_other buffer index 1 x 0 (λ e. omega arith) in omega arith
