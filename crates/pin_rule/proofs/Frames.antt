-- What a written word leaves: the words of the other parts of the table, and rows that are read by their words.
use Rattle.std.proofs.Common.{◌≡◌, ◌≢◌, ℕ, zero, suc, ◌+◌, ◌*◌, ◌<◌, ◌≤◌, List, [], ◌∷◌, slice_index, length, set, sym, refl, ap, ◌∙◌, arith, get_or-set_other}
use Rattle.std.proofs.Common.{get_or-set_same, get_or, suc-mul, inl, inr}
use Rattle.std.proofs.lemmas.Bool.{cases_lt}
use Rattle.std.proofs.Math.Nat.{mul-le-mul_right}
use Rattle.pin_rule.specs.declared.sizes.Sizes.{Sizes}
use Rattle.pin_rule.specs.Layout.{release_word, claim_word, place_word, log_word, row_word, word_count, release, claim, entry, logged, row_at}
use Rattle.pin_rule.specs.declared.ops.Op.{Op}
use Rattle.pin_rule.specs.declared.ops.Op.TheVariants as op
use Rattle.pin_rule.specs.Ops.{word_of, IsIn}
use Rattle.pin_rule.specs.Rows.{words_of, key_of, content_of}
use Rattle.pin_rule.specs.Told.{OfKey}

pub set_same : (l : List ℕ) (i : ℕ) → set l i (slice_index l i) ≡ l
set_same [] i = refl
set_same (x ∷ xs) zero = refl
set_same (x ∷ xs) (suc i) = ap (λ l. x ∷ l) (set_same xs i)

-- rows that agree on the words of a row have the same key and the same content
abbrev pub Same : ℕ → (ℕ → ℕ) → (ℕ → ℕ) → Type 0
Same width f g = (i : ℕ) → i < width → f i ≡ g i

words_same : (f g : ℕ → ℕ) (width from n : ℕ) → from + n ≤ width → Same width f g → words_of f from n ≡ words_of g from n
words_same f g width from zero h s = refl
words_same f g width from (suc n) h s = let a = s from (omega arith) in let b = words_same f g width (suc from) n (omega arith) s in (λ i. a i ∷ b i)

pub key_same : (f g : ℕ → ℕ) (width : ℕ) → 2 + f 0 ≤ width → Same width f g → key_of f ≡ key_of g
key_same f g width h s = words_same f g width 2 (f 0) h s ∙ ap (words_of g 2) (s 0 (omega arith))

words_alike : (f g : ℕ → ℕ) (from n : ℕ) → ((i : ℕ) → from ≤ i → i < from + n → f i ≡ g i) → words_of f from n ≡ words_of g from n
words_alike f g from zero s = refl
words_alike f g from (suc n) s = let a = s from (omega arith) (omega arith) in
    let b = words_alike f g (suc from) n (λ i ge lt. s i (omega arith) (omega arith)) in (λ i. a i ∷ b i)

-- rows that agree on the words that tell the key have the same key
pub key_alike : (f g : ℕ → ℕ) → ((i : ℕ) → OfKey g i → f i ≡ g i) → key_of f ≡ key_of g
key_alike f g s = ap (words_of f 2) (s 0 (omega arith, λ e. omega arith)) ∙
    words_alike f g 2 (g 0) (λ i ge lt. s i (omega arith, λ e. omega arith))

pub content_same : (f g : ℕ → ℕ) (width : ℕ) → 2 + (f 0 + f 1) ≤ width → Same width f g → content_of f ≡ content_of g
content_same f g width h s = let a = s 0 (omega arith) in let b = s 1 (omega arith) in
    words_same f g width 0 (2 + (f 0 + f 1)) (omega arith) s ∙ (λ i. words_of g 0 (2 + (a i + b i)))

length_words : (f : ℕ → ℕ) (from n : ℕ) → length (words_of f from n) ≡ n
length_words f from zero = refl
length_words f from (suc n) = ap suc (length_words f (suc from) n)

pub word_at : (f : ℕ → ℕ) (from n i : ℕ) → i < n → get_or (words_of f from n) i 0 ≡ f (from + i)
word_at f from zero i h = absurd (omega arith)
word_at f from (suc n) zero h = ap f (let r : from ≡ from + 0 = omega arith in r)
word_at f from (suc n) (suc i) h = word_at f (suc from) n i (omega arith) ∙ ap f (let r : suc from + i ≡ from + suc i = omega arith in r)

-- rows with the same key have the same key words
pub same_key : (f g : ℕ → ℕ) → key_of f ≡ key_of g → (f 0 ≡ g 0) × ((i : ℕ) → i < f 0 → f (2 + i) ≡ g (2 + i))
same_key f g e = let n : f 0 ≡ g 0 = sym (length_words f 2 (f 0)) ∙ ap length e ∙ length_words g 2 (g 0) in
    (n, λ i h. sym (word_at f 2 (f 0) i h) ∙ ap (λ l. get_or l i 0) e ∙ word_at g 2 (g 0) i (omega arith))

-- Each part ends before the next begins

before : (r q w i : ℕ) → r < q → i < w → r * w + i < q * w
before r q w i h k = let m : suc r * w ≤ q * w = mul-le-mul_right w h in let d : suc r * w ≡ r * w + w = suc-mul r w in omega arith

pub place_before : (z : Sizes) (page place : ℕ) → page < z.versions → place < z.places → page * z.places + place < z.versions * z.places
place_before z page place h k = before page z.versions z.places place h k

pub release_in : (z : Sizes) (page : ℕ) → page < z.versions → release_word z page < word_count z
release_in z page h = omega arith

pub claim_in : (z : Sizes) (row : ℕ) → row < z.rows → claim_word z row < word_count z
claim_in z row h = omega arith

pub place_in : (z : Sizes) (page place : ℕ) → page < z.versions → place < z.places → place_word z page place < word_count z
place_in z page place h k = let m = place_before z page place h k in omega arith

pub log_in : (z : Sizes) (e i : ℕ) → e < z.log → i < 32 → log_word z e i < word_count z
log_in z e i h k = omega arith

pub row_in : (z : Sizes) (row index : ℕ) → row < z.rows → index < z.width → row_word z row index < word_count z
row_in z row index h k = let m = before row z.rows z.width index h k in omega arith

-- each operation names a word of the table
pub word_in : (z : Sizes) (o : Op) → IsIn z o → word_of z o < word_count z
word_in z (op.LoadPlace page place) i = place_in z page place i.0 i.1
word_in z (op.LoadRow row index) i = row_in z row index i.0 i.1
word_in z (op.Claim row) i = claim_in z row i
word_in z (op.WriteRow row index word) i = row_in z row index i.0 i.1
word_in z (op.Publish page place row) i = place_in z page place i.0 i.1
word_in z (op.GiveBack row) i = claim_in z row i
word_in z op.Pin i = omega arith
word_in z (op.Unpin page) i = release_in z page i
word_in z (op.LoadLog entry index) i = log_in z entry index i.0 i.1
word_in z (op.WriteLog entry index word) i = log_in z entry index i.0 i.1
word_in z (op.WritePlace page place word) i = place_in z page place i.0 i.1
word_in z (op.SwapCurrent version page) i = omega arith
word_in z (op.LoadRelease page) i = release_in z page i
word_in z (op.FreeRow row) i = claim_in z row i

module _ (z : Sizes) (words : List ℕ) (x : ℕ) where
  other : (i j : ℕ) → j ≢ i → slice_index (set words i x) j ≡ slice_index words j
  other i j n = get_or-set_other words i j x 0 n

  -- the written word
  pub wrote : (i : ℕ) → length words ≡ word_count z → i < word_count z → slice_index (set words i x) i ≡ x
  wrote i l h = get_or-set_same words i x 0 (omega arith)

  -- CUR is written
  pub cur-release : (page : ℕ) → release z (set words 0 x) page ≡ release z words page
  cur-release page = other 0 (release_word z page) (λ e. omega arith)

  pub cur-claim : (r : ℕ) → claim z (set words 0 x) r ≡ claim z words r
  cur-claim r = other 0 (claim_word z r) (λ e. omega arith)

  pub cur-entry : (page p : ℕ) → entry z (set words 0 x) page p ≡ entry z words page p
  cur-entry page p = other 0 (place_word z page p) (λ e. omega arith)

  pub cur-logged : (e i : ℕ) → logged z (set words 0 x) e i ≡ logged z words e i
  cur-logged e i = other 0 (log_word z e i) (λ e. omega arith)

  pub cur-row : (r i : ℕ) → row_at z (set words 0 x) r i ≡ row_at z words r i
  cur-row r i = other 0 (row_word z r i) (λ e. omega arith)

  -- a release word is written
  pub release-cur : (page : ℕ) → slice_index (set words (release_word z page) x) 0 ≡ slice_index words 0
  release-cur page = other (release_word z page) 0 (λ e. omega arith)

  pub release-release : (page q : ℕ) → q ≢ page → release z (set words (release_word z page) x) q ≡ release z words q
  release-release page q n = other (release_word z page) (release_word z q) (λ e. n (omega arith))

  pub release-claim : (page r : ℕ) → page < z.versions → claim z (set words (release_word z page) x) r ≡ claim z words r
  release-claim page r h = other (release_word z page) (claim_word z r) (λ e. omega arith)

  pub release-entry : (page q p : ℕ) → page < z.versions → entry z (set words (release_word z page) x) q p ≡ entry z words q p
  release-entry page q p h = other (release_word z page) (place_word z q p) (λ e. omega arith)

  pub release-logged : (page e i : ℕ) → page < z.versions → logged z (set words (release_word z page) x) e i ≡ logged z words e i
  release-logged page e i h = other (release_word z page) (log_word z e i) (λ e. omega arith)

  pub release-row : (page r i : ℕ) → page < z.versions → row_at z (set words (release_word z page) x) r i ≡ row_at z words r i
  release-row page r i h = other (release_word z page) (row_word z r i) (λ e. omega arith)

  -- a claim word is written
  pub claim-claim : (row r : ℕ) → r ≢ row → claim z (set words (claim_word z row) x) r ≡ claim z words r
  claim-claim row r n = other (claim_word z row) (claim_word z r) (λ e. n (omega arith))

  pub claim-entry : (row page p : ℕ) → row < z.rows → entry z (set words (claim_word z row) x) page p ≡ entry z words page p
  claim-entry row page p h = other (claim_word z row) (place_word z page p) (λ e. omega arith)

  pub claim-row : (row r i : ℕ) → row < z.rows → row_at z (set words (claim_word z row) x) r i ≡ row_at z words r i
  claim-row row r i h = other (claim_word z row) (row_word z r i) (λ e. omega arith)

  pub claim-cur : (row : ℕ) → slice_index (set words (claim_word z row) x) 0 ≡ slice_index words 0
  claim-cur row = other (claim_word z row) 0 (λ e. omega arith)

  pub claim-release : (row page : ℕ) → page < z.versions → release z (set words (claim_word z row) x) page ≡ release z words page
  claim-release row page h = other (claim_word z row) (release_word z page) (λ e. omega arith)

  pub claim-logged : (row e i : ℕ) → row < z.rows → logged z (set words (claim_word z row) x) e i ≡ logged z words e i
  claim-logged row e i h = other (claim_word z row) (log_word z e i) (λ e. omega arith)

  -- a place is written
  pub place-claim : (page place r : ℕ) → r < z.rows → claim z (set words (place_word z page place) x) r ≡ claim z words r
  place-claim page place r h = other (place_word z page place) (claim_word z r) (λ e. omega arith)

  pub place-entry : (page place p : ℕ) → p ≢ place → entry z (set words (place_word z page place) x) page p ≡ entry z words page p
  place-entry page place p n = other (place_word z page place) (place_word z page p) (λ e. n (omega arith))

  pub place-row : (page place r i : ℕ) → page < z.versions → place < z.places → row_at z (set words (place_word z page place) x) r i ≡ row_at z words r i
  place-row page place r i v h = let m = place_before z page place v h in other (place_word z page place) (row_word z r i) (λ e. omega arith)

  pub place-cur : (page place : ℕ) → slice_index (set words (place_word z page place) x) 0 ≡ slice_index words 0
  place-cur page place = other (place_word z page place) 0 (λ e. omega arith)

  pub place-release : (page place q : ℕ) → q < z.versions → release z (set words (place_word z page place) x) q ≡ release z words q
  place-release page place q h = other (place_word z page place) (release_word z q) (λ e. omega arith)

  pub place-logged : (page place e i : ℕ) → page < z.versions → place < z.places → logged z (set words (place_word z page place) x) e i ≡ logged z words e i
  place-logged page place e i v h = let m = place_before z page place v h in other (place_word z page place) (log_word z e i) (λ e. omega arith)

  -- a word of the log is written
  pub log-cur : (e i : ℕ) → slice_index (set words (log_word z e i) x) 0 ≡ slice_index words 0
  log-cur e i = other (log_word z e i) 0 (λ q. omega arith)

  pub log-release : (e i page : ℕ) → page < z.versions → release z (set words (log_word z e i) x) page ≡ release z words page
  log-release e i page h = other (log_word z e i) (release_word z page) (λ q. omega arith)

  pub log-claim : (e i r : ℕ) → r < z.rows → claim z (set words (log_word z e i) x) r ≡ claim z words r
  log-claim e i r h = other (log_word z e i) (claim_word z r) (λ q. omega arith)

  pub log-entry : (e i page p : ℕ) → page < z.versions → p < z.places → entry z (set words (log_word z e i) x) page p ≡ entry z words page p
  log-entry e i page p v h = let m = place_before z page p v h in other (log_word z e i) (place_word z page p) (λ q. omega arith)

  pub log-logged : (e i d j : ℕ) → i < 32 → j < 32 → (d ≡ e → j ≢ i) → logged z (set words (log_word z e i) x) d j ≡ logged z words d j
  log-logged e i d j h k n = other (log_word z e i) (log_word z d j) (λ q. let same : d ≡ e = omega arith in n same (omega arith))

  pub log-row : (e i r index : ℕ) → e < z.log → i < 32 → row_at z (set words (log_word z e i) x) r index ≡ row_at z words r index
  log-row e i r index h k = other (log_word z e i) (row_word z r index) (λ q. omega arith)

  -- a word of a row is written
  pub row-claim : (row index r : ℕ) → r < z.rows → claim z (set words (row_word z row index) x) r ≡ claim z words r
  row-claim row index r h = other (row_word z row index) (claim_word z r) (λ e. omega arith)

  pub row-entry : (row index page p : ℕ) → page < z.versions → p < z.places → entry z (set words (row_word z row index) x) page p ≡ entry z words page p
  row-entry row index page p v h = let m = place_before z page p v h in other (row_word z row index) (place_word z page p) (λ e. omega arith)

  pub row-cur : (row index : ℕ) → slice_index (set words (row_word z row index) x) 0 ≡ slice_index words 0
  row-cur row index = other (row_word z row index) 0 (λ e. omega arith)

  pub row-release : (row index page : ℕ) → page < z.versions → release z (set words (row_word z row index) x) page ≡ release z words page
  row-release row index page h = other (row_word z row index) (release_word z page) (λ e. omega arith)

  pub row-logged : (row index e i : ℕ) → e < z.log → i < 32 → logged z (set words (row_word z row index) x) e i ≡ logged z words e i
  row-logged row index e i h k = other (row_word z row index) (log_word z e i) (λ e. omega arith)

apart : (r q w i j : ℕ) → r < q → i < w → r * w + i ≢ q * w + j
apart r q w i j h k e = let m = before r q w i h k in omega arith

pub row-row : (z : Sizes) (words : List ℕ) (x row index r i : ℕ) → index < z.width → i < z.width → ((r ≡ row) → i ≢ index)
    → row_at z (set words (row_word z row index) x) r i ≡ row_at z words r i
row-row z words x row index r i h k n = other z words x (row_word z row index) (row_word z r i) (λ e. let e' : r * z.width + i ≡ row * z.width + index =
    omega arith in
    elim (cases_lt r row) [
      | inl a ↦ apart r row z.width i index a k e'
      | inr b ↦ elim (cases_lt row r) [
        | inl a ↦ apart row r z.width index i a h
            (sym e')
        | inr c ↦ let same : r ≡ row = omega arith in n same (let s : r * z.width ≡ row * z.width = ap (λ q. q * z.width) same in omega arith)
      ]
    ])

-- a place of another page
pub place-page : (z : Sizes) (words : List ℕ) (x page place q p : ℕ) → place < z.places → p < z.places → q ≢ page
    → entry z (set words (place_word z page place) x) q p ≡ entry z words q p
place-page z words x page place q p h k n = other z words x (place_word z page place) (place_word z q p) (λ e. let e' : q * z.places + p
    ≡ page * z.places + place = omega arith in
    elim (cases_lt q page) [
      | inl a ↦ apart q page z.places p place a k e'
      | inr b ↦ elim (cases_lt page q) [
        | inl a ↦ apart page q z.places place p a h
            (sym e')
        | inr c ↦ n (omega arith)
      ]
    ])
