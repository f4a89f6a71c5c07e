-- A whole row and its key, by their words.
use Rattle.std.proofs.Common.{◌≡◌, ℕ, suc, ◌+◌, ◌<◌, ◌≤◌, List, [], ◌∷◌, length, take, drop, slice_index, sym, refl, ap, ◌∙◌, arith}
use Rattle.std.proofs.lemmas.List.{length-take-le, length-drop, get_or-take, get_or-drop}
use Rattle.pin_rule.specs.Rows.{words_of, content_of}
use Rattle.version_store.specs.Rows.{IsWholeRow}
use Rattle.version_store.specs.Stages.{key_in}

-- words that agree with a list from an index on
words_are : (f : ℕ → ℕ) (from : ℕ) (l : List ℕ) → ((i : ℕ) → i < length l → f (from + i) ≡ slice_index l i) → words_of f from (length l) ≡ l
words_are f from [] h = refl
words_are f from (x ∷ xs) h =
    let first : f from ≡ x = ap f (let r : from ≡ from + 0 = omega arith in r) ∙ h 0 (omega arith) in
    let rest = words_are f (suc from) xs (λ i lt. ap f (let r : suc from + i ≡ from + suc i = omega arith in r) ∙ h (suc i) (omega arith)) in
    (λ i. first i ∷ rest i)

-- a whole row is its content
pub content_is : (words : List ℕ) → IsWholeRow words → content_of (slice_index words) ≡ words
content_is words whole = ap (words_of (slice_index words) 0) (sym whole)
    ∙ words_are (slice_index words) 0 words (λ i _. ap (slice_index words) (let r : 0 + i ≡ i = omega arith in r))

key_words : (words key : List ℕ) → length key ≡ slice_index words 0 → ((i : ℕ) → i < length key → slice_index words (2 + i) ≡ slice_index key i)
    → key_in words ≡ key
key_words words key long are = ap (words_of (slice_index words) 2) (sym long) ∙ words_are (slice_index words) 2 key are

-- the key of a row at the beginning of a buffer
pub key_taken : (buffer : List ℕ) (count : ℕ) → IsWholeRow (take count buffer) → count ≤ length buffer → (size : ℕ) → size ≡ slice_index buffer 0
    → key_in (take count buffer) ≡ take size (drop 2 buffer)
key_taken buffer count whole few size is =
    let long = length-take-le count buffer few in
    let first = get_or-take count buffer 0 0 (omega arith) in
    let room : 2 + size ≤ count = omega arith in
    let left = length-drop 2 buffer in
    key_words (take count buffer) (take size (drop 2 buffer))
    (length-take-le size (drop 2 buffer) (omega arith) ∙ is ∙ sym first)
    (λ i lt. let inside : i < size = (let n = length-take-le size (drop 2 buffer) (omega arith) in omega arith) in
    get_or-take count buffer (2 + i) 0 (omega arith) ∙ sym (get_or-drop 2 buffer i 0) ∙ sym (get_or-take size (drop 2 buffer) i 0 inside))
