-- A row word by word.
use Rattle.std.proofs.Common.{◌≡◌, ℕ, zero, suc, ◌+◌, ◌-◌, ◌<◌, List, [], ◌∷◌, ◌++◌, inl, inr, length, slice_index, length-append, sym, refl, ap, ◌∙◌, subst}
use Rattle.std.proofs.Common.{arith}
use Rattle.std.proofs.lemmas.Bool.{cases_lt}
use Rattle.std.proofs.Math.ListN.{get_or-append}
use Rattle.std.proofs.lemmas.List.{get_or-append-add}
use Rattle.pin_rule.specs.Rows.{words_of, key_of, content_of}
use Rattle.slot_store.specs.Keys.{row_of, head_of, TellsKey}

pub length_row : (key payload : List ℕ) → length (row_of key payload) ≡ 2 + (length key + length payload)
length_row key payload = let e = length-append key payload in omega arith

module _ (key payload : List ℕ) (P : ℕ → ℕ → Type 0) where
  -- what holds of the two lengths, of the key's words and of the payload's
  pub by_parts : P 0 (length key) → P 1 (length payload) → ((i : ℕ) → i < length key → P (i + 2) (slice_index key i))
      → ((j : ℕ) → j < length payload → P (length key + 2 + j) (slice_index payload j))
      → (index : ℕ) → index < length (row_of key payload) → P index (slice_index (row_of key payload) index)
  by_parts a b k p zero lt = a
  by_parts a b k p (suc zero) lt = b
  by_parts a b k p (suc (suc i)) lt = let e = length-append key payload in let n : ℕ = length key in elim (cases_lt i n) [
    | inl below ↦ subst (λ (t : ℕ × ℕ). P t.0 t.1) (λ d. ((let r : i + 2 ≡ suc (suc i) = omega arith in r) d, sym (get_or-append key payload 0 i below) d))
        (k i below)
    | inr above ↦ let j : ℕ = i - n in let is : n + j ≡ i = omega arith in
        subst (λ (t : ℕ × ℕ). P t.0 t.1) (λ d. (
          (let r : n + 2 + j ≡ suc (suc i) = omega arith in r) d,
          (sym (get_or-append-add key payload j 0)
              ∙ ap (slice_index (key ++ payload)) is) d,
        )) (p j (omega arith))
  ]

-- a word that tells the key is the same in the whole row
pub head_in_row : (key payload : List ℕ) (index : ℕ) → TellsKey key index → slice_index (row_of key payload) index ≡ slice_index (head_of key) index
head_in_row key payload zero t = refl
head_in_row key payload (suc zero) t = let n = t.1 in absurd (n refl)
head_in_row key payload (suc (suc i)) t = let lt = t.0 in get_or-append key payload 0 i (omega arith)

-- Where the lengths, the key and the payload stand in the row

module _ (key payload : List ℕ) where
  pub lengths_in : (i : ℕ) → i < length (length key ∷ length payload ∷ []) → (0 + i < length (row_of key payload))
      × (slice_index (length key ∷ length payload ∷ []) i ≡ slice_index (row_of key payload) (0 + i))
  lengths_in zero lt = let e = length_row key payload in (omega arith, refl)
  lengths_in (suc zero) lt = let e = length_row key payload in (omega arith, refl)
  lengths_in (suc (suc i)) lt = let two : length (length key ∷ length payload ∷ []) ≡ 2 = refl in absurd (omega arith)

  pub key_in : (i : ℕ) → i < length key → (2 + i < length (row_of key payload)) × (slice_index key i ≡ slice_index (row_of key payload) (2 + i))
  key_in i lt = let e = length_row key payload in
      (omega arith, sym (get_or-append key payload 0 i lt) ∙ ap (slice_index (row_of key payload)) (let r : suc (suc i) ≡ 2 + i = omega arith in r))

  pub payload_in : (j : ℕ) → j < length payload → (length key + 2 + j < length (row_of key payload))
      × (slice_index payload j ≡ slice_index (row_of key payload) (length key + 2 + j))
  payload_in j lt = let e = length_row key payload in let n : ℕ = length key in (
    omega arith,
    sym (get_or-append-add key payload j 0)
        ∙ ap (slice_index (row_of key payload)) (let r : suc (suc (n + j)) ≡ n + 2 + j = omega arith in r),
  )

shifted : (f : ℕ → ℕ) (from n : ℕ) → words_of f (suc from) n ≡ words_of (λ i. f (suc i)) from n
shifted f from zero = refl
shifted f from (suc n) = ap (λ (l : List ℕ). f (suc from) ∷ l) (shifted f (suc from) n)

all_words : (l : List ℕ) → words_of (slice_index l) 0 (length l) ≡ l
all_words [] = refl
all_words (x ∷ xs) = ap (λ (l : List ℕ). x ∷ l) (shifted (slice_index (x ∷ xs)) 0 (length xs) ∙ all_words xs)

first_words : (l m : List ℕ) → words_of (slice_index (l ++ m)) 0 (length l) ≡ l
first_words [] m = refl
first_words (x ∷ xs) m = ap (λ (l : List ℕ). x ∷ l) (shifted (slice_index (x ∷ (xs ++ m))) 0 (length xs) ∙ first_words xs m)

pub key_is : (key payload : List ℕ) → key_of (slice_index (row_of key payload)) ≡ key
key_is key payload = shifted (slice_index (row_of key payload)) 1 (length key) ∙ shifted (λ i. slice_index (row_of key payload) (suc i)) 0 (length key)
    ∙ first_words key payload

-- the words that tell the key alone tell it too
pub head_key_is : (key : List ℕ) → key_of (slice_index (head_of key)) ≡ key
head_key_is key = shifted (slice_index (head_of key)) 1 (length key) ∙ shifted (λ i. slice_index (head_of key) (suc i)) 0 (length key) ∙ all_words key

pub content_is : (key payload : List ℕ) → content_of (slice_index (row_of key payload)) ≡ row_of key payload
content_is key payload = ap (words_of (slice_index (row_of key payload)) 0) (sym (length_row key payload)) ∙ all_words (row_of key payload)
