-- Bytes packed into words, and found there again.
use Rattle.std.proofs.Common.{◌≡◌, ℕ, zero, suc, ◌+◌, ◌*◌, ◌^◌, ◌%◌, ◌<◌, ◌≤◌, List, [], ◌∷◌, ◌++◌, length, get_or, set, take, drop, refl, sym, ap, subst, ◌∙◌}
use Rattle.std.proofs.Common.{arith, add_comm, append_assoc}
use Rattle.std.specs.List.{AllByRecursion}
use Rattle.std.specs.Int.{w64, to_le_bytes, from_le_bytes}
use Rattle.std.specs.Prelude.{bit_or}
use Rattle.std.proofs.lemmas.List.{append-nil, take_at, drop_at, take-append-drop}
use Rattle.std.proofs.lemmas.Nat.{le_bytes_8, from_le_bytes-to_le_bytes_8, or_comm, or_shifted, shl_whole}
use Rattle.edit_entry.specs.Entries.{packed_words, bytes_of}

abbrev pub Bytes : List ℕ → Type 0
Bytes xs = AllByRecursion (λ byte. byte < 256) xs

abbrev pub Zeros : List ℕ → Type 0
Zeros xs = AllByRecursion (λ byte. byte ≡ 0) xs

-- ---- one word

-- the first so many, with zeros where there are no more
abbrev pad : ℕ → List ℕ → List ℕ
pad zero xs = []
pad (suc n) [] = 0 ∷ pad n []
pad (suc n) (x ∷ xs) = x ∷ pad n xs

length-pad : (n : ℕ) (xs : List ℕ) → length (pad n xs) ≡ n
length-pad zero xs = refl
length-pad (suc n) [] = ap suc (length-pad n [])
length-pad (suc n) (x ∷ xs) = ap suc (length-pad n xs)

pad_bytes : (n : ℕ) (xs : List ℕ) → Bytes xs → Bytes (pad n xs)
pad_bytes zero xs h = tt
pad_bytes (suc n) [] h = (omega arith, pad_bytes n [] tt)
pad_bytes (suc n) (x ∷ xs) h = (h.0, pad_bytes n xs h.1)

byte_at_place : (xs : List ℕ) → Bytes xs → (i : ℕ) → get_or xs i 0 < 256
byte_at_place [] h i = omega arith
byte_at_place (x ∷ xs) h zero = h.0
byte_at_place (x ∷ xs) h (suc i) = byte_at_place xs h.1 i

-- a word reads its eight bytes alone, and zeros where there are no more
padded_word : (xs : List ℕ) → from_le_bytes w64 xs ≡ from_le_bytes w64 (pad 8 xs)
padded_word [] = refl
padded_word (a ∷ []) = refl
padded_word (a ∷ b ∷ []) = refl
padded_word (a ∷ b ∷ c ∷ []) = refl
padded_word (a ∷ b ∷ c ∷ d ∷ []) = refl
padded_word (a ∷ b ∷ c ∷ d ∷ e ∷ []) = refl
padded_word (a ∷ b ∷ c ∷ d ∷ e ∷ f ∷ []) = refl
padded_word (a ∷ b ∷ c ∷ d ∷ e ∷ f ∷ g ∷ []) = refl
padded_word (a ∷ b ∷ c ∷ d ∷ e ∷ f ∷ g ∷ k ∷ rest) = refl

unpacked : (xs : List ℕ) → Bytes xs → to_le_bytes w64 (from_le_bytes w64 xs) ≡ pad 8 xs
unpacked xs h = le_bytes_8 (pad 8 xs) (from_le_bytes w64 xs) (length-pad 8 xs) (byte_at_place (pad 8 xs) (pad_bytes 8 xs h)) (padded_word xs)

drop_bytes : (n : ℕ) (xs : List ℕ) → Bytes xs → Bytes (drop n xs)
drop_bytes zero xs h = h
drop_bytes (suc n) [] h = tt
drop_bytes (suc n) (x ∷ xs) h = drop_bytes n xs h.1

-- ---- many words

pads : ℕ → List ℕ → List ℕ
pads zero xs = []
pads (suc n) xs = pad 8 xs ++ pads n (drop 8 xs)

unpacked_all : (n : ℕ) (xs : List ℕ) → Bytes xs → bytes_of (packed_words n xs) ≡ pads n xs
unfolding packed_words pads
unpacked_all zero xs h = refl
unpacked_all (suc n) xs h = ap (λ front. front ++ bytes_of (packed_words n (drop 8 xs))) (unpacked xs h) ∙ ap (λ back. pad 8 xs ++ back)
    (unpacked_all n (drop 8 xs) (drop_bytes 8 xs h))

pub take_bytes : (n : ℕ) (xs : List ℕ) → Bytes xs → Bytes (take n xs)
take_bytes zero xs h = tt
take_bytes (suc n) [] h = tt
take_bytes (suc n) (x ∷ xs) h = (h.0, take_bytes n xs h.1)

-- zeros stand behind these, and nothing else
record Behind (xs whole : List ℕ) : Type 0 where
  zeros : List ℕ
  are : Zeros zeros
  whole_is : whole ≡ xs ++ zeros

nothing_behind : (n : ℕ) → Zeros (pads n [])
unfolding pads
nothing_behind zero = tt
nothing_behind (suc n) = (refl, (refl, (refl, (refl, (refl, (refl, (refl, (refl, nothing_behind n))))))))

behind : (n : ℕ) (xs : List ℕ) → length xs ≤ 8 * n → Behind xs (pads n xs)
unfolding pads
behind zero [] h = record { zeros = []; are = tt; whole_is = refl }
behind zero (x ∷ xs) h = absurd (omega arith)
behind (suc n) [] h = record {
  zeros = 0 ∷ 0 ∷ 0 ∷ 0 ∷ 0 ∷ 0 ∷ 0 ∷ 0 ∷ pads n [];
  are =
      (refl, (refl, (refl, (refl, (refl, (refl, (refl, (refl, nothing_behind n))))))));
  whole_is = refl;
}
behind (suc n) (a ∷ []) h = record {
  zeros = 0 ∷ 0 ∷ 0 ∷ 0 ∷ 0 ∷ 0 ∷ 0 ∷ pads n [];
  are =
      (refl, (refl, (refl, (refl, (refl, (refl, (refl, nothing_behind n)))))));
  whole_is = refl;
}
behind (suc n) (a ∷ b ∷ []) h = record {
  zeros = 0 ∷ 0 ∷ 0 ∷ 0 ∷ 0 ∷ 0 ∷ pads n [];
  are = (refl, (refl, (refl, (refl, (refl, (refl, nothing_behind n))))));
  whole_is = refl;
}
behind (suc n) (a ∷ b ∷ c ∷ []) h = record {
  zeros = 0 ∷ 0 ∷ 0 ∷ 0 ∷ 0 ∷ pads n [];
  are = (refl, (refl, (refl, (refl, (refl, nothing_behind n)))));
  whole_is =
      refl;
}
behind (suc n) (a ∷ b ∷ c ∷ d ∷ []) h = record { zeros = 0 ∷ 0 ∷ 0 ∷ 0 ∷ pads n []; are = (refl, (refl, (refl, (refl, nothing_behind n)))); whole_is = refl }
behind (suc n) (a ∷ b ∷ c ∷ d ∷ e ∷ []) h = record { zeros = 0 ∷ 0 ∷ 0 ∷ pads n []; are = (refl, (refl, (refl, nothing_behind n))); whole_is = refl }
behind (suc n) (a ∷ b ∷ c ∷ d ∷ e ∷ f ∷ []) h = record { zeros = 0 ∷ 0 ∷ pads n []; are = (refl, (refl, nothing_behind n)); whole_is = refl }
behind (suc n) (a ∷ b ∷ c ∷ d ∷ e ∷ f ∷ g ∷ []) h = record { zeros = 0 ∷ pads n []; are = (refl, nothing_behind n); whole_is = refl }
behind (suc n) (a ∷ b ∷ c ∷ d ∷ e ∷ f ∷ g ∷ k ∷ rest) h =
    let more = behind n rest (omega arith) in
    record { zeros = more.zeros; are = more.are; whole_is = ap (λ others. a ∷ b ∷ c ∷ d ∷ e ∷ f ∷ g ∷ k ∷ others) more.whole_is }

-- what was packed is there, and zeros behind it
pub record Found (xs words : List ℕ) : Type 0 where
  pub text : take (length xs) (bytes_of words) ≡ xs
  pub padding : Zeros (drop (length xs) (bytes_of words))

pub packed_found : (n : ℕ) (xs : List ℕ) → Bytes xs → length xs ≤ 8 * n → Found xs (packed_words n xs)
packed_found n xs h short =
    let b = behind n xs short in
    let whole : bytes_of (packed_words n xs) ≡ xs ++ b.zeros = unpacked_all n xs h ∙ b.whole_is in
    record {
      text = ap (λ bytes. take (length xs) bytes) whole ∙ take_at xs b.zeros (length xs) refl;
      padding = subst (λ (bytes : List ℕ). Zeros bytes) (sym (ap (λ bytes. drop (length xs) bytes) whole ∙ drop_at xs b.zeros (length xs) refl)) b.are;
    }

-- ---- one byte more

-- a zero at the end of what is packed changes nothing
one_zero : (n : ℕ) (xs : List ℕ) → packed_words n (xs ++ 0 ∷ []) ≡ packed_words n xs
unfolding packed_words
one_zero zero xs = refl
one_zero (suc n) [] = refl
one_zero (suc n) (a ∷ []) = refl
one_zero (suc n) (a ∷ b ∷ []) = refl
one_zero (suc n) (a ∷ b ∷ c ∷ []) = refl
one_zero (suc n) (a ∷ b ∷ c ∷ d ∷ []) = refl
one_zero (suc n) (a ∷ b ∷ c ∷ d ∷ e ∷ []) = refl
one_zero (suc n) (a ∷ b ∷ c ∷ d ∷ e ∷ f ∷ []) = refl
one_zero (suc n) (a ∷ b ∷ c ∷ d ∷ e ∷ f ∷ g ∷ []) = refl
one_zero (suc n) (a ∷ b ∷ c ∷ d ∷ e ∷ f ∷ g ∷ k ∷ rest) = ap (λ words. from_le_bytes w64 (a ∷ b ∷ c ∷ d ∷ e ∷ f ∷ g ∷ k ∷ []) ∷ words) (one_zero n rest)

zeros_change_nothing : (n : ℕ) (xs zeros : List ℕ) → Zeros zeros → packed_words n (xs ++ zeros) ≡ packed_words n xs
zeros_change_nothing n xs [] h = ap (λ bytes. packed_words n bytes) (append-nil xs)
zeros_change_nothing n xs (z ∷ zs) h =
    ap (λ first. packed_words n (xs ++ first ∷ zs)) h.0
    ∙ ap (λ bytes. packed_words n bytes) (sym (append_assoc xs (0 ∷ []) zs))
    ∙ zeros_change_nothing n (xs ++ 0 ∷ []) zs h.1
    ∙ one_zero n xs

-- words are packed from their own bytes
abbrev pub AreWords : List ℕ → Type 0
AreWords words = AllByRecursion (λ word. word < 2 ^ 64) words

repacked : (words : List ℕ) → AreWords words → packed_words (length words) (bytes_of words) ≡ words
unfolding packed_words
repacked [] h = refl
repacked (word ∷ words) h =
    ap (λ first. first ∷ packed_words (length words) (bytes_of words)) (from_le_bytes-to_le_bytes_8 word h.0)
    ∙ ap (λ others. word ∷ others) (repacked words h.1)

pub packed_again : (n first : ℕ) (words text : List ℕ) → length words ≡ n → AreWords words → take first (bytes_of words) ≡ text
    → Zeros (drop first (bytes_of words)) → words ≡ packed_words n text
packed_again n first words text len are is zeros =
    sym (repacked words are)
    ∙ ap (λ k. packed_words k (bytes_of words)) len
    ∙ ap (λ bytes. packed_words n bytes) (sym (take-append-drop first (bytes_of words)))
    ∙ zeros_change_nothing n (take first (bytes_of words)) (drop first (bytes_of words)) zeros
    ∙ ap (λ bytes. packed_words n bytes) is

pub length-bytes_of : (words : List ℕ) → length (bytes_of words) ≡ 8 * length words
length-bytes_of [] = refl
length-bytes_of (word ∷ words) = let more = length-bytes_of words in omega arith

word_bytes : (word : ℕ) → Bytes (to_le_bytes w64 word)
word_bytes word = (omega arith, (omega arith, (omega arith, (omega arith, (omega arith, (omega arith, (omega arith, (omega arith, tt))))))))

pub bytes_of_bytes : (words : List ℕ) → Bytes (bytes_of words)
bytes_of_bytes [] = tt
bytes_of_bytes (word ∷ words) = let own = word_bytes word in let more = bytes_of_bytes words in
    (own.0, (own.1.0, (own.1.1.0, (own.1.1.1.0, (own.1.1.1.1.0, (own.1.1.1.1.1.0, (own.1.1.1.1.1.1.0, (own.1.1.1.1.1.1.1.0, more))))))))

-- ---- a byte into its place

or_above : (low byte k : ℕ) → low < 2 ^ k → byte < 256 → 8 + k ≤ 64 → bit_or low (byte * 2 ^ k % 2 ^ 64) ≡ low + byte * 2 ^ k
or_above low byte k small is fits =
    ap (λ high. bit_or low high) (shl_whole byte 8 k 64 is fits)
    ∙ or_comm low (byte * 2 ^ k)
    ∙ or_shifted byte k low small
    ∙ add_comm (byte * 2 ^ k) low

or_word : (xs : List ℕ) (byte : ℕ) → length xs < 8 → Bytes xs → byte < 256 → bit_or (from_le_bytes w64 xs) (byte * 2 ^ (length xs * 8) % 2 ^ 64)
    ≡ from_le_bytes w64 (xs ++ byte ∷ [])
or_word [] byte short h is = or_above (from_le_bytes w64 []) byte 0 (omega arith) is (omega arith) ∙ omega arith
or_word (a ∷ []) byte short h is = or_above (from_le_bytes w64 (a ∷ [])) byte 8 (omega arith) is (omega arith) ∙ omega arith
or_word (a ∷ b ∷ []) byte short h is = or_above (from_le_bytes w64 (a ∷ b ∷ [])) byte 16 (omega arith) is (omega arith) ∙ omega arith
or_word (a ∷ b ∷ c ∷ []) byte short h is = or_above (from_le_bytes w64 (a ∷ b ∷ c ∷ [])) byte 24 (omega arith) is (omega arith) ∙ omega arith
or_word (a ∷ b ∷ c ∷ d ∷ []) byte short h is = or_above (from_le_bytes w64 (a ∷ b ∷ c ∷ d ∷ [])) byte 32 (omega arith) is (omega arith) ∙ omega arith
or_word (a ∷ b ∷ c ∷ d ∷ e ∷ []) byte short h is = or_above (from_le_bytes w64 (a ∷ b ∷ c ∷ d ∷ e ∷ [])) byte 40 (omega arith) is (omega arith) ∙ omega arith
or_word (a ∷ b ∷ c ∷ d ∷ e ∷ f ∷ []) byte short h is = or_above (from_le_bytes w64 (a ∷ b ∷ c ∷ d ∷ e ∷ f ∷ [])) byte 48 (omega arith) is (omega arith)
    ∙ omega arith
or_word (a ∷ b ∷ c ∷ d ∷ e ∷ f ∷ g ∷ []) byte short h is = or_above (from_le_bytes w64 (a ∷ b ∷ c ∷ d ∷ e ∷ f ∷ g ∷ [])) byte 56 (omega arith) is (omega arith)
    ∙ omega arith
or_word (a ∷ b ∷ c ∷ d ∷ e ∷ f ∷ g ∷ k ∷ rest) byte short h is = absurd (omega arith)

put : List ℕ → ℕ → ℕ → List ℕ
put words at high = set words at (bit_or (get_or words at 0) high)

put_first : (n : ℕ) (xs : List ℕ) (byte : ℕ) → length xs < 8 → Bytes xs → byte < 256 → put (packed_words (suc n) xs) 0 (byte * 2 ^ (length xs * 8) % 2 ^ 64)
    ≡ packed_words (suc n) (xs ++ byte ∷ [])
unfolding packed_words put
put_first n [] byte short h is = ap (λ word. word ∷ packed_words n []) (or_word [] byte short h is)
put_first n (a ∷ []) byte short h is = ap (λ word. word ∷ packed_words n []) (or_word (a ∷ []) byte short h is)
put_first n (a ∷ b ∷ []) byte short h is = ap (λ word. word ∷ packed_words n []) (or_word (a ∷ b ∷ []) byte short h is)
put_first n (a ∷ b ∷ c ∷ []) byte short h is = ap (λ word. word ∷ packed_words n []) (or_word (a ∷ b ∷ c ∷ []) byte short h is)
put_first n (a ∷ b ∷ c ∷ d ∷ []) byte short h is = ap (λ word. word ∷ packed_words n []) (or_word (a ∷ b ∷ c ∷ d ∷ []) byte short h is)
put_first n (a ∷ b ∷ c ∷ d ∷ e ∷ []) byte short h is = ap (λ word. word ∷ packed_words n []) (or_word (a ∷ b ∷ c ∷ d ∷ e ∷ []) byte short h is)
put_first n (a ∷ b ∷ c ∷ d ∷ e ∷ f ∷ []) byte short h is = ap (λ word. word ∷ packed_words n []) (or_word (a ∷ b ∷ c ∷ d ∷ e ∷ f ∷ []) byte short h is)
put_first n (a ∷ b ∷ c ∷ d ∷ e ∷ f ∷ g ∷ []) byte short h is = ap (λ word. word ∷ packed_words n []) (or_word (a ∷ b ∷ c ∷ d ∷ e ∷ f ∷ g ∷ []) byte short h is)
put_first n (a ∷ b ∷ c ∷ d ∷ e ∷ f ∷ g ∷ k ∷ rest) byte short h is = absurd (omega arith)

pub put_byte : (n : ℕ) (xs : List ℕ) (byte i j : ℕ) → length xs ≡ 8 * i + j → j < 8 → length xs < 8 * n → Bytes xs → byte < 256
    → set (packed_words n xs) i (bit_or (get_or (packed_words n xs) i 0) (byte * 2 ^ (j * 8) % 2 ^ 64)) ≡ packed_words n (xs ++ byte ∷ [])
unfolding packed_words put
put_byte zero xs byte i j at within short h is = absurd (omega arith)
put_byte (suc n) xs byte zero j at within short h is =
    let same : length xs ≡ j = omega arith in
    subst (λ (m : ℕ). put (packed_words (suc n) xs) 0 (byte * 2 ^ (m * 8) % 2 ^ 64) ≡ packed_words (suc n) (xs ++ byte ∷ [])) same
    (put_first n xs byte (omega arith) h is)
put_byte (suc n) [] byte (suc i) j at within short h is = absurd (omega arith)
put_byte (suc n) (a ∷ []) byte (suc i) j at within short h is = absurd (omega arith)
put_byte (suc n) (a ∷ b ∷ []) byte (suc i) j at within short h is = absurd (omega arith)
put_byte (suc n) (a ∷ b ∷ c ∷ []) byte (suc i) j at within short h is = absurd (omega arith)
put_byte (suc n) (a ∷ b ∷ c ∷ d ∷ []) byte (suc i) j at within short h is = absurd (omega arith)
put_byte (suc n) (a ∷ b ∷ c ∷ d ∷ e ∷ []) byte (suc i) j at within short h is = absurd (omega arith)
put_byte (suc n) (a ∷ b ∷ c ∷ d ∷ e ∷ f ∷ []) byte (suc i) j at within short h is = absurd (omega arith)
put_byte (suc n) (a ∷ b ∷ c ∷ d ∷ e ∷ f ∷ g ∷ []) byte (suc i) j at within short h is = absurd (omega arith)
put_byte (suc n) (a ∷ b ∷ c ∷ d ∷ e ∷ f ∷ g ∷ k ∷ rest) byte (suc i) j at within short h is =
    ap (λ words. from_le_bytes w64 (a ∷ b ∷ c ∷ d ∷ e ∷ f ∷ g ∷ k ∷ []) ∷ words)
    (put_byte n rest byte i j (omega arith) within (omega arith) h.1.1.1.1.1.1.1.1 is)
