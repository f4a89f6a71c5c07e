-- A byte behind a text, in its words.
use Rattle.std.proofs.Common.{◌≡◌, ℕ, ◌+◌, ◌*◌, ◌/◌, ◌%◌, ◌^◌, ◌<◌, ◌≤◌, List, [], ◌∷◌, ◌++◌, length, get_or, set, drop, nat_lt, if◌then◌else◌, sym, ap, ◌∙◌}
use Rattle.std.proofs.Common.{append-nil, append_assoc, arith}
use Rattle.std.specs.List.{fold}
use Rattle.std.specs.Prelude.{bit_or}
use Rattle.std.proofs.Math.Numerals.{one-add}
use Rattle.std.proofs.lemmas.List.{length_push}
use Rattle.std.proofs.lemmas.Bool.{lt-ltb}
use Rattle.grammar_text.specs.declared.limits.TheConstants.{EDIT_LIMIT}
use Rattle.edit_entry.specs.Entries.{packed_words, words_for, bytes_of, length_in, text_in}
use Rattle.edit_entry.proofs.EntryBytes.{Bytes, packed_found, put_byte, take_bytes, bytes_of_bytes}

-- a text in words is a list of bytes
pub text_bytes : (words : List ℕ) → Bytes (text_in words)
text_bytes words = take_bytes (length_in words) (bytes_of (drop 1 words)) (bytes_of_bytes (drop 1 words))

pub first_word : (words text : List ℕ) → words ≡ words_for text → get_or words 0 0 ≡ length text
unfolding words_for
first_word words text is = ap (λ ws. get_or ws 0 0) is

-- the words of a text hold it, and nothing else
pub record Closes (words text : List ℕ) : Type 0 where
  pub packed : words ≡ words_for (text_in words)
  pub text_is : text_in words ≡ text

text_again : (text : List ℕ) → Bytes text → length text ≤ 248 → text_in (words_for text) ≡ text
unfolding words_for
text_again text bytes short = let fits : length text ≤ 8 * 31 = short in (packed_found 31 text bytes fits).text

pub closes : (words text : List ℕ) → words ≡ words_for text → Bytes text → length text ≤ 248 → Closes words text
closes words text is bytes short =
    let same : text_in words ≡ text = ap (λ ws. text_in ws) is ∙ text_again text bytes short in
    record { packed = is ∙ ap (λ t. words_for t) (sym same); text_is = same }

-- the words with a byte put in at this place, and one more in the length
abbrev put_at : List ℕ → ℕ → ℕ → ℕ → List ℕ
put_at words at high len = set (set words at (bit_or (get_or words at 0) high)) 0 (len + 1)

abbrev pub pushed : List ℕ → ℕ → List ℕ
pushed words byte =
    let len = get_or words 0 0 in
    set (set words (1 + len / 8) (bit_or (get_or words (1 + len / 8) 0) (byte * 2 ^ (len % 8 * 8) % 2 ^ 64))) 0 (len + 1)

joined_bytes : (text : List ℕ) (byte : ℕ) → Bytes text → byte < 256 → Bytes (text ++ byte ∷ [])
joined_bytes [] byte of is = (is, tt)
joined_bytes (first ∷ text) byte of is = (of.0, joined_bytes text byte of.1 is)

pushed-go : (text : List ℕ) (byte : ℕ) → Bytes text → length text < 248 → byte < 256 → pushed (words_for text) byte ≡ words_for (text ++ byte ∷ [])
unfolding words_for
pushed-go text byte of short is =
    let len = length text in
    let q = len / 8 in
    let high = byte * 2 ^ (len % 8 * 8) % 2 ^ 64 in
    let ws = packed_words 31 text in
    ap (λ at. put_at (len ∷ ws) at high len) (one-add q)
    ∙ ap (λ others. (len + 1) ∷ others) (put_byte 31 text byte q (len % 8) (omega arith) (omega arith) (omega arith) of is)
    ∙ ap (λ first. first ∷ packed_words 31 (text ++ byte ∷ [])) (sym (length_push text byte))

pub pushed_closes : (words text : List ℕ) (byte : ℕ) → words ≡ words_for text → Bytes text → length text < 248 → byte < 256
    → Closes (pushed words byte) (text ++ byte ∷ [])
pushed_closes words text byte packed of short is =
    let grown : length (text ++ byte ∷ []) ≡ length text + 1 = length_push text byte in
    closes (pushed words byte) (text ++ byte ∷ []) (ap (λ ws. pushed ws byte) packed ∙ pushed-go text byte of short is) (joined_bytes text byte of is)
    (omega arith)

-- ---- a whole text

-- the text with one more byte, if there is room for it
abbrev pub with_room : List ℕ → ℕ → List ℕ
with_room text byte = if nat_lt (length text) EDIT_LIMIT then text ++ byte ∷ [] else text

room_taken : (text : List ℕ) (byte : ℕ) → length text < EDIT_LIMIT → with_room text byte ≡ text ++ byte ∷ []
room_taken text byte room = ap (λ fits. if fits then text ++ byte ∷ [] else text) (lt-ltb (length text) EDIT_LIMIT room)

more_packed : (text more : List ℕ) → length text + length more ≤ EDIT_LIMIT → fold with_room text more ≡ text ++ more
more_packed text [] fits = sym (append-nil text)
more_packed text (byte ∷ more) fits =
    let grown : length (text ++ byte ∷ []) ≡ length text + 1 = length_push text byte in
    ap (λ t. fold with_room t more) (room_taken text byte (omega arith))
    ∙ more_packed (text ++ byte ∷ []) more (omega arith) ∙ append_assoc text (byte ∷ []) more

-- a text that has room is packed whole
pub all_packed : (text : List ℕ) → length text ≤ EDIT_LIMIT → fold with_room [] text ≡ text
all_packed text fits = more_packed [] text (omega arith)
