-- Where the bits say that no class changes, bytes lead to the same marks.
use Rattle.std.proofs.Common.{◌≡◌, ℕ, zero, suc, ◌+◌, ◌-◌, ◌*◌, ◌/◌, ◌%◌, ◌^◌, ◌<◌, ◌≤◌, ◌==◌, max, List, ◌++◌, length, get_or, take, sym, ap, ◌∙◌}
use Rattle.std.proofs.Common.{bit_or, arith}
use Rattle.std.specs.Int.{bit_at, trailing_zeros, w64}
use Rattle.std.specs.Int.Bits.{bit_xor}
use Rattle.std.proofs.lemmas.Nat.{shr-shr, shr_le}
use Rattle.std.proofs.lemmas.Nat.Bits.{bit_at_or, bit_at_xor, bit_at-lt, bit_at-suc, bit_at-zero, bit_at-trailing_zeros}
use Rattle.regex_ast.specs.Bytes.{has}
use Rattle.isg_states.specs.declared.candidates.Candidate.{Candidate}
use Rattle.isg_states.specs.Candidates.{marks_with, AreEnds}
use Rattle.isg_states.proofs.CandidateLists.{one_more, chosen, chosen_same}

-- ---- bits

-- the first bit of the word is not told from the next one
same_bits : (word bit : ℕ) → bit_at (bit_xor word (word / 2)) bit ≡ 0 → bit_at word (bit + 1) ≡ bit_at word bit
same_bits word bit none =
    let parts : (bit_at word bit + bit_at (word / 2) bit) % 2 ≡ 0 = sym (bit_at_xor word (word / 2) bit) ∙ none in
    let next : bit_at word (bit + 1) ≡ bit_at (word / 2) bit = ap (bit_at word) (let e : bit + 1 ≡ suc bit = omega arith in e) ∙ bit_at-suc word bit in
    equal (bit_at word (bit + 1)) (bit_at word bit) (bit_at (word / 2) bit) (bit_at-lt word bit) (bit_at-lt (word / 2) bit) parts next where
      equal : (next a b : ℕ) → a < 2 → b < 2 → (a + b) % 2 ≡ 0 → next ≡ b → next ≡ a
      equal next a b k l e f = omega arith

no_part : (a b bit : ℕ) → bit_at (bit_or a b) bit ≡ 0 → (bit_at a bit ≡ 0) × (bit_at b bit ≡ 0)
no_part a b bit none = apart (bit_at a bit) (bit_at b bit) (sym (bit_at_or a b bit) ∙ none) where
  apart : (x y : ℕ) → max x y ≡ 0 → (x ≡ 0) × (y ≡ 0)
  apart x y e = (omega arith, omega arith)

-- ---- one candidate more

pub ends_more : (cs : List Candidate) (i : ℕ) (c : Candidate) (number ends word : ℕ) → i < length cs → c ≡ get_or cs i c → AreEnds (take i cs) number ends
    → ((bit : ℕ) → bit < 64 → has c.class.now (64 * number + bit) ≡ (bit_at word bit == 1))
    → AreEnds (take (i + 1) cs) number (bit_or ends (bit_xor word (word / 2)))
ends_more cs i c number ends word within is before bits = λ bit small none.
    let parts = no_part ends (bit_xor word (word / 2)) bit none in
    let next : 64 * number + (bit + 1) ≡ 64 * number + bit + 1 = omega arith in
    let same : has c.class.now (64 * number + bit + 1) ≡ has c.class.now (64 * number + bit) =
    ap (has c.class.now) (sym next) ∙ bits (bit + 1) (omega arith) ∙ ap (λ b. b == 1) (same_bits word bit parts.1) ∙ sym (bits bit (omega arith)) in
    one_more cs i c (64 * number + bit + 1) within is ∙ ap (λ ms. ms ++ chosen c (64 * number + bit + 1)) (before bit small parts.0)
    ∙ ap (λ ms. marks_with (take i cs) (64 * number + bit) ++ ms) (chosen_same c (64 * number + bit + 1) (64 * number + bit) same)
    ∙ sym (one_more cs i c (64 * number + bit) within is)

-- ---- the first end from a bit on

-- the bits below the lowest one that is set
none_below : (n : ℕ) → n < 2 ^ 64 → (i : ℕ) → i < trailing_zeros w64 n → bit_at n i ≡ 0
none_below zero small i below = bit_at-zero i
none_below (suc n) small i below = (bit_at-trailing_zeros w64 (suc n) (omega arith) small).2 i below

pub none_from : (ends low bit : ℕ) → ends < 2 ^ 64 → low ≤ bit → bit < low + trailing_zeros w64 (ends / 2 ^ low) → bit_at ends bit ≡ 0
none_from ends low bit small from to =
    let less : ends / 2 ^ low ≤ ends = shr_le ends low in
    let place : low + (bit - low) ≡ bit = omega arith in
    ap (λ k. ends / 2 ^ k % 2) (sym place) ∙ ap (λ q. q % 2) (sym (shr-shr ends low (bit - low)))
    ∙ none_below (ends / 2 ^ low) (omega arith) (bit - low) (omega arith)

-- ---- between two ends

between : (cs : List Candidate) (number ends : ℕ) → AreEnds cs number ends → (count low : ℕ) → low + count < 64 → ((bit : ℕ) → low ≤ bit → bit < low + count
    → bit_at ends bit ≡ 0)
    → marks_with cs (64 * number + low + count) ≡ marks_with cs (64 * number + low)
between cs number ends are zero low within none = ap (marks_with cs) (let e : 64 * number + low + zero ≡ 64 * number + low = omega arith in e)
between cs number ends are (suc count) low within none =
    ap (marks_with cs) (let e : 64 * number + low + suc count ≡ 64 * number + (low + count) + 1 = omega arith in e)
    ∙ are (low + count) (omega arith) (none (low + count) (omega arith) (omega arith))
    ∙ ap (marks_with cs) (let e : 64 * number + (low + count) ≡ 64 * number + low + count = omega arith in e)
    ∙ between cs number ends are count low (omega arith) (λ bit from to. none bit from (omega arith))

-- the bytes up to the next end lead to the same marks
pub same_marks : (cs : List Candidate) (number ends low high : ℕ) → AreEnds cs number ends → high < 64 → ((bit : ℕ) → low ≤ bit → bit < high
    → bit_at ends bit ≡ 0)
    → (byte : ℕ) → 64 * number + low ≤ byte → byte ≤ 64 * number + high → marks_with cs byte ≡ marks_with cs (64 * number + low)
same_marks cs number ends low high are within none byte from to =
    let count : ℕ = byte - (64 * number + low) in
    ap (marks_with cs) (let e : byte ≡ 64 * number + low + count = omega arith in e)
    ∙ between cs number ends are count low (omega arith) (λ bit k l. none bit k (omega arith))
