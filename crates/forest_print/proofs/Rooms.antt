-- What stands in the room of a piece, and what is left of it where it is copied whole and only its front counts.
use Rattle.std.proofs.Common.{◌≡◌, ℕ, zero, suc, ◌+◌, ◌<◌, ◌≤◌, List, [], ◌∷◌, ◌++◌, length, take, drop, replicate, slice_index_or, refl, ap, sym}
use Rattle.std.proofs.Common.{◌∙◌, append_assoc, arith}
use Rattle.std.proofs.Math.Seq.{take-append-add}
use Rattle.std.proofs.lemmas.List.{take-append-le, length-append, length-drop, length-take, length-take-le, take_more}

-- a room with nothing in it has line ends alone
pub only_ends : (n at : ℕ) → slice_index_or {A = ℕ} (replicate n 10) at 10 ≡ 10
only_ends zero at = refl
only_ends (suc n) zero = refl
only_ends (suc n) (suc at) = only_ends n at

-- bytes were written over those that stand after the first ones
pub front_counts : (old bytes after : List ℕ) (end count : ℕ) → end ≤ length old → count ≤ length bytes
    → take (end + count) (take end old ++ (bytes ++ after)) ≡ take end old ++ take count bytes
front_counts old bytes after end count within few =
    ap (λ n. take (n + count) (take end old ++ (bytes ++ after))) (sym (length-take-le end old within))
    ∙ take-append-add (take end old) (bytes ++ after) count ∙ ap (λ front. take end old ++ front) (take-append-le count bytes after few)

-- the piece with the line end after it
pub with_end : (room : List ℕ) (size : ℕ) → size < length room → slice_index_or room size 10 ≡ 10 → take (size + 1) room ≡ take size room ++ 10 ∷ []
with_end room size less is = take_more room size 10 less ∙ ap (λ byte. take size room ++ byte ∷ []) is

-- writing over bytes leaves as many
pub same_length : (old bytes : List ℕ) (end more : ℕ) → end + more ≤ length old → length bytes ≡ more
    → length (take end old ++ (bytes ++ drop more (drop end old))) ≡ length old
same_length old bytes end more within same = omega (
  arith,
  length-append (take end old) (bytes ++ drop more (drop end old)),
  length-append bytes (drop more (drop end old)),
  length-take end old,
  length-drop more (drop end old),
  length-drop end old,
)

-- three rooms were written over one another, each where the text of the one before ends
pub three_rooms : (was one two three r1 r2 r3 : List ℕ) (s1 s2 s3 : ℕ) → take (0 + s1) one ≡ take 0 was ++ take s1 r1
    → take (s1 + s2) two ≡ take s1 one ++ take s2 r2 → take (s1 + s2 + (s3 + 1)) three ≡ take (s1 + s2) two ++ take (s3 + 1) r3
    → s3 < length r3 → slice_index_or r3 s3 10 ≡ 10
    → take (s1 + s2 + s3 + 1) three ≡ take s1 r1 ++ take s2 r2 ++ take s3 r3 ++ 10 ∷ []
three_rooms was one two three r1 r2 r3 s1 s2 s3 first second third less is =
    let count : s1 + s2 + s3 + 1 ≡ s1 + s2 + (s3 + 1) = omega arith in
    let begun : take s1 one ≡ take s1 r1 = ap (λ n. take n one) (omega arith) ∙ first in
    let two_begun : take (s1 + s2) two ≡ take s1 r1 ++ take s2 r2 = second ∙ ap (λ front. front ++ take s2 r2) begun in
    ap (λ n. take n three) count ∙ third ∙ ap (λ front. front ++ take (s3 + 1) r3) two_begun
    ∙ ap (λ end. take s1 r1 ++ take s2 r2 ++ end) (with_end r3 s3 less is)
    ∙ sym (append_assoc (take s1 r1 ++ take s2 r2) (take s3 r3) (10 ∷ []))

-- a room was written over the front of the bytes from a place on
pub room_counts : (old new room rest after : List ℕ) (at count : ℕ) → at ≤ length old → count ≤ length room → new ≡ room ++ rest
    → take (at + count) (take at old ++ (new ++ after)) ≡ take at old ++ take count room
room_counts old new room rest after at count within few is =
    front_counts old new after at count within (omega (arith, ap length is, length-append room rest))
    ∙ ap (λ front. take at old ++ front) (ap (take count) is ∙ take-append-le count room rest few)
