use Rattle.std.proofs.Common.{◌≡◌, ℕ, ◌<◌, ◌||◌, ◌&&◌, nat_le, nat_lt, length}
use Rattle.regex_ast.specs.Bytes.{bit_of}
use Rattle.regex_ast.proofs.byte_set.ByteSet.insert_range.Given as goal

abbrev pub invariant-loop-byte : goal.invariant-loop-byte
invariant-loop-byte l =
    (length l.self-inside.words ≡ 4)
    × (l.high < l.low → l.byte ≡ l.low)
    × ((b : ℕ) → bit_of l.self-inside.words b ≡ (bit_of l.initial.self-inside.words b || (nat_le l.low b && nat_lt b l.byte)))
