-- How often a source or a sink has failed.
use Rattle.std.specs.Prelude.{ℕ, ◌+◌, ◌-◌, ◌^◌, ◌≤◌, min}

-- where a count of faults stands still
abbrev pub last_count : ℕ
last_count = 2 ^ 64 - 1

-- one more, or the last count again
abbrev pub count_after : ℕ → ℕ
count_after n = min (n + 1) last_count

-- the count rose, or stands at its last value
abbrev pub HasRisen : ℕ → ℕ → Type 0
HasRisen before now = count_after before ≤ now
