-- Which pairs of logs a chooser is asked about.
use Rattle.std.specs.Prelude.{ℕ, List}
use Rattle.pin_rule.specs.declared.content.Entry.{Entry}

-- two lawful logs that pass the chooser's test of logs, the first of which the row fits
abbrev pub IsStepFor : (List Entry → Type 0) → (List Entry → List ℕ → Type 0) → (List Entry → List Entry → Type 0) → List ℕ → List Entry → List Entry → Type 0
IsStepFor lawful fits leads row first next = lawful first × lawful next × leads first next × fits first row
