-- What a loan means: the value that it lends, the lifetime that names it, and its parts of the right to it.
use Rattle.std.specs.Prelude.{◌≢◌, ℕ, None}
use Rattle.lend.specs.declared.loan.Loan.{Loan}
use Rattle.lend.specs.declared.limits.TheConstants.{WHOLE}

-- all parts of the right to one value
abbrev pub whole_right : ℕ
whole_right = WHOLE

module _ {T : Type 0} where
  abbrev pub value_of : Loan T → T
  value_of l = l.hold.value

  -- the loans of one value, and no others, have one age
  abbrev pub age_of : Loan T → ℕ
  age_of l = l.hold.age

  abbrev pub parts_of : Loan T → ℕ
  parts_of l = l.hold.parts

  -- the loan has the lender's right, by which the memory of the value comes back
  abbrev pub HasLender : Loan T → Type 0
  HasLender l = l.lent ≢ None
