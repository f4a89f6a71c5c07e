-- What holds unless memory ran out, where a call gave up.
use Rattle.std.proofs.Common.{◌≡◌, Result, Ok, Err, sym, ◌∙◌, ap, subst}
use Rattle.rekers.specs.declared.parse_error.ParseError.{ParseError}
use Rattle.rekers.specs.declared.parse_error.ParseError.TheVariants.{TooLarge, NoMemory}
use Rattle.rekers.specs.Answers.{UnlessParseNoMemory}

-- what holds in any case
pub unless_always : {X P : Type 0} (r : Result X ParseError) → P → UnlessParseNoMemory r P
unless_always (Ok value) p = p
unless_always (Err (TooLarge count)) p = p
unless_always (Err NoMemory) p = tt

-- memory ran out
pub unless_memory : {X : Type 0} (P : Type 0) (r : Result X ParseError) → ((y : ParseError) × (r ≡ Err y) × (y ≡ NoMemory)) → UnlessParseNoMemory r P
unless_memory {X} P r (y, is, none) = subst (λ x. UnlessParseNoMemory {X = X} x P) (sym (is ∙ ap Err none)) tt

-- what holds unless memory ran out is passed on with the error
pub unless_on : {Y : Type 0} {P Q : Type 0} (e : ParseError) (r : Result Y ParseError) → ((y : ParseError) × (r ≡ Err y) × (y ≡ e)) → (P → Q)
    → UnlessParseNoMemory {X = Unit {0}} (Err e) P → UnlessParseNoMemory r Q
unless_on {Y} {P} {Q} e r (y, is, same) on holds = subst (λ x. UnlessParseNoMemory {X = Y} x Q) (sym (is ∙ ap Err same)) (by e holds)
  where
    by : (e : ParseError) → UnlessParseNoMemory {X = Unit {0}} (Err e) P → UnlessParseNoMemory {X = Y} (Err e) Q
    by (TooLarge count) p = on p
    by NoMemory p = tt
