-- The limits of an expression, and where a text is refused.
use Rattle.std.specs.Prelude.{ℕ, ◌≡◌, ◌<◌, ◌≤◌, ◌+◌, ◌-◌, Bool, true, false, List, [], ◌∷◌, ◌++◌, length, take, count_by}
use Rattle.regex_ast.specs.Expressions.{Expression}
use Rattle.regex_ast.specs.Spelling.{Cut, cuts_text, SpellsInCuts, SpellsExpression}
use Rattle.regex_ast.specs.declared.bad_regex.BadRegex.{BadRegex}
use Rattle.regex_ast.specs.declared.bad_regex.BadRegex.TheVariants.{Shape, EmptyClass, TooDeep, TooManyPositions, NoMemory}
use Rattle.regex_ast.specs.declared.lexer.Piece.TheVariants.{OneOf, Open, Close}
use Rattle.regex_ast.specs.declared.limits.TheConstants.{DEPTH_LIMIT, POSITION_LIMIT}

-- some text after this one makes it an expression
abbrev pub HasContinuation : List ℕ → Type 0
HasContinuation prefix = (rest : List ℕ) × (e : Expression) × SpellsExpression (prefix ++ rest) e

-- the text is no expression: no expression goes on with the byte at this offset, or the text is a prefix of one and ends there
abbrev pub IsBrokenAt : List ℕ → ℕ → Type 0
IsBrokenAt text at =
    (at ≤ length text) × HasContinuation (take at text)
    × (at < length text → HasContinuation (take (at + 1) text) → ⊥) × ((e : Expression) → SpellsExpression text e → ⊥)

abbrev pub is_class : Cut → Bool
is_class (text, OneOf set) = true
is_class (text, _) = false

abbrev pub is_opening : Cut → Bool
is_opening (text, Open) = true
is_opening (text, _) = false

abbrev pub is_closing : Cut → Bool
is_closing (text, Close) = true
is_closing (text, _) = false

-- how many parentheses stand open after these cuts
abbrev pub depth_after : List Cut → ℕ
depth_after cuts = count_by is_opening cuts - count_by is_closing cuts

-- a cut, after those before it, is a class with no byte
abbrev pub IsEmptyClass : List Cut → Cut → Type 0
IsEmptyClass before cut = cut.1 ≡ OneOf []

-- it opens a parenthesis inside as many others as may stand open
abbrev pub IsTooDeep : List Cut → Cut → Type 0
IsTooDeep before cut = (cut.1 ≡ Open) × (DEPTH_LIMIT ≤ depth_after before)

-- it is a class after as many others as there may be
abbrev pub IsOneTooMany : List Cut → Cut → Type 0
IsOneTooMany before cut = (is_class cut ≡ true) × (POSITION_LIMIT ≤ count_by is_class before)

-- no cut is as Bad says
abbrev pub NoPlace : (List Cut → Cut → Type 0) → List Cut → Type 0
NoPlace Bad cuts = (before : List Cut) (cut : Cut) (after : List Cut) → cuts ≡ before ++ cut ∷ after → Bad before cut → ⊥

-- the first cut that is as Bad says begins at this offset
abbrev pub IsFirstPlace : (List Cut → Cut → Type 0) → List Cut → ℕ → Type 0
IsFirstPlace Bad cuts at =
    (before : List Cut) × (cut : Cut) × (after : List Cut)
    × (cuts ≡ before ++ cut ∷ after) × Bad before cut × NoPlace Bad before × (at ≡ length (cuts_text before))

-- the limits on an expression
pub record AreWithinLimits (cuts : List Cut) : Type 0 where
  pub no_empty_class : NoPlace IsEmptyClass cuts
  pub not_too_deep : NoPlace IsTooDeep cuts
  pub not_too_many : NoPlace IsOneTooMany cuts

-- the text spells the expression within the limits
abbrev pub SpellsWithinLimits : List ℕ → Expression → Type 0
SpellsWithinLimits text e = (cuts : List Cut) × SpellsInCuts text cuts e × AreWithinLimits cuts

-- the text spells an expression, in cuts with P
abbrev pub SpellsWith : (List Cut → Type 0) → List ℕ → Type 0
SpellsWith P text = (cuts : List Cut) × (e : Expression) × SpellsInCuts text cuts e × P cuts

-- what each refusal says of the text, the first that applies
abbrev pub IsCause : List ℕ → BadRegex → Type 0
IsCause text (Shape at) = IsBrokenAt text at
IsCause text (EmptyClass at) = SpellsWith (λ cuts. IsFirstPlace IsEmptyClass cuts at) text
IsCause text (TooDeep at) = SpellsWith (λ cuts. NoPlace IsEmptyClass cuts × IsFirstPlace IsTooDeep cuts at) text
IsCause text (TooManyPositions at) = SpellsWith (λ cuts. NoPlace IsEmptyClass cuts × NoPlace IsTooDeep cuts × IsFirstPlace IsOneTooMany cuts at) text
IsCause text NoMemory = Unit {0}
