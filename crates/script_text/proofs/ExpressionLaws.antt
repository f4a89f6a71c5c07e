-- An edit has an expression where it adds one, or it lacks one; and what it adds is short.
use Rattle.std.proofs.Common.{◌≡◌, ℕ, ◌≤◌, List, ◌++◌, length, Option, Some, None, IfSome, ◌⊎◌, inl, inr, Result, Ok, Err, refl, arith, codes, length-append}
use Rattle.grammar_text.specs.declared.edit.Edit.{Edit}
use Rattle.grammar_text.specs.declared.edit.Edit.TheVariants.{AddRule, DropRule, AddToken, DropToken, AddSkip, DropSkip}
use Rattle.grammar_text.specs.Canonical.{spaced, canonical}
use Rattle.grammar_text.specs.Limits.{IsWithinLimits}
use Rattle.regex_ast.specs.Expressions.{Expression}
use Rattle.regex_ast.specs.declared.bad_regex.BadRegex.{BadRegex}
use Rattle.regex_ast.specs.Nests.{State, first_state, after_bytes, answer_of}
use Rattle.regex_ast.proofs.ReadLemmas.{spelled_read, found_answer, only_answer}
use Rattle.script_text.specs.Expressions.{added_expression, IsExpression, AddsExpression}

-- ---- whether there is an expression

-- the text is an expression, or it is none
text_judged : (text : List ℕ) → IsExpression text ⊎ (IsExpression text → ⊥)
text_judged text = by (after_bytes first_state 0 text) refl
  where
    ended : (state : State) (answer : Result Expression BadRegex) → after_bytes first_state 0 text ≡ Some state → answer_of state (length text) ≡ answer
        → IsExpression text ⊎ (IsExpression text → ⊥)
    ended state (Ok e) read is = inl (e, found_answer text state (length text) e read is)
    ended state (Err why) read is = inr (λ found. cc (is, only_answer text found.0 state (length text) found.1 read))

    by : (read : Option State) → after_bytes first_state 0 text ≡ read → IsExpression text ⊎ (IsExpression text → ⊥)
    by None is = inr (λ found. let read = spelled_read text found.1.0 found.0 found.1.1 in cc (is, read.3))
    by (Some state) is = ended state (answer_of state (length text)) is refl

pub edit_judged : (edit : Edit) → AddsExpression edit ⊎ (AddsExpression edit → ⊥)
edit_judged (AddRule rule) = inl tt
edit_judged (DropRule rule) = inl tt
edit_judged (AddToken definition) = text_judged definition.expression
edit_judged (DropToken name) = inl tt
edit_judged (AddSkip definition) = text_judged definition.expression
edit_judged (DropSkip name) = inl tt

-- ---- how long it is

-- the last of four parts is no longer than the whole
last_part : (a b c d : List ℕ) (most : ℕ) → length (a ++ ((b ++ c) ++ d)) ≤ most → length d ≤ most
last_part a b c d most all = omega (arith, length-append a ((b ++ c) ++ d), length-append (b ++ c) d)

pub short_expression : (edit : Edit) → IsWithinLimits edit → IfSome (added_expression edit) (λ text. length text ≤ 248)
unfolding canonical
short_expression (AddRule rule) within = tt
short_expression (DropRule rule) within = tt
short_expression (AddToken definition) within =
    let all : length (spaced definition.expression) ≤ 248 = last_part (codes "token") (spaced definition.name) (spaced (codes "="))
    (spaced definition.expression) 248 within.text in
    omega arith
short_expression (DropToken name) within = tt
short_expression (AddSkip definition) within =
    let all : length (spaced definition.expression) ≤ 248 = last_part (codes "skip") (spaced definition.name) (spaced (codes "="))
    (spaced definition.expression) 248 within.text in
    omega arith
short_expression (DropSkip name) within = tt
