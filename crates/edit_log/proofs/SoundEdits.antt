-- How large the parts of an edit are that can be written.
use Rattle.std.proofs.Common.{ℕ, ◌≤◌, Bool, true, false, List, [], ◌∷◌, ◌++◌, length, arith, length-append}
use Rattle.std.specs.Prelude.{codes}
use Rattle.std.specs.List.{AllByRecursion}
use Rattle.grammar_text.specs.declared.symbol.Symbol.{Symbol}
use Rattle.grammar_text.specs.declared.symbol.Symbol.TheVariants.{Named, Literal}
use Rattle.grammar_text.specs.declared.edit.RuleText.{RuleText}
use Rattle.grammar_text.specs.declared.edit.DefText.{DefText}
use Rattle.grammar_text.specs.declared.edit.Edit.TheVariants.{AddRule, DropRule}
use Rattle.grammar_text.specs.Spelling.{SpellsSymbols}
use Rattle.grammar_text.specs.Canonical.{spaced, canonical}
use Rattle.grammar_text.specs.Limits.{the_limits, SymbolFits, IsSound}
use Rattle.edit_log.specs.Sizes.{IsSized}
use Rattle.edit_log.specs.Replicas.{adds}

sized : (text : List ℕ) (right : List Symbol) → SpellsSymbols text right → AllByRecursion (SymbolFits the_limits) right → AllByRecursion IsSized right
sized text [] spelled fits = tt
sized text (Named name ∷ right) spelled fits = (tt, sized spelled.2 right spelled.5 fits.1)
sized text (Literal bytes ∷ right) spelled fits = ((spelled.4.3, fits.0), sized spelled.2 right spelled.5 fits.1)

pub sized_right : (r : RuleText) → IsSound (AddRule r) → AllByRecursion IsSized r.right
sized_right r sound = sized sound.spelled.rest r.right sound.spelled.tail sound.within.parts.1

pub short_right : (r : RuleText) → IsSound (AddRule r) → length r.right ≤ 16
short_right r sound = sound.within.parts.0

pub short_dropped : (r : RuleText) → IsSound (DropRule r) → length r.right ≤ 16
short_dropped r sound = sound.within.parts.0

-- the last of four parts is no longer than the whole
last_part : (a b c d : List ℕ) (most : ℕ) → length (a ++ ((b ++ c) ++ d)) ≤ most → length d ≤ most
last_part a b c d most all = omega (arith, length-append a ((b ++ c) ++ d), length-append (b ++ c) d)

pub short_expression : (skip : Bool) (d : DefText) → IsSound (adds skip d) → length d.expression ≤ 248
unfolding canonical
short_expression true d sound =
    let all : length (spaced d.expression) ≤ 248 = last_part (codes "skip") (spaced d.name) (spaced (codes "=")) (spaced d.expression) 248 sound.within.text in
    omega arith
short_expression false d sound =
    let all : length (spaced d.expression) ≤ 248 = last_part (codes "token") (spaced d.name) (spaced (codes "=")) (spaced d.expression) 248 sound.within.text in
    omega arith
