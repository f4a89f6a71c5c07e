-- Rules and definitions read the same in a list of symbols that grows.
use Rattle.std.proofs.Common.{◌≡◌, ℕ, zero, suc, ◌<◌, List, [], ◌∷◌, ◌++◌, length, map, true, slice_get, Some, refl, sym, ap, ◌∙◌, arith, length-append}
use Rattle.std.specs.List.{AllByRecursion}
use Rattle.std.proofs.lemmas.Option.{slice_get_within, get_or_from_slice_get}
use Rattle.std.proofs.Math.ListN.{get_or-append}
use Rattle.grammar_text.specs.declared.symbol.Symbol.{Symbol}
use Rattle.grammar_text.specs.declared.symbol.Symbol.TheVariants.{Named}
use Rattle.grammar_text.specs.declared.edit.RuleText.{RuleText}
use Rattle.grammar_text.specs.Sameness.{spelling_eq, spelling_eq-decides}
use Rattle.forest.specs.declared.symbols.SymbolId.{SymbolId}
use Rattle.forest.specs.declared.rules.RuleId.{RuleId}
use Rattle.forest.specs.declared.rules.Rule.{Rule}
use Rattle.edit_log.specs.Symbols.{number_of, with_symbol, with_symbols, symbol_at, symbol_bytes, numbered, text_of}
use Rattle.edit_log.specs.Facts.{IsNamed, IsRight}
use Rattle.edit_log.proofs.Places.{IsPlaced, ArePlaced, Grows, place_of-get, with_symbol-placed, number_stays}

-- ---- symbols

pub slice_get-append : {X : Type 0} (xs ys : List X) (i : ℕ) (x : X) → slice_get xs i ≡ Some x → slice_get (xs ++ ys) i ≡ Some x
slice_get-append [] ys i x at = absurd (omega (arith, slice_get_within [] i x at))
slice_get-append (y ∷ xs) ys zero x at = at
slice_get-append (y ∷ xs) ys (suc i) x at = slice_get-append xs ys i x at

pub named-grow : (symbols more : List Symbol) (n : SymbolId) → IsNamed symbols n → IsNamed (symbols ++ more) n
named-grow symbols more n named = (named.0, slice_get-append symbols more n.0 (Named named.0) named.1)

pub named_within : (symbols : List Symbol) (n : SymbolId) → IsNamed symbols n → n.0 < length symbols
named_within symbols n named = slice_get_within symbols n.0 (Named named.0) named.1

pub symbol_at_get : (symbols : List Symbol) (n : SymbolId) (s : Symbol) → slice_get symbols n.0 ≡ Some s → symbol_at symbols n ≡ s
symbol_at_get symbols n s at = get_or_from_slice_get symbols n.0 s (Named []) at

pub symbol_at-grow : (symbols more : List Symbol) (n : SymbolId) → n.0 < length symbols → symbol_at (symbols ++ more) n ≡ symbol_at symbols n
symbol_at-grow symbols more n within = get_or-append symbols more (Named []) n.0 within

pub right-grow : (symbols more : List Symbol) (right : List SymbolId) → AllByRecursion (λ part. part.0 < length symbols) right
    → AllByRecursion (λ part. part.0 < length (symbols ++ more)) right
right-grow symbols more [] within = tt
right-grow symbols more (n ∷ right) within = (omega (arith, within.0, length-append symbols more), right-grow symbols more right within.1)

pub symbols_at-grow : (symbols more : List Symbol) (right : List SymbolId) → AllByRecursion (λ part. part.0 < length symbols) right
    → map (symbol_at (symbols ++ more)) right ≡ map (symbol_at symbols) right
symbols_at-grow symbols more [] within = refl
symbols_at-grow symbols more (n ∷ right) within =
    let first = symbol_at-grow symbols more n within.0 in
    let rest = symbols_at-grow symbols more right within.1 in
    (λ i. first i ∷ rest i)

-- ---- rules

pub text_of-grow : (symbols more : List Symbol) (r : Rule) → r.left.0 < length symbols → AllByRecursion (λ part. part.0 < length symbols) r.right
    → text_of (symbols ++ more) r ≡ text_of symbols r
text_of-grow symbols more r left right =
    let name = symbol_at-grow symbols more r.left left in
    let parts = symbols_at-grow symbols more r.right right in
    (λ i. record { left = symbol_bytes (name i); right = parts i })

pub symbol_at_number : (symbols : List Symbol) (s : Symbol) → IsPlaced symbols s → symbol_at symbols (number_of symbols s) ≡ s
symbol_at_number symbols s placed = symbol_at_get symbols (number_of symbols s) s (place_of-get symbols s placed)

symbols_at_numbers : (symbols xs : List Symbol) → ArePlaced symbols xs → map (symbol_at symbols) (map (number_of symbols) xs) ≡ xs
symbols_at_numbers symbols [] placed = refl
symbols_at_numbers symbols (x ∷ xs) placed =
    let first = symbol_at_number symbols x placed.0 in
    let rest = symbols_at_numbers symbols xs placed.1 in
    (λ i. first i ∷ rest i)

pub texts-grow : (symbols more : List Symbol) (rules : List Rule) → AllByRecursion (λ r. IsNamed symbols r.left) rules
    → AllByRecursion (λ r. IsRight symbols r.right) rules
    → map (text_of (symbols ++ more)) rules ≡ map (text_of symbols) rules
texts-grow symbols more [] lefts rights = refl
texts-grow symbols more (r ∷ rules) lefts rights =
    let first = text_of-grow symbols more r (slice_get_within symbols r.left.0 (Named lefts.0.0) lefts.0.1) rights.0.0 in
    let rest = texts-grow symbols more rules lefts.1 rights.1 in
    (λ i. first i ∷ rest i)

-- a rule that is numbered is written as it was
pub text_of-numbered : (symbols : List Symbol) (number : ℕ) (r : RuleText) → ArePlaced symbols (Named r.left ∷ r.right)
    → text_of symbols (numbered symbols number r) ≡ r
text_of-numbered symbols number r placed =
    let name = symbol_at_number symbols (Named r.left) placed.0 in
    let parts = symbols_at_numbers symbols r.right placed.1 in
    (λ i. record { left = symbol_bytes (name i); right = parts i })

pub numbers_within : (symbols xs : List Symbol) → ArePlaced symbols xs → AllByRecursion (λ part. part.0 < length symbols) (map (number_of symbols) xs)
numbers_within symbols [] placed = tt
numbers_within symbols (x ∷ xs) placed = (placed.0, numbers_within symbols xs placed.1)

-- the rule from the numbers that its symbols got one after the other
pub rule_numbered : (before middle symbols : List Symbol) (r : RuleText) (name : List ℕ) (number : RuleId) (left : SymbolId) (right : List SymbolId)
    → name ≡ r.left → middle ≡ with_symbol before (Named name) → left ≡ number_of middle (Named name) → symbols ≡ with_symbols middle r.right
    → right ≡ map (number_of symbols) r.right
    → (record { number = number; left = left; right = right }) ≡ numbered symbols number.0 r
rule_numbered before middle symbols r name number left right name-is middle-is left-is symbols-is right-is =
    let placed : IsPlaced middle (Named name) = rw middle-is (with_symbol-placed before (Named name)) in
    let same : left ≡ number_of symbols (Named r.left) = left-is ∙ sym (number_stays middle symbols r.right (Named name) placed symbols-is) ∙ ap
    (λ n. number_of symbols (Named n)) name-is in
    (λ i. record { number = number; left = same i; right = right-is i })

-- ---- names

pub named_number : (symbols : List Symbol) (name : List ℕ) → IsPlaced symbols (Named name) → IsNamed symbols (number_of symbols (Named name))
named_number symbols name placed = (name, place_of-get symbols (Named name) placed)

-- a number from before that is the name's number afterwards is the name's
pub old_name : (symbols new : List Symbol) (room : ℕ) (name : List ℕ) (n : SymbolId) → Grows symbols new room → IsNamed symbols n → IsPlaced new (Named name)
    → n ≡ number_of new (Named name)
    → spelling_eq (symbol_at symbols n) (Named name) ≡ true
old_name symbols new room name n grows named placed same =
    let at : symbol_at new n ≡ Named name = ap (symbol_at new) same ∙ symbol_at_number new (Named name) placed in
    let stays : symbol_at new n ≡ symbol_at symbols n = ap (λ ss. symbol_at ss n) grows.is ∙ symbol_at-grow symbols grows.more n
    (named_within symbols n named) in
    (spelling_eq-decides (symbol_at symbols n) (Named name)).1 (sym stays ∙ at)

-- and the other way
pub name_at : (symbols : List Symbol) (name : List ℕ) (n : SymbolId) → IsNamed symbols n → spelling_eq (symbol_at symbols n) (Named name) ≡ true
    → slice_get symbols n.0 ≡ Some (Named name)
name_at symbols name n named same =
    let is : symbol_at symbols n ≡ Named name = (spelling_eq-decides (symbol_at symbols n) (Named name)).0 same in
    named.1 ∙ ap Some (sym (symbol_at_get symbols n (Named named.0) named.1) ∙ is)
