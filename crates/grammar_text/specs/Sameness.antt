-- Tests whether two names, symbols, rules or definitions are the same.
use Rattle.std.specs.Prelude.{◌≡◌, ℕ, Bool, false, ◌&&◌, ◌++◌, List, refl}
use Rattle.std.specs.Bool.{Decides}
use Rattle.std.specs.Str.{bytes_eq}
use Rattle.std.specs.Cmp.Lexicographic.{pointwise}
use Rattle.std.specs.Hash as fed
use Rattle.std.proofs.Common.{ap, ◌∙◌}
use Rattle.std.proofs.lemmas.Bool.{and_parts, and_from}
use Rattle.std.proofs.lemmas.Slice.Eq.{bytes_eq-Decides, slice_eq-Decides}
use Rattle.grammar_text.specs.declared.symbol.Symbol.{Symbol}
use Rattle.grammar_text.specs.declared.symbol.Symbol.TheVariants.{Named, Literal}
use Rattle.grammar_text.specs.declared.edit.RuleText.{RuleText}
use Rattle.grammar_text.specs.declared.edit.DefText.{DefText}

abbrev pub spelling_eq : Symbol → Symbol → Bool
spelling_eq (Named a) (Named b) = bytes_eq a b
spelling_eq (Named a) (Literal b) = false
spelling_eq (Literal a) (Named b) = false
spelling_eq (Literal a) (Literal b) = bytes_eq a b

pub spelling_eq-decides : (a b : Symbol) → Decides (spelling_eq a b) (a ≡ b)
spelling_eq-decides (Named a) (Named b) = let d = bytes_eq-Decides a b in (λ e. ap (λ n. Named n) (d.0 e), λ e. d.1 (let same : a ≡ b = cc in same))
spelling_eq-decides (Named a) (Literal b) = (λ e. absurd cc, λ e. absurd cc)
spelling_eq-decides (Literal a) (Named b) = (λ e. absurd cc, λ e. absurd cc)
spelling_eq-decides (Literal a) (Literal b) = let d = bytes_eq-Decides a b in (λ e. ap (λ n. Literal n) (d.0 e), λ e. d.1 (let same : a ≡ b = cc in same))

abbrev pub symbols_eq : List Symbol → List Symbol → Bool
symbols_eq = pointwise spelling_eq

pub symbols_eq-decides : (a b : List Symbol) → Decides (symbols_eq a b) (a ≡ b)
symbols_eq-decides a b = slice_eq-Decides spelling_eq-decides a b (symbols_eq a b) refl

abbrev pub rule_eq : RuleText → RuleText → Bool
rule_eq a b = bytes_eq a.left b.left && symbols_eq a.right b.right

abbrev rule : List ℕ → List Symbol → RuleText
rule left right = record { left = left; right = right }

pub rule_eq-decides : (a b : RuleText) → Decides (rule_eq a b) (a ≡ b)
rule_eq-decides a b =
    let left = bytes_eq-Decides a.left b.left in
    let right = symbols_eq-decides a.right b.right in (
      λ e. let both = and_parts (bytes_eq a.left b.left) (symbols_eq a.right b.right) e in
          ap (λ l. rule l a.right) (left.0 both.0) ∙ ap (λ r. rule b.left r) (right.0 both.1),
      λ e. and_from (bytes_eq a.left b.left) (symbols_eq a.right b.right) (left.1 (ap (λ (r : RuleText). r.left) e))
          (right.1 (ap (λ (r : RuleText). r.right) e)),
    )

abbrev pub definition_eq : DefText → DefText → Bool
definition_eq a b = bytes_eq a.name b.name && bytes_eq a.expression b.expression

abbrev definition : List ℕ → List ℕ → DefText
definition name expression = record { name = name; expression = expression }

pub definition_eq-decides : (a b : DefText) → Decides (definition_eq a b) (a ≡ b)
definition_eq-decides a b =
    let name = bytes_eq-Decides a.name b.name in
    let expression = bytes_eq-Decides a.expression b.expression in (
      λ e. let both = and_parts (bytes_eq a.name b.name) (bytes_eq a.expression b.expression) e in
          ap (λ n. definition n a.expression) (name.0 both.0) ∙ ap (λ x. definition b.name x) (expression.0 both.1),
      λ e. and_from (bytes_eq a.name b.name) (bytes_eq a.expression b.expression) (name.1 (ap (λ (d : DefText). d.name) e))
          (expression.1 (ap (λ (d : DefText). d.expression) e)),
    )

-- what a symbol gives to a hash: which kind it is, and its bytes
abbrev pub symbol_fed : Symbol → fed.HashWrites
symbol_fed (Named name) = fed.u8 0 ++ fed.slice fed.u8 name
symbol_fed (Literal bytes) = fed.u8 1 ++ fed.slice fed.u8 bytes

-- each test says exactly whether the two are equal
pub ruleset sameness = (bytes_eq-Decides, spelling_eq-decides, symbols_eq-decides, rule_eq-decides, definition_eq-decides)
