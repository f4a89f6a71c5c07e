-- What tests on the words of a key tell of its items and marks.
use Rattle.std.proofs.Common.{◌≡◌, ℕ, ◌+◌, ◌*◌, ◌/◌, ◌<◌, ◌==◌, ◌||◌, ◌⊎◌, ◌↔◌, inl, inr, Bool, true, false, List, [], ◌∷◌, map, refl, sym, ◌∙◌, ap, subst}
use Rattle.std.proofs.Common.{arith, Contains}
use Rattle.std.specs.List.{list_any}
use Rattle.std.proofs.lemmas.Bool.{eqb-true, eq-eqb, or_cases, or_left, or_right}
use Rattle.forest.specs.declared.symbols.SymbolId.{SymbolId}
use Rattle.forest.specs.declared.rules.RuleId.{RuleId}
use Rattle.edit_log.specs.declared.definitions.DefId.{DefId}
use Rattle.edit_log.specs.declared.definitions.DefId.TheVariants.{Literal as literal, Named as named}
use Rattle.edit_log.proofs.DefinitionOrder.{contains_first, contains_later, contains_cases, contains_none}
use Rattle.item_sets.specs.declared.item.Item.{Item}
use Rattle.isg_states.specs.declared.mark.Mark.{Mark}
use Rattle.isg_states.specs.Marks.{definition_number, mark_number}
use Rattle.row_coding.specs.Words.{item_word}
use Rattle.row_coding.specs.Conditions.{FitItems, FitMarks}
use Rattle.graph_content.specs.Parts.{names_rule, is_among, names_among}

-- a test passes for some element exactly where it does for one of the list
pub any_of : {X : Type 0} (p : X → Bool) (xs : List X) → list_any p xs ≡ true → (x : X) × Contains xs x × (p x ≡ true)
any_of p [] e = absurd cc
any_of p (x ∷ xs) e = elim (or_cases (p x) (list_any p xs) e) [
  | inl here ↦ (x, contains_first x xs, here)
  | inr later ↦ let (y, c, passes) = any_of p xs later in (y, contains_later x xs y c, passes)
]

pub of_any : {X : Type 0} (p : X → Bool) (xs : List X) (x : X) → Contains xs x → p x ≡ true → list_any p xs ≡ true
of_any p [] x c e = absurd (contains_none x c)
of_any p (y ∷ ys) x c e = elim (contains_cases y ys x c) [
  | inl same ↦ or_left (p y) (list_any p ys) (subst (λ z. p z ≡ true) (sym same) e)
  | inr d ↦ or_right (p y) (list_any p ys) (of_any p ys x d e)
]

any_map : {X Y : Type 0} (f : X → Y) (p : Y → Bool) (xs : List X) → list_any p (map f xs) ≡ list_any (λ x. p (f x)) xs
any_map f p [] = refl
any_map f p (x ∷ xs) = ap (λ b. p (f x) || b) (any_map f p xs)

-- ---- items

rule_in : (item : Item) → item.dot < 32 → item_word item / 32 ≡ item.rule.0
rule_in item small = omega arith

pub named_rule : (rule : RuleId) (items : List Item) → FitItems items → names_rule rule.0 (map item_word items) ≡ true
    → (item : Item) × Contains items item × (item.rule ≡ rule)
named_rule rule items fit e =
    let (item, c, passes) = any_of (λ (item : Item). item_word item / 32 == rule.0) items (sym (any_map item_word (λ word. word / 32 == rule.0) items) ∙ e) in
    let same : item.rule.0 ≡ rule.0 = sym (rule_in item (fit item c)) ∙ eqb-true _ _ passes in
    (item, c, ap (λ n. let r : RuleId = record { 0 = n } in r) same)

pub rule_named : (rule : RuleId) (items : List Item) → FitItems items → (item : Item) → Contains items item → item.rule ≡ rule
    → names_rule rule.0 (map item_word items) ≡ true
rule_named rule items fit item c e =
    any_map item_word (λ word. word / 32 == rule.0) items
    ∙ of_any (λ (item : Item). item_word item / 32 == rule.0) items item c (eq-eqb _ _ (rule_in item (fit item c) ∙ ap (λ (r : RuleId). r.0) e))

-- ---- marks

one_number : (a b : DefId) → definition_number a ≡ definition_number b → a ≡ b
one_number (literal a) (literal b) e = let same : a.0 ≡ b.0 = omega (arith, e) in ap (λ n. literal (let s : SymbolId = record { 0 = n } in s)) same
one_number (literal a) (named b) e = absurd (omega (arith, e))
one_number (named a) (literal b) e = absurd (omega (arith, e))
one_number (named a) (named b) e = let same : a.0 ≡ b.0 = omega (arith, e) in ap (λ n. named (let r : RuleId = record { 0 = n } in r)) same

is_among_of : (definitions : List DefId) (d : DefId) → is_among definitions (definition_number d) ≡ true → Contains definitions d
is_among_of definitions d e =
    let (other, c, passes) = any_of (λ other. definition_number other == definition_number d) definitions e in
    subst (Contains definitions) (one_number other d (eqb-true _ _ passes)) c

of_among : (definitions : List DefId) (d : DefId) → Contains definitions d → is_among definitions (definition_number d) ≡ true
of_among definitions d c = of_any (λ other. definition_number other == definition_number d) definitions d c (eq-eqb _ _ refl)

definition_in : (mark : Mark) → mark.index < 256 → mark_number mark / 256 ≡ definition_number mark.def
definition_in mark small = omega arith

pub named_among : (definitions : List DefId) (marks : List Mark) → FitMarks marks → names_among definitions (map mark_number marks) ≡ true
    → (mark : Mark) × Contains marks mark × Contains definitions mark.def
named_among definitions marks fit e =
    let (mark, c, passes) =
    any_of (λ (mark : Mark). is_among definitions (mark_number mark / 256)) marks
    (sym (any_map mark_number (λ word. is_among definitions (word / 256)) marks) ∙ e) in
    (mark, c, is_among_of definitions mark.def (sym (ap (is_among definitions) (definition_in mark (fit mark c))) ∙ passes))

pub among_named : (definitions : List DefId) (marks : List Mark) → FitMarks marks → (mark : Mark) → Contains marks mark → Contains definitions mark.def
    → names_among definitions (map mark_number marks) ≡ true
among_named definitions marks fit mark c gone =
    any_map mark_number (λ word. is_among definitions (word / 256)) marks
    ∙ of_any (λ (mark : Mark). is_among definitions (mark_number mark / 256)) marks mark c
    (ap (is_among definitions) (definition_in mark (fit mark c)) ∙ of_among definitions mark.def gone)
