-- What is live, and how often symbols are used, as facts on plain lists.
use Rattle.std.proofs.Common.{◌≡◌, ℕ, zero, suc, ◌+◌, ◌<◌, ◌≤◌, ◌↔◌, ◌⊎◌, inl, inr, ◌==◌, List, [], ◌∷◌, ◌++◌, length, get_or, map, filter, Bool, true, false}
use Rattle.std.proofs.Common.{not, cond, if◌then◌else◌, sum_by, find, Option, Some, None, option_map, refl, sym, ap, subst, arith, Contains}
use Rattle.std.specs.Option.{is_some}
use Rattle.std.specs.List.{list_any, AllByRecursion, AllZip}
use Rattle.std.specs.List.Sorted.{IsStrictlySortedBy}
use Rattle.std.proofs.lemmas.Bool.{cases_lt, cases_eq, eq-eqb, eqb-true, eqb-false, and_parts, and_from, or_cases, or_left, or_right}
use Rattle.std.proofs.lemmas.Cmp.{ranked}
use Rattle.std.specs.declared.cmp.Ordering.TheVariants.{Less}
use Rattle.std.proofs.lemmas.List.Sums.{sum_by-cons, sum_by_push}
use Rattle.grammar_text.specs.declared.symbol.Symbol.{Symbol}
use Rattle.grammar_text.specs.declared.symbol.Symbol.TheVariants.{Named, Literal}
use Rattle.forest.specs.declared.symbols.SymbolId.{SymbolId}
use Rattle.forest.specs.declared.rules.RuleId.{RuleId}
use Rattle.forest.specs.declared.rules.Rule.{Rule}
use Rattle.forest.specs.Orders.{rule_cmp}
use Rattle.regex_ast.specs.Positions.{Table}
use Rattle.edit_log.specs.declared.definitions.DefId.{DefId}
use Rattle.edit_log.specs.declared.definitions.DefId.TheVariants.{Literal as literal, Named as named}
use Rattle.edit_log.specs.declared.definitions.DefKind.TheVariants.{Token}
use Rattle.edit_log.specs.Symbols.{symbol_at}
use Rattle.edit_log.specs.History.{Definition, Grammar}
use Rattle.edit_log.specs.Facts.{IsRight}
use Rattle.edit_log.specs.Live.{IsLive, is_literal, is_live_literal, uses, kind_of_definition}
use Rattle.edit_log.specs.Lookups.{ListsDefinitions}
use Rattle.edit_log.specs.Lists.{occurrences, all_occurrences, HasLiteral}
use Rattle.edit_log.specs.Replicas.{ArePositionsOfSymbol}
use Rattle.edit_log.proofs.DefinitionOrder.{contains_first, contains_later, contains_cases, contains_none, each_of}

abbrev pub numbers_in : List Definition → List RuleId
numbers_in definitions = map (λ live. live.number) definitions

-- a list of definitions lists those that are so otherwise too
pub lists_same : (P Q : DefId → Type 0) (live : List DefId) → ((d : DefId) → P d ↔ Q d) → ListsDefinitions P live → ListsDefinitions Q live
lists_same P Q live same lists = record {
  order = lists.order;
  members =
      λ d. (λ c. (same d).0 ((lists.members d).0 c), λ q. (lists.members d).1 ((same d).1 q));
}

-- ---- tests and sums

-- some element passes exactly where the sum is not 0
pub any_positive : {X : Type 0} (p : X → Bool) (f : X → ℕ) → ((x : X) → (p x ≡ true) ↔ (0 < f x)) → (xs : List X) → (list_any p xs ≡ true) ↔ (0 < sum_by f xs)
any_positive p f each [] = (λ e. absurd cc, λ h. absurd (omega arith))
any_positive p f each (x ∷ xs) =
    let rest = any_positive p f each xs in
    let sum = sum_by-cons f x xs in (
      λ e. elim (or_cases (p x) (list_any p xs) e) [
        | inl here ↦ omega (arith, sum, (each x).0 here)
        | inr later ↦ omega (arith, sum, rest.0 later)
      ],
      λ some. elim (cases_lt 0 (f x)) [
        | inl here ↦ or_left (p x) (list_any p xs) ((each x).1 here)
        | inr none ↦ or_right (p x) (list_any p xs) (rest.1 (omega (arith, sum, none, some)))
      ],
    )

-- 1 where the test passes
abbrev mark : Bool → ℕ
mark b = cond b 1 0

one_if : (b : Bool) → (b ≡ true) ↔ (0 < mark b)
one_if true = (λ e. omega arith, λ h. refl)
one_if false = (λ e. absurd cc, λ h. absurd (omega arith))

pub uses_counted : (s : SymbolId) (r : Rule) → (uses s r ≡ true) ↔ (0 < occurrences s r.right)
uses_counted s r = any_positive (λ part. part.0 == s.0) (λ part. cond (part.0 == s.0) 1 0) (λ part. one_if (part.0 == s.0)) r.right

pub all_counted : (s : SymbolId) (rules : List Rule) → (list_any (uses s) rules ≡ true) ↔ (0 < all_occurrences s rules)
all_counted s rules = any_positive (uses s) (λ r. occurrences s r.right) (uses_counted s) rules

-- a symbol of the list counts
pub counted_there : (s : SymbolId) (parts : List SymbolId) → Contains parts s → 0 < occurrences s parts
counted_there s [] c = absurd (contains_none s c)
counted_there s (part ∷ parts) c =
    let sum = sum_by-cons (λ (p : SymbolId). cond (p.0 == s.0) 1 0) part parts in
    elim (contains_cases part parts s c) [
      | inl e ↦
          let one : mark (part.0 == s.0) ≡ 1 = ap mark (eq-eqb part.0 s.0 (ap (λ (p : SymbolId). p.0) e)) in
          omega (arith, sum, one)
      | inr d ↦ omega (arith, sum, counted_there s parts d)
    ]

pub there_counted : (s : SymbolId) (parts : List SymbolId) → 0 < occurrences s parts → Contains parts s
there_counted s [] some = absurd (omega arith)
there_counted s (part ∷ parts) some = elim (cases_eq part.0 s.0) [
  | inl e ↦ let same : part ≡ s = ap (λ n. let one : SymbolId = record { 0 = n } in one) e in subst (Contains (part ∷ parts)) same (contains_first part parts)
  | inr other ↦ contains_later part parts s (there_counted s parts (rest other (part.0 == s.0) refl))
]
  where
    rest : (part.0 ≡ s.0 → ⊥) → (b : Bool) → (part.0 == s.0) ≡ b → 0 < occurrences s parts
    rest other true is = absurd (other (eqb-true part.0 s.0 is))
    rest other false is =
        let none : mark (part.0 == s.0) ≡ 0 = ap mark is in
        omega (arith, sum_by-cons (λ (p : SymbolId). cond (p.0 == s.0) 1 0) part parts, none, some)

-- a sum of nothing
pub sum_none : {X : Type 0} (f : X → ℕ) (xs : List X) → ((x : X) → Contains xs x → f x ≡ 0) → sum_by f xs ≡ 0
sum_none f [] none = refl
sum_none f (x ∷ xs) none = omega (arith, sum_by-cons f x xs, none x (contains_first x xs), sum_none f xs (λ y c. none y (contains_later x xs y c)))

-- a symbol that no list has is on no right side
pub counted_beyond : (symbols : List Symbol) (rules : List Rule) (s : SymbolId) → AllByRecursion (λ r. IsRight symbols r.right) rules → length symbols ≤ s.0
    → all_occurrences s rules ≡ 0
counted_beyond symbols rules s rights beyond =
    sum_none (λ r. occurrences s r.right) rules (λ r there.
    sum_none (λ part. cond (part.0 == s.0) 1 0) r.right (λ part c.
    none part.0 (each_of (λ (p : SymbolId). p.0 < length symbols) r.right (each_of (λ (x : Rule). IsRight symbols x.right) rules rights r there).0 part c)))
  where
    none : (n : ℕ) → n < length symbols → mark (n == s.0) ≡ 0
    none n less = by (n == s.0) refl
      where
        by : (b : Bool) → (n == s.0) ≡ b → mark b ≡ 0
        by true is = absurd (omega (arith, eqb-true n s.0 is))
        by false is = refl

pub counted_within : (symbols : List Symbol) (rules : List Rule) (s : SymbolId) → AllByRecursion (λ r. IsRight symbols r.right) rules
    → 0 < all_occurrences s rules → s.0 < length symbols
counted_within symbols rules s rights some = elim (cases_lt s.0 (length symbols)) [
  | inl less ↦ less
  | inr beyond ↦ absurd (omega (arith, counted_beyond symbols rules s rights beyond))
]

pub counted_push : (s : SymbolId) (rules : List Rule) (r : Rule) → all_occurrences s (rules ++ r ∷ []) ≡ all_occurrences s rules + occurrences s r.right
counted_push s rules r = sum_by_push (λ x. occurrences s x.right) rules r

-- ---- without one rule

abbrev pub without : Rule → List Rule → List Rule
without live rules = filter (λ other. not (other.number.0 == live.number.0)) rules

all_kept : (live : Rule) (ys : List Rule) → ((y : Rule) → Contains ys y → y.number.0 ≡ live.number.0 → ⊥) → without live ys ≡ ys
all_kept live [] other = refl
all_kept live (y ∷ ys) other = by (y.number.0 == live.number.0) refl (all_kept live ys (λ z d. other z (contains_later y ys z d)))
  where
    by : (b : Bool) → (y.number.0 == live.number.0) ≡ b → without live ys ≡ ys → cond (not b) (y ∷ without live ys) (without live ys) ≡ y ∷ ys
    by true is rest = absurd (other y (contains_first y ys) (eqb-true y.number.0 live.number.0 is))
    by false is rest = ap (λ zs. y ∷ zs) rest

pub sum_without : (f : Rule → ℕ) (rules : List Rule) (live : Rule) → IsStrictlySortedBy rule_cmp rules → Contains rules live
    → sum_by f (without live rules) + f live ≡ sum_by f rules
unfolding IsStrictlySortedBy
sum_without f [] live sorted c = absurd (contains_none live c)
sum_without f (x ∷ xs) live sorted c = by (x.number.0 == live.number.0) refl (contains_cases x xs live c) (λ d. sum_without f xs live sorted.1 d)
  where
    below : (y : Rule) → Contains xs y → x.number.0 < y.number.0
    below y d = ranked x.number.0 y.number.0 Less (sym (each_of (λ z. rule_cmp x z ≡ Less) xs sorted.0 y d))

    by : (b : Bool) → (x.number.0 == live.number.0) ≡ b → (x ≡ live) ⊎ Contains xs live → (Contains xs live → sum_by f (without live xs) + f live ≡ sum_by f xs)
        → sum_by f (cond (not b) (x ∷ without live xs) (without live xs)) + f live ≡ sum_by f (x ∷ xs)
    by true is (inl e) rest =
        let kept : without live xs ≡ xs = all_kept live xs (λ y d same. absurd (omega (arith, below y d, same, eqb-true x.number.0 live.number.0 is))) in
        rw kept (omega (arith, sum_by-cons f x xs, ap f e))
    by true is (inr d) rest = absurd (omega (arith, below live d, eqb-true x.number.0 live.number.0 is))
    by false is (inl e) rest = absurd (eqb-false x.number.0 live.number.0 is (ap (λ (r : Rule). r.number.0) e))
    by false is (inr d) rest = omega (arith, rest d, sum_by-cons f x xs, sum_by-cons f x (without live xs))

-- what is found is there, and passes
pub found_there : {X : Type 0} (p : X → Bool) (xs : List X) (x : X) → find p xs ≡ Some x → Contains xs x × (p x ≡ true)
found_there p [] x e = absurd cc
found_there {X} p (y ∷ ys) x e = by (p y) refl e (found_there p ys x)
  where
    by : (b : Bool) → p y ≡ b → cond b (Some y) (find p ys) ≡ Some x → (find p ys ≡ Some x → Contains ys x × (p x ≡ true)) → Contains (y ∷ ys) x × (p x ≡ true)
    by true is e rest = let same : y ≡ x = cc in (subst (Contains (y ∷ ys)) same (contains_first y ys), subst (λ z. p z ≡ true) same is)
    by false is e rest = let found = rest e in (contains_later y ys x found.0, found.1)

-- ---- what is live

some_if : {X : Type 0} (b : Bool) (x : X) → (is_some (if b then Some x else None) ≡ true) ↔ (b ≡ true)
some_if true x = (λ e. refl, λ e. refl)
some_if false x = (λ e. absurd cc, λ e. absurd cc)

-- a literal that is used
pub live_literal : (g : Grammar) (s : SymbolId) → IsLive g (literal s) ↔ ((is_literal (symbol_at g.symbols s) ≡ true) × (0 < all_occurrences s g.rules))
live_literal g s =
    let test = some_if (is_live_literal g s) (Token s) in
    let counted = all_counted s g.rules in (
      λ live. let both = and_parts (is_literal (symbol_at g.symbols s)) (list_any (uses s) g.rules) (test.0 live) in (both.0, counted.0 both.1),
      λ w. test.1 (and_from (is_literal (symbol_at g.symbols s)) (list_any (uses s) g.rules) w.0 (counted.1 w.1)),
    )

found_number : (definitions : List Definition) (n : RuleId) → (is_some (option_map kind_of_definition (find (λ live. live.number.0 == n.0) definitions)) ≡ true)
    ↔ Contains (numbers_in definitions) n
found_number [] n = (λ e. absurd cc, λ c. absurd (contains_none n c))
found_number (x ∷ xs) n = by (x.number.0 == n.0) refl (found_number xs n)
  where
    by : (b : Bool) → (x.number.0 == n.0) ≡ b → ((is_some (option_map kind_of_definition (find (λ live. live.number.0 == n.0) xs)) ≡ true)
        ↔ Contains (numbers_in xs) n) → (is_some (option_map kind_of_definition (cond b (Some x) (find (λ live. live.number.0 == n.0) xs))) ≡ true)
        ↔ Contains (numbers_in (x ∷ xs)) n
    by true is rest = (
      λ e. let same : x.number ≡ n = ap (λ k. let r : RuleId = record { 0 = k } in r) (eqb-true x.number.0 n.0 is) in
          subst (Contains (numbers_in (x ∷ xs))) same (contains_first x.number (numbers_in xs)),
      λ c. refl,
    )
    by false is rest = (
      λ e. contains_later x.number (numbers_in xs) n (rest.0 e),
      λ c. elim (contains_cases x.number (numbers_in xs) n c) [
        | inl e ↦ absurd (eqb-false x.number.0 n.0 is (ap (λ (r : RuleId). r.0) e))
        | inr d ↦ rest.1 d
      ],
    )

-- a token or a skip
pub live_named : (g : Grammar) (n : RuleId) → IsLive g (named n) ↔ Contains (numbers_in g.definitions) n
live_named g n = found_number g.definitions n

-- ---- positions

pub literal_has : (symbols : List Symbol) (literals : List (Option Table)) → AllZip ArePositionsOfSymbol symbols literals → (place : ℕ)
    → is_literal (get_or symbols place (Named [])) ≡ true → HasLiteral literals place
literal_has [] [] are place e = absurd cc
literal_has [] (y ∷ ys) are place e = absurd are
literal_has (x ∷ xs) [] are place e = absurd are
literal_has (Named name ∷ xs) (y ∷ ys) are zero e = absurd cc
literal_has (Literal bytes ∷ xs) (y ∷ ys) are zero e = (are.0.0, ap Some are.0.1)
literal_has (x ∷ xs) (y ∷ ys) are (suc place) e = literal_has xs ys are.1 place e

pub has_is_literal : (symbols : List Symbol) (literals : List (Option Table)) → AllZip ArePositionsOfSymbol symbols literals → (place : ℕ)
    → HasLiteral literals place → is_literal (get_or symbols place (Named [])) ≡ true
has_is_literal [] [] are place (table, is) = absurd cc
has_is_literal [] (y ∷ ys) are place has = absurd are
has_is_literal (x ∷ xs) [] are place has = absurd are
has_is_literal (Named name ∷ xs) (y ∷ ys) are zero (table, is) = let none : y ≡ None = are.0 in absurd cc
has_is_literal (Literal bytes ∷ xs) (y ∷ ys) are zero has = refl
has_is_literal (x ∷ xs) (y ∷ ys) are (suc place) has = has_is_literal xs ys are.1 place has

pub same_length : (symbols : List Symbol) (literals : List (Option Table)) → AllZip ArePositionsOfSymbol symbols literals → length symbols ≡ length literals
same_length [] [] are = refl
same_length [] (y ∷ ys) are = absurd are
same_length (x ∷ xs) [] are = absurd are
same_length (x ∷ xs) (y ∷ ys) are = omega (arith, same_length xs ys are.1)
