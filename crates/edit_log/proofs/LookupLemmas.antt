-- The look-ups of a replica tell what its grammar says.
use Rattle.std.proofs.Common.{◌≡◌, ◌↔◌, ◌<◌, ◌≤◌, ℕ, zero, suc, ◌==◌, List, [], ◌∷◌, Bool, true, false, cond, length, map, find, slice_get, slice_set}
use Rattle.std.proofs.Common.{slice_index_or, Option, Some, None, option_map, IsTrue, IfSome, Bor, Vec, refl, ap, sym, ◌∙◌, subst, arith}
use Rattle.std.specs.List.{AllByRecursion}
use Rattle.std.specs.Option.{is_some, option_flatten}
use Rattle.std.specs.declared.alloc.Global.{Global}
use Rattle.std.proofs.lemmas.Bool.{eqb-true, eq-eqb, ne_eqb}
use Rattle.std.proofs.lemmas.Option.{same_Some, get_or_from_slice_get, slice_get_within}
use Rattle.grammar_text.specs.declared.symbol.Symbol.{Symbol}
use Rattle.grammar_text.specs.declared.symbol.Symbol.TheVariants.{Named, Literal}
use Rattle.forest.specs.declared.symbols.SymbolId.{SymbolId}
use Rattle.forest.specs.declared.rules.RuleId.{RuleId}
use Rattle.forest.specs.declared.rules.Rule.{Rule}
use Rattle.regex_ast.specs.Positions.{Table, ArePositionsOfLiteral}
use Rattle.edit_log.specs.declared.definitions.DefId.{DefId}
use Rattle.edit_log.specs.declared.definitions.DefId.TheVariants.{Literal as literal, Named as named}
use Rattle.edit_log.specs.declared.definitions.DefKind.{DefKind}
use Rattle.edit_log.specs.declared.definitions.DefKind.TheVariants.{Token}
use Rattle.edit_log.specs.declared.named_definitions.NamedDefinition.{NamedDefinition}
use Rattle.edit_log.specs.Symbols.{symbol_at}
use Rattle.edit_log.specs.History.{Definition, Grammar}
use Rattle.edit_log.specs.Facts.{IsWellFormed, IsNamed}
use Rattle.edit_log.specs.Live.{is_live_literal, kind_of, kind_of_definition, IsLive}
use Rattle.edit_log.specs.Lookups.{numbers_of_left, ArePositionsFor}
use Rattle.edit_log.specs.Lists.{IsLiveBy}
use Rattle.edit_log.specs.Kept.{AreUses, AreLiteralTables, live_literal}
use Rattle.edit_log.specs.Replicas.{ArePositionsOfSymbol, HasPositions, seen_of, room_of}
use Rattle.edit_log.proofs.Liveness.{live_by, numbers_in}
use Rattle.edit_log.specs.Facts.{definition_order}
use Rattle.std.specs.List.Sorted.{IsStrictlySortedBy}
use Rattle.edit_log.proofs.PlainLists.{each_contained, found, find_only, distinct_map, sorted_keys}

-- ---- tokens and skips by number

abbrev has_number : RuleId → NamedDefinition → Bool
has_number number live = live.number.0 == number.0

pub found_seen : (definitions : List NamedDefinition) (number : RuleId) → option_map seen_of (find (has_number number) definitions) ≡ find
    (λ live. live.number.0 == number.0) (map seen_of definitions)
found_seen [] number = refl
found_seen (live ∷ definitions) number = by (has_number number live) (found_seen definitions number)
  where
    by : (is : Bool) → option_map seen_of (find (has_number number) definitions) ≡ find (λ (d : Definition). d.number.0 == number.0) (map seen_of definitions)
        → option_map seen_of (cond is (Some live) (find (has_number number) definitions)) ≡ cond is (Some (seen_of live))
        (find (λ (d : Definition). d.number.0 == number.0) (map seen_of definitions))
    by true rest = refl
    by false rest = rest

-- what is found by number, as it is seen
pub found_told : (definitions : List NamedDefinition) (number : RuleId) (told : Option (Bor NamedDefinition))
    → option_map (λ live. live.now) told ≡ find (has_number number) definitions
    → option_map (λ live. seen_of live.now) told ≡ find (λ live. live.number.0 == number.0) (map seen_of definitions)
found_told definitions number None is = ap (option_map seen_of) is ∙ found_seen definitions number
found_told definitions number (Some live) is = ap (option_map seen_of) is ∙ found_seen definitions number

-- ---- literals

-- a literal has positions where it is used, by the lists that are kept
pub used_literal : (uses : List ℕ) (literals : List (Option Table)) (numbers : List RuleId) (symbol : SymbolId) → length literals ≡ length uses
    → IsTrue (is_some (live_literal uses literals symbol.0)) ↔ IsLiveBy literals uses numbers (literal symbol)
used_literal uses literals numbers symbol same = (there, from)
  where
    place : ℕ
    place = symbol.0

    there : IsTrue (is_some (live_literal uses literals place)) → IsLiveBy literals uses numbers (literal symbol)
    there some = by (slice_get literals place) refl (slice_get uses place) refl (slice_index_or uses place 0 == 0) refl some
      where
        by : (one : Option (Option Table)) → slice_get literals place ≡ one → (count : Option ℕ) → slice_get uses place ≡ count → (unused : Bool)
            → (slice_index_or uses place 0 == 0) ≡ unused
            → IsTrue (is_some (cond unused None (option_flatten one))) → IsLiveBy literals uses numbers (literal symbol)
        by one one-is count count-is true unused-is some = absurd cc
        by None one-is count count-is false unused-is some = absurd cc
        by (Some None) one-is count count-is false unused-is some = absurd cc
        by (Some (Some table)) one-is None count-is false unused-is some = absurd (omega (
          arith,
          same,
          slice_get_within literals place (Some table) one-is,
          past uses place count-is,
        ))
          where
            past : {X : Type 0} (xs : List X) (i : ℕ) → slice_get xs i ≡ None → length xs ≤ i
            past [] i is = omega arith
            past (x ∷ xs) zero is = absurd cc
            past (x ∷ xs) (suc i) is = let rest = past xs i is in omega (arith, rest)
        by (Some (Some table)) one-is (Some count) count-is false unused-is some =
            let read : slice_index_or uses place 0 ≡ count = get_or_from_slice_get uses place count 0 count-is in
            ((table, one-is), (count, count-is, positive count (subst (λ n. (n == 0) ≡ false) read unused-is)))
          where
            positive : (n : ℕ) → (n == 0) ≡ false → 0 < n
            positive zero is = absurd cc
            positive (suc n) is = omega arith

    from : IsLiveBy literals uses numbers (literal symbol) → IsTrue (is_some (live_literal uses literals place))
    from live =
        let read : slice_index_or uses place 0 ≡ live.1.0 = get_or_from_slice_get uses place live.1.0 0 live.1.1 in
        let used : (slice_index_or uses place 0 == 0) ≡ false = ne_eqb (slice_index_or uses place 0) 0 (λ e. omega (arith, read, live.1.2)) in
        rw (used, live.0.1) refl

pub literal_live : (g : Grammar) (uses : List ℕ) (literals : List (Option Table)) (symbol : SymbolId) → IsWellFormed g → AreUses g.symbols g.rules uses
    → AreLiteralTables g.symbols literals → length literals ≡ length uses
    → IsTrue (is_some (live_literal uses literals symbol.0)) ↔ IsLive g (literal symbol)
literal_live g uses literals symbol well are_uses are_literals same =
    let kept = used_literal uses literals (numbers_in g.definitions) symbol same in
    let by = live_by g uses literals well are_uses are_literals (literal symbol) in
    (λ some. by.1 (kept.0 some), λ live. kept.1 (by.0 live))

-- as many literals as uses
pub same_length : (g : Grammar) (uses : List ℕ) (literals : List (Option Table)) → AreUses g.symbols g.rules uses → AreLiteralTables g.symbols literals
    → length literals ≡ length uses
same_length g uses literals are_uses are_literals = zip_len g.symbols literals are_literals ∙ sym are_uses.len
  where
    zip_len : (symbols : List Symbol) (literals : List (Option Table)) → AreLiteralTables symbols literals → length literals ≡ length symbols
    zip_len [] [] are = refl
    zip_len [] (l ∷ ls) are = absurd are
    zip_len (s ∷ ss) [] are = absurd are
    zip_len (s ∷ ss) (l ∷ ls) are = ap suc (zip_len ss ls are.1)

-- the kind of a literal, where it is live, and where it is not
pub literal_kind : (g : Grammar) (symbol : SymbolId) → IsLive g (literal symbol) → Some (Token symbol) ≡ kind_of g (literal symbol)
literal_kind g symbol live = by (is_live_literal g symbol) live
  where
    by : (is : Bool) → IsTrue (is_some (cond is (Some (Token symbol)) None)) → Some (Token symbol) ≡ cond is (Some (Token symbol)) None
    by true live = refl
    by false live = absurd cc

pub no_kind : (g : Grammar) (d : DefId) → (IsLive g d → ⊥) → None ≡ kind_of g d
no_kind g d dead = by (kind_of g d) refl
  where
    by : (kind : Option DefKind) → kind_of g d ≡ kind → None ≡ kind
    by None is = refl
    by (Some kind) is = absurd (dead (rw is refl))

-- the positions that are kept of a literal
pub literal_positions : (symbols : List Symbol) (literals : List (Option Table)) (symbol : SymbolId) (table : Table) → AreLiteralTables symbols literals
    → slice_get literals symbol.0 ≡ Some (Some table)
    → (bytes : List ℕ) × (symbol_at symbols symbol ≡ Literal bytes) × ArePositionsOfLiteral bytes table
literal_positions symbols literals symbol table are is = at symbols literals symbol.0 are is
  where
    one : (s : Symbol) (kept : Option Table) → kept ≡ Some table → ArePositionsOfSymbol s kept
        → (bytes : List ℕ) × (s ≡ Literal bytes) × ArePositionsOfLiteral bytes table
    one (Named name) kept is none = absurd (let e : None ≡ Some table = sym none ∙ is in cc)
    one (Literal bytes) kept is some =
        let same : some.0 ≡ table = same_Some some.0 table (sym some.1 ∙ is) in
        (bytes, refl, subst (ArePositionsOfLiteral bytes) same some.2)

    at : (symbols : List Symbol) (literals : List (Option Table)) (place : ℕ) → AreLiteralTables symbols literals → slice_get literals place ≡ Some (Some table)
        → (bytes : List ℕ) × (slice_index_or symbols place (Named []) ≡ Literal bytes) × ArePositionsOfLiteral bytes table
    at [] [] place are is = absurd cc
    at [] (l ∷ ls) place are is = absurd are
    at (s ∷ ss) [] place are is = absurd are
    at (s ∷ ss) (l ∷ ls) zero are is = one s l (same_Some l (Some table) is) are.0
    at (s ∷ ss) (l ∷ ls) (suc place) are is = at ss ls place are.1 is

-- what is told of a used literal is what is kept of it
pub told_literal : (uses : List ℕ) (literals : List (Option Table)) (place : ℕ) (table : Table) → live_literal uses literals place ≡ Some table
    → slice_get literals place ≡ Some (Some table)
told_literal uses literals place table is = by (slice_index_or uses place 0 == 0) (slice_get literals place) refl is
  where
    by : (unused : Bool) (one : Option (Option Table)) → slice_get literals place ≡ one → cond unused None (option_flatten one) ≡ Some table
        → slice_get literals place ≡ Some (Some table)
    by true one one-is is = absurd cc
    by false None one-is is = absurd cc
    by false (Some None) one-is is = absurd cc
    by false (Some (Some other)) one-is is = one-is ∙ ap Some is

-- ---- left sides

-- a number that no symbol has is no left side
pub no_left : (symbols : List Symbol) (rules : List Rule) (left : SymbolId) → AllByRecursion (λ r. IsNamed symbols r.left) rules → length symbols ≤ left.0
    → [] ≡ numbers_of_left rules left
no_left symbols [] left are past = refl
no_left symbols (r ∷ rules) left are past =
    let within = slice_get_within symbols r.left.0 (Named are.0.0) are.0.1 in
    let other : (r.left.0 == left.0) ≡ false = ne_eqb r.left.0 left.0 (λ e. omega (arith, within, past, e)) in
    rw other (no_left symbols rules left are.1 past)

-- ---- tokens and skips by name

-- what has the number of what is found by another test is what is found
pub named_found : (definitions : List Definition) (test : Definition → Bool) (number : RuleId) → IsStrictlySortedBy definition_order definitions
    → option_map (λ live. live.number) (find test definitions) ≡ Some number → find (λ live. live.number.0 == number.0) definitions ≡ find test definitions
named_found definitions test number order told = by (find test definitions) refl told
  where
    by : (one : Option Definition) → find test definitions ≡ one → option_map (λ live. live.number) one ≡ Some number
        → find (λ live. live.number.0 == number.0) definitions ≡ one
    by None is told = absurd cc
    by (Some live) is told =
        let finds = found test definitions live is in
        let same : live.number ≡ number = same_Some live.number number told in
        let numbers = sorted_keys (λ (d : Definition). d.number.0) definitions order in
        find_only (λ d. d.number.0 == number.0) definitions live (record {
          there = finds.there;
          passes =
              eq-eqb live.number.0 number.0 (ap (λ (n : RuleId). n.0) same);
        })
        (λ other there passes. distinct_map (λ (d : Definition). d.number.0) definitions other live numbers there finds.there
        (eqb-true other.number.0 number.0 passes ∙ sym (ap (λ (n : RuleId). n.0) same)))

-- ---- what the code is told

pub told_live : (g : Grammar) (some_uses : List ℕ) (some_literals : List (Option Table)) (uses : List ℕ) (literals : List (Option Table)) (symbol : SymbolId)
    (told : Option (Bor Table)) (table : Bor Table)
    → IsWellFormed g → AreUses g.symbols g.rules uses → AreLiteralTables g.symbols literals → some_uses ≡ uses → some_literals ≡ literals
    → option_map (λ p. p.now) told ≡ live_literal some_uses some_literals symbol.0 → told ≡ Some table → IsLive g (literal symbol)
told_live g some_uses some_literals uses literals symbol told table well are_uses are_literals uses-is literals-is is told-is =
    let some : Some table.now ≡ live_literal uses literals symbol.0 = ap (option_map (λ p. p.now)) (sym told-is) ∙ is ∙ ap
    (λ us. live_literal us some_literals symbol.0) uses-is ∙ ap (λ ls. live_literal uses ls symbol.0) literals-is in
    (literal_live g uses literals symbol well are_uses are_literals (same_length g uses literals are_uses are_literals)).0
    (subst (λ o. IsTrue (is_some o)) some refl)

pub told_dead : (g : Grammar) (some_uses : List ℕ) (some_literals : List (Option Table)) (uses : List ℕ) (literals : List (Option Table)) (symbol : SymbolId)
    (told : Option (Bor Table))
    → IsWellFormed g → AreUses g.symbols g.rules uses → AreLiteralTables g.symbols literals → some_uses ≡ uses → some_literals ≡ literals
    → option_map (λ p. p.now) told ≡ live_literal some_uses some_literals symbol.0 → told ≡ None → IsLive g (literal symbol) → ⊥
told_dead g some_uses some_literals uses literals symbol told well are_uses are_literals uses-is literals-is is told-is live =
    let none : None ≡ live_literal uses literals symbol.0 = ap (option_map (λ p. p.now)) (sym told-is) ∙ is ∙ ap
    (λ us. live_literal us some_literals symbol.0) uses-is ∙ ap (λ ls. live_literal uses ls symbol.0) literals-is in
    let some = (literal_live g uses literals symbol well are_uses are_literals (same_length g uses literals are_uses are_literals)).1 live in
    let never : IsTrue (is_some {T = Table} None) = subst (λ o. IsTrue (is_some o)) (sym none) some in
    absurd cc

-- the kind of a found definition
kind_found : (definitions : List NamedDefinition) (number : RuleId) (told : Option (Bor NamedDefinition)) (list : List NamedDefinition) → list ≡ definitions
    → option_map (λ live. live.now) told ≡ find (has_number number) list → option_map (λ live. seen_of live.now) told ≡ find (λ live. live.number.0 == number.0)
    (map seen_of definitions)
kind_found definitions number told list list-is is = found_told definitions number told (is ∙ ap (find (has_number number)) list-is)

pub named_live : (definitions : List NamedDefinition) (number : RuleId) (told : Option (Bor NamedDefinition)) (live : Bor NamedDefinition)
    (list : List NamedDefinition) → list ≡ definitions
    → option_map (λ live. live.now) told ≡ find (has_number number) list → told ≡ Some live
    → IsTrue (is_some (option_map kind_of_definition (find (λ live. live.number.0 == number.0) (map seen_of definitions))))
named_live definitions number told live list list-is is told-is =
    let some : Some (seen_of live.now) ≡ find (λ (d : Definition). d.number.0 == number.0) (map seen_of definitions) =
    ap (option_map (λ (l : Bor NamedDefinition). seen_of l.now)) (sym told-is) ∙ kind_found definitions number told list list-is is in
    subst (λ o. IsTrue (is_some (option_map kind_of_definition o))) some refl

pub named_dead : (g : Grammar) (definitions : List NamedDefinition) (number : RuleId) (told : Option (Bor NamedDefinition)) (list : List NamedDefinition)
    → g.definitions ≡ map seen_of definitions → list ≡ definitions
    → option_map (λ live. live.now) told ≡ find (has_number number) list → told ≡ None → IsLive g (named number) → ⊥
named_dead g definitions number told list g-is list-is is told-is live =
    let none : None ≡ find (λ (d : Definition). d.number.0 == number.0) g.definitions =
    ap (option_map (λ (l : Bor NamedDefinition). seen_of l.now)) (sym told-is) ∙ kind_found definitions number told list list-is is ∙ ap
    (find (λ (d : Definition). d.number.0 == number.0)) (sym g-is) in
    let never : IsTrue (is_some (option_map {T = Definition} kind_of_definition None)) = subst (λ o. IsTrue (is_some (option_map kind_of_definition o)))
    (sym none) live in
    absurd cc

pub named_positions : (g : Grammar) (definitions : List NamedDefinition) (number : RuleId) (told : Option (Bor NamedDefinition)) (live : Bor NamedDefinition)
    (list : List NamedDefinition) → g.definitions ≡ map seen_of definitions
    → AllByRecursion HasPositions definitions → list ≡ definitions → option_map (λ live. live.now) told ≡ find (has_number number) list → told ≡ Some live
    → ArePositionsFor g (named number) live.now.positions
named_positions g definitions number told live list g-is all list-is is told-is =
    let some : Some (seen_of live.now) ≡ find (λ (d : Definition). d.number.0 == number.0) g.definitions =
    ap (option_map (λ (l : Bor NamedDefinition). seen_of l.now)) (sym told-is) ∙ kind_found definitions number told list list-is is ∙ ap
    (find (λ (d : Definition). d.number.0 == number.0)) (sym g-is) in
    let at : find (has_number number) definitions ≡ Some live.now = ap (find (has_number number)) (sym list-is) ∙ sym is ∙ ap
    (option_map (λ (l : Bor NamedDefinition). l.now)) told-is in
    let has = each_contained HasPositions definitions live.now all (found (has_number number) definitions live.now at).there in
    (seen_of live.now, sym some, has.0, has.1, has.2)
