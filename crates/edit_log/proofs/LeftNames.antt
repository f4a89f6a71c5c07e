-- Whether a name is a left side, by the rules under its number.
use Rattle.std.proofs.Common.{◌≡◌, ℕ, suc, ◌==◌, ◌||◌, List, [], ◌∷◌, Bool, true, false, not, cond, nat_lt, length, map, filter, slice_get, slice_index_or}
use Rattle.std.proofs.Common.{position, Some, None, Vec, refl, ap, sym, ◌∙◌, subst, arith}
use Rattle.std.specs.List.{AllByRecursion, list_any}
use Rattle.std.proofs.lemmas.Bool.{eq-eqb, ne_eqb, ltb-true, ltb-false}
use Rattle.std.proofs.lemmas.Option.{same_Some, get_or_from_slice_get, slice_get_within, slice_get_read}
use Rattle.grammar_text.specs.declared.symbol.Symbol.{Symbol}
use Rattle.grammar_text.specs.declared.symbol.Symbol.TheVariants.{Named}
use Rattle.grammar_text.specs.Sameness.{spelling_eq, spelling_eq-decides}
use Rattle.forest.specs.declared.symbols.SymbolId.{SymbolId}
use Rattle.forest.specs.declared.rules.RuleId.{RuleId}
use Rattle.forest.specs.declared.rules.Rule.{Rule}
use Rattle.forest.specs.Distinct.{IsDistinct}
use Rattle.edit_log.specs.Symbols.{place_of, symbol_at}
use Rattle.edit_log.specs.History.{Grammar}
use Rattle.edit_log.specs.Facts.{IsWellFormed, IsNamed}
use Rattle.edit_log.specs.Lookups.{numbers_of_left}
use Rattle.edit_log.specs.Verdict.{is_left}
use Rattle.edit_log.specs.Kept.{AreLefts}
use Rattle.std.specs.Option.{option_map_or}
use Rattle.std.specs.declared.alloc.Global.{Global}
use Rattle.edit_log.proofs.PlainLists.{distinct_places}
use Rattle.edit_log.proofs.Places.{place_of-get, placed_from_get}

-- where a symbol is found, it stands
pub found_at : (symbols : List Symbol) (s : Symbol) (place : ℕ) → position (spelling_eq s) symbols ≡ Some place → slice_get symbols place ≡ Some s
found_at symbols s place is = by (nat_lt (place_of symbols s) (length symbols)) refl is
  where
    by : (there : Bool) → nat_lt (place_of symbols s) (length symbols) ≡ there → cond there (Some (place_of symbols s)) None ≡ Some place
        → slice_get symbols place ≡ Some s
    by true there is =
        let same : place_of symbols s ≡ place = same_Some (place_of symbols s) place is in
        subst (λ n. slice_get symbols n ≡ Some s) same (place_of-get symbols s (ltb-true (place_of symbols s) (length symbols) there))
    by false there is = absurd cc

-- where it is not found, it stands nowhere
pub not_found : (symbols : List Symbol) (s : Symbol) → position (spelling_eq s) symbols ≡ None → (place : ℕ) → slice_get symbols place ≡ Some s → ⊥
not_found symbols s is place at = by (nat_lt (place_of symbols s) (length symbols)) refl is
  where
    by : (there : Bool) → nat_lt (place_of symbols s) (length symbols) ≡ there → cond there (Some (place_of symbols s)) None ≡ None → ⊥
    by true there is = absurd cc
    by false there is = omega (arith, ltb-false (place_of symbols s) (length symbols) there, placed_from_get symbols s place at)

-- the left side has the name exactly where it has the name's number
same_left : (symbols : List Symbol) (name : List ℕ) (place : ℕ) (left : SymbolId) → IsDistinct symbols → slice_get symbols place ≡ Some (Named name)
    → IsNamed symbols left
    → (left.0 == place) ≡ spelling_eq (symbol_at symbols left) (Named name)
same_left symbols name place left distinct at is = by (spelling_eq (Named is.0) (Named name)) refl
  where
    read : symbol_at symbols left ≡ Named is.0
    read = get_or_from_slice_get symbols left.0 (Named is.0) (Named []) is.1

    by : (same : Bool) → spelling_eq (Named is.0) (Named name) ≡ same → (left.0 == place) ≡ spelling_eq (symbol_at symbols left) (Named name)
    by true same =
        let names : Named is.0 ≡ Named name = (spelling_eq-decides (Named is.0) (Named name)).0 same in
        let places : left.0 ≡ place = distinct_places symbols left.0 place (Named name) distinct (is.1 ∙ ap Some names) at in
        eq-eqb left.0 place places ∙ sym (ap (λ s. spelling_eq s (Named name)) read ∙ same)
    by false same =
        let other : left.0 ≡ place → ⊥ = λ e.
        let both : Some (Named is.0) ≡ Some (Named name) = sym is.1 ∙ ap (slice_get symbols) e ∙ at in
        let names : Named is.0 ≡ Named name = same_Some (Named is.0) (Named name) both in
        let yes : spelling_eq (Named is.0) (Named name) ≡ true = (spelling_eq-decides (Named is.0) (Named name)).1 names in
        absurd (let never : false ≡ true = sym same ∙ yes in cc) in
        ne_eqb left.0 place other ∙ sym (ap (λ s. spelling_eq s (Named name)) read ∙ same)

-- some rule has the left side where there are rules under its number
pub left_by_list : (g : Grammar) (name : List ℕ) (place : ℕ) (numbers : List RuleId) → IsWellFormed g → slice_get g.symbols place ≡ Some (Named name)
    → numbers ≡ numbers_of_left g.rules (record { 0 = place }) → not (length numbers == 0) ≡ is_left g name
left_by_list g name place numbers well at is = ap (λ ns. not (length ns == 0)) is ∙ go g.rules well.lefts
  where
    go : (rules : List Rule) → AllByRecursion (λ r. IsNamed g.symbols r.left) rules
        → not (length (numbers_of_left rules (record { 0 = place })) == 0) ≡ list_any (λ live. spelling_eq (symbol_at g.symbols live.left) (Named name)) rules
    go [] all = refl
    go (r ∷ rules) all = by (r.left.0 == place) (same_left g.symbols name place r.left well.distinct at all.0) (go rules all.1)
      where
        by : (is : Bool) → is ≡ spelling_eq (symbol_at g.symbols r.left) (Named name)
            → not (length (numbers_of_left rules (record { 0 = place })) == 0) ≡ list_any (λ live. spelling_eq (symbol_at g.symbols live.left)
            (Named name)) rules
            → not (length (map (λ (r : Rule). r.number) (cond is (r ∷ filter (λ (r : Rule). r.left.0 == place) rules)
            (filter (λ (r : Rule). r.left.0 == place) rules))) == 0)
            ≡ (spelling_eq (symbol_at g.symbols r.left) (Named name) || list_any (λ live. spelling_eq (symbol_at g.symbols live.left) (Named name)) rules)
        by true is rest = ap not (ne_eqb (suc (length (numbers_of_left rules (record { 0 = place })))) 0 (λ e. omega (arith, e))) ∙ ap
            (λ b. b || list_any (λ (live : Rule). spelling_eq (symbol_at g.symbols live.left) (Named name)) rules) is
        by false is rest = rest ∙ ap (λ b. b || list_any (λ (live : Rule). spelling_eq (symbol_at g.symbols live.left) (Named name)) rules) is

-- a name that has no number is no left side
pub left_unknown : (g : Grammar) (name : List ℕ) → IsWellFormed g → position (spelling_eq (Named name)) g.symbols ≡ None → false ≡ is_left g name
left_unknown g name well none = go g.rules well.lefts
  where
    go : (rules : List Rule) → AllByRecursion (λ r. IsNamed g.symbols r.left) rules
        → false ≡ list_any (λ live. spelling_eq (symbol_at g.symbols live.left) (Named name)) rules
    go [] all = refl
    go (r ∷ rules) all = by (spelling_eq (symbol_at g.symbols r.left) (Named name)) refl (go rules all.1)
      where
        by : (same : Bool) → spelling_eq (symbol_at g.symbols r.left) (Named name) ≡ same
            → false ≡ list_any (λ live. spelling_eq (symbol_at g.symbols live.left) (Named name)) rules
            → false ≡ (same || list_any (λ live. spelling_eq (symbol_at g.symbols live.left) (Named name)) rules)
        by true same rest =
            let names : symbol_at g.symbols r.left ≡ Named name = (spelling_eq-decides (symbol_at g.symbols r.left) (Named name)).0 same in
            let read : symbol_at g.symbols r.left ≡ Named all.0.0 = get_or_from_slice_get g.symbols r.left.0 (Named all.0.0) (Named []) all.0.1 in
            absurd (not_found g.symbols (Named name) none r.left.0 (all.0.1 ∙ ap Some (sym read ∙ names)))
        by false same rest = rest

-- the list that is read at a symbol's place has the rules under it
pub under_index : (symbols : List Symbol) (rules : List Rule) (lefts : List (Vec RuleId Global)) (place : ℕ) (list : Vec RuleId Global) (s : Symbol)
    → AreLefts symbols rules lefts
    → list ≡ slice_index_or lefts place list → slice_get symbols place ≡ Some s → list.items ≡ numbers_of_left rules (record { 0 = place })
under_index symbols rules lefts place list s are read at =
    let within = slice_get_within symbols place s at in
    let kept : slice_get lefts place ≡ Some list = slice_get_read lefts (length lefts) place list refl (omega (arith, within, are.len)) read in
    ap (λ o. option_map_or (λ (l : Vec RuleId Global). l.items) o []) (sym kept) ∙ are.lists place within
