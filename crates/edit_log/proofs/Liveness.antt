-- What is live after an edit, and how often symbols are used.
use Rattle.std.proofs.Common.{◌≡◌, ◌↔◌, ◌⊎◌, inl, inr, ℕ, zero, suc, ◌+◌, ◌-◌, ◌<◌, ◌≤◌, List, [], ◌∷◌, ◌++◌, Bool, length, map, slice_get, Option, Some}
use Rattle.std.proofs.Common.{option_map, refl, sym, ◌∙◌, ap, arith, Contains}
use Rattle.std.specs.List.{AllZip, AllByRecursion}
use Rattle.std.proofs.lemmas.Bool.{cases_lt}
use Rattle.std.proofs.lemmas.List.{length-map}
use Rattle.std.proofs.Math.ListN.{length-append}
use Rattle.std.proofs.lemmas.Option.{slice_get_within}
use Rattle.grammar_text.specs.declared.edit.RuleText.{RuleText}
use Rattle.grammar_text.specs.declared.edit.DefText.{DefText}
use Rattle.grammar_text.specs.declared.edit.Edit.{Edit}
use Rattle.grammar_text.specs.declared.edit.Edit.TheVariants.{AddRule, DropRule}
use Rattle.forest.specs.declared.symbols.SymbolId.{SymbolId}
use Rattle.forest.specs.declared.rules.Rule.{Rule}
use Rattle.regex_ast.specs.Positions.{Table}
use Rattle.edit_log.specs.declared.definitions.DefId.{DefId}
use Rattle.edit_log.specs.declared.definitions.DefId.TheVariants.{Literal as literal, Named as named}
use Rattle.edit_log.specs.declared.fresh_symbols.FreshSymbol.{FreshSymbol}
use Rattle.edit_log.specs.Symbols.{numbered}
use Rattle.edit_log.specs.History.{Definition, Grammar, after_edit, reads}
use Rattle.edit_log.specs.Verdict.{IsAccepted, rule_found, definition_found}
use Rattle.edit_log.specs.Facts.{IsWellFormed}
use Rattle.edit_log.specs.Live.{IsLive}
use Rattle.edit_log.specs.Lookups.{ListsDefinitions}
use Rattle.edit_log.specs.Lists.{occurrences, all_occurrences, IsLiveBy}
use Rattle.edit_log.specs.Kept.{AreUses, AreLiteralTables}
use Rattle.edit_log.specs.Replicas.{AreFreshFor, ArePositionsOfSymbol, IsFreshSymbol, adds, drops}
use Rattle.edit_log.proofs.After.{symbols_stay_rule, rules_dropped}
pub use Rattle.edit_log.proofs.LiveByUses.{numbers_in}
use Rattle.edit_log.proofs.LiveByUses.{live_literal, live_named, literal_has, has_is_literal, lists_same, counted_beyond, counted_push, sum_without}
use Rattle.edit_log.proofs.LiveByUses.{found_there}
use Rattle.edit_log.proofs.LiveByUses.{same_length}
use Rattle.edit_log.proofs.LiveAfter.{live_added, live_dropped}

-- live by the lists that are kept, and by the grammar
pub live_by : (g : Grammar) (uses : List ℕ) (literals : List (Option Table)) → IsWellFormed g → AreUses g.symbols g.rules uses
    → AreLiteralTables g.symbols literals
    → (d : DefId) → IsLive g d ↔ IsLiveBy literals uses (numbers_in g.definitions) d
live_by g uses literals well are_uses are_literals (named n) = live_named g n
live_by g uses literals well are_uses are_literals (literal s) =
    let base = live_literal g s in
    let long = same_length g.symbols literals are_literals in (
      λ live.
          let both = base.0 live in
          let has = literal_has g.symbols literals are_literals s.0 both.0 in
          let within : s.0 < length g.symbols = omega (arith, slice_get_within literals s.0 (Some has.0) has.1, long) in
          (has, (all_occurrences s g.rules, are_uses.counts s.0 within, both.1)),
      λ (has, (count, there, some)).
          let within : s.0 < length g.symbols = omega (arith, slice_get_within literals s.0 (Some has.0) has.1, long) in
          let known = are_uses.counts s.0 within in
          let same : count ≡ all_occurrences s g.rules = cc in
          base.1 (has_is_literal g.symbols literals are_literals s.0 has, omega (arith, same, some)),
    )

-- ---- fresh symbols

abbrev pub uses_with : List ℕ → List FreshSymbol → List ℕ
uses_with uses fresh = uses ++ map (λ one. 0) fresh

abbrev pub literals_with : List (Option Table) → List FreshSymbol → List (Option Table)
literals_with literals fresh = literals ++ map (λ one. one.positions) fresh

all_zip_append : {A B : Type 0} (R : A → B → Type 0) (xs us : List A) (ys vs : List B) → AllZip R xs ys → AllZip R us vs → AllZip R (xs ++ us) (ys ++ vs)
all_zip_append R [] us [] vs first second = second
all_zip_append R [] us (y ∷ ys) vs first second = absurd first
all_zip_append R (x ∷ xs) us [] vs first second = absurd first
all_zip_append R (x ∷ xs) us (y ∷ ys) vs first second = (first.0, all_zip_append R xs us ys vs first.1 second)

fresh_literals : (fresh : List FreshSymbol) → AllByRecursion IsFreshSymbol fresh
    → AllZip ArePositionsOfSymbol (map (λ one. one.symbol) fresh) (map (λ one. one.positions) fresh)
fresh_literals [] each = tt
fresh_literals (one ∷ fresh) each = (each.0.positions, fresh_literals fresh each.1)

pub literals_grown : (g : Grammar) (edit : Edit) (literals : List (Option Table)) (fresh : List FreshSymbol) → AreFreshFor g edit fresh
    → AreLiteralTables g.symbols literals
    → AreLiteralTables (after_edit g edit).symbols (literals_with literals fresh)
literals_grown g edit literals fresh are_fresh are =
    rw are_fresh.symbols (all_zip_append ArePositionsOfSymbol g.symbols (map (λ one. one.symbol) fresh) literals (map (λ one. one.positions) fresh) are
    (fresh_literals fresh are_fresh.each))

get_left : {A : Type 0} (xs ys : List A) (k : ℕ) → k < length xs → slice_get (xs ++ ys) k ≡ slice_get xs k
get_left [] ys k less = absurd (omega arith)
get_left (x ∷ xs) ys zero less = refl
get_left (x ∷ xs) ys (suc k) less = get_left xs ys k (omega arith)

-- a place behind the uses counts none
get_none : (fresh : List FreshSymbol) (k : ℕ) → k < length fresh → slice_get (map (λ one. zero) fresh) k ≡ Some 0
get_none [] k less = absurd (omega arith)
get_none (one ∷ fresh) zero less = refl
get_none (one ∷ fresh) (suc k) less = get_none fresh k (omega arith)

get_right : (uses : List ℕ) (fresh : List FreshSymbol) (k : ℕ) → length uses ≤ k → k < length uses + length fresh → slice_get (uses_with uses fresh) k ≡ Some 0
get_right [] fresh k more less = get_none fresh k (omega arith)
get_right (x ∷ uses) fresh zero more less = absurd (omega arith)
get_right (x ∷ uses) fresh (suc k) more less = get_right uses fresh k (omega arith) (omega arith)

-- the lists of uses and literals are equally long
pub uses_grown : (g : Grammar) (edit : Edit) (uses : List ℕ) (fresh : List FreshSymbol) → IsWellFormed g → AreFreshFor g edit fresh
    → AreUses g.symbols g.rules uses
    → AreUses (after_edit g edit).symbols g.rules (uses_with uses fresh)
uses_grown g edit uses fresh well are_fresh are =
    let symbols = g.symbols ++ map (λ (one : FreshSymbol). one.symbol) fresh in
    let long : length symbols ≡ length g.symbols + length fresh = length-append g.symbols (map (λ (one : FreshSymbol). one.symbol) fresh) ∙ ap
    (λ n. length g.symbols + n) (length-map fresh (λ (one : FreshSymbol). one.symbol)) in
    rw are_fresh.symbols (record {
      len = length-append uses (map (λ one. 0) fresh) ∙ omega (arith, length-map fresh (λ (one : FreshSymbol). zero), long, are.len);
      counts = λ place within. elim (cases_lt place (length g.symbols)) [
        | inl less ↦ get_left uses (map (λ one. 0) fresh) place (omega (arith, are.len)) ∙ are.counts place less
        | inr more ↦ get_right uses fresh place (omega (arith, are.len)) (omega (arith, are.len, long)) ∙ ap Some
            (sym (counted_beyond g.symbols g.rules (record { 0 = place }) well.rights more))
      ];
    })

-- ---- uses

pub uses_rule_added : (g : Grammar) (r : RuleText) (grown new : List ℕ) (right : List SymbolId) → IsWellFormed g → IsAccepted g (AddRule r)
    → AreUses (after_edit g (AddRule r)).symbols g.rules grown → right ≡ (numbered (after_edit g (AddRule r)).symbols (g.version + 1) r).right
    → length new ≡ length grown
    → ((place : ℕ) → slice_get new place ≡ option_map (λ n. n + occurrences (record { 0 = place }) right) (slice_get grown place))
    → AreUses (after_edit g (AddRule r)).symbols (after_edit g (AddRule r)).rules new
unfolding after_edit
uses_rule_added g r grown new right well accepted are right-is len counts = record {
  len = len ∙ are.len;
  counts = λ place within.
      let s : SymbolId = record { 0 = place } in
      let rule : Rule = numbered (after_edit g (AddRule r)).symbols (g.version + 1) r in
      counts place ∙ ap (option_map (λ n. n + occurrences s right)) (are.counts place within) ∙ ap Some
      (ap (λ parts. all_occurrences s g.rules + occurrences s parts) right-is ∙ sym (counted_push s g.rules rule));
}

pub uses_rule_dropped : (g : Grammar) (r : RuleText) (uses new : List ℕ) (live : Rule) → IsWellFormed g → IsAccepted g (DropRule r) → rule_found g r ≡ Some live
    → AreUses g.symbols g.rules uses → length new ≡ length uses
    → ((place : ℕ) → slice_get new place ≡ option_map (λ n. n - occurrences (record { 0 = place }) live.right) (slice_get uses place))
    → AreUses (after_edit g (DropRule r)).symbols (after_edit g (DropRule r)).rules new
uses_rule_dropped g r uses new live well accepted found are len counts =
    let there = (found_there (reads g.symbols r) g.rules live found).0 in
    rw (symbols_stay_rule g r well accepted, rules_dropped g r live well accepted found) (record {
      len = len ∙ are.len;
      counts = λ place within.
          let s : SymbolId = record { 0 = place } in
          let sum = sum_without (λ x. occurrences s x.right) g.rules live well.rule_order there in
          counts place ∙ ap (option_map (λ n. n - occurrences s live.right)) (are.counts place within) ∙ ap Some (omega (arith, sum));
    })

-- ---- the live definitions, from those by the lists that are kept

-- with fresh symbols the same is live
by_grown : (g : Grammar) (uses : List ℕ) (literals : List (Option Table)) (fresh : List FreshSymbol) → length uses ≡ length literals → (d : DefId)
    → IsLiveBy literals uses (numbers_in g.definitions) d ↔ IsLiveBy (literals_with literals fresh) (uses_with uses fresh) (numbers_in g.definitions) d
by_grown g uses literals fresh long (named n) = (λ c. c, λ c. c)
by_grown g uses literals fresh long (literal s) = (
  λ ((table, has), (count, there, some)). (
    (table, get_left literals (map (λ one. one.positions) fresh) s.0 (slice_get_within literals s.0 (Some table) has) ∙ has),
    (count, get_left uses (map (λ one. 0) fresh) s.0 (slice_get_within uses s.0 count there) ∙ there, some),
  ),
  λ ((table, has), (count, there, some)). elim (cases_lt s.0 (length uses)) [
    | inl less ↦ (
      (table, sym (get_left literals (map (λ one. one.positions) fresh) s.0 (omega (arith, long))) ∙ has),
      (count, sym (get_left uses (map (λ one. 0) fresh) s.0 less) ∙ there, some),
    )
    | inr more ↦
        let within = slice_get_within (uses_with uses fresh) s.0 count there in
        let none = get_right uses fresh s.0 more (omega (
          arith,
          within,
          length-append uses (map (λ one. 0) fresh),
          length-map fresh (λ (one : FreshSymbol). zero),
        )) in
        let same : count ≡ 0 = cc in
        absurd (omega (arith, same, some))
  ],
)

-- a list by the lists that are kept is one by the grammar
pub live_from : (g : Grammar) (uses : List ℕ) (literals : List (Option Table)) (live : List DefId) → IsWellFormed g → AreUses g.symbols g.rules uses
    → AreLiteralTables g.symbols literals
    → ListsDefinitions (IsLiveBy literals uses (numbers_in g.definitions)) live → ListsDefinitions (IsLive g) live
live_from g uses literals live well are_uses are_literals lists =
    lists_same _ _ live (λ d. let same = live_by g uses literals well are_uses are_literals d in (same.1, same.0)) lists

-- and the other way
pub live_to : (g : Grammar) (uses : List ℕ) (literals : List (Option Table)) (live : List DefId) → IsWellFormed g → AreUses g.symbols g.rules uses
    → AreLiteralTables g.symbols literals
    → ListsDefinitions (IsLive g) live → ListsDefinitions (IsLiveBy literals uses (numbers_in g.definitions)) live
live_to g uses literals live well are_uses are_literals lists = lists_same _ _ live (λ d. live_by g uses literals well are_uses are_literals d) lists

-- with fresh symbols nothing else is live
pub live_grown : (g : Grammar) (edit : Edit) (uses : List ℕ) (literals : List (Option Table)) (fresh : List FreshSymbol) (live : List DefId) → IsWellFormed g
    → AreFreshFor g edit fresh
    → AreUses g.symbols g.rules uses → AreLiteralTables g.symbols literals → ListsDefinitions (IsLive g) live
    → ListsDefinitions (IsLiveBy (literals_with literals fresh) (uses_with uses fresh) (numbers_in g.definitions)) live
live_grown g edit uses literals fresh live well are_fresh are_uses are_literals lists =
    let long : length uses ≡ length literals = are_uses.len ∙ same_length g.symbols literals are_literals in
    lists_same _ _ live (by_grown g uses literals fresh long) (live_to g uses literals live well are_uses are_literals lists)

pub live_definition_added : (g : Grammar) (skip : Bool) (d : DefText) (old new : List DefId) → IsWellFormed g → IsAccepted g (adds skip d)
    → ListsDefinitions (IsLive g) old
    → ListsDefinitions (λ other. Contains old other ⊎ (other ≡ named (record { 0 = g.version + 1 }))) new
    → ListsDefinitions (IsLive (after_edit g (adds skip d))) new
live_definition_added g skip d old new well accepted lists added = lists_same _ _ new (λ other.
    let live = live_added g skip d well other in (
      λ w. live.1 (elim w [ inl c ↦ inl ((lists.members other).0 c) | inr e ↦ inr e ]),
      λ now. elim (live.0 now) [ inl before ↦ inl ((lists.members other).1 before) | inr e ↦ inr e ],
    )) added

pub live_definition_dropped : (g : Grammar) (skip : Bool) (name : List ℕ) (gone : Definition) (old new : List DefId) → IsWellFormed g
    → IsAccepted g (drops skip name)
    → definition_found g skip name ≡ Some gone → ListsDefinitions (IsLive g) old
    → ListsDefinitions (λ other. Contains old other × (other ≡ named gone.number → ⊥)) new → ListsDefinitions (IsLive (after_edit g (drops skip name))) new
live_definition_dropped g skip name gone old new well accepted found lists dropped = lists_same _ _ new (λ other.
    let live = live_dropped g skip name gone well accepted found other in (
      λ w. live.1 ((lists.members other).0 w.0, w.1),
      λ now. let before = live.0 now in ((lists.members other).1 before.0, before.1),
    )) dropped
