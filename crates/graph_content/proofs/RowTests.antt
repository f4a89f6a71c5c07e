-- What tests on the words of a row tell of what an edit touches.
use Rattle.std.proofs.Common.{◌≡◌, ℕ, ◌⊎◌, ◌↔◌, inl, inr, Bool, true, false, List, [], ◌∷◌, ◌++◌, map, length, get_or, ◌<◌, Option, Some, None, refl, sym, ◌∙◌}
use Rattle.std.proofs.Common.{ap, subst, arith, Contains, IsTrue}
use Rattle.std.specs.Prelude.{MatchBool}
use Rattle.forest.specs.declared.symbols.SymbolId.{SymbolId}
use Rattle.forest.specs.declared.rules.RuleId.{RuleId}
use Rattle.edit_log.specs.declared.touch.Touch.{Touch}
use Rattle.edit_log.specs.declared.definitions.DefId.{DefId}
use Rattle.edit_log.specs.History.{Grammar}
use Rattle.item_sets.specs.declared.item.Item.{Item}
use Rattle.item_sets.specs.declared.expansion.Expansion.{Expansion}
use Rattle.item_sets.specs.Expansions.{IsExpansionOf, HasMove}
use Rattle.isg_states.specs.declared.mark.Mark.{Mark}
use Rattle.isg_states.specs.declared.scan_key.ScanKey.{ScanKey}
use Rattle.isg_states.specs.declared.scan_key.ScanKey.TheVariants.{Start, Set}
use Rattle.isg_states.specs.Marks.{mark_number}
use Rattle.row_coding.specs.Words.{item_word}
use Rattle.row_coding.specs.Conditions.{FitItems, FitMarks, FitsScanKey}
use Rattle.row_coding.specs.declared.kinds.Kind.TheVariants.{Items, Scan}
use Rattle.row_coding.specs.Rows.{Key, kernel, scan, row_words, kind_of_key, FitsKey}
use Rattle.graph_content.specs.Rows.{IsRowOf, Fits}
use Rattle.graph_content.specs.Changes.{IsTouched, NamesEnded}
use Rattle.graph_content.specs.Parts.{name_words, names_rule, names_among}
use Rattle.graph_content.proofs.WordTests.{named_rule, rule_named, named_among, among_named}
use Rattle.graph_content.proofs.MoveLists.{has_upper}

same_some : {X : Type 0} (x y : X) → Some x ≡ Some y → x ≡ y
same_some x y e = cc

-- ---- kernels

pub rule_decides : (touch : Touch) (rule : RuleId) (items : List Item) (words : List ℕ) → touch.gone_rule ≡ Some rule → FitItems items
    → words ≡ map item_word items
    → MatchBool (names_rule rule.0 words) (NamesEnded touch items) (NamesEnded touch items → ⊥)
rule_decides touch rule items words gone fit is = by (names_rule rule.0 words) refl
  where
    by : (b : Bool) → names_rule rule.0 words ≡ b → MatchBool b (NamesEnded touch items) (NamesEnded touch items → ⊥)
    by true named =
        let (item, c, same) = named_rule rule items fit (sym (ap (names_rule rule.0) is) ∙ named) in
        (item, c, gone ∙ ap Some (sym same))
    by false none = λ (item, c, e).
        let same : item.rule ≡ rule = same_some item.rule rule (sym e ∙ gone) in
        let named : names_rule rule.0 words ≡ true = ap (names_rule rule.0) is ∙ rule_named rule items fit item c same in
        cc

pub left_decides : (g : Grammar) (touch : Touch) (items : List Item) (e : Expansion) (left : SymbolId) (moves : Bool) → IsExpansionOf g.rules items e
    → touch.left ≡ Some left → (NamesEnded touch items → ⊥)
    → (IsTrue moves ↔ ((upper : List Item) × Contains e.moves (left, upper)))
    → MatchBool moves (IsTouched g touch (kernel items)) (IsTouched g touch (kernel items) → ⊥)
left_decides g touch items e left true is at none tells =
    let (upper, there) = tells.0 refl in
    inr (left, at, ((is.moves left upper).0 there).some)
left_decides g touch items e left false is at none tells = λ w. elim w [
  | inl ended ↦ none ended
  | inr (x, at', move) ↦
      let same : x ≡ left = same_some x left (sym at' ∙ at) in
      has_upper g.rules items left (subst (HasMove g.rules (Contains items)) same move)
      (λ upper m. let told : false ≡ true = tells.1 (upper, (is.moves left upper).1 m) in absurd cc)
]

pub no_left : (g : Grammar) (touch : Touch) (items : List Item) → touch.left ≡ None → (NamesEnded touch items → ⊥) → IsTouched g touch (kernel items) → ⊥
no_left g touch items at none w = elim w [
  | inl ended ↦ none ended
  | inr (x, at', move) ↦ absurd cc
]

-- ---- states of the scanner

pub marks_decide : (g : Grammar) (touch : Touch) (marks : List Mark) (words : List ℕ) → FitMarks marks → words ≡ map mark_number marks
    → MatchBool (names_among touch.gone_defs words) (IsTouched g touch (scan (Set marks))) (IsTouched g touch (scan (Set marks)) → ⊥)
marks_decide g touch marks words fit is = by (names_among touch.gone_defs words) refl
  where
    by : (b : Bool) → names_among touch.gone_defs words ≡ b → MatchBool b (IsTouched g touch (scan (Set marks))) (IsTouched g touch (scan (Set marks)) → ⊥)
    by true named = named_among touch.gone_defs marks fit (sym (ap (names_among touch.gone_defs) is) ∙ named)
    by false none = λ (m, c, gone). let named : names_among touch.gone_defs words ≡ true = ap (names_among touch.gone_defs) is
        ∙ among_named touch.gone_defs marks fit m c gone in absurd cc

pub start_decides : (g : Grammar) (touch : Touch) → MatchBool touch.scan (IsTouched g touch (scan Start)) (IsTouched g touch (scan Start) → ⊥)
start_decides g touch = by touch.scan refl
  where
    by : (b : Bool) → touch.scan ≡ b → MatchBool b (IsTouched g touch (scan Start)) (IsTouched g touch (scan Start) → ⊥)
    by true changes = changes
    by false none = λ changes. cc

-- by the first word of a key: 2 for the start, and 3 for a set
pub start_row : (g : Grammar) (touch : Touch) (key : ScanKey) (row payload : List ℕ) → row ≡ row_words (scan key) payload → get_or row 2 0 ≡ 2
    → MatchBool touch.scan (IsTouched g touch (scan key)) (IsTouched g touch (scan key) → ⊥)
start_row g touch Start row payload is two = start_decides g touch
start_row g touch (Set marks) row payload is two = let three : get_or row 2 0 ≡ 3 = ap (λ ws. get_or ws 2 0) is in absurd (omega (arith, two, three))

pub set_row : (g : Grammar) (touch : Touch) (key : ScanKey) (row payload names : List ℕ) → row ≡ row_words (scan key) payload → (get_or row 2 0 ≡ 2 → ⊥)
    → FitsScanKey key → names ≡ name_words (scan key)
    → (b : Bool) → b ≡ names_among touch.gone_defs names → MatchBool b (IsTouched g touch (scan key)) (IsTouched g touch (scan key) → ⊥)
set_row g touch Start row payload names is other fit same b told = absurd (other (ap (λ ws. get_or ws 2 0) is))
set_row g touch (Set marks) row payload names is other fit same b told =
    subst (λ c. MatchBool c (IsTouched g touch (scan (Set marks))) (IsTouched g touch (scan (Set marks)) → ⊥)) (sym told)
    (marks_decide g touch marks names fit same)

pub scan_row_long : (key : ScanKey) (row payload : List ℕ) → row ≡ row_words (scan key) payload → 2 < length row
scan_row_long Start row payload is = omega (arith, ap length is)
scan_row_long (Set marks) row payload is = omega (arith, ap length is)

-- ---- both kinds

pub of_items : (g : Grammar) (touch : Touch) (row : List ℕ) (told : Bool)
    → ((key : Key) (payload : List ℕ) → row ≡ row_words key payload → Items ≡ kind_of_key key)
    → ((h : Grammar) (items : List Item) → FitItems items → IsRowOf h (kernel items) row
    → MatchBool told (IsTouched h touch (kernel items)) (IsTouched h touch (kernel items) → ⊥))
    → (key : Key) → FitsKey key → IsRowOf g key row → MatchBool told (IsTouched g touch key) (IsTouched g touch key → ⊥)
of_items g touch row told kind answer (kernel items) fit is = answer g items fit is
of_items g touch row told kind answer (scan key) fit is = let other : Items ≡ Scan = kind (scan key) is.payload is.words in absurd cc

pub of_scan : (g : Grammar) (touch : Touch) (row : List ℕ) (told : Bool)
    → ((key : Key) (payload : List ℕ) → row ≡ row_words key payload → Scan ≡ kind_of_key key)
    → ((h : Grammar) (key : ScanKey) → FitsScanKey key → IsRowOf h (scan key) row
    → MatchBool told (IsTouched h touch (scan key)) (IsTouched h touch (scan key) → ⊥))
    → (key : Key) → FitsKey key → IsRowOf g key row → MatchBool told (IsTouched g touch key) (IsTouched g touch key → ⊥)
of_scan g touch row told kind answer (kernel items) fit is = let other : Scan ≡ Items = kind (kernel items) is.payload is.words in absurd cc
of_scan g touch row told kind answer (scan key) fit is = answer g key fit is

pub is_items_row : (row : List ℕ) → ((key : Key) (payload : List ℕ) → row ≡ row_words key payload → Items ≡ kind_of_key key) → ((g : Grammar) × Fits g row)
    → (g : Grammar) × (items : List Item) × IsRowOf g (kernel items) row
is_items_row row kind (g, (key, is)) = by key is
  where
    by : (key : Key) → IsRowOf g key row → (g : Grammar) × (items : List Item) × IsRowOf g (kernel items) row
    by (kernel items) is = (g, items, is)
    by (scan key) is = let other : Items ≡ Scan = kind (scan key) is.payload is.words in absurd cc

pub is_scan_row : (row : List ℕ) → ((key : Key) (payload : List ℕ) → row ≡ row_words key payload → Scan ≡ kind_of_key key) → ((g : Grammar) × Fits g row)
    → (g : Grammar) × (key : ScanKey) × IsRowOf g (scan key) row
is_scan_row row kind (g, (key, is)) = by key is
  where
    by : (key : Key) → IsRowOf g key row → (g : Grammar) × (key : ScanKey) × IsRowOf g (scan key) row
    by (kernel items) is = let other : Scan ≡ Items = kind (kernel items) is.payload is.words in absurd cc
    by (scan key) is = (g, key, is)
