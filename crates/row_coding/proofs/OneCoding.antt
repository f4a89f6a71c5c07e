-- What has the same words is the same.
use Rattle.std.proofs.Common.{◌≡◌, ℕ, ◌+◌, ◌*◌, ◌<◌, List, [], ◌∷◌, ◌++◌, length, take, drop, map, flat_map, All, Contains, get_or, refl, sym, ap, ◌∙◌, subst}
use Rattle.std.proofs.Common.{arith, append_assoc}
use Rattle.std.proofs.lemmas.List.{take_at, drop_at, length-map, get_or_default}
use Rattle.std.proofs.lemmas.List.Elements.{All-head, All-tail}
use Rattle.std.proofs.lemmas.Map.Keys.{IsStrictlySortedBy-prop}
use Rattle.std.specs.List.Sorted.{IsStrictlySortedBy}
use Rattle.forest.specs.declared.rules.RuleId.{RuleId}
use Rattle.item_sets.specs.declared.item.Item.{Item}
use Rattle.item_sets.specs.declared.expansion.Expansion.{Expansion}
use Rattle.item_sets.specs.Orders.{move_cmp, reduction_cmp}
use Rattle.isg_states.specs.declared.mark.Mark.{Mark}
use Rattle.isg_states.specs.declared.scan_key.ScanKey.{ScanKey}
use Rattle.isg_states.specs.declared.scan_key.ScanKey.TheVariants.{Start, Set}
use Rattle.isg_states.specs.declared.ranges.ScanExpansion.{ScanExpansion}
use Rattle.isg_states.specs.Marks.{mark_number}
use Rattle.isg_states.specs.Expansion.{Range}
use Rattle.row_coding.specs.Words.{item_word, move_words, item_payload_words, marks_in, range_words, scan_payload_words}
use Rattle.row_coding.specs.Conditions.{FitsCoding, FitsRange, FitsScanCoding}
use Rattle.row_coding.specs.Rows.{Key, key_words, FitsKey}
use Rattle.row_coding.specs.Rows.Key.{kernel, scan}
use Rattle.row_coding.specs.Reading.{Move, symbol_of, rule_id, item_of, mark_of}
use Rattle.row_coding.proofs.Inverses.{items_back, HasSmallDot, rules_back, marks_back, HasSmallIndex}

-- what holds of each member holds at each place
pub at_each_place : {X : Type 0} (P : X → Type 0) (xs : List X) → ((x : X) → Contains xs x → P x) → All P xs
at_each_place P xs holds = λ k d below. holds (get_or xs k d) (k, below, get_or_default xs k (get_or xs k d) d below)

-- two prefixes of one length
one_prefix : (xs ys t u : List ℕ) → length xs ≡ length ys → xs ++ t ≡ ys ++ u → (xs ≡ ys) × (t ≡ u)
one_prefix xs ys t u len e = (
  sym (take_at xs t (length xs) refl) ∙ ap (take (length xs)) e ∙ take_at ys u (length xs) (sym len),
  sym (drop_at xs t (length xs) refl) ∙ ap (drop (length xs)) e ∙ drop_at ys u (length xs) (sym len),
)

-- of lists of one length whose elements are told by their words
module _ {X : Type 0} (words : X → List ℕ) (Fits : X → Type 0)
    (one : (a b : X) (t u : List ℕ) → Fits a → Fits b → words a ++ t ≡ words b ++ u → (a ≡ b) × (t ≡ u)) where
  one_list : (xs ys : List X) (t u : List ℕ) → All Fits xs → All Fits ys → length xs ≡ length ys → flat_map words xs ++ t ≡ flat_map words ys ++ u
      → (xs ≡ ys) × (t ≡ u)
  one_list [] [] t u fx fy len e = (refl, e)
  one_list [] (y ∷ ys) t u fx fy len e = absurd (omega (arith, len))
  one_list (x ∷ xs) [] t u fx fy len e = absurd (omega (arith, len))
  one_list (x ∷ xs) (y ∷ ys) t u fx fy len e =
      let split = sym (append_assoc (words x) (flat_map words xs) t) ∙ e ∙ append_assoc (words y) (flat_map words ys) u in
      let first = one x y (flat_map words xs ++ t) (flat_map words ys ++ u) (All-head Fits x xs fx) (All-head Fits y ys fy) split in
      let others = one_list xs ys t u (All-tail Fits x xs fx) (All-tail Fits y ys fy) (omega (arith, len)) first.1 in
      (ap (λ z. z ∷ xs) first.0 ∙ ap (λ zs. y ∷ zs) others.0, others.1)

one_items : (a b : List Item) → All HasSmallDot a → All HasSmallDot b → map item_word a ≡ map item_word b → a ≡ b
one_items a b fa fb e = sym (items_back a fa) ∙ ap (map item_of) e ∙ items_back b fb

one_marks : (a b : List Mark) → All HasSmallIndex a → All HasSmallIndex b → map mark_number a ≡ map mark_number b → a ≡ b
one_marks a b fa fb e = sym (marks_back a fa) ∙ ap (map mark_of) e ∙ marks_back b fb

-- moves
abbrev FitsMove : Move → Type 0
FitsMove move = All HasSmallDot move.1

one_move : (a b : Move) (t u : List ℕ) → FitsMove a → FitsMove b → move_words a ++ t ≡ move_words b ++ u → (a ≡ b) × (t ≡ u)
one_move a b t u fa fb e =
    let symbol : a.0.0 ≡ b.0.0 = cc in
    let len : length a.1 ≡ length b.1 = cc in
    let tails : map item_word a.1 ++ t ≡ map item_word b.1 ++ u = cc in
    let parts = one_prefix (map item_word a.1) (map item_word b.1) t u (length-map a.1 item_word ∙ len ∙ sym (length-map b.1 item_word)) tails in
    let f : ℕ → Move = λ n. (symbol_of n, a.1) in
    let g : List Item → Move = λ items. (b.0, items) in
    (ap f symbol ∙ ap g (one_items a.1 b.1 fa fb parts.0), parts.1)

fits_moves : (a : Expansion) → FitsCoding a → All FitsMove a.moves
fits_moves a fits = at_each_place FitsMove a.moves (λ move there. at_each_place HasSmallDot move.1 (fits move.0 move.1 there))

-- expansions are told by their lists
abbrev expansion_of : (moves : List Move) (reductions : List RuleId) → IsStrictlySortedBy move_cmp moves → IsStrictlySortedBy reduction_cmp reductions
    → Expansion
expansion_of moves reductions h k = record { moves = moves; reductions = reductions; moves_ascend = h; reductions_ascend = k }

module _ (moves : List Move) (reductions : List RuleId) (h : IsStrictlySortedBy move_cmp moves) (k : IsStrictlySortedBy reduction_cmp reductions) where
  WithMoves : List Move → Type 0
  WithMoves others = (h' : IsStrictlySortedBy move_cmp others) → expansion_of moves reductions h k ≡ expansion_of others reductions h' k

  with_moves : (others : List Move) → moves ≡ others → WithMoves others
  unfolding WithMoves
  with_moves others e = subst WithMoves e (λ h'. ap (λ x. expansion_of moves reductions x k) (IsStrictlySortedBy-prop move_cmp moves h h'))

  WithReductions : List RuleId → Type 0
  WithReductions others = (k' : IsStrictlySortedBy reduction_cmp others) → expansion_of moves reductions h k ≡ expansion_of moves others h k'

  with_reductions : (others : List RuleId) → reductions ≡ others → WithReductions others
  unfolding WithReductions
  with_reductions others e = subst WithReductions e (λ k'. ap (λ x. expansion_of moves reductions h x) (IsStrictlySortedBy-prop reduction_cmp reductions k k'))

pub same_expansion : (a b : Expansion) → a.moves ≡ b.moves → a.reductions ≡ b.reductions → a ≡ b
unfolding WithMoves WithReductions
same_expansion a b moves reductions =
    with_moves a.moves a.reductions a.moves_ascend a.reductions_ascend b.moves moves b.moves_ascend
    ∙ with_reductions b.moves a.reductions b.moves_ascend a.reductions_ascend b.reductions reductions b.reductions_ascend

pub one_item_payload : (a b : Expansion) → FitsCoding a → FitsCoding b → item_payload_words a ≡ item_payload_words b → a ≡ b
one_item_payload a b fa fb e =
    let len : length a.moves ≡ length b.moves = cc in
    let rules_a = map (λ (rule : RuleId). rule.0) a.reductions in
    let rules_b = map (λ (rule : RuleId). rule.0) b.reductions in
    let tails : flat_map move_words a.moves ++ rules_a ≡ flat_map move_words b.moves ++ rules_b = cc in
    let parts = one_list move_words FitsMove one_move a.moves b.moves rules_a rules_b
    (fits_moves a fa) (fits_moves b fb) len tails in
    same_expansion a b parts.0 (sym (rules_back a.reductions) ∙ ap (map rule_id) parts.1 ∙ rules_back b.reductions)

-- ranges
abbrev range_with : ℕ → ℕ → ScanKey → Range
range_with low high key = (low, high, key)

one_byte_pair : (a b c d : ℕ) → b < 256 → d < 256 → a * 256 + b ≡ c * 256 + d → (a ≡ c) × (b ≡ d)
one_byte_pair a b c d low high e = (omega arith, omega arith)

one_range : (a b : Range) (t u : List ℕ) → FitsRange a → FitsRange b → range_words a ++ t ≡ range_words b ++ u → (a ≡ b) × (t ≡ u)
one_range a b t u fa fb e =
    let ends : a.0 * 256 + a.1 ≡ b.0 * 256 + b.1 = cc in
    let len : length (marks_in a.2) ≡ length (marks_in b.2) = cc in
    let tails : map mark_number (marks_in a.2) ++ t ≡ map mark_number (marks_in b.2) ++ u = cc in
    let parts = one_prefix (map mark_number (marks_in a.2)) (map mark_number (marks_in b.2)) t u
    (length-map (marks_in a.2) mark_number ∙ len ∙ sym (length-map (marks_in b.2) mark_number)) tails in
    let both = one_byte_pair a.0 a.1 b.0 b.1 fa.high fb.high ends in
    let in_a = ap marks_in fa.is in
    let in_b = ap marks_in fb.is in
    let words = ap (map mark_number) (sym in_a) ∙ parts.0 ∙ ap (map mark_number) in_b in
    let marks = one_marks fa.marks fb.marks (at_each_place HasSmallIndex fa.marks fa.indices) (at_each_place HasSmallIndex fb.marks fb.indices) words in
    let key = fa.is ∙ ap (λ ms. Set ms) marks ∙ sym fb.is in
    (ap (λ n. range_with n a.1 a.2) both.0 ∙ ap (λ n. range_with b.0 n a.2) both.1 ∙ ap (λ k. range_with b.0 b.1 k) key, parts.1)

scan_expansion_of : List Range → ScanExpansion
scan_expansion_of ranges = record { ranges = ranges }

pub one_scan_payload : (a b : ScanExpansion) → FitsScanCoding a → FitsScanCoding b → scan_payload_words a ≡ scan_payload_words b → a ≡ b
unfolding scan_expansion_of
one_scan_payload a b fa fb e =
    let len : length a.ranges ≡ length b.ranges = cc in
    let tails : flat_map range_words a.ranges ≡ flat_map range_words b.ranges = cc in
    let parts = one_list range_words FitsRange one_range a.ranges b.ranges [] [] (at_each_place FitsRange a.ranges fa) (at_each_place FitsRange b.ranges fb) len
    (ap (λ ws. ws ++ []) tails) in
    ap scan_expansion_of parts.0

-- keys
pub one_key : (a b : Key) → FitsKey a → FitsKey b → key_words a ≡ key_words b → a ≡ b
one_key (kernel a) (kernel b) fa fb e =
    let words : map item_word a ≡ map item_word b = cc in
    ap (λ items. kernel items) (one_items a b (at_each_place HasSmallDot a fa) (at_each_place HasSmallDot b fb) words)
one_key (kernel a) (scan Start) fa fb e = let tag : ◌≡◌ {A = ℕ} 1 2 = cc in absurd (omega (arith, tag))
one_key (kernel a) (scan (Set b)) fa fb e = let tag : ◌≡◌ {A = ℕ} 1 3 = cc in absurd (omega (arith, tag))
one_key (scan Start) (kernel b) fa fb e = let tag : ◌≡◌ {A = ℕ} 2 1 = cc in absurd (omega (arith, tag))
one_key (scan (Set a)) (kernel b) fa fb e = let tag : ◌≡◌ {A = ℕ} 3 1 = cc in absurd (omega (arith, tag))
one_key (scan Start) (scan Start) fa fb e = refl
one_key (scan Start) (scan (Set b)) fa fb e = let tag : ◌≡◌ {A = ℕ} 2 3 = cc in absurd (omega (arith, tag))
one_key (scan (Set a)) (scan Start) fa fb e = let tag : ◌≡◌ {A = ℕ} 3 2 = cc in absurd (omega (arith, tag))
one_key (scan (Set a)) (scan (Set b)) fa fb e =
    let words : map mark_number a ≡ map mark_number b = cc in
    ap (λ marks. scan (Set marks)) (one_marks a b (at_each_place HasSmallIndex a fa) (at_each_place HasSmallIndex b fb) words)
