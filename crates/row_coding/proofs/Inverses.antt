-- What is read from the words of items, rules and marks is what was coded.
use Rattle.std.proofs.Common.{◌≡◌, ℕ, ◌+◌, ◌*◌, ◌<◌, ◌/◌, ◌%◌, cond, eqb, List, [], ◌∷◌, map, All, refl, ap, ◌∙◌, arith}
use Rattle.std.proofs.lemmas.List.Elements.{All-head, All-tail}
use Rattle.forest.specs.declared.rules.RuleId.{RuleId}
use Rattle.edit_log.specs.declared.definitions.DefId.{DefId}
use Rattle.edit_log.specs.declared.definitions.DefId.TheVariants.{Literal as literal, Named as named}
use Rattle.item_sets.specs.declared.item.Item.{Item}
use Rattle.isg_states.specs.declared.mark.Mark.{Mark}
use Rattle.isg_states.specs.Marks.{definition_number, mark_number}
use Rattle.row_coding.specs.Words.{item_word}
use Rattle.row_coding.specs.Reading.{symbol_of, rule_id, item_of, definition_of_number, mark_of}

abbrev item_with : ℕ → ℕ → Item
item_with rule dot = record { rule = rule_id rule; dot = dot }

abbrev mark_with : DefId → ℕ → Mark
mark_with definition index = record { def = definition; index = index }

module _ (item : Item) (small : item.dot < 32) where
  pub rule_in_word : item_word item / 32 ≡ item.rule.0
  rule_in_word = omega arith

  dot_in_word : item_word item % 32 ≡ item.dot
  dot_in_word = omega arith

  item_back : item_of (item_word item) ≡ item
  item_back = ap (λ rule. item_with rule (item_word item % 32)) rule_in_word ∙ ap (λ dot. item_with item.rule.0 dot) dot_in_word

abbrev pub HasSmallDot : Item → Type 0
HasSmallDot item = item.dot < 32

pub items_back : (items : List Item) → All HasSmallDot items → map item_of (map item_word items) ≡ items
items_back [] small = refl
items_back (item ∷ items) small =
    ap (λ i. i ∷ map item_of (map item_word items)) (item_back item (All-head HasSmallDot item items small))
    ∙ ap (λ is. item ∷ is) (items_back items (All-tail HasSmallDot item items small))

pub rules_back : (rules : List RuleId) → map rule_id (map (λ rule. rule.0) rules) ≡ rules
rules_back [] = refl
rules_back (rule ∷ rules) = ap (λ rs. rule ∷ rs) (rules_back rules)

abbrev definition_from : ℕ → ℕ → DefId
definition_from remainder half = cond (eqb remainder 0) (literal (symbol_of half)) (named (rule_id half))

definition_back : (definition : DefId) → definition_of_number (definition_number definition) ≡ definition
definition_back (literal symbol) =
    let even : 2 * symbol.0 % 2 ≡ 0 = omega arith in
    let half : 2 * symbol.0 / 2 ≡ symbol.0 = omega arith in
    ap (λ r. definition_from r (2 * symbol.0 / 2)) even ∙ ap (λ n. literal (symbol_of n)) half
definition_back (named number) =
    let odd : (2 * number.0 + 1) % 2 ≡ 1 = omega arith in
    let half : (2 * number.0 + 1) / 2 ≡ number.0 = omega arith in
    ap (λ r. definition_from r ((2 * number.0 + 1) / 2)) odd ∙ ap (λ n. named (rule_id n)) half

divided : (number index : ℕ) → index < 256 → (number * 256 + index) / 256 ≡ number
divided number index small = omega arith

left_over : (number index : ℕ) → index < 256 → (number * 256 + index) % 256 ≡ index
left_over number index small = omega arith

module _ (mark : Mark) (small : mark.index < 256) where
  pub definition_in_word : mark_number mark / 256 ≡ definition_number mark.def
  definition_in_word = divided (definition_number mark.def) mark.index small

  index_in_word : mark_number mark % 256 ≡ mark.index
  index_in_word = left_over (definition_number mark.def) mark.index small

  mark_back : mark_of (mark_number mark) ≡ mark
  mark_back =
      ap (λ n. mark_with (definition_of_number n) (mark_number mark % 256)) definition_in_word
      ∙ ap (λ n. mark_with (definition_of_number (definition_number mark.def)) n) index_in_word
      ∙ ap (λ d. mark_with d mark.index) (definition_back mark.def)

abbrev pub HasSmallIndex : Mark → Type 0
HasSmallIndex mark = mark.index < 256

pub marks_back : (marks : List Mark) → All HasSmallIndex marks → map mark_of (map mark_number marks) ≡ marks
marks_back [] small = refl
marks_back (mark ∷ marks) small =
    ap (λ m. m ∷ map mark_of (map mark_number marks)) (mark_back mark (All-head HasSmallIndex mark marks small))
    ∙ ap (λ ms. mark ∷ ms) (marks_back marks (All-tail HasSmallIndex mark marks small))
