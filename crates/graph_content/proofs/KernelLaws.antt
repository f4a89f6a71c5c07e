-- An edit of a rule affects exactly the kernels that it touches.
use Rattle.std.proofs.Common.{◌≡◌, ◌⊎◌, ◌↔◌, inl, inr, List, [], ◌∷◌, Option, Some, None, refl, sym, ◌∙◌, ap, subst, Contains}
use Rattle.std.proofs.lemmas.Bool.{cases_eq}
use Rattle.forest.specs.declared.symbols.SymbolId.{SymbolId}
use Rattle.forest.specs.declared.rules.RuleId.{RuleId}
use Rattle.forest.specs.declared.rules.Rule.{Rule}
use Rattle.edit_log.specs.declared.touch.Touch.{Touch}
use Rattle.edit_log.specs.History.{Grammar}
use Rattle.edit_log.proofs.DefinitionOrder.{contains_first, contains_later, contains_cases, contains_none}
use Rattle.item_sets.specs.declared.item.Item.{Item}
use Rattle.item_sets.specs.Prefixes.{HasRight, IsItem, AreItems}
use Rattle.item_sets.specs.Expansions.{HasMove, InMove, IsReduction}
use Rattle.graph_content.specs.Affected.{AreSameMoves}
use Rattle.graph_content.proofs.Change.{IsWith, IsSame, right_kept, right_back, unnamed, same_unless_move, differs_at_move, move_on_left, move_on_left_back}
use Rattle.graph_content.proofs.RuleChanges.{RuleChange, one_more, one_less, as_before}

-- an edit with this touch touches the items
pub data TouchesItems (rules : List Rule) (touch : Touch) (items : List Item) : Type 0 where
  names_gone : {item : Item} → Contains items item → touch.gone_rule ≡ Some item.rule → TouchesItems rules touch items
  moves_on_left : {left : SymbolId} → touch.left ≡ Some left → HasMove rules (Contains items) left → TouchesItems rules touch items

same_of : (rules others : List Rule) (items : List Item) → IsSame rules others (Contains items) → AreSameMoves rules others items
same_of rules others items s = record { moves = s.moves; reductions = s.reductions }

of_same : (rules others : List Rule) (items : List Item) → AreSameMoves rules others items → IsSame rules others (Contains items)
of_same rules others items s = record { moves = s.moves; reductions = s.reductions }

turned : (rules others : List Rule) (items : List Item) → IsSame rules others (Contains items) → IsSame others rules (Contains items)
turned rules others items s = record { moves = λ x item. ((s.moves x item).1, (s.moves x item).0); reductions = λ k. ((s.reductions k).1, (s.reductions k).0) }

-- each item names a rule
named : (rules : List Rule) (items : List Item) → AreItems rules items → (item : Item) → Contains items item
    → (right : List SymbolId) × HasRight rules item.rule right
named rules items are item c = let is = are item c in (is.right, is.has)

-- each item stays one with one rule more
items_kept : (rules : List Rule) (r : Rule) (next : List Rule) (items : List Item) → IsWith rules r next → AreItems rules items → AreItems next items
items_kept rules r next items w are item c = let is = are item c in record { right = is.right; has = right_kept rules r next w is.has; within = is.within }

-- and with one less, where none is of that rule
items_back : (next : List Rule) (r : Rule) (rules : List Rule) (items : List Item) → IsWith next r rules → AreItems rules items
    → ((item : Item) → Contains items item → item.rule ≡ r.number → ⊥) → AreItems next items
items_back next r rules items w are none item c = let is = are item c in
    record { right = is.right; has = right_back next r rules w is.has (none item c); within = is.within }

same_some : {X : Type 0} (x y : X) → Some x ≡ Some y → x ≡ y
same_some x y e = cc

no_some : {X : Type 0} (x : X) (o : Option X) → o ≡ None → o ≡ Some x → ⊥
no_some x o none some = cc

-- some item is of the rule, or none is
of_rule_or_none : (k : RuleId) (items : List Item)
    → ((item : Item) × Contains items item × (item.rule ≡ k)) ⊎ ((item : Item) → Contains items item → item.rule ≡ k → ⊥)
of_rule_or_none k [] = inr (λ item c e. contains_none item c)
of_rule_or_none k (first ∷ others) = elim (cases_eq first.rule.0 k.0) [
  | inl e ↦ inl (first, contains_first first others, ap (λ n. let r : RuleId = record { 0 = n } in r) e)
  | inr other ↦ elim (of_rule_or_none k others) [
    | inl (item, c, e) ↦ inl (item, contains_later first others item c, e)
    | inr none ↦ inr (λ item c e. elim (contains_cases first others item c) [
      | inl same ↦ other (ap (λ (i : Item). i.rule.0) same ∙ ap (λ (r : RuleId). r.0) e)
      | inr d ↦ none item d e
    ])
  ]
]

pub untouched_items : (rules next : List Rule) (touch : Touch) (items : List Item) → RuleChange rules next touch → AreItems rules items
    → (TouchesItems rules touch items → ⊥)
    → AreItems next items × AreSameMoves rules next items
untouched_items rules next touch items (one_more {r = r} w left gone) are none = (
  items_kept rules r next items w are,
  same_of rules next items (same_unless_move rules r next w (Contains items) (named rules items are) (λ m. none (moves_on_left left m))),
)
untouched_items rules next touch items (one_less {r = r} w left gone) are none =
    let back = items_back next r rules items w are (λ item c e. none (names_gone c (gone ∙ ap Some (sym e)))) in (
      back,
      same_of rules next items (turned next rules items (same_unless_move next r rules w (Contains items) (named next items back)
          (λ m. none (moves_on_left left (move_on_left next r rules w (Contains items) (named next items back) m))))),
    )
untouched_items rules next touch items (as_before e left gone) are none =
    subst (λ others. AreItems others items × AreSameMoves rules others items) (sym e)
    (are, record { moves = λ x item. (λ m. m, λ m. m); reductions = λ k. (λ m. m, λ m. m) })

pub touched_items : (rules next : List Rule) (touch : Touch) (items : List Item) → RuleChange rules next touch → AreItems rules items
    → TouchesItems rules touch items
    → (AreItems next items → ⊥) ⊎ (AreSameMoves rules next items → ⊥)
touched_items rules next touch items (one_more {r = r} w left gone) are (names_gone {item = item} c e) = absurd (no_some item.rule touch.gone_rule gone e)
touched_items rules next touch items (one_more {r = r} w left gone) are (moves_on_left {left = x} e m) =
    let same : x ≡ r.left = same_some x r.left (sym e ∙ left) in
    inr (λ s. differs_at_move rules r next w (Contains items) (named rules items are) (subst (HasMove rules (Contains items)) same m)
    (of_same rules next items s))
touched_items rules next touch items (one_less {r = r} w left gone) are (names_gone {item = item} c e) =
    let same : item.rule ≡ r.number = same_some item.rule r.number (sym e ∙ gone) in
    inl (λ stay. unnamed next r rules w (stay item c).has same)
touched_items rules next touch items (one_less {r = r} w left gone) are (moves_on_left {left = x} e m) = elim (of_rule_or_none r.number items) [
  | inl (item, c, same) ↦ inl (λ stay. unnamed next r rules w (stay item c).has same)
  | inr none ↦
      let back = items_back next r rules items w are none in
      let here : HasMove rules (Contains items) r.left = subst (HasMove rules (Contains items)) (same_some x r.left (sym e ∙ left)) m in
      let below = move_on_left_back next r rules w (Contains items) (named next items back) here in
      inr (λ s. differs_at_move next r rules w (Contains items) (named next items back) below (turned rules next items (of_same rules next items s)))
]
touched_items rules next touch items (as_before s left gone) are (names_gone {item = item} c e) = absurd (no_some item.rule touch.gone_rule gone e)
touched_items rules next touch items (as_before s left gone) are (moves_on_left {left = x} e m) = absurd (no_some x touch.left left e)
