-- Where a kernel has a move on a symbol, there is a list of it: it cannot be that none is.
use Rattle.std.proofs.Common.{suc, ◌⊎◌, inl, inr, List, [], ◌∷◌, ◌++◌, map, sym, subst, arith, Contains}
use Rattle.std.specs.List.Sorted.{IsStrictlySortedBy}
use Rattle.std.proofs.lemmas.List.Elements.{Contains-append_left, Contains-append_right}
use Rattle.forest.specs.declared.symbols.SymbolId.{SymbolId}
use Rattle.forest.specs.declared.rules.Rule.{Rule}
use Rattle.forest.proofs.Ascending.{contains_cases}
use Rattle.edit_log.proofs.PlainLists.{contains_map}
use Rattle.item_sets.specs.declared.item.Item.{Item}
use Rattle.item_sets.specs.declared.expansion.Expansion.{Expansion}
use Rattle.item_sets.specs.Orders.{item_cmp, with_item}
use Rattle.item_sets.specs.Prefixes.{item_at}
use Rattle.item_sets.specs.Expansions.{own, added, InMove, past, HasMove, IsMoveOf, IsExpansionOf}
use Rattle.item_sets.proofs.Insertions.{with_item_members, with_item_ascends}
use Rattle.parser_states.proofs.SymbolSearches.{there_or_not}

-- the items of a set among some
record IsListWithin (list among : List Item) (Set : Item → Type 0) : Type 0 where
  ascends : IsStrictlySortedBy item_cmp list
  within : (item : Item) → Contains list item → Set item
  whole : (item : Item) → Contains among item → Set item → Contains list item

either : {P : Type 0} → ((P ⊎ (P → ⊥)) → ⊥) → ⊥
either none = none (inr (λ p. none (inl p)))

listed : (Set : Item → Type 0) (among : List Item) → (((list : List Item) × IsListWithin list among Set) → ⊥) → ⊥
unfolding IsStrictlySortedBy
listed Set [] none = none (
  [],
  record { ascends = tt; within = λ item c. absurd (omega (arith, c.1)); whole = λ item c is. absurd (omega (arith, c.1)) },
)
listed Set (one ∷ among) none = listed Set among (λ (list, is). either (λ (inside : Set one ⊎ (Set one → ⊥)). elim inside [
  | inl is_in ↦ none (
    with_item one list,
    record {
      ascends = with_item_ascends one list is.ascends;
      within = λ item c. elim ((with_item_members one list item).0 c) [ inl old ↦ is.within item old | inr same ↦ subst Set same is_in ];
      whole = λ item c it. elim (contains_cases one among item c) [
        | inl same ↦ (with_item_members one list item).1 (inr same)
        | inr d ↦ (with_item_members one list item).1 (inl (is.whole item d it))
      ];
    },
  )
  | inr is_out ↦ none (
    list,
    record {
      ascends = is.ascends;
      within = is.within;
      whole = λ item c it. elim (contains_cases one among item c) [ inl same ↦ absurd (is_out (subst Set (sym same) it)) | inr d ↦ is.whole item d it ];
    },
  )
]))

moved : Item → Item
moved item = item_at item.rule (suc item.dot)

begun : Rule → Item
begun r = item_at r.number 1

is_candidate : (rules : List Rule) (kernel : List Item) (x : SymbolId) (item : Item) → InMove rules (Contains kernel) x item
    → Contains (map moved kernel ++ map begun rules) item
unfolding moved begun
is_candidate rules kernel x item (past (own {item = before} c) n) =
    Contains-append_left (map moved kernel) (map begun rules) _ (contains_map moved kernel before c)
is_candidate rules kernel x item (past (added {r = r} c m there) n) =
    Contains-append_right (map moved kernel) (map begun rules) _ (contains_map begun rules r there)

has_upper : (rules : List Rule) (kernel : List Item) (x : SymbolId) → HasMove rules (Contains kernel) x
    → ((upper : List Item) → IsMoveOf rules kernel x upper → ⊥) → ⊥
has_upper rules kernel x move none = listed (InMove rules (Contains kernel) x) (map moved kernel ++ map begun rules) (λ (list, is). none list (record {
  some = move;
  list = record { ascends = is.ascends; within = is.within; whole = λ item m. is.whole item (is_candidate rules kernel x item m) m };
}))

-- each symbol of a move is one of the moves of an expansion
pub move_is_listed : (rules : List Rule) (kernel : List Item) (expansion : Expansion) → IsExpansionOf rules kernel expansion → (x : SymbolId)
    → HasMove rules (Contains kernel) x → Contains (map (λ (m : SymbolId × List Item). m.0) expansion.moves) x
move_is_listed rules kernel expansion is x move = elim (there_or_not (map (λ (m : SymbolId × List Item). m.0) expansion.moves) x) [
  | inl there ↦ there
  | inr none ↦ absurd (has_upper rules kernel x move (λ upper m.
      none (contains_map (λ (m : SymbolId × List Item). m.0) expansion.moves (x, upper) ((is.moves x upper).1 m))))
]
