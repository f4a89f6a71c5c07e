-- The expansion of the start kernel, written out, and that its words are read.
use Rattle.std.proofs.Common.{ℕ, ◌<◌, List, [], ◌∷◌, All, refl, arith}
use Rattle.std.specs.List.Sorted.{IsStrictlySortedBy}
use Rattle.std.proofs.lemmas.List.Elements.{All-cons, All-nil, All-contains}
use Rattle.item_sets.specs.declared.item.Item.{Item}
use Rattle.item_sets.specs.declared.expansion.Expansion.{Expansion}
use Rattle.item_sets.specs.Orders.{move_cmp, reduction_cmp}
use Rattle.item_sets.specs.Prefixes.{item_at}
use Rattle.row_coding.specs.Conditions.{FitsCoding, IsTypedItem, IsTyped}
use Rattle.row_coding.specs.Reading.{Move, IsReadable, symbol_of, rule_id}
use Rattle.row_coding.proofs.Inverses.{HasSmallDot}
use Rattle.row_tests.proofs.words.items.Goals as goal

-- the moves
abbrev after_one : ℕ → Item
after_one rule = item_at (rule_id rule) 1

abbrev move : ℕ → List Item → Move
move symbol items = (symbol_of symbol, items)

abbrev last_move : List Move
last_move = move 3 (after_one 3 ∷ []) ∷ []

abbrev later_moves : List Move
later_moves = move 1 (after_one 1 ∷ after_one 2 ∷ []) ∷ last_move

abbrev moves : List Move
moves = move 0 (after_one 0 ∷ []) ∷ later_moves

readable : All IsReadable moves
unfolding IsStrictlySortedBy
readable =
    let rules : (rule : ℕ) → rule < 9 → IsTypedItem (after_one rule) = λ rule small. omega arith in
    let dots : (rule : ℕ) → HasSmallDot (after_one rule) = λ rule. omega arith in
    let one : (symbol rule : ℕ) → symbol < 9 → rule < 9 → IsReadable (symbol_of symbol, after_one rule ∷ []) = λ symbol rule few small. record {
      symbol = omega arith;
      rules = All-cons IsTypedItem (after_one rule) [] (rules rule small) (All-nil IsTypedItem);
      dots = All-cons HasSmallDot (after_one rule) [] (dots rule) (All-nil HasSmallDot);
      ascending = (tt, tt);
    } in
    let two : IsReadable (symbol_of 1, after_one 1 ∷ after_one 2 ∷ []) = record {
      symbol = omega arith;
      rules = All-cons IsTypedItem (after_one 1) (after_one 2 ∷ []) (rules 1 (omega arith))
          (All-cons IsTypedItem (after_one 2) [] (rules 2 (omega arith)) (All-nil IsTypedItem));
      dots = All-cons HasSmallDot (after_one 1) (after_one 2 ∷ []) (dots 1) (All-cons HasSmallDot (after_one 2) [] (dots 2) (All-nil HasSmallDot));
      ascending = ((refl, tt), (tt, tt));
    } in
    All-cons IsReadable (move 0 (after_one 0 ∷ [])) later_moves (one 0 0 (omega arith) (omega arith))
    (All-cons IsReadable (move 1 (after_one 1 ∷ after_one 2 ∷ [])) last_move two
    (All-cons IsReadable (move 3 (after_one 3 ∷ [])) [] (one 3 3 (omega arith) (omega arith)) (All-nil IsReadable)))

order : IsStrictlySortedBy move_cmp moves
unfolding IsStrictlySortedBy
order = ((refl, (refl, tt)), ((refl, tt), (tt, tt)))

none : IsStrictlySortedBy reduction_cmp []
unfolding IsStrictlySortedBy
none = tt

abbrev start : Expansion
start = record { moves = moves; reductions = []; moves_ascend = order; reductions_ascend = none }

fits : FitsCoding start
fits symbol upper there item in' = All-contains HasSmallDot upper item (All-contains IsReadable moves (symbol, upper) readable there).dots in'

typed : IsTyped start
typed = record {
  moves = λ symbol upper there.
      let read = All-contains IsReadable moves (symbol, upper) readable there in
      record { number = read.symbol; rules = λ item in'. All-contains IsTypedItem upper item read.rules in'; ascending = read.ascending };
  reductions = λ rule there. absurd (omega (arith, there.1));
}

pub read_items-requires : goal.read_items-requires
read_items-requires c = (start, fits, typed, refl)
