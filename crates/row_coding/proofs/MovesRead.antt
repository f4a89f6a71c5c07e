-- What is read from the words of moves is what was coded.
use Rattle.std.proofs.Common.{◌≡◌, ℕ, ◌+◌, ◌-◌, ◌<◌, ◌/◌, ◌^◌, List, [], ◌∷◌, ◌++◌, length, get_or, take, drop, map, flat_map, All, sym, ap, ◌∙◌, subst, arith}
use Rattle.std.proofs.Common.{length-append}
use Rattle.std.proofs.lemmas.List.{length-map, take_rest, drop_at}
use Rattle.std.specs.List.Sorted.{IsStrictlySortedBy}
use Rattle.std.proofs.lemmas.List.Elements.{All-head, All-tail, All-cons, All-nil, All-get_or, All-map}
use Rattle.forest.specs.declared.rules.RuleId.{RuleId}
use Rattle.item_sets.specs.declared.item.Item.{Item}
use Rattle.item_sets.specs.declared.expansion.Expansion.{Expansion}
use Rattle.item_sets.specs.Orders.{item_cmp}
use Rattle.row_coding.specs.Words.{item_word, move_words, item_payload_words}
use Rattle.row_coding.specs.Conditions.{FitsCoding, IsTypedItem, IsTyped}
use Rattle.row_coding.specs.Reading.{Move, symbol_of, item_of, counted_words, rest_of, AreItemWords, BeginWithMove, BeginWithMoves, IsReadable}
use Rattle.row_coding.proofs.PiecesWritten.{next_piece}
use Rattle.row_coding.proofs.PiecesRead.{first_word, is_piece, own_words, words_after}
use Rattle.row_coding.proofs.Inverses.{rule_in_word, items_back, HasSmallDot}
use Rattle.row_coding.proofs.OneCoding.{at_each_place}

-- the rules in the words of items are of 32 bits
rules_fit : (items : List Item) → All IsTypedItem items → All HasSmallDot items → All (λ word. word / 32 < 2 ^ 32) (map item_word items)
rules_fit [] rules dots = All-nil (λ word. word / 32 < 2 ^ 32)
rules_fit (item ∷ items) rules dots =
    let rule : item.rule.0 < 2 ^ 32 = All-head IsTypedItem item items rules in
    let is = rule_in_word item (All-head HasSmallDot item items dots) in
    All-cons (λ word. word / 32 < 2 ^ 32) (item_word item) (map item_word items) (omega (arith, rule, is))
    (rules_fit items (All-tail IsTypedItem item items rules) (All-tail HasSmallDot item items dots))

pub are_item_words : (move : Move) → IsReadable move → AreItemWords (map item_word move.1)
are_item_words move readable = record {
  rules = rules_fit move.1 readable.rules readable.dots;
  ascending = subst (λ (items : List Item). IsStrictlySortedBy item_cmp items) (sym (items_back move.1 readable.dots)) readable.ascending;
}

-- the words in the form of a piece
move_piece : (words : List ℕ) (move : Move) (after : List ℕ) → words ≡ move_words move ++ after
    → words ≡ move.0.0 ∷ length (map item_word move.1) ∷ (map item_word move.1 ++ after)
move_piece words move after is = is ∙ ap (λ n. move.0.0 ∷ n ∷ (map item_word move.1 ++ after)) (sym (length-map move.1 item_word))

module _ (words : List ℕ) (move : Move) (after : List ℕ) (readable : IsReadable move) (is : words ≡ move_words move ++ after) where
  piece : words ≡ move.0.0 ∷ length (map item_word move.1) ∷ (map item_word move.1 ++ after)
  piece = move_piece words move after is

  pub begin_with_move : BeginWithMove words
  begin_with_move = record {
    piece = is_piece words move.0.0 (map item_word move.1) after piece;
    symbol = omega (arith, first_word words move.0.0 (map item_word move.1) after piece, readable.symbol);
    items = subst AreItemWords (sym (own_words words move.0.0 (map item_word move.1) after piece)) (are_item_words move readable);
  }

  pub move_read : (symbol_of (get_or words 0 0), map item_of (counted_words words)) ≡ move
  move_read =
      ap (λ n. (symbol_of n, map item_of (counted_words words))) (first_word words move.0.0 (map item_word move.1) after piece)
      ∙ ap (λ ws. (move.0, map item_of ws)) (own_words words move.0.0 (map item_word move.1) after piece)
      ∙ ap (λ items. (move.0, items)) (items_back move.1 readable.dots)

  pub after_move : rest_of words ≡ after
  after_move = words_after words move.0.0 (map item_word move.1) after piece

no_move : Move
no_move = (symbol_of 0, [])

-- of the moves that the words begin with, the one at i is next
module _ (words now rest : List ℕ) (moves : List Move) (i : ℕ) (begin : BeginWithMoves words moves rest) (below : i < length moves)
    (is : now ≡ flat_map move_words (drop i moves) ++ rest) where
  move : Move
  move = get_or moves i no_move

  readable : IsReadable move
  unfolding move
  readable = All-get_or IsReadable moves i no_move below begin.readable

  next : now ≡ move_words move ++ (flat_map move_words (drop (i + 1) moves) ++ rest)
  unfolding move
  next = next_piece move_words now rest moves i no_move below is

  pub begin_with_next : BeginWithMove now
  begin_with_next = begin_with_move now move (flat_map move_words (drop (i + 1) moves) ++ rest) readable next

  pub next_read : (symbol_of (get_or now 0 0), map item_of (counted_words now)) ≡ get_or moves i (symbol_of 0, [])
  unfolding move no_move
  next_read = move_read now move (flat_map move_words (drop (i + 1) moves) ++ rest) readable next

  pub after_next : rest_of now ≡ flat_map move_words (drop (i + 1) moves) ++ rest
  after_next = after_move now move (flat_map move_words (drop (i + 1) moves) ++ rest) readable next

-- each move of an expansion can be read
pub readable_moves : (coded : Expansion) → FitsCoding coded → IsTyped coded → All IsReadable coded.moves
readable_moves coded fits typed =
    at_each_place IsReadable coded.moves (λ move there.
    let types = typed.moves move.0 move.1 there in
    record {
      symbol = types.number;
      rules = at_each_place IsTypedItem move.1 types.rules;
      dots = at_each_place HasSmallDot move.1 (fits move.0 move.1 there);
      ascending = types.ascending;
    })

-- a payload: the moves stand after two words, and the rules of the reductions are last
module _ (payload : List ℕ) (coded : Expansion) (fits : FitsCoding coded) (typed : IsTyped coded) (is : payload ≡ item_payload_words coded) where
  pub moves_begin : BeginWithMoves (take (length payload - 2) (drop 2 payload)) coded.moves (map (λ (rule : RuleId). rule.0) coded.reductions)
  moves_begin = record {
    readable = readable_moves coded fits typed;
    are = take_rest payload 2 ∙ ap (drop 2) is;
  }

  pub moves_count : length coded.moves ≡ get_or payload 0 0
  moves_count = sym (ap (λ ws. get_or ws 0 0) is)

  reductions_count : get_or payload 1 0 ≡ length coded.reductions
  reductions_count = ap (λ ws. get_or ws 1 0) is

  pub last_words : take (length payload - (length payload - get_or payload 1 0)) (drop (length payload - get_or payload 1 0) payload)
      ≡ map (λ (rule : RuleId). rule.0) coded.reductions
  last_words =
      let own = map (λ (rule : RuleId). rule.0) coded.reductions in
      let front = length coded.moves ∷ length coded.reductions ∷ flat_map move_words coded.moves in
      let first = length payload - get_or payload 1 0 in
      take_rest payload first ∙ ap (drop first) is
      ∙ drop_at front own first (omega (
        arith,
        ap length is,
        reductions_count,
        length-append (flat_map move_words coded.moves) own,
        length-map coded.reductions (λ (rule : RuleId). rule.0),
      ))

  pub last_fit : All (λ word. word < 2 ^ 32) (map (λ (rule : RuleId). rule.0) coded.reductions)
  last_fit = All-map (λ word. word < 2 ^ 32) (λ (rule : RuleId). rule.0) coded.reductions
      (at_each_place (λ (rule : RuleId). rule.0 < 2 ^ 32) coded.reductions typed.reductions)
