-- What an edit leaves of the rows of a grammar.
use Rattle.std.proofs.Common.{◌≡◌, ℕ, ◌<◌, ◌≤◌, ◌⊎◌, ◌↔◌, inl, inr, Bool, true, false, List, arith, Contains, IsTrue}
use Rattle.forest.specs.declared.symbols.SymbolId.{SymbolId}
use Rattle.forest.specs.declared.rules.Rule.{Rule}
use Rattle.edit_log.specs.declared.touch.Touch.{Touch}
use Rattle.edit_log.specs.History.{Grammar}
use Rattle.item_sets.specs.declared.item.Item.{Item}
use Rattle.item_sets.specs.declared.expansion.Expansion.{Expansion}
use Rattle.item_sets.specs.Expansions.{IsMoveOf, IsExpansionOf}
use Rattle.isg_states.specs.declared.scan_key.ScanKey.{ScanKey}
use Rattle.isg_states.specs.Expansion.{Range, IsRange, IsScanExpansionOf}
use Rattle.row_coding.specs.Rows.{Key, kernel, scan, FitsKey}
use Rattle.graph_content.specs.Affected.{AreSameMoves, AreSameRanges, IsSameExpansion, IsUnaffected, IsAffected}
use Rattle.graph_content.specs.Changes.{IsChange, IsTouched}
use Rattle.graph_content.specs.Rows.{IsPayloadOf, IsRowOf, Fits}
use Rattle.graph_content.proofs.ChangeLaws.{affected, unaffected}
use Rattle.graph_content.proofs.KeySizes.{key_fits}

-- ---- the same expansion

move_over : (rules others : List Rule) (items : List Item) → AreSameMoves rules others items → (x : SymbolId) (upper : List Item)
    → IsMoveOf rules items x upper → IsMoveOf others items x upper
move_over rules others items same x upper is = record {
  some = let (item, m) = is.some in (item, (same.moves x item).0 m);
  list = record {
    ascends = is.list.ascends;
    within = λ item c. (same.moves x item).0 (is.list.within item c);
    whole =
        λ item m. is.list.whole item ((same.moves x item).1 m);
  };
}

move_back : (rules others : List Rule) (items : List Item) → AreSameMoves rules others items → (x : SymbolId) (upper : List Item)
    → IsMoveOf others items x upper → IsMoveOf rules items x upper
move_back rules others items same x upper is = record {
  some = let (item, m) = is.some in (item, (same.moves x item).1 m);
  list = record {
    ascends = is.list.ascends;
    within = λ item c. (same.moves x item).1 (is.list.within item c);
    whole =
        λ item m. is.list.whole item ((same.moves x item).0 m);
  };
}

expansion_over : (rules others : List Rule) (items : List Item) (e : Expansion) → AreSameMoves rules others items → IsExpansionOf rules items e
    → IsExpansionOf others items e
expansion_over rules others items e same is = record {
  move_order = is.move_order;
  moves = λ x upper. (
    λ c. move_over rules others items same x upper ((is.moves x upper).0 c),
    λ m. (is.moves x upper).1 (move_back rules others items same x upper m),
  );
  reduction_order = is.reduction_order;
  reductions = λ k. (λ c. (same.reductions k).0 ((is.reductions k).0 c), λ r. (is.reductions k).1 ((same.reductions k).1 r));
}

range_over : (g next : Grammar) (key : ScanKey) (range : Range) → AreSameRanges g next key → IsRange g key range → IsRange next key range
range_over g next key range same is = record {
  some = is.some;
  bytes = is.bytes;
  marks = is.marks;
  is = is.is;
  leads = λ byte low high.
      let lists = is.leads byte low high in
      let small : byte < 256 = omega (arith, high, is.bytes) in
      record {
        order = lists.order;
        members = λ mark. (λ c. (same byte mark small).0 ((lists.members mark).0 c), λ l. (lists.members mark).1 ((same byte mark small).1 l));
      };
  somewhere = is.somewhere;
}

ranges_over : (g next : Grammar) (key : ScanKey) (ranges : List Range) → AreSameRanges g next key → IsScanExpansionOf g key ranges
    → IsScanExpansionOf next key ranges
ranges_over g next key ranges same is = record {
  each = λ range c. range_over g next key range same (is.each range c);
  whole = λ byte mark small leads. is.whole byte mark small ((same byte mark small).1 leads);
  apart = is.apart;
  joined = is.joined;
}

payload_over : (g next : Grammar) (key : Key) (payload : List ℕ) → IsSameExpansion g next key → IsPayloadOf g key payload → IsPayloadOf next key payload
payload_over g next (kernel items) payload same (e, is, words) = (e, expansion_over g.rules next.rules items e same is, words)
payload_over g next (scan key) payload same (e, is, words) = (e, ranges_over g next key e.ranges same is, words)

-- the row of an unaffected key is one of the next grammar
pub row_over : (g next : Grammar) (key : Key) (row : List ℕ) → IsUnaffected g next key → IsRowOf g key row → IsRowOf next key row
row_over g next key row left is = record {
  names = left.stays;
  payload = is.payload;
  codes = payload_over g next key is.payload left.same is.codes;
  words = is.words;
}

-- ---- what the test of a row tells

pub exclusive : (g next : Grammar) (key : Key) → IsAffected g next key → IsUnaffected g next key → ⊥
exclusive g next key (inl gone) left = gone left.stays
exclusive g next key (inr differs) left = differs left.same

-- a row that is not touched
module _ (g : Grammar) (touch : Touch) (row : List ℕ) (none : (key : Key) → FitsKey key → IsRowOf g key row → IsTouched g touch key → ⊥) where
  pub is_left : (next : Grammar) (key : Key) → IsChange g touch next → IsRowOf g key row → IsUnaffected g next key
  is_left next key change is = unaffected g next touch key change is.names (none key (key_fits g next touch key change is.names) is)

  pub fits_next : Fits g row → (next : Grammar) → IsChange g touch next → Fits next row
  fits_next (key, is) next change = (key, row_over g next key row (is_left next key change is) is)

-- a row that is touched
module _ (g : Grammar) (touch : Touch) (row : List ℕ) (some : (key : Key) → FitsKey key → IsRowOf g key row → IsTouched g touch key) where
  pub is_spoiled : (next : Grammar) (key : Key) → IsChange g touch next → IsRowOf g key row → IsAffected g next key
  is_spoiled next key change is = affected g next touch key change is.names (some key (key_fits g next touch key change is.names) is)

  pub not_left : (next : Grammar) (key : Key) → IsChange g touch next → IsRowOf g key row → IsUnaffected g next key → ⊥
  not_left next key change is left = exclusive g next key (is_spoiled next key change is) left
