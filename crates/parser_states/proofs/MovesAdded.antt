-- Moves that are appended one after the other.
use Rattle.std.proofs.Common.{◌≡◌, inl, inr, ℕ, ◌+◌, ◌≤◌, List, [], ◌∷◌, ◌++◌, length, take, map, replicate, Some, None, slice_get, sym, ap, ◌∙◌, subst, arith}
use Rattle.std.proofs.Common.{length-append, append_assoc}
use Rattle.std.proofs.lemmas.List.{take_all, length-map, map-append}
use Rattle.forest.specs.declared.symbols.SymbolId.{SymbolId}
use Rattle.item_sets.specs.declared.item.Item.{Item}
use Rattle.item_sets.specs.Walks.{Extends}
use Rattle.parser_states.specs.declared.rows.Part.{Part}
use Rattle.parser_states.specs.Known.{KnownMoves}
use Rattle.parser_states.specs.Moves.{AddsItems, AddsMoves, HoldsItems}
use Rattle.parser_states.proofs.PlainParts.{extends_same, extends_push, extends_append, still_there}
use Rattle.parser_states.proofs.PlainParts.{within_more, part_kept, part_appended, within_appended, last_at}
use Rattle.parser_states.proofs.PlainParts.{push_cases, append_nil, one_more_same}

-- these moves were appended
pub record AddsSome (more : List (SymbolId × List Item)) (old new : KnownMoves) : Type 0 where
  pub symbols : new.symbols ≡ old.symbols ++ map (λ m. m.0) more
  pub behind : Extends old.behind new.behind
  pub size : length new.behind ≡ length old.behind + length more
  pub each : (place : ℕ) (m : SymbolId × List Item) → slice_get more place ≡ Some m → HoldsItems new (length old.behind + place) m.1
  pub targets : new.targets ≡ old.targets ++ replicate (length more) 0
  pub items : Extends old.items new.items

pub adds_none : (moves : KnownMoves) → AddsSome [] moves moves
adds_none moves = record {
  symbols = sym (append_nil moves.symbols);
  behind = extends_same moves.behind;
  size = omega arith;
  each = λ place m at. let no : None ≡ Some m = at in absurd cc;
  targets = sym (append_nil moves.targets);
  items = extends_same moves.items;
}

-- what stands behind a place stands there where more is appended
pub behind_more : (old new : KnownMoves) (place : ℕ) (upper : List Item) → Extends old.behind new.behind → Extends old.items new.items
    → HoldsItems old place upper → HoldsItems new place upper
behind_more old new place upper behind items is = record {
  part = is.part;
  at = still_there behind place is.part is.at;
  within = within_more items is.part is.within;
  is = part_kept items is.part is.within ∙ is.is;
}

module _ (old mid new : KnownMoves) (more : List (SymbolId × List Item)) (m : SymbolId × List Item) (part : Part) (adds : AddsSome more old mid)
    (added : AddsItems m.1 mid.items new.items part) (behind : new.behind ≡ mid.behind ++ part ∷ []) where
  begins : Extends mid.behind new.behind
  begins = extends_append mid.behind new.behind (part ∷ []) behind

  items_begin : Extends mid.items new.items
  items_begin = extends_append mid.items new.items m.1 added.is

  last : HoldsItems new (length mid.behind) m.1
  last = record {
    part = part;
    at = ap (λ l. slice_get l (length mid.behind)) behind ∙ last_at mid.behind part;
    within = within_appended mid.items m.1 new.items part added.is added.first added.past;
    is = part_appended mid.items m.1 new.items part added.is added.first added.past;
  }

  each_more : (place : ℕ) (n : SymbolId × List Item) → slice_get (more ++ m ∷ []) place ≡ Some n → HoldsItems new (length old.behind + place) n.1
  each_more place n at = elim (push_cases more m n place at) [
    | inl before ↦ behind_more mid new (length old.behind + place) n.1 begins items_begin (adds.each place n before)
    | inr end ↦
        let here : length mid.behind ≡ length old.behind + place = omega (arith, adds.size, end.0) in
        subst (λ (q : SymbolId × List Item). HoldsItems new (length old.behind + place) q.1) end.1 (subst (λ k. HoldsItems new k m.1) here last)
  ]

  pub adds_one_more : new.targets ≡ mid.targets ++ 0 ∷ [] → new.symbols ≡ mid.symbols ++ m.0 ∷ [] → AddsSome (more ++ m ∷ []) old new
  adds_one_more targets symbols = record {
    symbols = symbols ∙ ap (λ l. l ++ m.0 ∷ []) adds.symbols ∙ append_assoc old.symbols (map (λ (q : SymbolId × List Item). q.0) more) (m.0 ∷ [])
        ∙ ap (λ l. old.symbols ++ l) (sym (map-append (λ (q : SymbolId × List Item). q.0) more (m ∷ [])));
    behind = extends_push old.behind mid.behind new.behind (part ∷ []) adds.behind behind;
    size = omega (arith, ap length behind, length-append mid.behind (part ∷ []), adds.size, length-append more (m ∷ []));
    each = each_more;
    targets = targets ∙ ap (λ l. l ++ 0 ∷ []) adds.targets ∙ append_assoc old.targets (replicate (length more) 0) (0 ∷ [])
        ∙ ap (λ l. old.targets ++ l) (one_more_same (length more) 0 ∙ ap (λ n. replicate n 0) (sym (length-append more (m ∷ []))));
    items = extends_push old.items mid.items new.items m.1 adds.items added.is;
  }

-- all of them were appended
pub adds_all : (all : List (SymbolId × List Item)) (at : ℕ) (old new : KnownMoves) (part : Part) → length all ≤ at → AddsSome (take at all) old new
    → part.first ≡ length old.symbols → part.past ≡ length new.symbols → AddsMoves all old new part
adds_all all at old new part end some first past =
    let is : AddsSome all old new = subst (λ l. AddsSome l old new) (take_all at all end) some in
    record {
      first = first;
      past = omega (
        arith,
        past,
        ap length is.symbols,
        length-append old.symbols (map (λ (q : SymbolId × List Item). q.0) all),
        length-map all (λ (q : SymbolId × List Item). q.0),
      );
      symbols = is.symbols;
      behind = is.behind;
      size = is.size;
      each = is.each;
      targets = is.targets;
      items = is.items;
    }
