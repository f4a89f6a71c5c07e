-- The row of a new state keeps the expansion of its kernel.
use Rattle.std.proofs.Common.{◌≡◌, ◌↔◌, ℕ, ◌+◌, ◌-◌, ◌≤◌, ◌<◌, true, false, List, length, map, Some, slice_get, Contains, sym, ap, ◌∙◌, subst, arith, IsTrue}
use Rattle.std.proofs.lemmas.List.{length-map}
use Rattle.std.specs.List.Sorted.{IsStrictlySortedBy}
use Rattle.forest.specs.declared.symbols.SymbolId.{SymbolId}
use Rattle.forest.specs.declared.rules.RuleId.{RuleId}
use Rattle.edit_log.specs.History.{Grammar}
use Rattle.edit_log.specs.Facts.{IsWellFormed}
use Rattle.edit_log.proofs.PlainLists.{contains_at, contains_map_from}
use Rattle.item_sets.specs.declared.item.Item.{Item}
use Rattle.item_sets.specs.Orders.{reduction_cmp}
use Rattle.item_sets.specs.Expansions.{HasMove, IsReduction}
use Rattle.parser_states.specs.declared.rows.Row.{Row}
use Rattle.parser_states.specs.declared.reduction.Reduction.{Reduction}
use Rattle.parser_states.specs.Parts.{part_of, IsPartWithin}
use Rattle.parser_states.specs.Known.{KnownMoves}
use Rattle.parser_states.specs.Moves.{HoldsMove, HoldsItems}
use Rattle.parser_states.specs.Reductions.{ListsReductions, Opens}
use Rattle.parser_states.specs.Rows.{symbol_cmp, IsExpansionRow, IsNewRowOf, IsCopied}
use Rattle.parser_states.proofs.PlainParts.{part_appended, within_appended, to_part}
use Rattle.parser_states.proofs.Lists.{map_at, symbols_ascend}
use Rattle.parser_states.proofs.ReductionsTold.{lists_told, empty_says, others_say}
use Rattle.parser_states.proofs.Uppers.{move_is_listed}

module _ (g : Grammar) (well : IsWellFormed g) (kernel : List Item) (old new : KnownMoves) (finished : List RuleId) (row : Row)
    (copied : IsCopied g.rules kernel old new finished row.moves) (aligned : length old.behind ≡ length old.symbols) (before after : List Reduction)
    (is : IsNewRowOf g.rules row.moves (part_of row.moves new.symbols) finished before after row) where
  abbrev more : List (SymbolId × List Item)
  more = copied.expansion.moves

  abbrev symbols_of : List (SymbolId × List Item) → List SymbolId
  symbols_of moves = map (λ m. m.0) moves

  past : row.moves.past ≡ length old.symbols + length (symbols_of more)
  past = omega (arith, copied.moves.past, length-map more (λ (m : SymbolId × List Item). m.0))

  symbols : part_of row.moves new.symbols ≡ symbols_of more
  symbols = part_appended old.symbols (symbols_of more) new.symbols row.moves copied.moves.symbols copied.moves.first past

  moves_within : IsPartWithin row.moves (length new.symbols)
  moves_within = within_appended old.symbols (symbols_of more) new.symbols row.moves copied.moves.symbols copied.moves.first past

  sound : (place : ℕ) (x : SymbolId) → row.moves.first ≤ place → place < row.moves.past → slice_get new.symbols place ≡ Some x
      → HoldsMove g.rules new kernel x place
  sound place x since less at =
      let k : ℕ = place - row.moves.first in
      let m = map_at (λ (m : SymbolId × List Item). m.0) more k x
      (ap (λ l. slice_get l k) (sym symbols) ∙ to_part row.moves new.symbols place x since less at) in
      let here : length old.behind + k ≡ place = omega (arith, aligned, copied.moves.first, since) in
      let pair : m.0 ≡ (x, m.0.1) = ap (λ y. (y, m.0.1)) m.2 in
      record {
        upper = m.0.1;
        at = subst (λ n. HoldsItems new n m.0.1) here (copied.moves.each k m.0 m.1);
        is_move = (copied.is.moves x m.0.1).0 (subst (Contains more) pair (contains_at more k m.0 m.1));
      }

  whole : (x : SymbolId) → HasMove g.rules (Contains kernel) x → Contains (part_of row.moves new.symbols) x
  whole x move = subst (λ l. Contains l x) (sym symbols) (move_is_listed g.rules kernel copied.expansion copied.is x move)

  some_move : (x : SymbolId) → Contains (part_of row.moves new.symbols) x → HasMove g.rules (Contains kernel) x
  some_move x there =
      let m = contains_map_from (λ (m : SymbolId × List Item). m.0) more x (subst (λ l. Contains l x) symbols there) in
      subst (HasMove g.rules (Contains kernel)) m.is ((copied.is.moves m.from.0 m.from.1).0 m.there).some

  opens : IsTrue row.opens ↔ Opens g.rules kernel
  opens = (
    λ t. let some = is.opens.0 t in (some.0, some_move some.0 some.1, some.2),
    λ some. is.opens.1 (some.0, whole some.0 some.1, some.2),
  )

  ascend : IsStrictlySortedBy reduction_cmp finished
  ascend = subst (IsStrictlySortedBy reduction_cmp) (sym copied.reductions) copied.is.reduction_order

  are : (k : RuleId) → Contains finished k ↔ IsReduction g.rules (Contains kernel) k
  are k = subst (λ list. Contains list k ↔ IsReduction g.rules (Contains kernel) k) (sym copied.reductions) (copied.is.reductions k)

  pub new_row : IsExpansionRow g.rules new after kernel row
  new_row = record {
    within = record { moves = moves_within; empties = is.empties_within; reductions = is.reductions_within };
    ascends = subst (IsStrictlySortedBy symbol_cmp) (sym symbols) (symbols_ascend more copied.is.move_order);
    sound = sound;
    whole = whole;
    opens = opens;
    empties = subst (ListsReductions g.rules kernel (λ size. size ≡ 0)) (sym is.empties)
        (lists_told g well kernel finished ascend are true (λ size. size ≡ 0) empty_says);
    reductions = subst (ListsReductions g.rules kernel (λ size. 0 < size)) (sym is.reductions)
        (lists_told g well kernel finished ascend are false (λ size. 0 < size) others_say);
  }
