-- What is kept stays where more is kept.
use Rattle.std.proofs.Common.{◌≡◌, inl, inr, ℕ, ◌+◌, ◌≤◌, ◌<◌, List, length, map, ◌-◌, replicate, Some, slice_get, Contains, refl, sym, ap, ◌∙◌, subst, arith}
use Rattle.std.proofs.Common.{length-append}
use Rattle.std.proofs.lemmas.List.{length-map, length-replicate}
use Rattle.std.proofs.lemmas.Option.{slice_get_within, slice_get_cases, same_Some}
use Rattle.std.specs.List.Sorted.{IsStrictlySortedBy}
use Rattle.forest.specs.declared.symbols.SymbolId.{SymbolId}
use Rattle.forest.specs.declared.rules.Rule.{Rule}
use Rattle.item_sets.specs.declared.item.Item.{Item}
use Rattle.item_sets.specs.Walks.{Extends}
use Rattle.parser_states.specs.declared.rows.Part.{Part}
use Rattle.parser_states.specs.declared.rows.Row.{Row}
use Rattle.parser_states.specs.declared.reduction.Reduction.{Reduction}
use Rattle.parser_states.specs.Parts.{part_of, IsPartWithin}
use Rattle.parser_states.specs.Known.{KnownMoves}
use Rattle.parser_states.specs.Moves.{AddsMoves, HoldsMove, HoldsItems, KeepsMoves}
use Rattle.parser_states.specs.Reductions.{ListsReductions}
use Rattle.forest.specs.Numbers.{KeepsNumbers}
use Rattle.parser_states.specs.Rows.{symbol_cmp, IsExpansionRow, IsRowWithin, AreMoves}
use Rattle.parser_states.proofs.PlainParts.{longer, was_there, within_more, part_kept, within_appended}
use Rattle.parser_states.proofs.Lists.{append_cases, in_replicate}
use Rattle.parser_states.proofs.MovesAdded.{behind_more}

pub keeps_added : (added : List (SymbolId × List Item)) (old new : KnownMoves) (part : Part) → AddsMoves added old new part → KeepsMoves old new
keeps_added added old new part adds = record {
  symbols = record { tail = _; is = adds.symbols };
  behind = adds.behind;
  items = adds.items;
}

pub moves_within : (added : List (SymbolId × List Item)) (old new : KnownMoves) (part : Part) → AddsMoves added old new part
    → IsPartWithin part (length new.symbols)
moves_within added old new part adds = within_appended old.symbols (map (λ (m : SymbolId × List Item). m.0) added) new.symbols part adds.symbols adds.first
    (omega (arith, adds.past, length-map added (λ (m : SymbolId × List Item). m.0)))

pub behind_kept : (rules : List Rule) (old new : KnownMoves) (kernel : List Item) (x : SymbolId) (place : ℕ) → KeepsMoves old new
    → HoldsMove rules old kernel x place → HoldsMove rules new kernel x place
behind_kept rules old new kernel x place keeps is = record {
  upper = is.upper;
  at = behind_more old new place is.upper keeps.behind keeps.items is.at;
  is_move = is.is_move;
}

pub row_within : (row : Row) (moves more_moves reductions more_reductions : ℕ) → moves ≤ more_moves → reductions ≤ more_reductions
    → IsRowWithin row moves reductions → IsRowWithin row more_moves more_reductions
row_within row moves more_moves reductions more_reductions one two is = record {
  moves = record { order = is.moves.order; within = omega (arith, is.moves.within, one) };
  empties = record { order = is.empties.order; within = omega (arith, is.empties.within, two) };
  reductions = record { order = is.reductions.order; within = omega (arith, is.reductions.within, two) };
}

pub row_kept : (rules : List Rule) (old new : KnownMoves) (before after : List Reduction) (kernel : List Item) (row : Row) → KeepsMoves old new
    → Extends before after → IsExpansionRow rules old before kernel row → IsExpansionRow rules new after kernel row
row_kept rules old new before after kernel row keeps more is = record {
  within = row_within row (length old.symbols) (length new.symbols) (length before) (length after) (longer keeps.symbols) (longer more) is.within;
  ascends = subst (IsStrictlySortedBy symbol_cmp) (sym (part_kept keeps.symbols row.moves is.within.moves)) is.ascends;
  sound = λ place x since less at. behind_kept rules old new kernel x place keeps
      (is.sound place x since less (was_there keeps.symbols place x (omega (arith, less, is.within.moves.within)) at));
  whole = λ x move. subst (λ l. Contains l x) (sym (part_kept keeps.symbols row.moves is.within.moves)) (is.whole x move);
  opens = is.opens;
  empties = subst (ListsReductions rules kernel (λ size. size ≡ 0)) (sym (part_kept more row.empties is.within.empties)) is.empties;
  reductions = subst (ListsReductions rules kernel (λ size. 0 < size)) (sym (part_kept more row.reductions is.within.reductions)) is.reductions;
}

-- ---- the moves of all states, with more of them

module _ (kernels others : List (List Item)) (keeps : KeepsNumbers kernels others) (old new : KnownMoves) (added : List (SymbolId × List Item)) (whole : Part)
    (are : AreMoves kernels old) (adds : AddsMoves added old new whole) where
  part_within : (place : ℕ) (part : Part) → slice_get new.behind place ≡ Some part → IsPartWithin part (length new.items)
  part_within place part at = elim (slice_get_cases old.behind place).1 [
    | inl there ↦ within_more adds.items part (are.within place part (was_there adds.behind place part there.1 at))
    | inr past ↦
        let k : (k : ℕ) × (place ≡ length old.behind + k) × (k < length added) =
        let within : place < length new.behind = slice_get_within new.behind place part at in
        offset place past.0 (omega (arith, within, adds.size)) in
        let m = some_at added k.0 k.2 in
        let is : HoldsItems new (length old.behind + k.0) m.0.1 = adds.each k.0 m.0 m.1 in
        let same : is.part ≡ part = same_Some is.part part (sym is.at ∙ ap (λ n. slice_get new.behind n) (sym k.1) ∙ at) in
        subst (λ p. IsPartWithin p (length new.items)) same is.within
  ]
    where
      offset : (place : ℕ) → length old.behind ≤ place → place < length old.behind + length added
          → (k : ℕ) × (place ≡ length old.behind + k) × (k < length added)
      offset place since less = (place - length old.behind, omega (arith, since), omega (arith, since, less))

      some_at : (list : List (SymbolId × List Item)) (n : ℕ) → n < length list → (m : SymbolId × List Item) × (slice_get list n ≡ Some m)
      some_at list n less = elim (slice_get_cases list n).1 [ inl there ↦ (there.0, there.2) | inr past ↦ absurd (omega (arith, past.0, less)) ]

  part_tells : (place entry number : ℕ) (part : Part) → slice_get new.targets place ≡ Some entry → entry ≡ number + 1 → slice_get new.behind place ≡ Some part
      → slice_get others number ≡ Some (part_of part new.items)
  part_tells place entry number part at next behind =
      elim (append_cases old.targets (replicate (length added) 0) place entry (ap (λ l. slice_get l place) (sym adds.targets) ∙ at)) [
        | inl front ↦
            let within : place < length old.behind = omega (arith, slice_get_within old.targets place entry front, are.targets, are.behind) in
            let was = was_there adds.behind place part within behind in
            ap (λ l. slice_get l number) refl ∙ keeps number (part_of part old.items) (are.tells place entry number part front next was)
            ∙ ap Some (sym (part_kept adds.items part (are.within place part was)))
        | inr last ↦ absurd (omega (arith, in_replicate (length added) 0 last.0 entry last.2, next))
      ]

  pub moves_more : AreMoves others new
  moves_more = record {
    behind = omega (
      arith,
      are.behind,
      adds.size,
      ap length adds.symbols,
      length-append old.symbols (map (λ (m : SymbolId × List Item). m.0) added),
      length-map added (λ (m : SymbolId × List Item). m.0),
    );
    targets = omega (
      arith,
      are.targets,
      ap length adds.targets,
      length-append old.targets (replicate (length added) 0),
      length-replicate {A = ℕ} (length added) 0,
      ap length adds.symbols,
      length-append old.symbols (map (λ (m : SymbolId × List Item). m.0) added),
      length-map added (λ (m : SymbolId × List Item). m.0),
    );
    within = part_within;
    tells = part_tells;
  }
