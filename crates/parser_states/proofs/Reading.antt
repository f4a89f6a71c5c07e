-- What the row of a state tells, and where its moves lead.
use Rattle.std.proofs.Common.{◌≡◌, ◌↔◌, inl, inr, ℕ, ◌-◌, ◌<◌, List, [], ◌∷◌, length, get_or, Option, Some, None, slice_get, Contains, IsTrue}
use Rattle.std.proofs.Common.{IfSome, IfNone, refl, sym, ap, ◌∙◌, subst, arith}
use Rattle.std.specs.Option.{is_some}
use Rattle.std.proofs.lemmas.Option.{slice_get_read, slice_get_within, slice_get_cases, same_Some}
use Rattle.forest.specs.declared.symbols.SymbolId.{SymbolId}
use Rattle.forest.specs.declared.rules.Rule.{Rule}
use Rattle.edit_log.proofs.PlainLists.{contains_at}
use Rattle.item_sets.specs.declared.item.Item.{Item}
use Rattle.item_sets.specs.Prefixes.{AreItems}
use Rattle.item_sets.specs.Expansions.{HasMove}
use Rattle.item_sets.proofs.Kernels.{moved_is_item}
use Rattle.live_graph.specs.Asking.{Joins}
use Rattle.edit_log.proofs.Texts.{slice_get-append}
use Rattle.parser_states.specs.declared.rows.Row.{Row}
use Rattle.parser_states.specs.declared.rows.Part.{Part}
use Rattle.parser_states.specs.Parts.{part_of, IsPartWithin}
use Rattle.parser_states.specs.Known.{Known, KnownMoves}
use Rattle.parser_states.specs.Moves.{HoldsMove, HoldsItems, IsMovePlace}
use Rattle.forest.specs.Numbers.{KeepsNumbers}
use Rattle.parser_states.specs.Leads.{LeadsToKernel}
use Rattle.parser_states.specs.Rows.{IsExpansionRow, KeepsExpansions, IsPlaceOf, IsNoneOf}

pub some_at : {X : Type 0} (list : List X) (place : ℕ) → place < length list → (x : X) × (slice_get list place ≡ Some x)
some_at list place within = elim (slice_get_cases list place).1 [ inl there ↦ (there.0, there.2) | inr past ↦ absurd (omega (arith, past.0, within)) ]

module _ (rules : List Rule) (states : Known) (are : KeepsExpansions rules states) (state : ℕ) (kernel : List Item)
    (named : slice_get states.kernels state ≡ Some kernel) where
  pub row_told : (row : Row) → row ≡ get_or states.rows state row → IsExpansionRow rules states.moves states.reductions kernel row
  row_told row is = are.rows state kernel row named (slice_get_read states.rows (length states.rows) state row refl (omega (
    arith,
    are.size,
    slice_get_within states.kernels state kernel named,
  )) is)

  row_there : (row : Row) × (slice_get states.rows state ≡ Some row)
  row_there = some_at states.rows state (omega (arith, are.size, slice_get_within states.kernels state kernel named))

  pub place_tells : (x : SymbolId) (place : ℕ) → IsPlaceOf states state x place → HoldsMove rules states.moves kernel x place
  place_tells x place is = (are.rows state kernel is.row named is.at).sound place x is.since is.before is.symbol

  pub none_tells : (x : SymbolId) → IsNoneOf states state x → HasMove rules (Contains kernel) x → ⊥
  none_tells x none move =
      let row = row_there in
      let is = are.rows state kernel row.0 named row.1 in
      none row.0 row.1 is.ascends (is.whole x move)

  pub has_move_told : (x : SymbolId) (found : Option ℕ) → IfSome found (IsPlaceOf states state x) → IfNone found (IsNoneOf states state x)
      → IsTrue (is_some found) ↔ HasMove rules (Contains kernel) x
  has_move_told x (Some place) is none = (λ t. (place_tells x place is).is_move.some, λ move. refl)
  has_move_told x None is none = (λ t. absurd cc, λ move. absurd (none_tells x none move))

  -- a target that is known
  pub known_leads : (x : SymbolId) (place entry : ℕ) → IsPlaceOf states state x place → slice_get states.moves.targets place ≡ Some entry → (entry ≡ 0 → ⊥)
      → LeadsToKernel rules states.kernels states.kernels kernel x (entry - 1)
  known_leads x place entry is at some =
      let behind = place_tells x place is in
      let named' : slice_get states.kernels (entry - 1) ≡ Some behind.upper =
      are.moves.tells place entry (entry - 1) behind.at.part at (omega (arith, some)) behind.at.at ∙ ap Some behind.at.is in
      record {
        upper = behind.upper;
        behind = behind.is_move;
        numbered = record { named = named'; joins = inl (contains_at states.kernels (entry - 1) behind.upper named', refl) };
      }

pub move_place : (rules : List Rule) (states : Known) → KeepsExpansions rules states → (state : ℕ) → state < length states.kernels → (x : SymbolId) (place : ℕ)
    → IsPlaceOf states state x place → IsMovePlace rules states.moves place
move_place rules states are state within x place is =
    let kernel = some_at states.kernels state within in
    record { kernel = kernel.0; symbol = x; behind = place_tells rules states are state kernel.0 kernel.1 x place is }

-- ---- what stands behind a move

module _ (rules : List Rule) (moves : KnownMoves) (place : ℕ) (is : IsMovePlace rules moves place) (part : Part)
    (read : part ≡ get_or moves.behind place part) where
  pub part_there : slice_get moves.behind place ≡ Some part
  part_there = slice_get_read moves.behind (length moves.behind) place part refl (slice_get_within moves.behind place is.behind.at.part is.behind.at.at) read

  -- whatever is said to stand there
  pub part_is : (upper : List Item) → HoldsItems moves place upper → part_of part moves.items ≡ upper
  part_is upper at = ap (λ p. part_of p moves.items) (same_Some part at.part (sym part_there ∙ at.at)) ∙ at.is

  pub part_fits : IsPartWithin part (length moves.items)
  part_fits = subst (λ p. IsPartWithin p (length moves.items)) (same_Some is.behind.at.part part (sym is.behind.at.at ∙ part_there)) is.behind.at.within

  pub upper_items : (kernel : List Item) → kernel ≡ part_of part moves.items → AreItems rules kernel
  upper_items kernel kernel_is = subst (AreItems rules) (sym (kernel_is ∙ part_is is.behind.upper is.behind.at))
      (λ item there. moved_is_item (is.behind.is_move.list.within item there))

pub keeps_joined : (old new : List (List Item)) (kernel : List Item) → Joins old kernel new → KeepsNumbers old new
keeps_joined old new kernel joins number other at = elim joins [
  | inl again ↦ ap (λ l. slice_get l number) again.1 ∙ at
  | inr first ↦ ap (λ l. slice_get l number) first.1 ∙ slice_get-append old (kernel ∷ []) number other at
]
