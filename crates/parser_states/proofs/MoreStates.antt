-- The states with one more, and with a target that is learned.
use Rattle.std.proofs.Common.{◌≡◌, inl, inr, ℕ, ◌+◌, ◌≤◌, List, [], ◌∷◌, ◌++◌, length, set, Some, slice_get, Contains, sym, ap, ◌∙◌, subst, arith}
use Rattle.std.proofs.Common.{length-append}
use Rattle.std.proofs.lemmas.Option.{slice_get_within, slice_get_cases, same_Some}
use Rattle.forest.specs.declared.rules.RuleId.{RuleId}
use Rattle.forest.specs.declared.rules.Rule.{Rule}
use Rattle.edit_log.specs.History.{Grammar}
use Rattle.edit_log.specs.Facts.{IsWellFormed}
use Rattle.edit_log.proofs.Texts.{slice_get-append}
use Rattle.edit_log.proofs.PlainLists.{contains_at}
use Rattle.item_sets.specs.declared.item.Item.{Item}
use Rattle.item_sets.specs.Prefixes.{AreItems}
use Rattle.parser_states.specs.declared.rows.Row.{Row}
use Rattle.parser_states.specs.Parts.{part_of}
use Rattle.parser_states.specs.Known.{Known}
use Rattle.parser_states.specs.Moves.{KeepsMoves}
use Rattle.forest.specs.Numbers.{KeepsNumbers}
use Rattle.parser_states.specs.Rows.{IsExpansionRow, IsNewRowOf, IsCopied, IsShaped, IsRowWithin, KeepsExpansions}
use Rattle.std.proofs.Math.ListN.{length-set}
use Rattle.parser_states.specs.declared.rows.Part.{Part}
use Rattle.parser_states.proofs.Lists.{set_cases}
use Rattle.parser_states.proofs.PlainParts.{push_cases, extends_same}
use Rattle.parser_states.proofs.RowsKept.{keeps_added, row_kept, row_within, moves_more}
use Rattle.parser_states.proofs.NewRows.{new_row}

-- what is told has the shape that look-ups need
pub shape_told : (rules : List Rule) (states : Known) → KeepsExpansions rules states → IsShaped states
shape_told rules states are = record {
  rows = omega (arith, are.size);
  within = λ number row at. elim (slice_get_cases states.kernels number).1 [
    | inl there ↦ (are.rows number there.0 row there.2 at).within
    | inr past ↦ absurd (omega (arith, past.0, are.size, slice_get_within states.rows number row at))
  ];
}

-- the rows of before keep the shape where the lists grow, and so they do with one more that lies within
pub shape_grows : (old new : Known) → new.kernels ≡ old.kernels → new.rows ≡ old.rows → length old.moves.symbols ≤ length new.moves.symbols
    → length old.reductions ≤ length new.reductions → IsShaped old → IsShaped new
shape_grows old new kernels rows moves reductions is = record {
  rows = omega (arith, ap length kernels, ap length rows, is.rows);
  within = λ number row at. row_within row (length old.moves.symbols) (length new.moves.symbols) (length old.reductions) (length new.reductions) moves
      reductions (is.within number row (ap (λ l. slice_get l number) (sym rows) ∙ at));
}

pub shape_push : (old new : Known) (row : Row) → new.kernels ≡ old.kernels → new.rows ≡ old.rows ++ row ∷ []
    → length old.moves.symbols ≤ length new.moves.symbols
    → length old.reductions ≤ length new.reductions → IsRowWithin row (length new.moves.symbols) (length new.reductions) → IsShaped old → IsShaped new
shape_push old new row kernels rows moves reductions inside is = record {
  rows = omega (arith, ap length kernels, ap length rows, length-append old.rows (row ∷ []), is.rows);
  within = λ number other at. elim (push_cases old.rows row other number (ap (λ l. slice_get l number) (sym rows) ∙ at)) [
    | inl before ↦ row_within other (length old.moves.symbols) (length new.moves.symbols) (length old.reductions) (length new.reductions) moves reductions
        (is.within number other before)
    | inr end ↦ subst (λ r. IsRowWithin r (length new.moves.symbols) (length new.reductions)) end.1 inside
  ];
}

pub keeps_pushed : (old new : List (List Item)) (kernel : List Item) → new ≡ old ++ kernel ∷ [] → KeepsNumbers old new
keeps_pushed old new kernel is = λ number other at. ap (λ l. slice_get l number) is ∙ slice_get-append old (kernel ∷ []) number other at

module _ (g : Grammar) (well : IsWellFormed g) (old new : Known) (kernel : List Item) (row : Row) (finished : List RuleId) (are : KeepsExpansions g.rules old)
    (items : AreItems g.rules kernel) (fresh : Contains old.kernels kernel → ⊥) (kernels : new.kernels ≡ old.kernels ++ kernel ∷ [])
    (rows : new.rows ≡ old.rows ++ row ∷ []) (copied : IsCopied g.rules kernel old.moves new.moves finished row.moves)
    (is : IsNewRowOf g.rules row.moves (part_of row.moves new.moves.symbols) finished old.reductions new.reductions row) where
  row_is : IsExpansionRow g.rules new.moves new.reductions kernel row
  row_is = new_row g well kernel old.moves new.moves finished row copied are.moves.behind old.reductions new.reductions is

  keeps : KeepsMoves old.moves new.moves
  keeps = keeps_added copied.expansion.moves old.moves new.moves row.moves copied.moves

  old_kernel : (number : ℕ) (k : List Item) → slice_get new.kernels number ≡ Some k → slice_get (old.kernels ++ kernel ∷ []) number ≡ Some k
  old_kernel number k at = ap (λ l. slice_get l number) (sym kernels) ∙ at

  one_number : (one other : ℕ) (k : List Item) → slice_get new.kernels one ≡ Some k → slice_get new.kernels other ≡ Some k → one ≡ other
  one_number one other k at at' = elim (push_cases old.kernels kernel k one (old_kernel one k at)) [
    | inl before ↦ elim (push_cases old.kernels kernel k other (old_kernel other k at')) [
      | inl before' ↦ are.one_number one other k before before'
      | inr end ↦ absurd (fresh (subst (Contains old.kernels) (sym end.1) (contains_at old.kernels one k before)))
    ]
    | inr end ↦ elim (push_cases old.kernels kernel k other (old_kernel other k at')) [
      | inl before ↦ absurd (fresh (subst (Contains old.kernels) (sym end.1) (contains_at old.kernels other k before)))
      | inr end' ↦ end.0 ∙ sym end'.0
    ]
  ]

  each_row : (number : ℕ) (k : List Item) (r : Row) → slice_get new.kernels number ≡ Some k → slice_get new.rows number ≡ Some r
      → IsExpansionRow g.rules new.moves new.reductions k r
  each_row number k r at there = elim (push_cases old.kernels kernel k number (old_kernel number k at)) [
    | inl before ↦ elim (push_cases old.rows row r number (ap (λ l. slice_get l number) (sym rows) ∙ there)) [
      | inl before' ↦ row_kept g.rules old.moves new.moves old.reductions new.reductions k r keeps is.extends (are.rows number k r before before')
      | inr end ↦ absurd (omega (arith, end.0, are.size, slice_get_within old.kernels number k before))
    ]
    | inr end ↦ elim (push_cases old.rows row r number (ap (λ l. slice_get l number) (sym rows) ∙ there)) [
      | inl before ↦ absurd (omega (arith, end.0, are.size, slice_get_within old.rows number r before))
      | inr end' ↦ subst (λ q. IsExpansionRow g.rules new.moves new.reductions k q) end'.1
          (subst (λ q. IsExpansionRow g.rules new.moves new.reductions q row) end.1 row_is)
    ]
  ]

  pub told_more : KeepsExpansions g.rules new
  told_more = record {
    one_number = one_number;
    items = λ number k at. elim (push_cases old.kernels kernel k number (old_kernel number k at)) [
      | inl before ↦ are.items number k before
      | inr end ↦ subst (AreItems g.rules) end.1 items
    ];
    size = omega (arith, ap length rows, ap length kernels, length-append old.rows (row ∷ []), length-append old.kernels (kernel ∷ []), are.size);
    rows = each_row;
    moves = moves_more old.kernels new.kernels (keeps_pushed old.kernels new.kernels kernel kernels) old.moves new.moves copied.expansion.moves row.moves
        are.moves copied.moves;
  }

-- ---- a target that is learned

abbrev pub with_targets : Known → List ℕ → Known
with_targets states targets = record {
  kernels = states.kernels;
  rows = states.rows;
  moves = record { symbols = states.moves.symbols; behind = states.moves.behind; targets = targets; items = states.moves.items };
  reductions = states.reductions;
}

pub told_learned : (rules : List Rule) (states : Known) (place number : ℕ) (part : Part) (targets : List ℕ)
    → targets ≡ set states.moves.targets place (number + 1) → slice_get states.moves.behind place ≡ Some part
    → slice_get states.kernels number ≡ Some (part_of part states.moves.items)
    → KeepsExpansions rules states → KeepsExpansions rules (with_targets states targets)
told_learned rules states place number part targets is at named are =
    let keeps : KeepsMoves states.moves (with_targets states targets).moves = record {
      symbols = extends_same states.moves.symbols;
      behind = extends_same states.moves.behind;
      items = extends_same states.moves.items;
    } in
    record {
      one_number = are.one_number;
      items = are.items;
      size = are.size;
      rows = λ n kernel row at_kernel at_row. row_kept rules states.moves (with_targets states targets).moves states.reductions states.reductions kernel row
          keeps (extends_same states.reductions) (are.rows n kernel row at_kernel at_row);
      moves = record {
        behind = are.moves.behind;
        targets = omega (arith, are.moves.targets, ap length is, length-set states.moves.targets place (number + 1));
        within = are.moves.within;
        tells = λ p entry n other at_entry next at_part.
            elim (set_cases states.moves.targets place (number + 1) p entry (ap (λ l. slice_get l p) (sym is) ∙ at_entry)) [
              | inl here ↦
                  let same_number : n ≡ number = omega (arith, here.1, next) in
                  let same_part : part ≡ other = same_Some part other (sym at ∙ ap (slice_get states.moves.behind) (sym here.0) ∙ at_part) in
                  ap (slice_get states.kernels) same_number ∙ named ∙ ap (λ q. Some (part_of q states.moves.items)) same_part
              | inr there ↦ are.moves.tells p entry n other there next at_part
            ];
      };
    }
