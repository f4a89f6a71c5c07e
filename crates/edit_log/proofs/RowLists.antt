-- What is kept of each symbol, where one row changes.
use Rattle.std.proofs.Common.{◌≡◌, ◌↔◌, ℕ, zero, suc, ◌<◌, List, [], ◌∷◌, length, map, set, get_or, slice_get, Bool, true, false, Some, option_map, ap, sym}
use Rattle.std.proofs.Common.{◌∙◌, arith}
use Rattle.std.specs.Option.{is_some}
use Rattle.std.proofs.lemmas.List.{length-map}
use Rattle.std.proofs.lemmas.Option.{slice_get-get_or, same_Some}
use Rattle.std.proofs.Math.Seq.{map-set_same}
use Rattle.forest.specs.declared.symbols.SymbolId.{SymbolId}
use Rattle.edit_log.specs.declared.symbol_table.Row.{Row}
use Rattle.edit_log.specs.Lists.{occurrences}
use Rattle.edit_log.specs.Rows.{lefts_in, uses_in, literals_in, IsUsed}
use Rattle.edit_log.proofs.UseLists.{Changes, changes_set, has_literal, no_literal, one_count}

-- what the new row has as the old one had it
pub column_stays : {X : Type 0} (f : Row → X) (rows : List Row) (i : ℕ) (old new : Row) → old ≡ get_or rows i old → f new ≡ f old
    → map f (set rows i new) ≡ map f rows
column_stays f rows i old new is same = map-set_same f rows i new old (same ∙ ap f is)

-- what one row has
pub column_at : {X : Type 0} (f : Row → X) (rows : List Row) (i : ℕ) (row : Row) (d : X) → i < length rows → row ≡ get_or rows i row
    → get_or (map f rows) i d ≡ f row
column_at f [] i row d within is = absurd (omega arith)
column_at f (r ∷ rows) zero row d within is = ap f (sym is)
column_at f (r ∷ rows) (suc i) row d within is = column_at f rows i row d (omega arith) is

pub column_get : {X : Type 0} (f : Row → X) (rows : List Row) (i : ℕ) (row : Row) → i < length rows → row ≡ get_or rows i row
    → slice_get (map f rows) i ≡ Some (f row)
column_get f rows i row within is =
    slice_get-get_or (map f rows) i (f row) (omega (arith, within, length-map rows f)) ∙ ap Some (column_at f rows i row (f row) within is)

pub used_row : (rows : List Row) (symbol : SymbolId) (count : ℕ) (row : Row) (b : Bool) → symbol.0 < length rows → row ≡ get_or rows symbol.0 row
    → row.uses ≡ count → b ≡ is_some row.positions
    → (b ≡ true) ↔ IsUsed rows symbol count
used_row rows symbol count row b within is uses b-is = (
  λ some. (
    has_literal (literals_in rows) symbol.0 row.positions positions (sym b-is ∙ some),
    column_get (λ (row : Row). row.uses) rows symbol.0 row within is
        ∙ ap Some uses,
  ),
  λ used. by b b-is used,
)
  where
    positions : slice_get (literals_in rows) symbol.0 ≡ Some row.positions
    positions = column_get (λ (row : Row). row.positions) rows symbol.0 row within is

    by : (b : Bool) → b ≡ is_some row.positions → IsUsed rows symbol count → b ≡ true
    by true b-is used = cc
    by false b-is used = absurd (no_literal (literals_in rows) symbol.0 row.positions positions (sym b-is) used.0)

-- the count of one symbol is another
pub use_changes : (rows : List Row) (new : List ℕ) (symbol : SymbolId) (n : ℕ) → symbol.0 < length rows → new ≡ set (uses_in rows) symbol.0 n
    → Changes (uses_in rows) new symbol.0 (get_or (uses_in rows) symbol.0 0) n
use_changes rows new symbol n within is =
    rw is (changes_set (uses_in rows) symbol.0 n (omega (arith, within, length-map rows (λ (row : Row). row.uses))))

pub use_counts : (f : ℕ → ℕ → ℕ) → ((n : ℕ) → f n 0 ≡ n) → (rows : List Row) (new : List ℕ) (symbol : SymbolId) → symbol.0 < length rows
    → new ≡ set (uses_in rows) symbol.0 (f (get_or (uses_in rows) symbol.0 0) 1) → (place : ℕ)
    → slice_get new place ≡ option_map (λ n. f n (occurrences (record { 0 = place }) (symbol ∷ []))) (slice_get (uses_in rows) place)
use_counts f none rows new symbol within is place =
    ap (λ (us : List ℕ). slice_get us place) is ∙ one_count f none (uses_in rows) symbol
    (omega (arith, within, length-map rows (λ (row : Row). row.uses))) place

-- as many left sides as rows
pub same_count : (new old : List Row) → lefts_in new ≡ lefts_in old → length new ≡ length old
same_count new old same = omega (arith, ap length same, length-map new (λ (row : Row). row.rules), length-map old (λ (row : Row). row.rules))

pub same_uses : (new old : List Row) → lefts_in new ≡ lefts_in old → length (uses_in new) ≡ length (uses_in old)
same_uses new old same = omega (arith, same_count new old same, length-map new (λ (row : Row). row.uses), length-map old (λ (row : Row). row.uses))
