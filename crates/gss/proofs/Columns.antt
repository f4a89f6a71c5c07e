-- Columns of rows, and what a write in one row makes of them.
use Rattle.std.proofs.Common.{◌≡◌, ℕ, zero, suc, ◌<◌, List, [], ◌∷◌, length, map, get_or, Some, slice_get, refl, sym, ap, ◌∙◌, arith}
use Rattle.std.proofs.Math.ListN.{set}
use Rattle.std.proofs.Math.Seq.{map-set_same}
use Rattle.std.proofs.lemmas.List.{map-set}
use Rattle.std.proofs.lemmas.Option.{slice_get-get_or, slice_get_within, same_Some}
use Rattle.gss.specs.declared.rows.NodeRow.{NodeRow}
use Rattle.gss.specs.declared.rows.LinkRow.{LinkRow}
use Rattle.gss.specs.Rows.{PutsAbove, PutsLast, PutsFirst, PutsNext}

pub to_column : {X Y : Type 0} (f : X → Y) (xs : List X) (l : ℕ) (x : X) → slice_get xs l ≡ Some x → slice_get (map f xs) l ≡ Some (f x)
to_column f [] l x at = absurd (omega (arith, slice_get_within [] l x at))
to_column f (y ∷ xs) zero x at = ap (λ z. Some (f z)) (same_Some y x at)
to_column f (y ∷ xs) (suc l) x at = to_column f xs l x at

pub from_column : {X Y : Type 0} (f : X → Y) (xs : List X) (l : ℕ) (y : Y) → slice_get (map f xs) l ≡ Some y → (x : X) × (slice_get xs l ≡ Some x) × (f x ≡ y)
from_column f [] l y at = absurd (omega (arith, slice_get_within [] l y at))
from_column f (x ∷ xs) zero y at = (x, refl, same_Some (f x) y at)
from_column f (x ∷ xs) (suc l) y at = from_column f xs l y at

-- what was read of a row stands in its column
pub read_column : {X Y : Type 0} (f : X → Y) (xs : List X) (l : ℕ) (d : X) → l < length xs → slice_get (map f xs) l ≡ Some (f (get_or xs l d))
read_column f xs l d within = to_column f xs l (get_or xs l d) (slice_get-get_or xs l d within)

pub row_column : {X Y : Type 0} (f : X → Y) (xs : List X) (l : ℕ) (x : X) → l < length xs → x ≡ get_or xs l x → slice_get (map f xs) l ≡ Some (f x)
row_column f xs l x within is = read_column f xs l x within ∙ ap (λ z. Some (f z)) (sym is)

module _ (rows : List NodeRow) (n link : ℕ) (row : NodeRow) (is : row ≡ get_or rows n row) where
  place_is : row.place ≡ (get_or rows n row).place
  place_is = ap (λ (r : NodeRow). r.place) is

  first_is : row.first ≡ (get_or rows n row).first
  first_is = ap (λ (r : NodeRow). r.first) is

  last_is : row.last ≡ (get_or rows n row).last
  last_is = ap (λ (r : NodeRow). r.last) is

  above_is : row.above ≡ (get_or rows n row).above
  above_is = ap (λ (r : NodeRow). r.above) is

  pub puts_above : PutsAbove rows (set rows n (record { place = row.place; first = row.first; last = row.last; above = link })) n link
  puts_above =
      let new : NodeRow = record { place = row.place; first = row.first; last = row.last; above = link } in
      record {
        place = map-set_same (λ (r : NodeRow). r.place) rows n new row place_is;
        first = map-set_same (λ (r : NodeRow). r.first) rows n new row first_is;
        last = map-set_same (λ (r : NodeRow). r.last) rows n new row last_is;
        above = map-set (λ (r : NodeRow). r.above) rows n new;
      }

  pub puts_last : PutsLast rows (set rows n (record { place = row.place; first = row.first; last = link; above = row.above })) n link
  puts_last =
      let new : NodeRow = record { place = row.place; first = row.first; last = link; above = row.above } in
      record {
        place = map-set_same (λ (r : NodeRow). r.place) rows n new row place_is;
        first = map-set_same (λ (r : NodeRow). r.first) rows n new row first_is;
        last = map-set (λ (r : NodeRow). r.last) rows n new;
        above = map-set_same (λ (r : NodeRow). r.above) rows n new row above_is;
      }

  pub puts_first : PutsFirst rows (set rows n (record { place = row.place; first = link; last = row.last; above = row.above })) n link
  puts_first =
      let new : NodeRow = record { place = row.place; first = link; last = row.last; above = row.above } in
      record {
        place = map-set_same (λ (r : NodeRow). r.place) rows n new row place_is;
        first = map-set (λ (r : NodeRow). r.first) rows n new;
        last = map-set_same (λ (r : NodeRow). r.last) rows n new row last_is;
        above = map-set_same (λ (r : NodeRow). r.above) rows n new row above_is;
      }

pub puts_next : (rows : List LinkRow) (before link : ℕ) (row : LinkRow) → row ≡ get_or rows before row
    → PutsNext rows (set rows before (record { edge = row.edge; next = link; older = row.older })) before link
puts_next rows before link row is =
    let new : LinkRow = record { edge = row.edge; next = link; older = row.older } in
    record {
      edge = map-set_same (λ (r : LinkRow). r.edge) rows before new row (ap (λ (r : LinkRow). r.edge) is);
      next = map-set (λ (r : LinkRow). r.next) rows before new;
      older = map-set_same (λ (r : LinkRow). r.older) rows before new row (ap (λ (r : LinkRow). r.older) is);
    }
