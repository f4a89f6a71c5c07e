-- The walk of a row to its place.
use Rattle.std.proofs.Common.{◌≡◌, ℕ, suc, ◌+◌, ◌<◌, ◌≤◌, List, [], ◌∷◌, ◌++◌, length, append_assoc, sym, ap, ◌∙◌, subst, arith}
use Rattle.slot_store.specs.declared.site.Site.{Site}
use Rattle.pin_rule.specs.declared.content.Entry.{Entry}
use Rattle.pin_rule.specs.declared.view.View.{View}
use Rattle.pin_rule.specs.declared.view.Step.{Step}
use Rattle.pin_rule.specs.Steps.{published}
use Rattle.pin_rule.proofs.Lists.{in_right}
use Rattle.slot_store.specs.declared.placing.Placed.TheVariants as placed
use Rattle.slot_store.specs.Keys.{row_of}
use Rattle.slot_store.specs.Known.{IsSoleAt, LacksKey}
use Rattle.slot_store.proofs.LaterPlaces.{lacks_back}
use Rattle.slot_store.proofs.Lacking.{sole_on}
use Rattle.slot_store.specs.Walks.{MovesBy, OwnsRow, IsPlaceable, IsRowStep, Walking, Compares, Settles, Offers, Places}
use Rattle.slot_store.proofs.ByWord.{head_in_row}
use Rattle.slot_store.proofs.Growing.{moves_on, plain_row}
use Rattle.slot_store.proofs.Passing.{Meets, on_the_page, moves_all, met_all, at_all, key_all}

-- the steps before leave a row settled
abbrev pub settles_after : (z : Site) (v w u : View) (a b : List Step) (place row : ℕ) (words : List ℕ) → MovesBy (IsRowStep z.sizes row words) v w a
    → Settles z w u b place row words
    → Settles z v u (a ++ b) place row words
settles_after z v w u a b place row words m s = record {
  before = a ++ s.before;
  view = s.view;
  moves = moves_on v w s.view a s.before m s.moves;
  wrote = s.wrote;
  stores = λ index lt. in_right _ a s.before (s.stores index lt);
  is = s.is;
  entry = ap (λ (l : List Step). a ++ l) s.entry ∙ sym (append_assoc a s.before (published z.sizes z.page place row 0 ∷ []));
  empty = s.empty;
}

-- a key that is lacked later was lacked before
pub lacks_before : {P : Step → Type 0} (z : Site) (v w : View) (a : List Step) (key : List ℕ) → MovesBy P v w a → (IsSoleAt z w → LacksKey w.known key)
    → IsSoleAt z v
    → LacksKey v.known key
lacks_before z v w a key m lacks sole = lacks_back v.known w.known key (m.known sole.share sole.every) (lacks (sole_on z v w a m sole))

module _ (z : Site) (v w : View) (key payload : List ℕ) (row steps place : ℕ)
    (walk : Walking (IsRowStep z.sizes row (row_of key payload)) z v w key steps place) where
  abbrev pub words : List ℕ
  words = row_of key payload

  abbrev pub P : Step → Type 0
  P = IsRowStep z.sizes row (row_of key payload)

  pub placeable : (F : List Entry → List ℕ → Type 0) → OwnsRow w row → 2 + (length key + length payload) ≤ z.sizes.width
      → F v.log (row_of key payload) → steps < z.sizes.places
      → IsPlaceable (F w.log) z w row key payload steps place
  placeable F owns room fits lt = record {
    owns = owns;
    room = room;
    fitting = subst (λ (log : List Entry). F log (row_of key payload)) (sym walk.moves.log) fits;
    inside = lt;
    at = sym walk.at;
    passed = λ before less. let m = walk.passed before less in let o = m.3 in
        (m.0, o.0, o.1, m.2, o.2.1, o.3.0, o.3.1, λ e. o.4 (e ∙ head_in_row key payload o.0 o.3));
  }

  module _ (u : View) (n : ℕ) (f : Offers z w u place row key (row_of key payload) n) where
    pub here : steps < z.sizes.places → n ≡ 0 → Places z v u row key (row_of key payload) placed.Here
    here lt e = let won = f.won e in record {
      added = walk.added ++ f.added;
      is = (
        (
          place,
          on_the_page P z v w key steps place walk lt,
          settles_after z v w u walk.added f.added place row (row_of key payload) walk.moves won.0,
        ),
        lacks_before z v w walk.added key walk.moves won.1,
      );
    }

    pub other : (r : ℕ) → n ≡ suc r → Meets (IsRowStep z.sizes row (row_of key payload)) z w u place r
    other r e = let l = f.lost r e in record { added = f.added; moves = l.moves; met = l.met; at = l.at; version = l.version }

    pub owns_on : (r : ℕ) → n ≡ suc r → (x : View) (same : Type 0) → Compares z u x r key same → OwnsRow x row
    owns_on r e x same c = let o = (f.lost r e).owns in (o.0, c.own ∙ o.1, o.2)

    pub already : steps < z.sizes.places → (r : ℕ) (e : n ≡ suc r) (x : View) (same : Type 0) → Compares z u x r key same → same
        → Places z v x row key (row_of key payload) placed.Already
    already lt r e x same c yes_it_is = let m = other r e in let plain = plain_row z.sizes row (row_of key payload) in record {
      added = walk.added ++ (m.added ++ c.added);
      is = (
        moves_all P plain z v w key steps place walk u x r m same c,
        owns_on r e x same c,
        (
          place,
          r,
          on_the_page P z v w key steps place walk lt,
          met_all P plain z v w key steps place walk u x r m same c,
          at_all P plain z v w key steps place walk u x r m same c,
          key_all P plain z v w key steps place walk u x r m same c yes_it_is,
        ),
      );
    }

pub full : (z : Site) (v w : View) (key words : List ℕ) (row steps place : ℕ) → z.sizes.places ≤ steps → OwnsRow w row
    → Walking (IsRowStep z.sizes row words) z v w key steps place → Places z v w row key words placed.Full
full z v w key words row steps place all owns walk = record {
  added = walk.added;
  is = (walk.moves, owns, λ before lt. walk.passed before (omega arith));
}
