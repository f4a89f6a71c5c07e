-- The hand of a lone bench, before its calls and after them.
use Rattle.std.proofs.Common.{◌≡◌, ℕ, List, [], sym, ◌∙◌, subst}
use Rattle.std.specs.Prelude.{Some}
use Rattle.pin_rule.specs.declared.sizes.Sizes.{Sizes}
use Rattle.pin_rule.specs.declared.view.View.{View}
use Rattle.pin_rule.specs.Views.{whole}
use Rattle.slot_store.specs.declared.site.Site.{Site}
use Rattle.pin_rule.specs.Lists.{In}
use Rattle.pin_rule.specs.Told.{IsOfOnePage, IsTold}
use Rattle.slot_store.specs.declared.finding.Glance.{Glance}
use Rattle.slot_store.specs.Keys.{row_of}
use Rattle.slot_store.specs.Known.{AreLater, KnowsPlaces, IsSoleAt, LacksKey, IsFilled, HoldsRow}
use Rattle.slot_store.specs.GraphAnswers.{HasRowWith, HasRows}
use Rattle.slot_store.specs.Walks.{Glances}
use Rattle.version_store.proofs.KeyedRows.{holds_row, lacks_row}
use Rattle.version_store.proofs.LoneAnswers.{whole_later, rows_later, filled_count}
use Rattle.version_store.specs.Roles.{role_of}
use Rattle.version_store.specs.Graphs.{rows_known, IsWholeKnown}

pub sole : (z : Site) (v : View) → v.sizes ≡ z.sizes → v.share ≡ whole → v.role ≡ Some (role_of v) → (role_of v).older
    ≡ []
    → (role_of v).newest.version ≡ z.version
    → (role_of v).newest.page ≡ z.page
    → IsWholeKnown z.sizes v.known
    → IsSoleAt z v
sole z v sizes all has one version page known = record {
  share = all;
  role = role_of v;
  has = has;
  one_version = one;
  version = version;
  page = page;
  every = subst (λ (y : Sizes). KnowsPlaces y v.known) (sym sizes) known.every;
}

-- what a look leaves
module _ (F G : List ℕ → Type 0) (z : Site) (v w : View) (key buffer : List ℕ) (g : Glance) (k : Glances z G v w key buffer g) (told : IsTold F w z.version)
    (measured : v.sizes ≡ z.sizes) (alone : IsSoleAt z v) (known : IsWholeKnown z.sizes v.known) where
  one : IsOfOnePage z.sizes w.known
  one = subst (λ (y : Sizes). IsOfOnePage y w.known) (k.moves.sizes ∙ measured) (told.one_page (k.moves.share ∙ alone.share))

  later : AreLater v.known w.known
  later = k.moves.known alone.share alone.every

  pub whole_after : IsWholeKnown z.sizes w.known
  whole_after = whole_later z.sizes v.known w.known known one later

  pub same_graph : rows_known w.known ≡ rows_known v.known
  same_graph = rows_later z.sizes v.known w.known known one later

  pub found_row : (payload : List ℕ) → HoldsRow w.known (row_of key payload) → In (row_of key payload) (rows_known v.known)
  found_row payload h = subst (In (row_of key payload)) same_graph (holds_row z.sizes w.known whole_after key payload h)

  pub no_row : LacksKey v.known key → ¬ (HasRowWith (rows_known v.known) key)
  no_row lacks = lacks_row z.sizes v.known known key lacks

  pub all_rows : IsFilled v.known → HasRows (rows_known v.known) v.sizes.places
  all_rows filled = subst (λ (y : Sizes). HasRows (rows_known v.known) y.places) (sym measured) (filled_count z.sizes v.known w.known known one later filled)
