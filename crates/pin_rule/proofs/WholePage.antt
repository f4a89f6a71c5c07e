-- What the editor knows of the page in the making, and what the rule says of it, make it a page of the next version.
use Rattle.std.proofs.Common.{◌≡◌, ℕ, suc, ◌<◌, List, slice_index, sym, refl, ◌∙◌, subst, arith}
use mathlib.Core.Option as maybe
use lib.ListN.{get_elem?}
use Rattle.std.specs.Prelude.{Some}
use Rattle.pin_rule.specs.declared.content.Entry.{Entry}
use Rattle.pin_rule.specs.declared.view.View.{View}
use Rattle.pin_rule.specs.declared.view.Making.{Making}
use Rattle.pin_rule.specs.Layout.{entry, row_at}
use Rattle.pin_rule.specs.Rows.{key_of, content_of, on_path}
use Rattle.pin_rule.specs.Views.{now}
use Rattle.pin_rule.specs.Pages.{StandsOnPath, IsEntry, IsPage, IsHeld}
use Rattle.pin_rule.specs.PartCurrent.{IsMaking, IsNextLog}
use Rattle.pin_rule.specs.Lawful.{Lawful}
use Rattle.pin_rule.specs.Making.{next_log}
use Rattle.pin_rule.specs.NextVersion.{IsWritten, IsWholePage}
use Rattle.pin_rule.proofs.Paths.{on_page}
use Rattle.pin_rule.proofs.Versions.{newest_live, editor_log}
use Rattle.pin_rule.proofs.Telling.{key_is}

module _ (L : List Entry → Type 0) (F : List Entry → List ℕ → Type 0) (v : View) (m : Making) (words : List ℕ) (views : List View) (id : ℕ)
    (at : get_elem? views id ≡ maybe.some v) (h : Lawful L F v.sizes words views) (has : v.role ≡ Some h.role) (making : h.role.making ≡ Some m)
    (whole : IsWholePage v m) where
  made : IsMaking v.sizes words h.log m
  made = h.current.making m making

  -- the places are as they were written
  pub is_written : (place : ℕ) → place < v.sizes.places → entry v.sizes words m.page place ≡ slice_index m.places place
  is_written place lt = let all = whole.places_whole in made.places_are place (omega arith)

  pub writes : (place row : ℕ) → place < v.sizes.places → entry v.sizes words m.page place ≡ suc row → IsWritten m place row
  writes place row lt e = let all = whole.places_whole in (omega arith, sym (is_written place lt) ∙ e)

  pub is_next : IsNextLog h.log m.entry (next_log h.log m)
  is_next = (whole.entry_whole, record { words = m.entry }, refl, refl)

  pub from_newest : (place row : ℕ) → IsWritten m place row
      → IsHeld v.sizes words h.role.newest.page row × F (next_log h.log m) (content_of (row_at v.sizes words row))
  from_newest place row w = h.carried.kept m (next_log h.log m) place row making is_next w.0 w.1

  newest_is : h.role.newest.version ≡ now v
  newest_is = sym h.current.version ∙ sym (editor_log L F v.sizes words views id v at h h.role has)

  key_read : (place row : ℕ) → IsWritten m place row → key_of (row_at v.sizes words row) ≡ key_of (whole.words row)
  key_read place row w = key_is L F v.sizes words views id v at h h.role.newest (newest_live h.role) newest_is row (whole.words row) (whole.keys place row w)

  entry_is : (place row : ℕ) → IsWritten m place row → IsEntry v.sizes words (F (next_log h.log m)) m.page place row
  entry_is place row w = let k = from_newest place row w in let z = v.sizes in
      let old = (h.pages h.role.newest (newest_live h.role)).entries k.0.0 row k.0.1 k.0.2 in let p = whole.paths place row w in record {
        in_range = old.in_range;
        in_use = old.in_use;
        room = old.room;
        fitting = k.1;
        path = subst (StandsOnPath z words m.page place) (sym (key_read place row w)) (
          p.0,
          p.1,
          p.2,
          λ before lt e. let step = p.1 in p.3 before lt
              (sym (is_written (on_path z (key_of (whole.words row)) before) (on_page z (key_of (whole.words row)) (omega arith) before)) ∙ e),
        );
      }

  pub whole_page : IsPage v.sizes words (F (next_log h.log m)) m.page
  whole_page = record {
    entries = λ p row lt e. entry_is p row (writes p row lt e);
    keys_once = λ p q a b pi qi ea eb same. let x = writes p a pi ea in let y = writes q b qi eb in
        whole.keys_once p q a b x y (sym (key_read p a x) ∙ same ∙ key_read q b y);
  }
