-- The condition of a step: whatever the words and the other views are, if the rule holds and this seat has this view, the rule holds after the step too.
use Rattle.std.specs.Prelude.{◌≡◌, ℕ, List, slice_index, slice_set}
use mathlib.Core.Option as maybe
use lib.ListN.{get_elem?}
use Rattle.atomic_table.specs.Table.{State, Splits, Joins}
use Rattle.pin_rule.specs.declared.sizes.Sizes.{Sizes}
use Rattle.pin_rule.specs.declared.content.Entry.{Entry}
use Rattle.pin_rule.specs.declared.view.View.{View}
use Rattle.pin_rule.specs.declared.ops.Op.{Op}
use Rattle.pin_rule.specs.Ops.{word_of, does}
use Rattle.pin_rule.specs.Steps.{after, after_split, split_off, after_join, spent_view}
use Rattle.pin_rule.specs.Lawful.{Lawful}

abbrev pub Law : Type 1
Law = State (Unit {0}) View → Type 0

abbrev pub law_of : (List Entry → Type 0) → (List Entry → List ℕ → Type 0) → Sizes → Law
law_of lawful fits z s = Lawful lawful fits z s.words s.views

module _ (lawful : List Entry → Type 0) (fits : List Entry → List ℕ → Type 0) (v : View) where
  -- the word that the operation names becomes what it does to the word met, and the view that which the operation leads to
  abbrev pub Keeps : Op → Type 0
  Keeps op = (words : List ℕ) (views : List View) (id : ℕ) (met : ℕ) → Lawful lawful fits v.sizes words views → get_elem? views id ≡ maybe.some v
      → slice_index words (word_of v.sizes op) ≡ met
      → Lawful lawful fits v.sizes (slice_set words (word_of v.sizes op) (does op met)) (slice_set views id (after v op met))

  -- the view is cut in two, and a new seat has the second
  abbrev pub KeepsSplit : ℕ → Type 0
  KeepsSplit pins = (id : ℕ) → Splits (law_of lawful fits v.sizes) id v (after_split v pins) (split_off v pins)

  -- the view takes in another, and that one is spent
  abbrev pub KeepsJoin : View → Type 0
  KeepsJoin w = (id other : ℕ) → Joins (law_of lawful fits v.sizes) id v other w (after_join v w) spent_view

-- the view has the sizes and the share of the other
abbrev pub Alike : View → View → Type 0
Alike v w = (w.sizes ≡ v.sizes) × (w.share ≡ v.share)
