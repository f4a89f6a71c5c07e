-- What a hand means: its view, with the sizes, and its table.
use Rattle.std.specs.Prelude.{ℕ}
use Rattle.atomic_table.specs.Seated.{TableId}
use Rattle.lend.specs.Loans.{age_of}
use Rattle.pin_rule.specs.declared.sizes.Sizes.{Sizes}
use Rattle.pin_rule.specs.declared.view.View.{View}
use Rattle.pin_rule.specs.declared.hand.Hand.{Hand}

module _ {C : Type 0} where
  abbrev pub view_of : Hand C → View
  view_of h = h.seat.me.0

  abbrev pub sizes_of : Hand C → Sizes
  sizes_of h = h.seat.me.0.sizes

  -- two hands are of one table exactly where these are equal
  abbrev pub table_of : Hand C → TableId × ℕ
  table_of h = (h.seat.table_id, age_of h.table)
