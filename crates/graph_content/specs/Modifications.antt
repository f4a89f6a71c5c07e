-- What chooses the rows that an edit leaves.
use Rattle.std.specs.Prelude.{ℕ, ◌+◌, min, Bool, true, false}
use Rattle.edit_log.specs.declared.touch.Touch.{Touch}
use Rattle.edit_log.specs.History.{Grammar}
use Rattle.row_coding.specs.declared.kinds.Kind.{Kind}
use Rattle.row_coding.specs.declared.kinds.Kind.TheVariants.{Items, Scan}

-- a grammar, what an edit touches in it, and how many rows were refused so far, of item sets and of scanner states
pub record Modification : Type 0 where
  pub grammar : Grammar
  pub touch : Touch
  pub items : ℕ
  pub scan : ℕ

-- one more, up to the last number of 32 bits, where the count stands still
abbrev pub counted_on : ℕ → ℕ
counted_on count = min (count + 1) 4294967295

-- the counts after a row of this kind, which was kept or not
abbrev pub after_row : Modification → Kind → (kept : Bool) → Modification
after_row m kind true = m
after_row m Items false = record { grammar = m.grammar; touch = m.touch; items = counted_on m.items; scan = m.scan }
after_row m Scan false = record { grammar = m.grammar; touch = m.touch; items = m.items; scan = counted_on m.scan }
