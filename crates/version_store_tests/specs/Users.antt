-- What a user keeps while it pins, publishes and unpins.
use Rattle.std.specs.Prelude.{◌≡◌, ◌≤◌}
use Rattle.slot_store.specs.Meaning.{Meaning, PassMeaning}

pub record IsSamePass (p q : PassMeaning) : Type 0 where
  pub table : q.table ≡ p.table
  pub share : q.share ≡ p.share
  pub pins : q.pins_left ≤ p.pins_left

pub record IsSamePage (m n : Meaning) : Type 0 where
  pub table : n.table ≡ m.table
  pub share : n.share ≡ m.share
  pub pins_left : n.pins_left ≡ m.pins_left
