-- What those that work with a table keep, so that they can be gathered again.
use Rattle.std.specs.Prelude.{◌≡◌, ℕ, ◌≤◌, List}
use Rattle.atomic_table.specs.Seated.{TableId}
use Rattle.pin_rule.specs.Lists.{Each, total}
use Rattle.slot_store.specs.Meaning.{Meaning, PassMeaning}
use Rattle.version_store.specs.Meaning.{BenchMeaning}

-- a page and its user stay the same in all but the user's own row, the graph and the steps
pub record StaysSeated (m n : Meaning) : Type 0 where
  pub sizes : n.sizes ≡ m.sizes
  pub table : n.table ≡ m.table
  pub share : n.share ≡ m.share
  pub pins_left : n.pins_left ≡ m.pins_left

-- a pass comes back from its work with its share of the same table, and with no more pins
pub record IsBack (p q : PassMeaning) : Type 0 where
  pub table : q.table ≡ p.table
  pub share : q.share ≡ p.share
  pub pins_left : q.pins_left ≤ p.pins_left

-- passes come back with all their shares of the same table, and together with no more pins
pub record AreBack (ps qs : List PassMeaning) : Type 0 where
  pub tables : (t : TableId × ℕ) → Each (λ (p : PassMeaning). p.table ≡ t) ps → Each (λ (q : PassMeaning). q.table ≡ t) qs
  pub shares : total (λ (q : PassMeaning). q.share) qs ≡ total (λ (p : PassMeaning). p.share) ps
  pub pins_left : total (λ (q : PassMeaning). q.pins_left) qs ≤ total (λ (p : PassMeaning). p.pins_left) ps

-- a bench stays the same in what it needs to be parted and gathered
pub record HasSamePins (m n : BenchMeaning) : Type 0 where
  pub sizes : n.sizes ≡ m.sizes
  pub pins_left : n.pins_left ≡ m.pins_left

-- no more pins are left than a table has in its life
abbrev pub HasPinsOfTable : BenchMeaning → Type 0
HasPinsOfTable m = m.pins_left ≤ m.sizes.pins
