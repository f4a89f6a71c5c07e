-- What a page means.
use Rattle.std.specs.Prelude.{ℕ, List, Option, None, ◌++◌}
use Rattle.atomic_table.specs.Seated.{TableId}
use Rattle.pin_rule.specs.declared.sizes.Sizes.{Sizes}
use Rattle.pin_rule.specs.declared.content.Entry.{Entry}
use Rattle.pin_rule.specs.declared.view.OwnRow.{OwnRow}
use Rattle.pin_rule.specs.declared.view.Step.{Step}
use Rattle.pin_rule.specs.declared.view.View.{View}

-- The sizes of the table, the number of the page there, the log of the version, the table, and of the user its share, its pins left, its own row and its
-- steps. Where the page tells it, its graph is the rows that it holds, each the list of its words; two graphs are compared by their members
pub record Meaning : Type 0 where
  pub sizes : Sizes
  pub page : ℕ
  pub log : List Entry
  pub table : TableId × ℕ
  pub share : ℕ
  pub pins_left : ℕ
  pub own : Option OwnRow
  pub graph : Option (List (List ℕ))
  pub steps : List Step

abbrev pub with_graph : Meaning → Option (List (List ℕ)) → Meaning
with_graph m graph = record m { graph = graph }

-- some steps later, with all else as it was
abbrev pub extended : Meaning → List Step → Meaning
extended m added = record m { steps = m.steps ++ added }

-- of a user whose page does not tell its graph
abbrev pub meaning_of : View → ℕ → TableId × ℕ → Meaning
meaning_of v page table = record {
  sizes = v.sizes;
  page = page;
  log = v.log;
  table = table;
  share = v.share;
  pins_left = v.pins_left;
  own = v.own;
  graph = None;
  steps = v.steps;
}

-- what a user means that has no pin
pub record PassMeaning : Type 0 where
  pub sizes : Sizes
  pub log : List Entry
  pub table : TableId × ℕ
  pub share : ℕ
  pub pins_left : ℕ
  pub steps : List Step

abbrev pub pass_meaning : View → TableId × ℕ → PassMeaning
pass_meaning v table = record { sizes = v.sizes; log = v.log; table = table; share = v.share; pins_left = v.pins_left; steps = v.steps }
