-- What one command does to the bench that serves it alone.
use Rattle.std.specs.Prelude.{◌≡◌, Result, Ok, Err}
use Rattle.edit_log.specs.History.{Grammar}
use Rattle.graph_content.specs.Contents.{IsLogOfGrammar}
use Rattle.version_store.specs.Meaning.{BenchMeaning}
use Rattle.sections.specs.declared.alone.AloneError.{AloneError}
use Rattle.sections.specs.declared.alone.AloneError.TheVariants.{Spent, NoMemory}

-- the bench serves the next command: its log is that of the grammar, and it has the table and the sizes that it had
pub record ServesNext (old new : BenchMeaning) (grammar : Grammar) : Type 0 where
  pub log : IsLogOfGrammar new.log grammar
  pub sizes : new.sizes ≡ old.sizes
  pub table : new.table ≡ old.table

-- a command was refused since no pin is left
abbrev pub IsSpent : {A B : Type 0} → Result A (B × AloneError) → Type 0
IsSpent (Ok alone) = ⊥
IsSpent (Err (bench, Spent)) = Unit {0}
IsSpent (Err (bench, NoMemory)) = ⊥
