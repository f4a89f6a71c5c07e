-- What a scan does to a graph.
use Rattle.std.specs.Prelude.{◌≡◌, ◌⊎◌, ℕ, Contains}
use Rattle.isg_states.specs.declared.scan_key.ScanKey.{ScanKey}
use Rattle.live_graph.specs.Meaning.{GraphMeaning}
use Rattle.live_graph.specs.Cost.{RisesAsCost}

-- all of the graph stands but the states that it was asked for, and what they cost
pub record StandsButScans {Base : Type 0} (old new : GraphMeaning Base) : Type 0 where
  pub grammar : new.grammar ≡ old.grammar
  pub base : new.base ≡ old.base
  pub kernels : new.kernels ≡ old.kernels

-- the graph was asked for wanted states alone, and the steps rose as its cost
pub record AsksOnly {Base : Type 0} (Wanted : ScanKey → Type 0) (old new : GraphMeaning Base) (before after : ℕ) : Type 0 where
  pub kept : (key : ScanKey) → Contains old.scans.keys key → Contains new.scans.keys key
  pub within : (key : ScanKey) → Contains new.scans.keys key → Contains old.scans.keys key ⊎ Wanted key
  pub rises : RisesAsCost old new before after
