-- How a scan reads on from where a piece begins.
use Rattle.std.proofs.Common.{◌≡◌, ℕ, ◌<◌, ◌≤◌, List, length, Option, Some, None, slice_get, sym, ◌∙◌, subst, arith}
use Rattle.std.proofs.lemmas.Option.{same_Some}
use Rattle.edit_log.specs.declared.definitions.DefKind.{DefKind}
use Rattle.isg_states.specs.declared.scan_key.ScanKey.{ScanKey}
use Rattle.live_graph.specs.Meaning.{GraphMeaning}
use Rattle.isg_scan.specs.Asked.{StandsButScans, AsksOnly}
use Rattle.isg_scan.specs.Reach.{MeetsState}
use Rattle.forest.specs.Numbers.{KeepsNumbers}
use Rattle.isg_scan.specs.States.{KnowsStates}
use Rattle.isg_scan.specs.Walks.{IsPieceWalk}
use Rattle.isg_scan.proofs.AskedKeys.{asks_none, asks_join, stands_same, stands_join}
use Rattle.isg_scan.proofs.WalkSteps.{walk_start, walk_asked, state_met}

-- the text was read so far, for which the graph was asked for states that are met in it alone
pub record IsReading {Base : Type 0} (old now : GraphMeaning Base) (keys : List ScanKey) (accepted : List (Option DefKind)) (table text : List ℕ) (at state : ℕ)
    (best : Option (ℕ × DefKind))
    (before after : ℕ) : Type 0 where
  pub knows : KnowsStates now.grammar now.scans.keys keys accepted table
  pub walk : IsPieceWalk now.grammar now.scans.keys keys text at state best
  pub asks : AsksOnly (MeetsState old.grammar text) old now before after
  pub stands : StandsButScans old now
  pub never_back : before ≤ after

module _ {Base : Type 0} (old : GraphMeaning Base) (text : List ℕ) where
  pub reading_start : (keys : List ScanKey) (accepted : List (Option DefKind)) (table : List ℕ) (steps : ℕ)
      → KnowsStates old.grammar old.scans.keys keys accepted table
      → IsReading old old keys accepted table text 0 0 None steps steps
  reading_start keys accepted table steps knows = record {
    knows = knows;
    walk = walk_start old.grammar old.scans.keys keys text knows.states.start;
    asks = asks_none (MeetsState old.grammar text) old steps;
    stands = stands_same old;
    never_back = omega arith;
  }

  -- the entry for the next byte is known now
  pub reading_asked : (now new : GraphMeaning Base) (keys others : List ScanKey) (accepted kinds : List (Option DefKind)) (table rows : List ℕ) (at state : ℕ)
      (best : Option (ℕ × DefKind)) (before between after : ℕ)
      → IsReading old now keys accepted table text at state best before between → at < length text
      → AsksOnly (λ key. slice_get keys state ≡ Some key) now new between after → StandsButScans now new → between ≤ after
      → KeepsNumbers keys others → KnowsStates new.grammar new.scans.keys others kinds rows → IsReading old new others kinds rows text at state best before
      after
  reading_asked now new keys others accepted kinds table rows at state best before between after reading within asks stands on keeps knows =
      let walk = reading.walk in
      record {
        knows = knows;
        walk = subst (λ grammar. IsPieceWalk grammar new.scans.keys others text at state best) (sym stands.grammar)
            (walk_asked now.grammar now.scans.keys new.scans.keys keys others text at state best asks.kept keeps walk);
        asks = asks_join (MeetsState old.grammar text) (λ key. slice_get keys state ≡ Some key)
            (MeetsState old.grammar text) old now new before between after (λ key
            meets. meets)
            (λ key at_key. subst (λ grammar. MeetsState grammar text key) reading.stands.grammar
            (subst (MeetsState now.grammar text) (same_Some walk.key key (sym walk.number ∙ at_key))
            (state_met now.grammar text at walk.key within walk.after)))
            reading.asks asks;
        stands = stands_join old now new reading.stands stands;
        never_back = omega (arith, reading.never_back, on);
      }
