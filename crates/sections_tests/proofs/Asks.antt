-- A key that was asked for leaves what the graph stands on, and a state that is found among the ranges is of the grammar.
use Rattle.std.proofs.Common.{◌≡◌, ℕ, List, Option, Some, None, IfSome, Result, Ok, sym, subst, Contains}
use Rattle.std.specs.Prelude.{OnOk}
use Rattle.item_sets.specs.declared.item.Item.{Item}
use Rattle.edit_log.specs.History.{Grammar}
use Rattle.isg_states.specs.declared.scan_key.ScanKey.{ScanKey}
use Rattle.isg_states.specs.Expansion.{Range, AreMarks, IsScanExpansionOf}
use Rattle.isg_states.proofs.Tables.{range_marks}
use Rattle.live_graph.specs.Meaning.{GraphMeaning}
use Rattle.live_graph.specs.Asking.{AsksScan, AsksKernel}

-- what follows from an answer follows where there is one
with_ok : {X E : Type 0} (result : Result X E) (value : X) (P : Type 0) → result ≡ Ok value → OnOk result P → P
with_ok result value P is holds = subst (λ r. OnOk r P) is holds

module _ {Base X E : Type 0} (old new : GraphMeaning Base) (before after : ℕ) (result : Result X E) (value : X) (is : result ≡ Ok value) where
  pub scan_grammar : (key : ScanKey) → OnOk result (AsksScan old key new before after) → new.grammar ≡ old.grammar
  scan_grammar key asks = (with_ok result value (AsksScan old key new before after) is asks).grammar

  pub scan_base : (key : ScanKey) → OnOk result (AsksScan old key new before after) → new.base ≡ old.base
  scan_base key asks = (with_ok result value (AsksScan old key new before after) is asks).base

  pub kernel_grammar : (key : List Item) → OnOk result (AsksKernel old key new before after) → new.grammar ≡ old.grammar
  kernel_grammar key asks = (with_ok result value (AsksKernel old key new before after) is asks).grammar

  pub kernel_base : (key : List Item) → OnOk result (AsksKernel old key new before after) → new.base ≡ old.base
  kernel_base key asks = (with_ok result value (AsksKernel old key new before after) is asks).base

pub found_marks : (grammar : Grammar) (key : ScanKey) (ranges : List Range) → IsScanExpansionOf grammar key ranges → (found : Option ScanKey)
    → IfSome found (λ k. (range : Range) × Contains ranges range × (k ≡ range.2)) → IfSome found (λ k. AreMarks grammar k)
found_marks grammar key ranges is None among = among
found_marks grammar key ranges is (Some k) among =
    subst (AreMarks grammar) (sym among.2) (range_marks grammar key among.0 (is.each among.0 among.1))
