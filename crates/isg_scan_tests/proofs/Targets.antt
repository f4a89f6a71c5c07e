-- The states to which an expansion leads are of the grammar, also after the ask.
use Rattle.std.proofs.Common.{◌≡◌, ℕ, List, Option, Some, None, IfSome, Result, Ok, sym, subst, Contains}
use Rattle.std.specs.Prelude.{OnOk}
use Rattle.edit_log.specs.History.{Grammar}
use Rattle.isg_states.specs.declared.scan_key.ScanKey.{ScanKey}
use Rattle.isg_states.specs.Expansion.{Range, AreMarks, IsScanExpansionOf}
use Rattle.isg_states.proofs.Tables.{range_marks}
use Rattle.live_graph.specs.Meaning.{GraphMeaning}
use Rattle.live_graph.specs.Asking.{AsksScan}
use Rattle.isg_scan.proofs.Ranges.{on_ok}

-- an ask that is answered leaves the grammar
pub same_grammar : {Base X E : Type 0} (old new : GraphMeaning Base) (key : ScanKey) (before after : ℕ) (result : Result X E) (value : X)
    → OnOk result (AsksScan old key new before after) → result ≡ Ok value → new.grammar ≡ old.grammar
same_grammar old new key before after result value asks is = (on_ok result value (AsksScan old key new before after) is asks).grammar

-- what is found among the ranges is of the grammar
pub found_marks : (old new : Grammar) → new ≡ old → (key : ScanKey) (ranges : List Range) → IsScanExpansionOf old key ranges → (found : Option ScanKey)
    → IfSome found (λ k. (range : Range) × Contains ranges range × (k ≡ range.2)) → IfSome found (λ k. AreMarks new k)
found_marks old new same key ranges is None among = among
found_marks old new same key ranges is (Some k) among = subst (λ grammar. AreMarks grammar k) (sym same)
    (subst (AreMarks old) (sym among.2) (range_marks old key among.0 (is.each among.0 among.1)))
