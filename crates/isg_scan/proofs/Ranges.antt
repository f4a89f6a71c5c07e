-- Where a range of an expansion leads.
use Rattle.std.proofs.Common.{◌≡◌, ℕ, ◌<◌, List, Contains, Result, Ok, OnOk, sym, ◌∙◌, subst}
use Rattle.edit_log.specs.History.{Grammar}
use Rattle.isg_states.specs.declared.mark.Mark.{Mark}
use Rattle.isg_states.specs.declared.scan_key.ScanKey.{ScanKey}
use Rattle.isg_states.specs.Expansion.{Range, AreMarks, LeadsTo, IsScanExpansionOf}
use Rattle.live_graph.specs.Meaning.{GraphMeaning}
use Rattle.live_graph.specs.Asking.{AsksScan}
use Rattle.isg_states.proofs.Tables.{range_marks}
use Rattle.isg_scan.specs.Asked.{StandsButScans}
use Rattle.isg_scan.specs.States.{IsInRange, IsLedRange}

pub on_ok : {X E : Type 0} (result : Result X E) (value : X) (P : Type 0) → result ≡ Ok value → OnOk result P → P
on_ok result value P is holds = subst (λ r. OnOk r P) is holds

pub stands_of : {Base : Type 0} (old new : GraphMeaning Base) (key : ScanKey) (before after : ℕ) → AsksScan old key new before after → StandsButScans old new
stands_of old new key before after asks = record { grammar = asks.grammar; base = asks.base; kernels = asks.kernels }

module _ (grammar : Grammar) (key : ScanKey) (ranges : List Range) (is : IsScanExpansionOf grammar key ranges) where
  pub led_range : (range : Range) (byte : ℕ) (copy : ScanKey) → Contains ranges range → IsInRange range byte → copy ≡ range.2
      → IsLedRange grammar key byte (range.0, range.1, copy)
  led_range range byte copy there has copied =
      let one = is.each range there in
      record {
        marks = one.marks;
        is = copied ∙ one.is;
        has_byte = has;
        bytes = one.bytes;
        leads = λ other from to. record { marks_are = one.leads other from to; some = one.somewhere };
        target = subst (AreMarks grammar) (sym copied) (range_marks grammar key range one);
      }

  pub led_nowhere : (byte : ℕ) → byte < 256 → ((range : Range) → Contains ranges range → IsInRange range byte → ⊥) → (mark : Mark)
      → LeadsTo grammar key byte mark → ⊥
  led_nowhere byte small none mark leads = let range = is.whole byte mark small leads in none range.0 range.1 (range.2, range.3)
