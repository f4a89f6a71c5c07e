use Rattle.std.proofs.Common.{◌≡◌, ◌≤◌, length}
use Rattle.item_sets.specs.declared.expansion.Expansion.{Expansion}
use Rattle.row_coding.specs.Words.{item_payload_words}
use Rattle.graph_content.proofs.MoveHeads.{IsRest}
use Rattle.graph_content.proofs.touching.moves_on.Given as goal

abbrev pub invariant-loop : goal.invariant-loop
invariant-loop l = record {
  moves : (e : Expansion) → l.payload ≡ item_payload_words e → IsRest e l.rest l.counter l.wanted;
  short : length l.rest ≤ length l.payload;
}
