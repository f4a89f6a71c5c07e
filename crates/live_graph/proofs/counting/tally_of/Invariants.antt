use Rattle.std.proofs.Common.{◌≡◌, take}
use Rattle.live_graph.specs.Tallying.{tally_of, AddsUp}
use Rattle.live_graph.specs.Answers.{origins}
use Rattle.live_graph.proofs.counting.tally_of.Given as goal

abbrev pub invariant-loop-place : goal.invariant-loop-place
invariant-loop-place g l = record {
  counted : l.tally ≡ tally_of (take l.place (origins l.fn.kept.entries));
  reached : l.tally.reached ≡ l.place;
  sum : AddsUp l.tally;
}
