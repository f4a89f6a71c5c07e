use Rattle.std.proofs.Common.{◌≡◌, ℕ, ◌-◌, List, length, take, slice_get, option_map}
use Rattle.forest.specs.declared.rules.RuleId.{RuleId as ARuleId}
use Rattle.edit_log.specs.Lists.{occurrences, IsLiveBy}
use Rattle.edit_log.specs.Rows.{lefts_in, uses_in, literals_in}
use Rattle.edit_log.specs.Lookups.{ListsDefinitions}
use Rattle.edit_log.proofs.uses.drop_uses.Given as goal

abbrev pub invariant-loop-part : goal.invariant-loop-part
invariant-loop-part l = record {
  lefts : lefts_in l.rows.items ≡ lefts_in l.fn.rows.items;
  literals : literals_in l.rows.items ≡ literals_in l.fn.rows.items;
  counts : (place : ℕ) → slice_get (uses_in l.rows.items) place ≡ option_map (λ n. n - occurrences (record { 0 = place }) (take l.part-index l.right))
      (slice_get (uses_in l.fn.rows.items) place);
  live : (numbers : List ARuleId) → ListsDefinitions (IsLiveBy (literals_in l.fn.rows.items) (uses_in l.fn.rows.items) numbers) l.fn.live.items
      → ListsDefinitions (IsLiveBy (literals_in l.fn.rows.items) (uses_in l.rows.items) numbers) l.live.items;
}
