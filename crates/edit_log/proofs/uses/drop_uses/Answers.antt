use Rattle.std.proofs.Common.{◌+◌, ◌-◌, ◌<◌, length, get_or, take, refl, sym, ◌∙◌, subst, arith}
use Rattle.std.proofs.lemmas.List.{length-map}
use Rattle.std.proofs.lemmas.List.Elements.{Contains-get_or}
use Rattle.std.proofs.lemmas.Option.{slice_get-get_or}
use Rattle.edit_log.specs.declared.symbol_table.Row.{Row}
use Rattle.edit_log.specs.Lists.{occurrences, IsLiveBy}
use Rattle.edit_log.specs.Rows.{uses_in, literals_in}
use Rattle.edit_log.specs.Lookups.{ListsDefinitions}
use Rattle.edit_log.proofs.RowLists.{same_count}
use Rattle.edit_log.proofs.UseLists.{counted_more, counted_one, counted_before, count_now, taken_more}
use Rattle.edit_log.proofs.uses.drop_uses.Goals as goal

pub drop_use-requires-clause-within : goal.drop_use-requires-clause-within
drop_use-requires-clause-within c =
    let within = c.requires.within _ (Contains-get_or c.args.right.now c.loop-part.part-index (record { 0 = 0 }) (omega arith)) in
    omega (arith, within, same_count c.loop-part.rows.items c.args.rows.now.items c.loop-part.invariant.lefts)

pub drop_use-requires-clause-some : goal.drop_use-requires-clause-some
drop_use-requires-clause-some c =
    let right = c.args.right.now in
    let uses = uses_in c.args.rows.now.items in
    let i = c.loop-part.part-index in
    let part = get_or right i (record { 0 = 0 }) in
    let within : part.0 < length c.args.rows.now.items = c.requires.within part (Contains-get_or right i (record { 0 = 0 }) (omega arith)) in
    let placed : part.0 < length uses = omega (arith, within, length-map c.args.rows.now.items (λ (row : Row). row.uses)) in
    let same = count_now (λ n. n - occurrences (record { 0 = part.0 }) (take i right)) uses (uses_in c.loop-part.rows.items) part.0
    (c.loop-part.invariant.counts part.0) placed in
    let more = counted_more (record { 0 = part.0 }) right i (record { 0 = 0 }) (omega arith) in
    let one = counted_one part part.0 refl in
    let few = c.requires.some part.0 (get_or uses part.0 0) (slice_get-get_or uses part.0 0 placed) in
    omega (arith, same, more, one, few, counted_before (record { 0 = part.0 }) right (i + 1))

pub loop-part-preserved : goal.loop-part-preserved
loop-part-preserved c =
    let right = c.args.right.now in
    let i = c.loop-part.part-index in
    let so_far = c.loop-part.invariant in
    record {
      lefts = c.drop_use.ensures.lefts ∙ so_far.lefts;
      literals = c.drop_use.ensures.literals ∙ so_far.literals;
      counts = λ place. taken_more _ _ _ _ _ _ (counted_more (record { 0 = place }) right i (record { 0 = 0 }) (omega arith)) (so_far.counts place)
          (c.drop_use.ensures.counts place);
      live = λ numbers lists.
          subst (λ ls. ListsDefinitions (IsLiveBy ls (uses_in c.drop_use.new.rows.items) numbers) c.drop_use.new.live.items) so_far.literals
          (c.drop_use.ensures.live numbers (subst (λ ls. ListsDefinitions (IsLiveBy ls (uses_in c.loop-part.rows.items) numbers) c.loop-part.live.items)
          (sym so_far.literals) (so_far.live numbers lists)));
    }
