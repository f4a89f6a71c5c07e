use Rattle.std.proofs.Common.{◌+◌, ◌<◌, length, get_or, take, sym, ◌∙◌, subst, arith}
use Rattle.std.proofs.lemmas.List.{length-map}
use Rattle.std.proofs.lemmas.List.Elements.{Contains-get_or}
use Rattle.edit_log.specs.declared.symbol_table.Row.{Row}
use Rattle.edit_log.specs.Lists.{occurrences, IsLiveBy}
use Rattle.edit_log.specs.Rows.{uses_in, literals_in}
use Rattle.edit_log.specs.Lookups.{ListsDefinitions}
use Rattle.edit_log.proofs.RowLists.{same_count}
use Rattle.edit_log.proofs.UseLists.{counted_more, counted_at_most, count_now, added_more}
use Rattle.edit_log.proofs.uses.add_uses.Goals as goal

pub add_use-requires-clause-within : goal.add_use-requires-clause-within
add_use-requires-clause-within c =
    let within = c.requires.within _ (Contains-get_or c.args.right.now c.loop-part.part-index (record { 0 = 0 }) (omega arith)) in
    omega (arith, within, same_count c.loop-part.rows.items c.args.rows.now.items c.loop-part.invariant.lefts)

pub add_use-requires-clause-few : goal.add_use-requires-clause-few
add_use-requires-clause-few c =
    let right = c.args.right.now in
    let uses = uses_in c.args.rows.now.items in
    let i = c.loop-part.part-index in
    let part = get_or right i (record { 0 = 0 }) in
    let within : part.0 < length c.args.rows.now.items = c.requires.within part (Contains-get_or right i (record { 0 = 0 }) (omega arith)) in
    let placed : part.0 < length uses = omega (arith, within, length-map c.args.rows.now.items (λ (row : Row). row.uses)) in
    let same = count_now (λ n. n + occurrences (record { 0 = part.0 }) (take i right)) uses (uses_in c.loop-part.rows.items) part.0
    (c.loop-part.invariant.counts part.0) placed in
    omega (arith, same, counted_at_most (record { 0 = part.0 }) right i, c.requires.few part.0)

pub loop-part-preserved : goal.loop-part-preserved
loop-part-preserved c =
    let right = c.args.right.now in
    let i = c.loop-part.part-index in
    let so_far = c.loop-part.invariant in
    record {
      lefts = c.add_use.ensures.lefts ∙ so_far.lefts;
      literals = c.add_use.ensures.literals ∙ so_far.literals;
      counts = λ place. added_more _ _ _ _ _ _ (counted_more (record { 0 = place }) right i (record { 0 = 0 }) (omega arith)) (so_far.counts place)
          (c.add_use.ensures.counts place);
      live = λ numbers lists.
          subst (λ ls. ListsDefinitions (IsLiveBy ls (uses_in c.add_use.new.rows.items) numbers) c.add_use.new.live.items) so_far.literals
          (c.add_use.ensures.live numbers (subst (λ ls. ListsDefinitions (IsLiveBy ls (uses_in c.loop-part.rows.items) numbers) c.loop-part.live.items)
          (sym so_far.literals) (so_far.live numbers lists)));
      room = omega (arith, c.add_use.ensures.room);
    }
