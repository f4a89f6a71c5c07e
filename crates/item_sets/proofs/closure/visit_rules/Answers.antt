use Rattle.std.proofs.Common.{◌<◌, length, rules}
use Rattle.item_sets.proofs.Added.{number_item}
use Rattle.item_sets.proofs.closure.visit_rules.Goals as goal

pub visit-requires-clause-item : goal.visit-requires-clause-item
visit-requires-clause-item g c =
    let within : c.loop-number.number-index < length c.rules_of-number-items.result.now = search rules in
    number_item _ c.args.symbol c.rules_of-number-items.result.now c.loop-number.number-index _ c.rules_of-number-items.ensures within
