use Rattle.forest.specs.declared.rules.RuleId.{RuleId}
use Rattle.std.proofs.Common.{refl}
use Rattle.edit_log.proofs.NumberSearches.{sorted_from_increasing, there_found, there_at}
use Rattle.edit_log.proofs.lefts.place_of.Goals as goal

pub unreachable-requires : goal.unreachable-requires
unreachable-requires c =
    let numbers = c.args.numbers.now in
    let sorted = sorted_from_increasing (λ (n : RuleId). n.0) numbers c.requires.ascends in
    let h = there_found (λ (n : RuleId). n.0) numbers sorted c.args.number.0 c.binary_search.result c.args.number c.requires.there refl
    c.binary_search.ensures.position in
    let not = c.in-Err.is in
    absurd cc

pub returns : goal.returns
returns c =
    let numbers = c.args.numbers.now in
    let sorted = sorted_from_increasing (λ (n : RuleId). n.0) numbers c.requires.ascends in
    there_at (λ (n : RuleId). n.0) numbers sorted c.args.number.0 c.in-Ok.place c.args.number c.requires.there refl c.in-Ok.ensures.bound
    c.in-Ok.ensures.position
