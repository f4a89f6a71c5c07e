use Rattle.std.proofs.Common.{◌≡◌, ◌≤◌, arith, rules, Some, None}
use Rattle.item_sets.specs.Walks.{next_of}
use Rattle.item_sets.proofs.Walks.{met_some, met_none}
use Rattle.item_sets.proofs.Positions.{dot_short}
use Rattle.item_sets.proofs.walk.Walk.visit.Goals as goal

pub overflow_add-item : goal.overflow_add-item
overflow_add-item g c = let short : c.args.item.dot ≤ 16 = dot_short _ c.requires.formed c.args.item c.requires.item in omega arith

pub returns-in_default-clause-walk : goal.returns-in_default-clause-walk
returns-in_default-clause-walk g c = λ items walk.
    let none : next_of c.args.grammar.now.grammar.rules c.args.item ≡ None = search rules in
    rw c.in_ok-push.ensures.items (met_none _ items _ _ _ walk c.args.item none)

pub returns-clause-walk : goal.returns-clause-walk
returns-clause-walk g c = λ items walk.
    let some : next_of c.args.grammar.now.grammar.rules c.args.item ≡ Some c.in-Some.symbol = search rules in
    let step = met_some _ items _ _ _ walk c.args.item c.in-Some.symbol some in
    rw (c.in_ok-put_at.ensures, c.in_ok-place.ensures.place, c.in_ok-place.ensures.symbols) step
