use Rattle.std.proofs.Common.{◌≡◌, ◌<◌, false, ◌∙◌, ap, length, rules, arith, get_or, slice_get, Some}
use Rattle.std.proofs.lemmas.Bool.{both_ways}
use Rattle.std.proofs.lemmas.Option.{slice_get-get_or}
use Rattle.forest.specs.Equality.{symbol_eq}
use Rattle.edit_log.proofs.FirstPlaces.{first_here, first_later, position_within}
use Rattle.item_sets.proofs.Traces.{most, same_symbol, other_symbol}
use Rattle.item_sets.proofs.symbol_set.search.Goals as goal

pub returns-then-stands_at : goal.returns-then-stands_at
returns-then-stands_at c =
    let met = c.args.met.now in
    let at : slice_get met c.loop-place.place ≡ Some c.args.symbol = c.stands_at.ensures.0 c.if-stands_at.true in
    (position_within (symbol_eq c.args.symbol) met c.loop-place.place
    (first_here (symbol_eq c.args.symbol) met c.loop-place.place _ at c.loop-place.invariant (same_symbol met c.args.symbol))).0

pub loop-place-preserved : goal.loop-place-preserved
loop-place-preserved c =
    let met = c.args.met.now in
    let within : c.loop-place.place < length met = search rules in
    let one = get_or met c.loop-place.place c.args.symbol in
    let at : slice_get met c.loop-place.place ≡ Some one = slice_get-get_or met c.loop-place.place c.args.symbol within in
    let other : symbol_eq c.args.symbol one ≡ false = other_symbol met c.args.symbol one (λ same.
    both_ways c.stands_at.result (c.if-stands_at.false) (c.stands_at.ensures.1 (at ∙ ap Some same))) in
    first_later (symbol_eq c.args.symbol) met c.loop-place.place one at c.loop-place.invariant other

pub returns : goal.returns
returns c =
    let past = c.loop-place.invariant in
    let most = most (symbol_eq c.args.symbol) c.args.met.now in
    omega arith
