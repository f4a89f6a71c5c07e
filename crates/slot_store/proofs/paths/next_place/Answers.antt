use Rattle.std.proofs.Common.{◌≡◌, ◌<◌, ◌≤◌, ℕ, suc, ◌+◌, sym, ◌∙◌, arith}
use Rattle.pin_rule.specs.Rows.{on_path}
use Rattle.pin_rule.proofs.Paths.{path_on, path_round}
use Rattle.slot_store.proofs.paths.next_place.Goals as goal

pub returns-then-place-sizes : goal.returns-then-place-sizes
returns-then-place-sizes c key step is =
    let place : ℕ = c.args.place in let z = c.args.sizes in let lt : place + 1 < z.places = c.if-place-sizes.true in let at : ℕ = on_path z key step in
    let e : place ≡ at = is in let r : place + 1 ≡ suc at = omega arith in r ∙ sym (path_on z key (omega arith) step (omega arith))

pub returns-else-place-sizes : goal.returns-else-place-sizes
returns-else-place-sizes c key step is =
    let place : ℕ = c.args.place in let z = c.args.sizes in let ge : z.places ≤ place + 1 = c.if-place-sizes.false in let lt : place < z.places = c.requires in
    let at : ℕ = on_path z key step in
    let e : place ≡ at = is in sym (path_round z key (omega arith) step (omega arith))
