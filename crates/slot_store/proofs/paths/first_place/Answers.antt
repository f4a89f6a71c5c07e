use Rattle.std.proofs.Common.{ℕ, ◌%◌, ◌/◌, ◌^◌, sym, ap, ◌∙◌, arith}
use Rattle.pin_rule.proofs.Paths.{path_start}
use Rattle.slot_store.proofs.paths.first_place.Goals as goal

pub returns : goal.returns
returns c = let z = c.args.sizes in let some = z.places_in in
    ap (λ (h : ℕ). (h / 2 ^ 32) % z.places) c.mixed.ensures ∙ sym (path_start z c.args.key.now (omega arith))
