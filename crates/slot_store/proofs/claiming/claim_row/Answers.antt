use Rattle.std.proofs.Common.{ℕ, inl, inr, arith}
use Rattle.std.proofs.lemmas.Bool.{cases_lt}
use Rattle.std.specs.Prelude.{Option, Some, None, IfNone}
use Rattle.pin_rule.specs.Hands.{view_of}
use Rattle.slot_store.proofs.Taking.{both}
use Rattle.slot_store.proofs.claiming.claim_row.Goals as goal

if_none : (r : Option ℕ) (P : Type 0) → P → IfNone r P
if_none None P p = p
if_none (Some row) P p = tt

pub returns-in-None-clause-told : goal.returns-in-None-clause-told
returns-in-None-clause-told g c = let z = c.args.site in let some = z.sizes.rows_in in let next : ℕ = c.args.next in let last = c.claim_within-in-None in
    if_none last.result _ (elim (cases_lt 0 next) [
      | inl lt ↦ last.ensures.told lt
      | inr ge ↦ last.ensures.still_told (c.in-None.ensures.told (omega arith))
    ])

pub returns-in-None-clause-claim : goal.returns-in-None-clause-claim
returns-in-None-clause-claim g c =
    both c.args.site (view_of c.args.hand.now) (view_of c.claim_within.new.hand)
    (view_of c.claim_within-in-None.new.hand) c.args.next c.in-None.ensures.claim c.claim_within-in-None.result c.claim_within-in-None.ensures.claim
