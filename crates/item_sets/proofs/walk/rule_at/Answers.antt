use Rattle.std.proofs.Common.{◌≡◌, refl, rules, sym}
use Rattle.std.proofs.lemmas.Bool.{ltb-true}
use Rattle.std.proofs.lemmas.Option.{slice_get_read}
use Rattle.forest.specs.declared.rules.Rule.{Rule}
use Rattle.edit_log.proofs.NumberSearches.{found_at}
use Rattle.item_sets.proofs.walk.rule_at.Goals as goal

pub returns-then-rule-number : goal.returns-then-rule-number
returns-then-rule-number c =
    let lookup = c.in_ok-rule.ensures.lookup in
    let same : c.in_ok-rule.rule.now.number.0 ≡ c.args.number.0 = search rules in
    sym (found_at (λ (r : Rule). r.number.0) c.args.rules.now c.requires c.args.number.0 _ c.in_ok-rule.rule.now
    (slice_get_read c.args.rules.now _ _ c.in_ok-rule.rule.now refl (ltb-true _ _ (sym lookup.0)) lookup.1) same)
