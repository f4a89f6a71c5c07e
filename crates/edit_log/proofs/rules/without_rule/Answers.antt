use Rattle.std.proofs.Common.{◌≡◌, ◌==◌, Bool, not, length, filter, get_or, Some, sym, ap, subst, ◌∙◌, arith}
use Rattle.std.specs.List.{remove}
use Rattle.std.specs.List.Sorted.{IsStrictlySortedBy}
use Rattle.std.proofs.lemmas.List.Kept.{IsStrictlySortedBy-filter}
use Rattle.std.proofs.lemmas.Option.{slice_get_within, get_or_from_slice_get}
use Rattle.forest.specs.declared.rules.Rule.{Rule}
use Rattle.forest.specs.declared.rules.RuleId.{RuleId}
use Rattle.forest.specs.Orders.{rule_cmp}
use Rattle.edit_log.proofs.NumberSearches.{found_in, none_in, nothing_removed, found_removed}
use Rattle.edit_log.proofs.rules.without_rule.Goals as goal
use Rattle.edit_log.proofs.rules.without_rule.Goals.{After-from_vec}

-- the rule has the number
abbrev has : RuleId → Rule → Bool
has number r = r.number.0 == number.0

pub returns-in_default-clause-rules : goal.returns-in_default-clause-rules
returns-in_default-clause-rules c =
    nothing_removed (λ (r : Rule). r.number.0) c.args.number.0 c.args.rules.rules
    (none_in (has c.args.number) c.args.rules.rules c.place_of.result c.in_default.is c.place_of.ensures)

pub remove-gone-requires : goal.remove-gone-requires
remove-gone-requires c =
    let h = found_in (has c.args.number) c.args.rules.rules c.place_of.result c.in-Some.place c.in-Some.is c.place_of.ensures in
    let within = slice_get_within c.args.rules.rules c.in-Some.place h.item h.at in
    omega (arith, within, c.into_vec-rules.result.ok.0, ap length c.into_vec-rules.ensures)

kept : (c : After-from_vec) → c.from_vec.result ≡ filter (λ r. not (has c.args.number r)) c.args.rules.rules
kept c =
    let h = found_in (has c.args.number) c.args.rules.rules c.place_of.result c.in-Some.place c.in-Some.is c.place_of.ensures in
    c.from_vec.ensures
    ∙ c.remove-gone.ensures.items
    ∙ ap (λ rules. remove rules c.in-Some.place) c.into_vec-rules.ensures
    ∙ found_removed (λ (r : Rule). r.number.0) c.args.number.0 c.args.rules.rules c.in-Some.place c.args.rules.ascending h

pub invariant_of-rules : goal.invariant_of-rules
invariant_of-rules c =
    record {
      ascending = subst (IsStrictlySortedBy rule_cmp) (sym (kept c)) (IsStrictlySortedBy-filter rule_cmp
          (λ r. not (has c.args.number r)) c.args.rules.rules c.args.rules.ascending);
    }

pub returns-clause-rules : goal.returns-clause-rules
returns-clause-rules c = kept (goal.at.returns-clause-rules c).After-from_vec

pub returns-clause-gone : goal.returns-clause-gone
returns-clause-gone c =
    let rules = c.args.rules.rules in
    let place = c.in-Some.place in
    let gone = c.remove-gone.result in
    let h = found_in (has c.args.number) rules c.place_of.result place c.in-Some.is c.place_of.ensures in
    ap Some (c.remove-gone.ensures.value ∙ ap (λ items. get_or items place gone) c.into_vec-rules.ensures ∙ get_or_from_slice_get rules place h.item gone h.at)
    ∙ sym h.found
