use Rattle.std.proofs.Common.{◌≡◌, ◌+◌, ◌-◌, ◌≤◌, ℕ, List, length, slice_get, Option, Some, option_map, Vec, subst, sym, ap, ◌∙◌, arith}
use Rattle.std.specs.declared.alloc.Global.{Global}
use Rattle.std.specs.Str.{bytes_eq}
use Rattle.std.proofs.lemmas.List.{length-map}
use Rattle.grammar_text.specs.Sameness.{rule_eq}
use Rattle.forest.specs.declared.rules.RuleId.{RuleId}
use Rattle.regex_ast.specs.Positions.{Table}
use Rattle.std.specs.Option.{option_flatten}
use Rattle.forest.specs.declared.rules.Rules.{Rules}
use Rattle.edit_log.specs.declared.symbol_table.Row.{Row}
use Rattle.edit_log.specs.Rows.{lefts_in, uses_in, literals_in}
use Rattle.edit_log.specs.declared.symbol_table.Row.{Row}
use Rattle.edit_log.specs.Rows.{lefts_in, uses_in, literals_in}
use Rattle.edit_log.specs.declared.ready.Plan.TheVariants as planned
use Rattle.edit_log.specs.History.{after_edit}
use Rattle.edit_log.specs.Lookups.{rule_of, ListsDefinitions}
use Rattle.edit_log.specs.Replicas.{Replica, IsApplicable}
use Rattle.edit_log.specs.Lists.{under, live_number, occurrences, IsLiveBy}
use Rattle.edit_log.specs.Agreement.{grammar_in, Agrees}
use Rattle.edit_log.proofs.RowLists.{same_uses}
use Rattle.edit_log.proofs.AgreesAfterDropRule.{without, rule_not_lost, left_ascends, left_there, parts_within, parts_counted, rule_gone, agrees_rule_dropped}
use Rattle.edit_log.proofs.grammar.Grammar.drop_rule.Goals as goal

pub unreachable-requires : goal.unreachable-requires
unreachable-requires c =
    let edit = c.requires.0 in
    let g = subst (λ (r : Replica). IsApplicable r edit (planned.DropRule c.args.plan)) (sym c.self.view_is) c.requires.1 in
    rule_not_lost (grammar_in c.self.inside.version c.self.inside.table.symbols.keys c.self.inside.rules.rules c.self.inside.definitions.items) edit c.args.plan
    g.plan
    (ap (λ (rs : Rules). rule_of rs.rules c.args.plan.number) (sym c.replace-rules.ensures.value) ∙ sym c.without_rule-rules.ensures.gone ∙ c.in_default.is)

pub drop_left-requires-clause-ascends : goal.drop_left-requires-clause-ascends
drop_left-requires-clause-ascends c =
    let edit = c.requires.0 in
    let g = subst (λ (r : Replica). IsApplicable r edit (planned.DropRule c.args.plan)) (sym c.self.view_is) c.requires.1 in
    let gone : rule_of c.self.inside.rules.rules c.args.plan.number ≡ Some c.in-Some.gone = ap (λ (rs : Rules). rule_of rs.rules c.args.plan.number)
    (sym c.replace-rules.ensures.value) ∙ sym c.without_rule-rules.ensures.gone ∙ c.in-Some.is in
    left_ascends (grammar_in c.self.inside.version c.self.inside.table.symbols.keys c.self.inside.rules.rules c.self.inside.definitions.items) edit c.args.plan
    c.in-Some.gone c.self.invariant.well_formed g.plan gone (lefts_in c.self.inside.table.rows.items) c.self.invariant.has_lefts

pub drop_left-requires-clause-there : goal.drop_left-requires-clause-there
drop_left-requires-clause-there c =
    let edit = c.requires.0 in
    let g = subst (λ (r : Replica). IsApplicable r edit (planned.DropRule c.args.plan)) (sym c.self.view_is) c.requires.1 in
    let gone : rule_of c.self.inside.rules.rules c.args.plan.number ≡ Some c.in-Some.gone = ap (λ (rs : Rules). rule_of rs.rules c.args.plan.number)
    (sym c.replace-rules.ensures.value) ∙ sym c.without_rule-rules.ensures.gone ∙ c.in-Some.is in
    left_there (grammar_in c.self.inside.version c.self.inside.table.symbols.keys c.self.inside.rules.rules c.self.inside.definitions.items) edit c.args.plan
    c.in-Some.gone c.self.invariant.well_formed g.plan gone (lefts_in c.self.inside.table.rows.items) c.self.invariant.has_lefts

pub drop_uses-requires-clause-within : goal.drop_uses-requires-clause-within
drop_uses-requires-clause-within c =
    let edit = c.requires.0 in
    let g = subst (λ (r : Replica). IsApplicable r edit (planned.DropRule c.args.plan)) (sym c.self.view_is) c.requires.1 in
    let gone : rule_of c.self.inside.rules.rules c.args.plan.number ≡ Some c.in-Some.gone = ap (λ (rs : Rules). rule_of rs.rules c.args.plan.number)
    (sym c.replace-rules.ensures.value) ∙ sym c.without_rule-rules.ensures.gone ∙ c.in-Some.is in
    let rows = c.drop_left.new.rows.items in
    let within = parts_within (grammar_in c.self.inside.version c.self.inside.table.symbols.keys c.self.inside.rules.rules c.self.inside.definitions.items) edit
    c.args.plan c.in-Some.gone c.self.invariant.well_formed g.plan gone
    (uses_in c.self.inside.table.rows.items) c.as_slice.result.now c.self.invariant.has_uses c.as_slice.ensures in
    λ part there. omega (arith, within part there, ap length c.drop_left.ensures.uses, length-map rows (λ (row : Row). row.uses))

pub drop_uses-requires-clause-some : goal.drop_uses-requires-clause-some
drop_uses-requires-clause-some c =
    let edit = c.requires.0 in
    let g = subst (λ (r : Replica). IsApplicable r edit (planned.DropRule c.args.plan)) (sym c.self.view_is) c.requires.1 in
    let gone : rule_of c.self.inside.rules.rules c.args.plan.number ≡ Some c.in-Some.gone = ap (λ (rs : Rules). rule_of rs.rules c.args.plan.number)
    (sym c.replace-rules.ensures.value) ∙ sym c.without_rule-rules.ensures.gone ∙ c.in-Some.is in
    let counted = parts_counted (grammar_in c.self.inside.version c.self.inside.table.symbols.keys c.self.inside.rules.rules c.self.inside.definitions.items)
    edit c.args.plan c.in-Some.gone c.self.invariant.well_formed g.plan gone
    (uses_in c.self.inside.table.rows.items) c.as_slice.result.now c.self.invariant.has_uses c.as_slice.ensures in
    λ place count told. counted place count (subst (λ (us : List ℕ). slice_get us place ≡ Some count) c.drop_left.ensures.uses told)

pub invariant_of-self : goal.invariant_of-self
invariant_of-self c =
    let edit = c.requires.0 in
    let g = subst (λ (r : Replica). IsApplicable r edit (planned.DropRule c.args.plan)) (sym c.self.view_is) c.requires.1 in
    let gone : rule_of c.self.inside.rules.rules c.args.plan.number ≡ Some c.in-Some.gone = ap (λ (rs : Rules). rule_of rs.rules c.args.plan.number)
    (sym c.replace-rules.ensures.value) ∙ sym c.without_rule-rules.ensures.gone ∙ c.in-Some.is in
    let rules_are : c.without_rule-rules.result.0.rules ≡ without c.args.plan.number c.self.inside.rules.rules = c.without_rule-rules.ensures.rules ∙ ap
    (λ (rs : Rules). without c.args.plan.number rs.rules) c.replace-rules.ensures.value in
    let old = c.self.inside.table.rows.items in
    let middle = c.drop_left.new.rows.items in
    let rows = c.drop_uses.new.rows.items in
    let place_of_name = live_number bytes_eq c.self.inside.definition_numbers in
    let literals : literals_in rows ≡ literals_in old = c.drop_uses.ensures.literals ∙ c.drop_left.ensures.literals in
    subst (λ (ls : List (Option Table)). Agrees (grammar_in (c.self.inside.version + 1) c.self.inside.table.symbols.keys c.without_rule-rules.result.0.rules
    c.self.inside.definitions.items) (live_number rule_eq c.set_number.new.numbers) place_of_name (lefts_in rows)
    (uses_in rows) ls c.self.inside.definitions.items c.drop_uses.new.live.items c.self.inside.spare_rules.items) (sym literals)
    (agrees_rule_dropped c.self.inside.version c.self.inside.table.symbols.keys c.self.inside.rules.rules c.without_rule-rules.result.0.rules
    c.self.inside.definitions.items edit c.args.plan c.in-Some.gone
    (live_number rule_eq c.self.inside.rule_numbers) (live_number rule_eq c.set_number.new.numbers) place_of_name (lefts_in old) (lefts_in rows) (uses_in old)
    (uses_in rows) (literals_in old) c.self.inside.live.items c.drop_uses.new.live.items c.self.inside.spare_rules.items
    c.self.invariant g.accepted g.plan gone rules_are
    (ap option_flatten c.set_number.ensures.1) (λ other apart. ap option_flatten (c.set_number.ensures.2 other apart))
    (omega (
      arith,
      ap length c.drop_uses.ensures.lefts,
      length-map middle (λ (row : Row). row.rules),
      c.drop_left.ensures.len,
      length-map old (λ (row : Row). row.rules),
    ))
    (λ place. ap (λ (ls : List (Vec RuleId Global)). under ls place) c.drop_uses.ensures.lefts ∙ c.drop_left.ensures.lists place)
    c.as_slice.result.now c.as_slice.ensures (same_uses rows middle c.drop_uses.ensures.lefts ∙ ap length c.drop_left.ensures.uses)
    (λ place. c.drop_uses.ensures.counts place ∙ ap (λ (us : List ℕ). option_map (λ n. n - occurrences (record { 0 = place }) c.as_slice.result.now)
    (slice_get us place)) c.drop_left.ensures.uses)
    (literals_in middle) c.drop_left.ensures.literals
    (λ known. subst (λ (us : List ℕ). ListsDefinitions (IsLiveBy (literals_in middle) us known) c.self.inside.live.items → ListsDefinitions
    (IsLiveBy (literals_in middle) (uses_in rows) known) c.drop_uses.new.live.items) c.drop_left.ensures.uses (c.drop_uses.ensures.live known)))

pub returns : goal.returns
returns c edit applicable =
    let g = subst (λ (r : Replica). IsApplicable r edit (planned.DropRule c.args.plan)) (sym c.self.view_is) applicable in
    let gone : rule_of c.self.inside.rules.rules c.args.plan.number ≡ Some c.in-Some.gone = ap (λ (rs : Rules). rule_of rs.rules c.args.plan.number)
    (sym c.replace-rules.ensures.value) ∙ sym c.without_rule-rules.ensures.gone ∙ c.in-Some.is in
    let rules : c.without_rule-rules.result.0.rules ≡ without c.args.plan.number c.self.inside.rules.rules = c.without_rule-rules.ensures.rules ∙ ap
    (λ (rs : Rules). without c.args.plan.number rs.rules) c.replace-rules.ensures.value in
    rule_gone c.self.inside.version c.self.inside.table.symbols.keys c.self.inside.rules.rules c.without_rule-rules.result.0.rules
    c.self.inside.definitions.items edit c.args.plan c.in-Some.gone
    c.self.invariant.well_formed g.accepted g.plan gone rules
    ∙ ap (λ (r : Replica). after_edit r.grammar edit) c.self.view_is
