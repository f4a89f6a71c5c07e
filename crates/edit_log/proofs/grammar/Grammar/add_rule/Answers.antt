use Rattle.std.proofs.Common.{◌≡◌, ◌+◌, [], ◌∷◌, ◌++◌, length, slice_get, option_map, Contains, if◌then◌else◌, ◌==◌, refl, ap, sym, ◌∙◌, subst, arith}
use Rattle.std.specs.List.{AllByRecursion}
use Rattle.std.proofs.lemmas.List.{length-map}
use Rattle.edit_log.specs.declared.symbol_table.Row.{Row}
use Rattle.edit_log.specs.Rows.{lefts_in, uses_in, literals_in}
use Rattle.edit_log.specs.declared.symbol_table.Row.{Row}
use Rattle.edit_log.specs.Rows.{lefts_in, uses_in, literals_in}
use Rattle.edit_log.specs.declared.ready.Plan.TheVariants as planned
use Rattle.edit_log.specs.Replicas.{Replica, IsApplicable}
use Rattle.edit_log.specs.Lists.{under}
use Rattle.edit_log.proofs.AgreesAfterAddRule.{to_add, new_symbols, left_within, left_room, right_within, right_short, uses_fit, below_next}
use Rattle.std.specs.Option.{option_flatten}
use Rattle.std.specs.Str.{bytes_eq}
use Rattle.grammar_text.specs.Sameness.{rule_eq}
use Rattle.grammar_text.specs.declared.edit.Edit.TheVariants.{AddRule}
use Rattle.forest.specs.declared.rules.Rules.{Rules}
use Rattle.edit_log.specs.History.{Grammar, after_edit}
use Rattle.edit_log.specs.Facts.{IsNumber}
use Rattle.edit_log.specs.Lookups.{ListsDefinitions}
use Rattle.edit_log.specs.Lists.{live_number, occurrences, IsLiveBy}
use Rattle.edit_log.specs.Agreement.{grammar_in, Agrees}
use Rattle.edit_log.proofs.RowLists.{same_uses}
use Rattle.edit_log.proofs.Liveness.{uses_with, uses_grown}
use Rattle.edit_log.proofs.AgreesAfterAddRule.{after_rule, agrees_rule_added, edit_to_add}
use Rattle.edit_log.proofs.grammar.Grammar.add_rule.Goals as goal

pub add_symbols-requires-clause-new : goal.add_symbols-requires-clause-new
add_symbols-requires-clause-new c =
    let app = subst (λ (r : Replica). IsApplicable r c.requires.0 (planned.AddRule c.args.plan)) (sym c.self.view_is) c.requires.1 in
    new_symbols _ c.args.plan c.self.invariant.well_formed (to_add _ c.requires.0 c.args.plan app)

pub push_left-requires-clause-within : goal.push_left-requires-clause-within
push_left-requires-clause-within c =
    let app = subst (λ (r : Replica). IsApplicable r c.requires.0 (planned.AddRule c.args.plan)) (sym c.self.view_is) c.requires.1 in
    let rows = c.add_symbols.new.self.rows.items in
    let within = left_within _ c.args.plan (lefts_in c.self.inside.table.rows.items) (lefts_in rows)
    (to_add _ c.requires.0 c.args.plan app) c.self.invariant.has_lefts c.add_symbols.ensures.lefts in
    omega (arith, within, length-map rows (λ (row : Row). row.rules))

pub push_left-requires-clause-room : goal.push_left-requires-clause-room
push_left-requires-clause-room c =
    let app = subst (λ (r : Replica). IsApplicable r c.requires.0 (planned.AddRule c.args.plan)) (sym c.self.view_is) c.requires.1 in
    left_room _ c.args.plan (lefts_in c.self.inside.table.rows.items) (lefts_in c.add_symbols.new.self.rows.items)
    (to_add _ c.requires.0 c.args.plan app) c.self.invariant.has_lefts refl c.add_symbols.ensures.lefts

pub add_uses-requires-clause-within : goal.add_uses-requires-clause-within
add_uses-requires-clause-within c part there =
    let app = subst (λ (r : Replica). IsApplicable r c.requires.0 (planned.AddRule c.args.plan)) (sym c.self.view_is) c.requires.1 in
    let g : Grammar = grammar_in c.self.inside.version c.self.inside.table.symbols.keys c.self.inside.rules.rules c.self.inside.definitions.items in
    let add = to_add _ c.requires.0 c.args.plan app in
    let rows = c.push_left.new.rows.items in
    let uses : uses_in rows ≡ uses_with (uses_in c.self.inside.table.rows.items) c.args.plan.fresh.items =
    c.push_left.ensures.uses ∙ c.add_symbols.ensures.uses in
    let grown = uses_grown g (AddRule c.args.plan.text) (uses_in c.self.inside.table.rows.items) c.args.plan.fresh.items c.self.invariant.well_formed add.fresh
    c.self.invariant.has_uses in
    let within = right_within _ c.args.plan (uses_in rows) add (ap length uses ∙ grown.len) part (subst (λ xs. Contains xs part) c.as_slice.ensures there) in
    omega (arith, within, length-map rows (λ (row : Row). row.uses))

pub add_uses-requires-clause-few : goal.add_uses-requires-clause-few
add_uses-requires-clause-few c place =
    let app = subst (λ (r : Replica). IsApplicable r c.requires.0 (planned.AddRule c.args.plan)) (sym c.self.view_is) c.requires.1 in
    let g : Grammar = grammar_in c.self.inside.version c.self.inside.table.symbols.keys c.self.inside.rules.rules c.self.inside.definitions.items in
    uses_fit g c.args.plan.fresh.items (uses_in c.self.inside.table.rows.items) (uses_in c.push_left.new.rows.items)
    (length c.as_slice.result.now) c.self.invariant.well_formed c.self.invariant.has_uses (c.push_left.ensures.uses ∙ c.add_symbols.ensures.uses)
    (omega (arith, ap length c.as_slice.ensures, right_short _ c.args.plan (to_add _ c.requires.0 c.args.plan app))) place

pub add_uses-requires-clause-room : goal.add_uses-requires-clause-room
add_uses-requires-clause-room c =
    let app = subst (λ (r : Replica). IsApplicable r c.requires.0 (planned.AddRule c.args.plan)) (sym c.self.view_is) c.requires.1 in
    let add = to_add _ c.requires.0 c.args.plan app in
    omega (arith, ap length c.as_slice.ensures, right_short _ c.args.plan add, add.room.live)

pub with_rule-requires-clause-last : goal.with_rule-requires-clause-last
with_rule-requires-clause-last c =
    let app = subst (λ (r : Replica). IsApplicable r c.requires.0 (planned.AddRule c.args.plan)) (sym c.self.view_is) c.requires.1 in
    below_next _ c.args.plan c.replace-rules.result.rules (to_add _ c.requires.0 c.args.plan app)
    (subst (λ (r : Rules). AllByRecursion (λ l. IsNumber c.self.inside.version l.number.0) r.rules)
    (sym c.replace-rules.ensures.value) c.self.invariant.well_formed.rule_numbers)

pub invariant_of-self : goal.invariant_of-self
invariant_of-self c =
    let app = subst (λ (r : Replica). IsApplicable r c.requires.0 (planned.AddRule c.args.plan)) (sym c.self.view_is) c.requires.1 in
    let add = to_add _ c.requires.0 c.args.plan app in
    let is = after_rule _ c.args.plan c.add_symbols.new.self.symbols.keys c.with_rule.result.rules add c.add_symbols.ensures.symbols (c.with_rule.ensures.rules
    ∙ ap (λ (r : Rules). r.rules ++ c.args.plan.live ∷ []) c.replace-rules.ensures.value) in
    let old = c.self.inside.table.rows.items in
    let grown = c.push_left.new.rows.items in
    let rows = c.add_uses.new.rows.items in
    subst (λ (g : Grammar). Agrees g (live_number rule_eq c.set_number.new.numbers) (live_number bytes_eq c.self.inside.definition_numbers) (lefts_in rows)
    (uses_in rows) (literals_in rows) c.self.inside.definitions.items c.add_uses.new.live.items c.with_rule.new.spare.items) (sym is)
    (agrees_rule_added _ c.args.plan c.self.inside.definitions.items (live_number rule_eq c.self.inside.rule_numbers)
    (live_number rule_eq c.set_number.new.numbers) (live_number bytes_eq c.self.inside.definition_numbers) (lefts_in old) (lefts_in rows)
    (uses_in old) (uses_in grown) (uses_in rows) (literals_in old)
    (literals_in rows) c.self.inside.live.items c.add_uses.new.live.items c.self.inside.spare_rules.items c.with_rule.new.spare.items
    c.self.invariant add (ap option_flatten c.set_number.ensures.1) (λ other differs. ap option_flatten (c.set_number.ensures.2 other differs))
    (omega (
      arith,
      ap length c.add_uses.ensures.lefts,
      length-map grown (λ (row : Row). row.rules),
      c.push_left.ensures.len,
      length-map c.add_symbols.new.self.rows.items (λ (row : Row). row.rules),
      ap length c.add_symbols.ensures.lefts,
    ))
    (λ place. ap (λ ls. under ls place) c.add_uses.ensures.lefts ∙ c.push_left.ensures.lists place
    ∙ ap (λ ls. if place == c.args.plan.live.left.0 then under ls place ++ c.args.plan.live.number ∷ [] else under ls place) c.add_symbols.ensures.lefts)
    (c.push_left.ensures.uses ∙ c.add_symbols.ensures.uses) (same_uses rows grown c.add_uses.ensures.lefts)
    (λ place. c.add_uses.ensures.counts place ∙ ap (λ parts. option_map (λ n. n + occurrences (record { 0 = place }) parts)
    (slice_get (uses_in grown) place)) c.as_slice.ensures)
    (c.add_uses.ensures.literals ∙ c.push_left.ensures.literals ∙ c.add_symbols.ensures.literals)
    (λ others lists. subst (λ ls. ListsDefinitions (IsLiveBy ls (uses_in rows) others) c.add_uses.new.live.items) (sym c.add_uses.ensures.literals)
    (c.add_uses.ensures.live others (subst (λ ls. ListsDefinitions (IsLiveBy ls (uses_in grown) others) c.self.inside.live.items) c.add_uses.ensures.literals
    lists)))
    c.with_rule.ensures.empty)

pub returns : goal.returns
returns c edit applicable =
    let app = subst (λ (r : Replica). IsApplicable r edit (planned.AddRule c.args.plan)) (sym c.self.view_is) applicable in
    let add = to_add _ edit c.args.plan app in
    after_rule _ c.args.plan c.add_symbols.new.self.symbols.keys c.with_rule.result.rules add c.add_symbols.ensures.symbols (c.with_rule.ensures.rules
    ∙ ap (λ (r : Rules). r.rules ++ c.args.plan.live ∷ []) c.replace-rules.ensures.value)
    ∙ ap (after_edit _) (sym (edit_to_add _ edit c.args.plan app)) ∙ ap (λ (r : Replica). after_edit r.grammar edit) c.self.view_is
