use Rattle.std.proofs.Common.{subst, sym, ap, ◌∙◌}
use Rattle.std.specs.Option.{option_flatten}
use Rattle.edit_log.specs.declared.ready.Plan.TheVariants as planned
use Rattle.edit_log.specs.History.{after_edit}
use Rattle.edit_log.specs.Replicas.{Replica, IsApplicable}
use Rattle.edit_log.specs.Agreement.{grammar_in}
use Rattle.edit_log.proofs.AgreesAfterAddDefinition.{symbols_apart, definition_come, agrees_definition_added}
use Rattle.edit_log.proofs.grammar.Grammar.add_definition.Goals as goal

pub add_symbols-requires-clause-new : goal.add_symbols-requires-clause-new
add_symbols-requires-clause-new c =
    let edit = c.requires.0 in
    let g = subst (λ (r : Replica). IsApplicable r edit (planned.AddDefinition c.args.plan)) (sym c.self.view_is) c.requires.1 in
    symbols_apart (grammar_in c.self.inside.version c.self.inside.table.symbols.keys c.self.inside.rules.rules c.self.inside.definitions.items) edit c.args.plan
    c.self.invariant.well_formed g.accepted g.plan

pub invariant_of-self : goal.invariant_of-self
invariant_of-self c =
    let edit = c.requires.0 in
    let g = subst (λ (r : Replica). IsApplicable r edit (planned.AddDefinition c.args.plan)) (sym c.self.view_is) c.requires.1 in
    let added = c.add_symbols.ensures in
    agrees_definition_added c.self.inside.version c.self.inside.table.symbols.keys c.add_symbols.new.self.symbols.keys c.self.inside.rules.rules
    c.self.inside.definitions.items c.push_reserved.new.self.items edit c.args.plan
    _ _ _ _ _ _ _ _ _ _ _ _ c.self.invariant g.accepted g.plan added.symbols c.push_reserved.ensures.items added.lefts added.uses added.literals
    (ap option_flatten c.set_number.ensures.1) (λ other apart. ap option_flatten (c.set_number.ensures.2 other apart)) c.insert.ensures.live

pub returns : goal.returns
returns c edit applicable =
    let g = subst (λ (r : Replica). IsApplicable r edit (planned.AddDefinition c.args.plan)) (sym c.self.view_is) applicable in
    definition_come c.self.inside.version c.self.inside.table.symbols.keys c.add_symbols.new.self.symbols.keys c.self.inside.rules.rules
    c.self.inside.definitions.items c.push_reserved.new.self.items edit c.args.plan
    g.plan c.add_symbols.ensures.symbols c.push_reserved.ensures.items
    ∙ ap (λ (r : Replica). after_edit r.grammar edit) c.self.view_is
