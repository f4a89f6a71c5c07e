use Rattle.std.proofs.Common.{subst, sym, ap, ◌∙◌}
use Rattle.std.specs.Option.{option_flatten}
use Rattle.edit_log.specs.declared.ready.Plan.TheVariants as planned
use Rattle.edit_log.specs.History.{after_edit}
use Rattle.edit_log.specs.Replicas.{Replica, IsApplicable}
use Rattle.edit_log.proofs.AgreesAfterDropDefinition.{definition_gone, agrees_definition_dropped}
use Rattle.edit_log.proofs.grammar.Grammar.drop_definition.Goals as goal

pub invariant_of-self : goal.invariant_of-self
invariant_of-self c =
    let edit = c.requires.0 in
    let g = subst (λ (r : Replica). IsApplicable r edit (planned.DropDefinition c.args.plan)) (sym c.self.view_is) c.requires.1 in
    agrees_definition_dropped c.self.inside.version c.self.inside.table.symbols.keys c.self.inside.rules.rules c.self.inside.definitions.items
    c.drop_definition.new.definitions.items edit c.args.plan _ _ _ _ _ _ _ _ _
    c.self.invariant g.accepted g.plan c.drop_definition.ensures (ap option_flatten c.set_number.ensures.1)
    (λ other apart. ap option_flatten (c.set_number.ensures.2 other apart)) c.remove.ensures

pub returns : goal.returns
returns c edit applicable =
    let g = subst (λ (r : Replica). IsApplicable r edit (planned.DropDefinition c.args.plan)) (sym c.self.view_is) applicable in
    definition_gone c.self.inside.version c.self.inside.table.symbols.keys c.self.inside.rules.rules c.self.inside.definitions.items
    c.drop_definition.new.definitions.items edit c.args.plan c.self.invariant.well_formed g.accepted g.plan c.drop_definition.ensures
    ∙ ap (λ (r : Replica). after_edit r.grammar edit) c.self.view_is
