use Rattle.std.proofs.Common.{[], ◌∷◌, true, None, refl, ap, sym, ◌∙◌, subst}
use Rattle.edit_log.specs.declared.ready.Plan.TheVariants as plan
use Rattle.edit_log.specs.History.{Grammar}
use Rattle.edit_log.specs.Verdict.{IsAccepted}
use Rattle.edit_log.specs.Touches.{IsTouchOf}
use Rattle.edit_log.specs.Agreement.{grammar_in}
use Rattle.edit_log.specs.Replicas.{Replica, drops, IsPlanFor}
use Rattle.edit_log.specs.declared.definitions.DefId.TheVariants.{Named as named}
use Rattle.edit_log.proofs.Planning.{dropped_definition, no_definition, definition_end_planned}
use Rattle.edit_log.proofs.TouchLemmas.{touch_definition_dropped}
use Rattle.edit_log.proofs.grammar.Grammar.plan_definition_end.Goals as goal

pub unreachable-requires : goal.unreachable-requires
unreachable-requires c =
    let g : Grammar = grammar_in c.self.inside.version c.self.inside.table.symbols.keys c.self.inside.rules.rules c.self.inside.definitions.items in
    let accepted : IsAccepted g (drops c.args.is_skip c.args.name) = subst (λ (r : Replica). IsAccepted r.grammar (drops c.args.is_skip c.args.name))
    (sym c.self.view_is) c.requires in
    no_definition g c.args.is_skip c.args.name c.self.invariant.well_formed accepted (sym c.in_default.is ∙ c.live_number.ensures
    ∙ c.self.invariant.finds_definitions c.args.name)

pub returns-clause-plan : goal.returns-clause-plan
returns-clause-plan c =
    let g : Grammar = grammar_in c.self.inside.version c.self.inside.table.symbols.keys c.self.inside.rules.rules c.self.inside.definitions.items in
    let accepted : IsAccepted g (drops c.args.is_skip c.args.name) = subst (λ (r : Replica). IsAccepted r.grammar (drops c.args.is_skip c.args.name))
    (sym c.self.view_is) c.requires in
    let dropped = dropped_definition g c.args.is_skip c.args.name c.in-Some.number c.self.invariant.well_formed accepted
    (sym c.in-Some.is ∙ c.live_number.ensures ∙ c.self.invariant.finds_definitions c.args.name) in
    subst (λ (r : Replica). IsPlanFor r.grammar (drops c.args.is_skip c.args.name) (plan.DropDefinition (record {
      name = c.args.name;
      number =
          c.in-Some.number;
    }))) c.self.view_is (definition_end_planned g c.args.is_skip c.args.name c.in-Some.number dropped)

pub returns-clause-touch : goal.returns-clause-touch
returns-clause-touch c =
    let g : Grammar = grammar_in c.self.inside.version c.self.inside.table.symbols.keys c.self.inside.rules.rules c.self.inside.definitions.items in
    let accepted : IsAccepted g (drops c.args.is_skip c.args.name) = subst (λ (r : Replica). IsAccepted r.grammar (drops c.args.is_skip c.args.name))
    (sym c.self.view_is) c.requires in
    let dropped = dropped_definition g c.args.is_skip c.args.name c.in-Some.number c.self.invariant.well_formed accepted
    (sym c.in-Some.is ∙ c.live_number.ensures ∙ c.self.invariant.finds_definitions c.args.name) in
    subst (λ (r : Replica). IsTouchOf r.grammar (drops c.args.is_skip c.args.name) (record {
      left = None;
      gone_rule = None;
      scan = true;
      gone_defs =
          c.from_vec.result;
    })) c.self.view_is
    (touch_definition_dropped g c.args.is_skip c.args.name dropped.0 (record {
      left = None;
      gone_rule = None;
      scan = true;
      gone_defs =
          c.from_vec.result;
    }) c.self.invariant.well_formed accepted dropped.1 refl refl refl
    (c.from_vec.ensures ∙ c.in_ok-gone.ensures.items ∙ ap (λ n. named n ∷ []) dropped.2))
