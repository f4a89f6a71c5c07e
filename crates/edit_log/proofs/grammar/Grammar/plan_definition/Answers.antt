use Rattle.std.proofs.Common.{◌≡◌, ◌+◌, ◌++◌, length, true, None, refl, ap, sym, ◌∙◌, subst, arith}
use Rattle.edit_log.specs.declared.ready.Plan.TheVariants as plan
use Rattle.edit_log.specs.History.{Grammar}
use Rattle.edit_log.specs.Verdict.{IsAccepted}
use Rattle.edit_log.specs.Touches.{IsTouchOf}
use Rattle.edit_log.specs.Agreement.{grammar_in}
use Rattle.edit_log.specs.Replicas.{Replica, adds, IsPlanFor}
use Rattle.std.proofs.Common.{append-nil}
use Rattle.grammar_text.specs.declared.symbol.Symbol.TheVariants.{Named}
use Rattle.std.specs.List.{AllByRecursion}
use Rattle.edit_log.specs.Symbols.{number_of, with_symbol}
use Rattle.edit_log.specs.Replicas.{symbols_in, IsFreshSymbol}
use Rattle.edit_log.proofs.Planning.{definition_planned}
use Rattle.edit_log.proofs.TouchLemmas.{touch_definition_added}
use Rattle.edit_log.proofs.grammar.Grammar.plan_definition.Goals as goal

pub returns-clause-plan : goal.returns-clause-plan
returns-clause-plan c =
    let g : Grammar = grammar_in c.self.inside.version c.self.inside.table.symbols.keys c.self.inside.rules.rules c.self.inside.definitions.items in
    let grown : g.symbols ++ symbols_in c.number_in.new.fresh.items ≡ with_symbol g.symbols (Named c.args.definition.name) =
    c.in_ok-symbol.ensures.grown ∙ ap (λ fs. with_symbol (g.symbols ++ symbols_in fs) (Named c.in_ok-clone.field-0)) c.new-fresh.ensures.items ∙ ap
    (λ ss. with_symbol ss (Named c.in_ok-clone.field-0)) (append-nil g.symbols) ∙ ap (λ n. with_symbol g.symbols (Named n)) c.in_ok-clone.ensures.cases in
    let each : AllByRecursion IsFreshSymbol c.number_in.new.fresh.items =
    c.number_in.ensures.fresh (subst (AllByRecursion IsFreshSymbol) (sym c.new-fresh.ensures.items) tt) in
    subst (λ (r : Replica). IsPlanFor r.grammar (adds c.args.is_skip c.args.definition) (plan.AddDefinition (record {
      name = c.args.definition.name;
      live =
          c.in_ok-live.live;
      fresh = c.number_in.new.fresh;
    }))) c.self.view_is
    (definition_planned g c.args.is_skip c.args.definition c.number_in.new.fresh.items c.next_number.result c.in_ok-symbol.symbol c.in_ok-live.live grown each
    (omega (arith, c.in_ok-symbol.ensures.few, ap length c.new-fresh.ensures.items))
    (c.next_number.ensures ∙ ap (λ (r : Replica). r.grammar.version + 1) (sym c.self.view_is)) (c.in_ok-symbol.ensures.number
    ∙ ap (λ n. number_of (g.symbols ++ symbols_in c.number_in.new.fresh.items) (Named n)) c.in_ok-clone.ensures.cases)
    c.in_ok-live.ensures.seen c.in_ok-live.ensures.positions c.number_in.new.fresh refl)

pub returns-clause-touch : goal.returns-clause-touch
returns-clause-touch c =
    let g : Grammar = grammar_in c.self.inside.version c.self.inside.table.symbols.keys c.self.inside.rules.rules c.self.inside.definitions.items in
    let accepted : IsAccepted g (adds c.args.is_skip c.args.definition) = subst (λ (r : Replica). IsAccepted r.grammar (adds c.args.is_skip c.args.definition))
    (sym c.self.view_is) c.requires in
    subst (λ (r : Replica). IsTouchOf r.grammar (adds c.args.is_skip c.args.definition) (record {
      left = None;
      gone_rule = None;
      scan = true;
      gone_defs =
          c.from_vec.result;
    })) c.self.view_is
    (touch_definition_added g c.args.is_skip c.args.definition (record {
      left = None;
      gone_rule = None;
      scan = true;
      gone_defs =
          c.from_vec.result;
    }) c.self.invariant.well_formed accepted refl refl refl (c.from_vec.ensures ∙ c.new.ensures.items))
