use Rattle.std.proofs.Common.{◌↔◌, ◌⊎◌, ◌+◌, Some, None, IsTrue, refl, ap, sym, ◌∙◌, subst}
use Rattle.grammar_text.specs.declared.edit.Edit.TheVariants.{AddRule}
use Rattle.edit_log.specs.Rows.{uses_in, literals_in}
use Rattle.edit_log.specs.Rows.{uses_in, literals_in}
use Rattle.edit_log.specs.declared.ready.Plan.TheVariants as plan
use Rattle.edit_log.specs.History.{Grammar}
use Rattle.edit_log.specs.Verdict.{IsAccepted}
use Rattle.edit_log.specs.Touches.{IsTouchOf}
use Rattle.edit_log.specs.Agreement.{grammar_in}
use Rattle.edit_log.specs.Replicas.{Replica, IsPlanFor}
use Rattle.edit_log.proofs.SoundEdits.{sized_right, short_right}
use Rattle.edit_log.proofs.Planning.{fresh_for_rule, rule_planned}
use Rattle.edit_log.proofs.TouchLemmas.{touch_rule_added}
use Rattle.std.specs.List.{list_any}
use Rattle.edit_log.specs.Live.{is_literal}
use Rattle.edit_log.specs.Lists.{Wakes}
use Rattle.edit_log.specs.Replicas.{symbols_in}
use Rattle.edit_log.proofs.grammar.Grammar.plan_rule.Goals as goal

pub rule_in-requires-clause-sized : goal.rule_in-requires-clause-sized
rule_in-requires-clause-sized c = sized_right c.args.text c.requires.proper.0

pub returns-clause-plan : goal.returns-clause-plan
returns-clause-plan c =
    let g : Grammar = grammar_in c.self.inside.version c.self.inside.table.symbols.keys c.self.inside.rules.rules c.self.inside.definitions.items in
    let short = short_right c.args.text c.requires.proper.0 in
    let is : IsPlanFor g (AddRule c.args.text) (plan.AddRule (record { text = c.args.text; live = c.in_ok-live.live; fresh = c.rule_in.new.fresh })) = (
      refl,
      rule_planned g c.args.text c.rule_in.new.fresh.items c.next_number.result c.in_ok-live.live c.in_ok-live.ensures.grown (c.next_number.ensures
          ∙ ap (λ (r : Replica). r.grammar.version + 1) (sym c.self.view_is)) c.in_ok-live.ensures.numbered,
      fresh_for_rule g c.args.text c.rule_in.new.fresh.items c.in_ok-live.ensures.grown c.in_ok-live.ensures.fresh c.in_ok-live.ensures.few short,
    ) in
    subst (λ (r : Replica). IsPlanFor r.grammar (AddRule c.args.text) (plan.AddRule (record {
      text = c.args.text;
      live = c.in_ok-live.live;
      fresh =
          c.rule_in.new.fresh;
    }))) c.self.view_is is

pub returns-clause-touch : goal.returns-clause-touch
returns-clause-touch c =
    let g : Grammar = grammar_in c.self.inside.version c.self.inside.table.symbols.keys c.self.inside.rules.rules c.self.inside.definitions.items in
    let accepted : IsAccepted g (AddRule c.args.text) = subst (λ (r : Replica). IsAccepted r.grammar (AddRule c.args.text)) (sym c.self.view_is) c.requires in
    let fresh = fresh_for_rule g c.args.text c.rule_in.new.fresh.items c.in_ok-live.ensures.grown c.in_ok-live.ensures.fresh c.in_ok-live.ensures.few
    (short_right c.args.text c.requires.proper.0) in
    let live = rule_planned g c.args.text c.rule_in.new.fresh.items c.next_number.result c.in_ok-live.live c.in_ok-live.ensures.grown (c.next_number.ensures
    ∙ ap (λ (r : Replica). r.grammar.version + 1) (sym c.self.view_is)) c.in_ok-live.ensures.numbered in
    let rows = c.self.inside.table.rows.items in
    let scan : IsTrue c.makes_live.result ↔ (IsTrue (list_any is_literal (symbols_in c.rule_in.new.fresh.items))
    ⊎ Wakes (literals_in rows) (uses_in rows) c.in_ok-live.live.right) =
    subst (λ fs. IsTrue c.makes_live.result ↔ (IsTrue (list_any is_literal (symbols_in fs)) ⊎ Wakes (literals_in rows) (uses_in rows) c.in_ok-live.live.right))
    c.deref.ensures.value
    (subst (λ rs. IsTrue c.makes_live.result ↔ (IsTrue (list_any is_literal (symbols_in c.deref.result.now))
    ⊎ Wakes (literals_in rs) (uses_in rs) c.in_ok-live.live.right)) c.deref-2.ensures.value
    (subst (λ xs. IsTrue c.makes_live.result ↔ (IsTrue (list_any is_literal (symbols_in c.deref.result.now)) ⊎ Wakes (literals_in c.deref-2.result.now)
    (uses_in c.deref-2.result.now) xs)) c.as_slice.ensures c.makes_live.ensures)) in
    subst (λ (r : Replica). IsTouchOf r.grammar (AddRule c.args.text) (record {
      left = Some c.in_ok-live.live.left;
      gone_rule = None;
      scan =
          c.makes_live.result;
      gone_defs = c.from_vec.result;
    })) c.self.view_is
    (touch_rule_added g c.args.text (uses_in c.self.inside.table.rows.items) (literals_in c.self.inside.table.rows.items) c.rule_in.new.fresh.items
    c.in_ok-live.live (record { left = Some c.in_ok-live.live.left; gone_rule = None; scan = c.makes_live.result; gone_defs = c.from_vec.result })
    c.self.invariant.well_formed accepted fresh c.self.invariant.has_uses c.self.invariant.has_literals live refl refl (c.from_vec.ensures
    ∙ c.new.ensures.items) scan)
