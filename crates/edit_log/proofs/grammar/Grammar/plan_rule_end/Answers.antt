use Rattle.std.proofs.Common.{◌≡◌, ◌↔◌, [], length, not, Some, None, option_map, IsTrue, ap, sym, ◌∙◌, subst, arith}
use Rattle.grammar_text.specs.declared.edit.Edit.TheVariants.{DropRule}
use Rattle.forest.specs.declared.rules.Rule.{Rule}
use Rattle.edit_log.specs.Rows.{uses_in, literals_in}
use Rattle.edit_log.specs.Rows.{uses_in, literals_in}
use Rattle.edit_log.specs.History.{Grammar}
use Rattle.edit_log.specs.Verdict.{IsAccepted}
use Rattle.edit_log.specs.Touches.{IsTouchOf}
use Rattle.edit_log.specs.Agreement.{grammar_in}
use Rattle.edit_log.specs.Replicas.{Replica}
use Rattle.std.proofs.Common.{Bor}
use Rattle.std.proofs.lemmas.Option.{same_Some}
use Rattle.edit_log.specs.Lookups.{rule_of, ListsDefinitions}
use Rattle.edit_log.specs.Lists.{IsLastUse}
use Rattle.edit_log.proofs.TouchLemmas.{touch_rule_dropped}
use Rattle.edit_log.proofs.Planning.{dropped_number, no_number, found_by_number, some_listed}
use Rattle.edit_log.proofs.grammar.Grammar.plan_rule_end.Goals as goal

pub unreachable-requires : goal.unreachable-requires
unreachable-requires c =
    let g : Grammar = grammar_in c.self.inside.version c.self.inside.table.symbols.keys c.self.inside.rules.rules c.self.inside.definitions.items in
    let accepted : IsAccepted g (DropRule c.args.text) = subst (λ (r : Replica). IsAccepted r.grammar (DropRule c.args.text)) (sym c.self.view_is) c.requires in
    no_number g c.args.text accepted (sym c.in_default.is ∙ c.live_number.ensures ∙ c.self.invariant.finds_rules c.args.text)

pub unreachable-requires-in_default-rule_of : goal.unreachable-requires-in_default-rule_of
unreachable-requires-in_default-rule_of c =
    let g : Grammar = grammar_in c.self.inside.version c.self.inside.table.symbols.keys c.self.inside.rules.rules c.self.inside.definitions.items in
    let dropped = dropped_number g c.args.text c.in-Some.number (sym c.in-Some.is ∙ c.live_number.ensures ∙ c.self.invariant.finds_rules c.args.text) in
    let none : None ≡ Some dropped.0 = ap (option_map (λ (l : Bor Rule). l.now)) (sym c.in_default-rule_of.is) ∙ c.rule_of.ensures ∙ ap
    (rule_of c.self.inside.rules.rules) dropped.2 ∙ found_by_number g c.args.text dropped.0 c.self.invariant.well_formed dropped.1 in
    absurd cc

pub returns-clause-touch : goal.returns-clause-touch
returns-clause-touch c =
    let g : Grammar = grammar_in c.self.inside.version c.self.inside.table.symbols.keys c.self.inside.rules.rules c.self.inside.definitions.items in
    let accepted : IsAccepted g (DropRule c.args.text) = subst (λ (r : Replica). IsAccepted r.grammar (DropRule c.args.text)) (sym c.self.view_is) c.requires in
    let dropped = dropped_number g c.args.text c.in-Some.number (sym c.in-Some.is ∙ c.live_number.ensures ∙ c.self.invariant.finds_rules c.args.text) in
    let is : c.in-Some-rule_of.live.now ≡ dropped.0 = same_Some c.in-Some-rule_of.live.now dropped.0
    (ap (option_map (λ (l : Bor Rule). l.now)) (sym c.in-Some-rule_of.is) ∙ c.rule_of.ensures ∙ ap (rule_of c.self.inside.rules.rules) dropped.2
    ∙ found_by_number g c.args.text dropped.0 c.self.invariant.well_formed dropped.1) in
    let gone : ListsDefinitions (IsLastUse (literals_in c.self.inside.table.rows.items) (uses_in c.self.inside.table.rows.items) dropped.0.right)
    c.from_vec.result =
    subst (λ ds. ListsDefinitions (IsLastUse (literals_in c.self.inside.table.rows.items) (uses_in c.self.inside.table.rows.items) dropped.0.right) ds)
    (sym c.from_vec.ensures)
    (subst (λ rs. ListsDefinitions (IsLastUse (literals_in rs) (uses_in rs) dropped.0.right) c.in_ok-gone.gone.items) c.deref.ensures.value
    (subst (λ xs. ListsDefinitions (IsLastUse (literals_in c.deref.result.now) (uses_in c.deref.result.now) xs) c.in_ok-gone.gone.items) (c.as_slice.ensures
    ∙ ap (λ (l : Rule). l.right) is) c.in_ok-gone.ensures)) in
    let scan : IsTrue (not c.is_empty.result) ↔ (c.from_vec.result ≡ [] → ⊥) =
    subst (λ ds. IsTrue (not c.is_empty.result) ↔ (ds ≡ [] → ⊥)) (sym c.from_vec.ensures) (subst (λ b. IsTrue (not b) ↔ (c.in_ok-gone.gone.items ≡ [] → ⊥))
    (sym c.is_empty.ensures) (some_listed c.in_ok-gone.gone.items _ c.in_ok-gone.gone.ok.0)) in
    subst (λ (r : Replica). IsTouchOf r.grammar (DropRule c.args.text) (record {
      left = Some c.in-Some-rule_of.live.now.left;
      gone_rule = Some c.in-Some.number;
      scan = not c.is_empty.result;
      gone_defs = c.from_vec.result;
    })) c.self.view_is
    (touch_rule_dropped g c.args.text (uses_in c.self.inside.table.rows.items) (literals_in c.self.inside.table.rows.items) dropped.0 (record {
      left =
          Some c.in-Some-rule_of.live.now.left;
      gone_rule = Some c.in-Some.number;
      scan = not c.is_empty.result;
      gone_defs = c.from_vec.result;
    })
    c.self.invariant.well_formed accepted dropped.1 c.self.invariant.has_uses c.self.invariant.has_literals (ap (λ (l : Rule). Some l.left) is)
    (ap Some dropped.2) gone scan)
