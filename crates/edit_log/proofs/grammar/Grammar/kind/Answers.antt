use Rattle.std.proofs.Common.{◌≡◌, List, option_map, Some, None, ◌==◌, find, ap, sym, ◌∙◌}
use Rattle.edit_log.specs.declared.symbol_table.Row.{Row}
use Rattle.edit_log.specs.Rows.{uses_in, literals_in}
use Rattle.edit_log.specs.declared.symbol_table.Row.{Row}
use Rattle.edit_log.specs.Rows.{uses_in, literals_in}
use Rattle.edit_log.specs.History.{Grammar}
use Rattle.edit_log.specs.Replicas.{Replica, seen_of}
use Rattle.edit_log.specs.declared.definitions.DefId.TheVariants.{Literal as literal, Named as named}
use Rattle.edit_log.specs.Live.{kind_of, kind_of_definition}
use Rattle.edit_log.specs.Agreement.{grammar_in}
use Rattle.edit_log.proofs.LookupLemmas.{told_live, told_dead, literal_kind, no_kind, found_told}
use Rattle.edit_log.proofs.grammar.Grammar.kind.Goals as goal

pub returns-in_err-live_literal-in-Literal : goal.returns-in_err-live_literal-in-Literal
returns-in_err-live_literal-in-Literal c =
    let g : Grammar = grammar_in c.self.inside.version c.self.inside.table.symbols.keys c.self.inside.rules.rules c.self.inside.definitions.items in
    let dead = told_dead g (uses_in c.deref.result.now) (literals_in c.deref.result.now) (uses_in c.self.inside.table.rows.items)
    (literals_in c.self.inside.table.rows.items) c.in-Literal.symbol c.live_literal.result
    c.self.invariant.well_formed c.self.invariant.has_uses c.self.invariant.has_literals (ap (λ (rs : List Row). uses_in rs) c.deref.ensures.value)
    (ap (λ (rs : List Row). literals_in rs) c.deref.ensures.value) c.live_literal.ensures c.in_err-live_literal-in-Literal.was in
    c.from_residual.ensures ∙ no_kind g (literal c.in-Literal.symbol) dead ∙ ap (λ d. kind_of g d) (sym c.in-Literal.is) ∙ ap
    (λ (r : Replica). kind_of r.grammar c.args.def) c.self.view_is

pub returns-in_err-live-in-Named : goal.returns-in_err-live-in-Named
returns-in_err-live-in-Named c =
    let g : Grammar = grammar_in c.self.inside.version c.self.inside.table.symbols.keys c.self.inside.rules.rules c.self.inside.definitions.items in
    let told = found_told c.self.inside.definitions.items c.in-Named.number c.definition_of.result (c.definition_of.ensures
    ∙ ap (find (λ live. live.number.0 == c.in-Named.number.0)) c.deref-in-Named.ensures.value) in
    let none : None ≡ kind_of g (named c.in-Named.number) = ap (λ o. option_map kind_of_definition (option_map (λ live. seen_of live.now) o))
    (sym c.in_err-live-in-Named.was) ∙ ap (option_map kind_of_definition) told in
    c.from_residual-in_err-live-in-Named.ensures ∙ none ∙ ap (λ d. kind_of g d) (sym c.in-Named.is) ∙ ap
    (λ (r : Replica). kind_of r.grammar c.args.def) c.self.view_is

pub returns-in_ok-live_literal-in-Literal : goal.returns-in_ok-live_literal-in-Literal
returns-in_ok-live_literal-in-Literal c =
    let g : Grammar = grammar_in c.self.inside.version c.self.inside.table.symbols.keys c.self.inside.rules.rules c.self.inside.definitions.items in
    let live = told_live g (uses_in c.deref.result.now) (literals_in c.deref.result.now) (uses_in c.self.inside.table.rows.items)
    (literals_in c.self.inside.table.rows.items) c.in-Literal.symbol c.live_literal.result c.in_ok-live_literal-in-Literal.field-0
    c.self.invariant.well_formed c.self.invariant.has_uses c.self.invariant.has_literals (ap (λ (rs : List Row). uses_in rs) c.deref.ensures.value)
    (ap (λ (rs : List Row). literals_in rs) c.deref.ensures.value) c.live_literal.ensures c.in_ok-live_literal-in-Literal.was in
    literal_kind g c.in-Literal.symbol live ∙ ap (λ d. kind_of g d) (sym c.in-Literal.is) ∙ ap (λ (r : Replica). kind_of r.grammar c.args.def) c.self.view_is

pub returns-in_ok-live-in-Named : goal.returns-in_ok-live-in-Named
returns-in_ok-live-in-Named c =
    let g : Grammar = grammar_in c.self.inside.version c.self.inside.table.symbols.keys c.self.inside.rules.rules c.self.inside.definitions.items in
    let told = found_told c.self.inside.definitions.items c.in-Named.number c.definition_of.result (c.definition_of.ensures
    ∙ ap (find (λ live. live.number.0 == c.in-Named.number.0)) c.deref-in-Named.ensures.value) in
    let some : Some (kind_of_definition (seen_of c.in_ok-live-in-Named.live.now)) ≡ kind_of g (named c.in-Named.number) =
    ap (λ o. option_map kind_of_definition (option_map (λ live. seen_of live.now) o)) (sym c.in_ok-live-in-Named.was) ∙ ap
    (option_map kind_of_definition) told in
    ap Some c.kind_of_definition.ensures ∙ some ∙ ap (λ d. kind_of g d) (sym c.in-Named.is) ∙ ap (λ (r : Replica). kind_of r.grammar c.args.def) c.self.view_is
