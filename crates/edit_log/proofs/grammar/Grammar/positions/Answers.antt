use Rattle.std.proofs.Common.{◌≡◌, List, ◌↔◌, option_map, slice_get, Some, None, IfSome, IsTrue, Option, Bor, refl, ap, sym, ◌∙◌, subst}
use Rattle.std.specs.Option.{is_some}
use Rattle.edit_log.specs.declared.symbol_table.Row.{Row}
use Rattle.edit_log.specs.Rows.{uses_in, literals_in}
use Rattle.edit_log.specs.declared.symbol_table.Row.{Row}
use Rattle.edit_log.specs.Rows.{uses_in, literals_in}
use Rattle.edit_log.specs.History.{Grammar}
use Rattle.edit_log.specs.Replicas.{Replica}
use Rattle.regex_ast.specs.Positions.{Table}
use Rattle.edit_log.specs.declared.definitions.DefId.TheVariants.{Literal as literal, Named as named}
use Rattle.edit_log.specs.Live.{IsLive}
use Rattle.edit_log.specs.Lookups.{ArePositionsFor}
use Rattle.edit_log.specs.Kept.{live_literal}
use Rattle.edit_log.specs.Agreement.{grammar_in}
use Rattle.edit_log.proofs.LookupLemmas.{told_live, told_dead, told_literal, literal_positions, named_live, named_dead, named_positions}
use Rattle.edit_log.proofs.grammar.Grammar.positions.Goals as goal

pub returns-in-Literal-clause-live : goal.returns-in-Literal-clause-live
returns-in-Literal-clause-live c = by c.live_literal.result refl
  where
    g : Grammar
    g = grammar_in c.self.inside.version c.self.inside.table.symbols.keys c.self.inside.rules.rules c.self.inside.definitions.items

    seen : IsLive g (literal c.in-Literal.symbol) ↔ IsLive c.args.self.now.grammar c.args.def
    seen = subst (λ d. IsLive g (literal c.in-Literal.symbol) ↔ IsLive c.args.self.now.grammar d) (sym c.in-Literal.is)
        (subst (λ (r : Replica). IsLive g (literal c.in-Literal.symbol) ↔ IsLive r.grammar (literal c.in-Literal.symbol)) c.self.view_is ((λ x. x), (λ x. x)))

    by : (told : Option (Bor Table)) → c.live_literal.result ≡ told → IsTrue (is_some told) ↔ IsLive c.args.self.now.grammar c.args.def
    by None is =
        let dead = told_dead g (uses_in c.deref.result.now) (literals_in c.deref.result.now) (uses_in c.self.inside.table.rows.items)
        (literals_in c.self.inside.table.rows.items) c.in-Literal.symbol c.live_literal.result
        c.self.invariant.well_formed c.self.invariant.has_uses c.self.invariant.has_literals (ap (λ (rs : List Row). uses_in rs) c.deref.ensures.value)
        (ap (λ (rs : List Row). literals_in rs) c.deref.ensures.value) c.live_literal.ensures is in
        (λ some. absurd cc, λ live. absurd (dead (seen.1 live)))
    by (Some table) is =
        let live = told_live g (uses_in c.deref.result.now) (literals_in c.deref.result.now) (uses_in c.self.inside.table.rows.items)
        (literals_in c.self.inside.table.rows.items) c.in-Literal.symbol c.live_literal.result table
        c.self.invariant.well_formed c.self.invariant.has_uses c.self.invariant.has_literals (ap (λ (rs : List Row). uses_in rs) c.deref.ensures.value)
        (ap (λ (rs : List Row). literals_in rs) c.deref.ensures.value) c.live_literal.ensures is in
        (λ some. seen.0 live, λ live. refl)

pub returns-in-Literal-clause-positions : goal.returns-in-Literal-clause-positions
returns-in-Literal-clause-positions c = by c.live_literal.result refl
  where
    by : (told : Option (Bor Table)) → c.live_literal.result ≡ told
        → IfSome told (λ positions. ArePositionsFor c.args.self.now.grammar c.args.def positions.now)
    by None is = tt
    by (Some table) is =
        let some : live_literal (uses_in c.deref.result.now) (literals_in c.deref.result.now) c.in-Literal.symbol.0 ≡ Some table.now =
        sym c.live_literal.ensures ∙ ap (option_map (λ p. p.now)) is in
        let kept = told_literal (uses_in c.deref.result.now) (literals_in c.deref.result.now) c.in-Literal.symbol.0 table.now some in
        let are = literal_positions c.self.inside.table.symbols.keys
        (literals_in c.self.inside.table.rows.items) c.in-Literal.symbol table.now c.self.invariant.has_literals
        (subst (λ ls. slice_get ls c.in-Literal.symbol.0 ≡ Some (Some table.now)) (ap (λ (rs : List Row). literals_in rs) c.deref.ensures.value) kept) in
        subst (λ d. ArePositionsFor c.args.self.now.grammar d table.now) (sym c.in-Literal.is)
        (subst (λ (r : Replica). ArePositionsFor r.grammar (literal c.in-Literal.symbol) table.now) c.self.view_is are)

pub returns-in-Some-clause-live : goal.returns-in-Some-clause-live
returns-in-Some-clause-live c =
    let live = named_live c.self.inside.definitions.items c.in-Named.number c.definition_of.result c.in-Some.live c.deref-in-Named.result.now
    c.deref-in-Named.ensures.value c.definition_of.ensures c.in-Some.is in
    let seen : IsLive c.args.self.now.grammar c.args.def = subst (λ d. IsLive c.args.self.now.grammar d) (sym c.in-Named.is)
    (subst (λ (r : Replica). IsLive r.grammar (named c.in-Named.number)) c.self.view_is live) in
    (λ t. seen, λ l. refl)

pub returns-in-Some-clause-positions : goal.returns-in-Some-clause-positions
returns-in-Some-clause-positions c =
    let are = named_positions (grammar_in c.self.inside.version c.self.inside.table.symbols.keys c.self.inside.rules.rules c.self.inside.definitions.items)
    c.self.inside.definitions.items c.in-Named.number c.definition_of.result c.in-Some.live c.deref-in-Named.result.now refl c.self.invariant.has_positions
    c.deref-in-Named.ensures.value c.definition_of.ensures c.in-Some.is in
    subst (λ d. ArePositionsFor c.args.self.now.grammar d c.in-Some.live.now.positions) (sym c.in-Named.is)
    (subst (λ (r : Replica). ArePositionsFor r.grammar (named c.in-Named.number) c.in-Some.live.now.positions) c.self.view_is are)

pub returns-in-None-clause-live : goal.returns-in-None-clause-live
returns-in-None-clause-live c =
    let dead = named_dead (grammar_in c.self.inside.version c.self.inside.table.symbols.keys c.self.inside.rules.rules c.self.inside.definitions.items)
    c.self.inside.definitions.items c.in-Named.number c.definition_of.result c.deref-in-Named.result.now refl c.deref-in-Named.ensures.value
    c.definition_of.ensures c.in-None.is in
    let seen : IsLive c.args.self.now.grammar c.args.def → ⊥ = subst (λ d. IsLive c.args.self.now.grammar d → ⊥) (sym c.in-Named.is)
    (subst (λ (r : Replica). IsLive r.grammar (named c.in-Named.number) → ⊥) c.self.view_is dead) in
    (λ t. absurd cc, λ l. absurd (seen l))
