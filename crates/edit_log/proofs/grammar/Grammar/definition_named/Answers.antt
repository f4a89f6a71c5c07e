use Rattle.std.proofs.Common.{◌≡◌, map, option_map, Some, None, ◌==◌, find, ap, sym, ◌∙◌, subst}
use Rattle.edit_log.specs.Replicas.{Replica, seen_of}
use Rattle.edit_log.specs.History.{Definition, Grammar, has_name}
use Rattle.edit_log.proofs.LookupLemmas.{found_told, named_found}
use Rattle.edit_log.specs.Verdict.{definition_found}
use Rattle.edit_log.specs.Replicas.{of_kind}
use Rattle.edit_log.specs.Agreement.{grammar_in}
use Rattle.edit_log.proofs.OneName.{found_of_kind}
use Rattle.edit_log.proofs.Verdicts.{map_none}
use Rattle.edit_log.proofs.grammar.Grammar.definition_named.Goals as goal

pub returns-in-Some-clause-found : goal.returns-in-Some-clause-found
returns-in-Some-clause-found c =
    let told : option_map (λ live. live.number) (find (has_name c.self.inside.table.symbols.keys c.args.name.now) (map seen_of c.self.inside.definitions.items))
    ≡ Some c.in-Some.number =
    sym (c.self.invariant.finds_definitions c.args.name.now) ∙ sym c.live_number.ensures ∙ c.in-Some.is in
    let found = found_told c.self.inside.definitions.items c.in-Some.number c.definition_of.result (c.definition_of.ensures
    ∙ ap (find (λ live. live.number.0 == c.in-Some.number.0)) c.deref.ensures.value) in
    subst (λ (r : Replica). option_map (λ live. seen_of live.now) c.definition_of.result
    ≡ find (has_name r.grammar.symbols c.args.name.now) r.grammar.definitions) c.self.view_is
    (found ∙ named_found (map seen_of c.self.inside.definitions.items) (has_name c.self.inside.table.symbols.keys c.args.name.now) c.in-Some.number
    c.self.invariant.well_formed.definition_order told)

pub returns-in-Some-clause-kinds : goal.returns-in-Some-clause-kinds
returns-in-Some-clause-kinds c skip =
    let g : Grammar = grammar_in c.self.inside.version c.self.inside.table.symbols.keys c.self.inside.rules.rules c.self.inside.definitions.items in
    let told : option_map (λ live. live.number) (find (has_name c.self.inside.table.symbols.keys c.args.name.now) (map seen_of c.self.inside.definitions.items))
    ≡ Some c.in-Some.number =
    sym (c.self.invariant.finds_definitions c.args.name.now) ∙ sym c.live_number.ensures ∙ c.in-Some.is in
    let found = found_told c.self.inside.definitions.items c.in-Some.number c.definition_of.result (c.definition_of.ensures
    ∙ ap (find (λ live. live.number.0 == c.in-Some.number.0)) c.deref.ensures.value) in
    let same = found ∙ named_found (map seen_of c.self.inside.definitions.items)
    (has_name c.self.inside.table.symbols.keys c.args.name.now) c.in-Some.number c.self.invariant.well_formed.definition_order told in
    subst (λ (r : Replica). definition_found r.grammar skip c.args.name.now ≡ of_kind skip (option_map (λ live. seen_of live.now) c.definition_of.result))
    c.self.view_is
    (found_of_kind g skip c.args.name.now c.self.invariant.well_formed ∙ ap (of_kind skip) (sym same))

pub returns-in-None-clause-kinds : goal.returns-in-None-clause-kinds
returns-in-None-clause-kinds c skip =
    let g : Grammar = grammar_in c.self.inside.version c.self.inside.table.symbols.keys c.self.inside.rules.rules c.self.inside.definitions.items in
    let told : option_map (λ live. live.number) (find (has_name c.self.inside.table.symbols.keys c.args.name.now) (map seen_of c.self.inside.definitions.items))
    ≡ None =
    sym (c.self.invariant.finds_definitions c.args.name.now) ∙ sym c.live_number.ensures ∙ c.in-None.is in
    let none = map_none (λ (live : Definition). live.number) (find (has_name c.self.inside.table.symbols.keys c.args.name.now)
    (map seen_of c.self.inside.definitions.items)) told in
    subst (λ (r : Replica). definition_found r.grammar skip c.args.name.now ≡ None) c.self.view_is
    (found_of_kind g skip c.args.name.now c.self.invariant.well_formed ∙ ap (of_kind skip) none)
