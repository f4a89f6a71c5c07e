use Rattle.std.proofs.Common.{inl, inr, take, get_or, length, ap, sym, subst, ◌∙◌, Contains, refl, eqb-true, eq-eqb}
use Rattle.std.proofs.lemmas.List.{take_more, take_all, get_or_default}
use Rattle.std.proofs.lemmas.List.Elements.{Contains-push_cases}
use Rattle.forest.specs.declared.symbols.SymbolId.{SymbolId}
use Rattle.forest.specs.Derivation.{IsNonterminal}
use Rattle.parser_states.proofs.LeftSides.{some_left, none_left}
use Rattle.parser_states.proofs.searches.has_nonterminal.Goals as goal

pub loop-symbol-preserved : goal.loop-symbol-preserved
loop-symbol-preserved c = λ x there left.
    let here : SymbolId = get_or c.args.symbols.now c.loop-symbol.symbol-index (record { 0 = 0 }) in
    let more = take_more c.args.symbols.now c.loop-symbol.symbol-index (record { 0 = 0 }) c.loop-symbol-test.true in
    elim (Contains-push_cases (take c.loop-symbol.symbol-index c.args.symbols.now) here x (subst (λ l. Contains l x) more there)) [
      | inl before ↦ c.loop-symbol.invariant x before left
      | inr same ↦ none_left c.args.grammar.now.grammar.rules here
          (ap length (sym c.rules_of.ensures) ∙ eqb-true (length c.rules_of.result.now) 0 (sym c.is_empty.ensures ∙ c.if-not-is_empty.false))
          (subst (IsNonterminal c.args.grammar.now.grammar.rules) (sym same) left)
    ]

pub returns-then-not-is_empty : goal.returns-then-not-is_empty
returns-then-not-is_empty c =
    let here : SymbolId = get_or c.args.symbols.now c.loop-symbol.symbol-index (record { 0 = 0 }) in (
      λ yes. (
        here,
        (
          c.loop-symbol.symbol-index,
          c.loop-symbol-test.true,
          get_or_default c.args.symbols.now c.loop-symbol.symbol-index here (record { 0 = 0 }) c.loop-symbol-test.true,
        ),
        some_left c.args.grammar.now.grammar.rules here (λ none.
            let yes' = sym c.is_empty.ensures ∙ c.if-not-is_empty.true in
            let no = eq-eqb (length c.rules_of.result.now) 0 (ap length c.rules_of.ensures ∙ none) in
            absurd cc),
      ),
      λ some. refl,
    )

pub returns : goal.returns
returns c = (
  λ yes. absurd cc,
  λ (x, there, left). absurd (c.loop-symbol.invariant x
      (subst (λ l. Contains l x) (sym (take_all c.loop-symbol.symbol-index c.args.symbols.now c.loop-symbol-test.false)) there) left),
)
