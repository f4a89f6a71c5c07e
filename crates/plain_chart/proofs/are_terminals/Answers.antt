use Rattle.std.proofs.Common.{◌≡◌, get_or, inl, inr, refl, arith, Contains}
use Rattle.std.proofs.lemmas.Bool.{cases_lt}
use Rattle.std.proofs.lemmas.List.{get_or_default}
use Rattle.std.proofs.lemmas.Option.{get_or_from_slice_get}
use Rattle.forest.specs.declared.symbols.SymbolId.{SymbolId}
use Rattle.forest.specs.Derivation.{IsNonterminal}
use Rattle.plain_chart.proofs.SplitLists.{at_of}
use Rattle.plain_chart.proofs.are_terminals.Goals as goal

pub returns-then-is_left : goal.returns-then-is_left
returns-then-is_left c =
    let none : SymbolId = record { 0 = 0 } in
    let x : SymbolId = get_or c.args.tokens.now c.loop-kind.kind-index none in
    let there : Contains c.args.tokens.now x = (
      c.loop-kind.kind-index,
      c.loop-kind-test.true,
      get_or_default c.args.tokens.now c.loop-kind.kind-index x none c.loop-kind-test.true,
    ) in
    let left : IsNonterminal c.args.rules.now.rules x = rw c.as_slice.ensures at (c.is_left.ensures.0 c.if-is_left.true) in
    (λ e. absurd cc, λ f. absurd (f x there left))

pub loop-kind-preserved : goal.loop-kind-preserved
loop-kind-preserved c = λ k x l get n. elim (cases_lt k c.loop-kind.kind-index) [
  | inl below ↦ c.loop-kind.invariant k x below get n
  | inr above ↦
      let none : SymbolId = record { 0 = 0 } in
      let same : k ≡ c.loop-kind.kind-index = omega arith in
      let is : get_or c.args.tokens.now c.loop-kind.kind-index none ≡ x = get_or_from_slice_get c.args.tokens.now c.loop-kind.kind-index x none
      (rw same at get) in
      let left : IsNonterminal c.as_slice.result.now (get_or c.args.tokens.now c.loop-kind.kind-index none) = rw (is, c.as_slice.ensures) n in
      let yes' = c.is_left.ensures.1 left in
      let no' = c.if-is_left.false in cc
]

pub returns : goal.returns
returns c = (λ t x m n. c.loop-kind.invariant m.0 x (omega (arith, m.1)) (at_of c.args.tokens.now x m) n, λ f. refl)
