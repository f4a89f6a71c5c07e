-- The expansion of a kernel in a grammar has room in its words, and numbers of 32 bits.
use Rattle.std.proofs.Common.{◌≡◌, ℕ, zero, suc, ◌<◌, ◌≤◌, ◌^◌, List, [], ◌∷◌, length, Contains, slice_get, Some, subst, arith}
use Rattle.std.specs.List.{AllByRecursion}
use Rattle.std.proofs.lemmas.List.Elements.{All-contains, All-from_recursion}
use Rattle.std.proofs.lemmas.Option.{slice_get_within}
use Rattle.forest.specs.declared.symbols.SymbolId.{SymbolId}
use Rattle.forest.specs.declared.rules.RuleId.{RuleId}
use Rattle.forest.specs.declared.rules.Rule.{Rule}
use Rattle.edit_log.specs.History.{Grammar}
use Rattle.edit_log.specs.Facts.{IsNumber, IsRight, IsWellFormed}
use Rattle.item_sets.specs.declared.item.Item.{Item}
use Rattle.item_sets.specs.declared.expansion.Expansion.{Expansion}
use Rattle.item_sets.specs.Prefixes.{HasRight, whole, live, IsNext}
use Rattle.item_sets.specs.Expansions.{InMove, past, IsExpansionOf}
use Rattle.row_coding.specs.Conditions.{FitsCoding, IsTyped}

-- what holds of each element holds of the one at a place
at_place : {X : Type 0} (P : X → Type 0) (xs : List X) (i : ℕ) (x : X) → AllByRecursion P xs → slice_get xs i ≡ Some x → P x
at_place P [] i x all e = absurd cc
at_place P (y ∷ ys) zero x all e = let same : y ≡ x = cc in subst P same all.0
at_place P (y ∷ ys) (suc i) x all e = at_place P ys i x all.1 e

pub member : {X : Type 0} (P : X → Type 0) (xs : List X) (x : X) → AllByRecursion P xs → Contains xs x → P x
member P xs x all there = All-contains P xs x (All-from_recursion P xs all) there

abbrev IsSmall : SymbolId → Type 0
IsSmall symbol = symbol.0 < 2 ^ 32

all_small : (many : ℕ) (right : List SymbolId) → many ≤ 2 ^ 32 → AllByRecursion (λ part. part.0 < many) right → AllByRecursion IsSmall right
all_small many [] few all = tt
all_small many (part ∷ right) few all = (omega (arith, all.0), all_small many right few all.1)

module _ (grammar : Grammar) (sound : IsWellFormed grammar) where
  -- a rule has a number of 32 bits, and at most 16 symbols of 32 bits
  rule_small : {k : RuleId} {right : List SymbolId} → HasRight grammar.rules k right → (k.0 < 2 ^ 32) × (length right ≤ 16) × AllByRecursion IsSmall right
  rule_small whole = (omega arith, omega arith, (omega arith, tt))
  rule_small (live {r} there) =
      let number = member (λ (rule : Rule). IsNumber grammar.version rule.number.0) grammar.rules r sound.rule_numbers there in
      let right = member (λ (rule : Rule). IsRight grammar.symbols rule.right) grammar.rules r sound.rights there in
      let few : length grammar.symbols ≤ 2 ^ 32 = omega (arith, sound.few, sound.version) in
      (omega (arith, number.1, sound.version), right.1, all_small (length grammar.symbols) r.right few right.0)

  next_small : {item : Item} {x : SymbolId} → IsNext grammar.rules item x → IsSmall x
  next_small {item} {x} next = at_place IsSmall next.right item.dot x (rule_small next.has).2 next.at_dot

  -- an item of a move has a number of 32 bits, and its dot is at most 16
  item_small : {Set : Item → Type 0} {x : SymbolId} {item : Item} → InMove grammar.rules Set x item → (item.rule.0 < 2 ^ 32) × (item.dot < 32)
  item_small (past {k} {d} closed next) =
      let rule = rule_small next.has in
      let within = slice_get_within next.right d _ next.at_dot in
      (rule.0, omega (arith, rule.1, within))

  symbol_small : {Set : Item → Type 0} {x : SymbolId} {item : Item} → InMove grammar.rules Set x item → IsSmall x
  symbol_small (past closed next) = next_small next

  module _ (kernel : List Item) (expansion : Expansion) (is : IsExpansionOf grammar.rules kernel expansion) where
    pub dots_fit : FitsCoding expansion
    dots_fit symbol upper there item in' =
        let move = (is.moves symbol upper).0 there in
        (item_small (move.list.within item in')).1

    pub are_typed : IsTyped expansion
    are_typed = record {
      moves = λ symbol upper there.
          let move = (is.moves symbol upper).0 there in
          record {
            number = symbol_small move.some.1;
            rules = λ item in'. (item_small (move.list.within item in')).0;
            ascending = move.list.ascends;
          };
      reductions = λ rule there. (rule_small ((is.reductions rule).0 there).1).0;
    }
