-- The literals that a rule brings.
use Rattle.std.proofs.Common.{◌≡◌, ℕ, zero, suc, ◌+◌, ◌-◌, ◌<◌, ◌≤◌, inl, inr, List, [], ◌∷◌, ◌++◌, length, get_or, drop, map, Bool, true, false, not, cond}
use Rattle.std.proofs.Common.{slice_get, Some, refl, ap, sym, ◌∙◌, subst, arith, Contains}
use Rattle.std.specs.List.{list_any}
use Rattle.std.proofs.lemmas.Bool.{or_cases, or_left, or_right}
use Rattle.std.proofs.lemmas.List.{get_or-append-add}
use Rattle.std.proofs.lemmas.List.Elements.{Contains-append_right}
use Rattle.std.proofs.lemmas.Option.{slice_get_within, get_or_from_slice_get}
use Rattle.std.proofs.Math.Seq.{drop-append_seam}
use Rattle.std.proofs.Math.ListN.{get_or-append}
use Rattle.grammar_text.specs.declared.symbol.Symbol.{Symbol}
use Rattle.grammar_text.specs.declared.symbol.Symbol.TheVariants.{Named}
use Rattle.grammar_text.specs.declared.edit.RuleText.{RuleText}
use Rattle.grammar_text.specs.declared.edit.Edit.TheVariants.{AddRule}
use Rattle.grammar_text.specs.Sameness.{spelling_eq, spelling_eq-decides}
use Rattle.forest.specs.declared.symbols.SymbolId.{SymbolId}
use Rattle.forest.specs.Distinct.{IsDistinct}
use Rattle.edit_log.specs.declared.fresh_symbols.FreshSymbol.{FreshSymbol}
use Rattle.edit_log.specs.Symbols.{place_of, number_of, symbol_at, symbols_of, numbered}
use Rattle.edit_log.specs.History.{Grammar, after_edit}
use Rattle.edit_log.specs.Live.{is_literal}
use Rattle.edit_log.specs.Replicas.{AreFreshFor, symbols_in}
use Rattle.edit_log.proofs.DefinitionOrder.{contains_first, contains_later, contains_cases, contains_none}
use Rattle.edit_log.proofs.NewSymbols.{Grown, placed, at_place, with_symbols-grown}

pub contains_map : {X Y : Type 0} (f : X → Y) (xs : List X) (x : X) → Contains xs x → Contains (map f xs) (f x)
contains_map f [] x c = absurd (contains_none x c)
contains_map f (y ∷ ys) x c = elim (contains_cases y ys x c) [
  | inl e ↦ subst (Contains (f y ∷ map f ys)) (ap f e) (contains_first (f y) (map f ys))
  | inr d ↦ contains_later (f y) (map f ys) (f x) (contains_map f ys x d)
]

contains_get : {X : Type 0} (xs : List X) (k : ℕ) (x : X) → slice_get xs k ≡ Some x → Contains xs x
contains_get xs k x is = (k, slice_get_within xs k x is, get_or_from_slice_get xs k x x is)

-- a symbol that stands once has the number of its place
pub place_is : (symbols : List Symbol) (k : ℕ) (s : Symbol) → IsDistinct symbols → slice_get symbols k ≡ Some s → place_of symbols s ≡ k
place_is [] k s distinct is = absurd cc
place_is (x ∷ xs) zero s distinct is = let same : x ≡ s = cc in first (spelling_eq s x) ((spelling_eq-decides s x).1 (sym same))
  where
    first : (b : Bool) → b ≡ true → cond (not b) (1 + place_of xs s) 0 ≡ 0
    first true e = refl
    first false e = absurd cc
place_is (x ∷ xs) (suc k) s distinct is = later (spelling_eq s x) refl (place_is xs k s distinct.1 is)
  where
    later : (b : Bool) → spelling_eq s x ≡ b → place_of xs s ≡ k → cond (not b) (1 + place_of xs s) 0 ≡ suc k
    later true e rest = absurd (distinct.0 (subst (Contains xs) ((spelling_eq-decides s x).0 e) (contains_get xs k s is)))
    later false e rest = omega (arith, rest)

some_literal : (symbols : List Symbol) → list_any is_literal symbols ≡ true → (s : Symbol) × Contains symbols s × (is_literal s ≡ true)
some_literal [] e = absurd cc
some_literal (x ∷ xs) e = elim (or_cases (is_literal x) (list_any is_literal xs) e) [
  | inl here ↦ (x, contains_first x xs, here)
  | inr later ↦ let rest = some_literal xs later in (rest.0, contains_later x xs rest.0 rest.1, rest.2)
]

literal_some : (symbols : List Symbol) (k : ℕ) → is_literal (get_or symbols k (Named [])) ≡ true → list_any is_literal symbols ≡ true
literal_some [] k e = absurd cc
literal_some (x ∷ xs) zero e = or_left (is_literal x) (list_any is_literal xs) e
literal_some (x ∷ xs) (suc k) e = or_right (is_literal x) (list_any is_literal xs) (literal_some xs k e)

-- a literal behind the old symbols is fresh
pub is_fresh_literal : (old fresh : List Symbol) (s : SymbolId) → length old ≤ s.0 → is_literal (symbol_at (old ++ fresh) s) ≡ true
    → list_any is_literal fresh ≡ true
is_fresh_literal old fresh s more e =
    let k = s.0 - length old in
    let place : length old + k ≡ s.0 = omega arith in
    let same : get_or (old ++ fresh) s.0 (Named []) ≡ get_or fresh k (Named []) = ap (λ n. get_or (old ++ fresh) n (Named [])) (sym place)
    ∙ get_or-append-add old fresh k (Named []) in
    literal_some fresh k (ap is_literal (sym same) ∙ e)

-- a literal of the rule that is new
pub record FreshLiteral (g : Grammar) (r : RuleText) : Type 0 where
  pub number : SymbolId
  pub literal_there : is_literal (symbol_at (after_edit g (AddRule r)).symbols number) ≡ true
  pub used : Contains (numbered (after_edit g (AddRule r)).symbols (g.version + 1) r).right number
  pub absent : number.0 < length g.symbols → ⊥

grown_after : (g : Grammar) (r : RuleText) → Grown g.symbols (symbols_of (AddRule r)) (after_edit g (AddRule r)).symbols
unfolding after_edit
grown_after g r = with_symbols-grown g.symbols (symbols_of (AddRule r))

pub fresh_literal : (g : Grammar) (r : RuleText) (fresh : List FreshSymbol) → AreFreshFor g (AddRule r) fresh → list_any is_literal (symbols_in fresh) ≡ true
    → FreshLiteral g r
fresh_literal g r fresh are_fresh some =
    let one = some_literal (symbols_in fresh) some in
    let y : Symbol = one.0 in
    let symbols = (after_edit g (AddRule r)).symbols in
    let grown = grown_after g r in
    let same : grown.more ≡ symbols_in fresh =
    sym (drop-append_seam g.symbols grown.more) ∙ ap (drop (length g.symbols)) (sym grown.is ∙ are_fresh.symbols) ∙ drop-append_seam g.symbols
    (symbols_in fresh) in
    let more : Contains grown.more y = subst (λ ss. Contains ss y) (sym same) one.1 in
    let there : Contains symbols y = subst (λ ss. Contains ss y) (sym are_fresh.symbols) (Contains-append_right g.symbols (symbols_in fresh) y one.1) in
    let at : slice_get symbols (place_of symbols y) ≡ Some y = at_place symbols y (placed symbols y there) in
    let right : Contains r.right y = elim (contains_cases (Named r.left) r.right y (grown.known y more)) [
      | inl e ↦ let no : is_literal y ≡ false = ap is_literal (sym e) in absurd (cc (one.2))
      | inr d ↦ d
    ] in
    record {
      number = number_of symbols y;
      literal_there = ap is_literal (get_or_from_slice_get symbols (place_of symbols y) y (Named []) at) ∙ one.2;
      used = contains_map (number_of symbols) r.right y right;
      absent = λ less.
          let old : get_or g.symbols (place_of symbols y) y ≡ y =
          sym (get_or-append g.symbols (symbols_in fresh) y (place_of symbols y) less) ∙ ap (λ ss. get_or ss (place_of symbols y) y) (sym are_fresh.symbols)
          ∙ get_or_from_slice_get symbols (place_of symbols y) y y at in
          grown.absent y more (place_of symbols y, less, old);
    }
