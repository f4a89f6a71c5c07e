-- What is live after an edit.
use Rattle.std.proofs.Common.{◌≡◌, ◌↔◌, ◌⊎◌, inl, inr, ℕ, ◌+◌, ◌<◌, ◌≤◌, ◌==◌, List, [], ◌∷◌, ◌++◌, Bool, true, false, not, cond, length, filter, Some, refl}
use Rattle.std.proofs.Common.{sym, ◌∙◌, ap, subst, arith, append-nil, Contains}
use Rattle.std.specs.List.{AllByRecursion}
use Rattle.std.proofs.lemmas.Bool.{eqb-true, eqb-false}
use Rattle.std.proofs.lemmas.List.{map-append}
use Rattle.std.proofs.Math.ListN.{get_or-append}
use Rattle.std.proofs.lemmas.List.Elements.{Contains-append_left, Contains-push, Contains-push_cases}
use Rattle.grammar_text.specs.declared.symbol.Symbol.{Symbol}
use Rattle.grammar_text.specs.declared.symbol.Symbol.TheVariants.{Named}
use Rattle.grammar_text.specs.declared.edit.DefText.{DefText}
use Rattle.forest.specs.declared.symbols.SymbolId.{SymbolId}
use Rattle.forest.specs.declared.rules.RuleId.{RuleId}
use Rattle.edit_log.specs.declared.definitions.DefId.{DefId}
use Rattle.edit_log.specs.declared.definitions.DefId.TheVariants.{Literal as literal, Named as named}
use Rattle.edit_log.specs.Symbols.{symbol_at, with_symbols}
use Rattle.edit_log.specs.History.{Definition, Grammar, after_edit}
use Rattle.edit_log.specs.Verdict.{IsAccepted, definition_found}
use Rattle.edit_log.specs.Facts.{IsWellFormed, IsNumber}
use Rattle.edit_log.specs.Live.{IsLive, is_literal}
use Rattle.edit_log.specs.Lists.{all_occurrences}
use Rattle.edit_log.specs.Replicas.{adds, drops}
use Rattle.edit_log.proofs.After.{symbols_stay_definition, definitions_dropped}
use Rattle.edit_log.proofs.DefinitionOrder.{contains_first, contains_later, contains_cases, contains_none}
use Rattle.edit_log.proofs.NewSymbols.{with_symbols-grown}
use Rattle.edit_log.proofs.LiveByUses.{numbers_in, live_literal, live_named, counted_within}

-- ---- literals

-- a symbol keeps its number where others come behind it
pub symbol_kept : (old new more : List Symbol) (s : SymbolId) → new ≡ old ++ more → s.0 < length old → symbol_at new s ≡ symbol_at old s
symbol_kept old new more s grows within = ap (λ symbols. symbol_at symbols s) grows ∙ get_or-append old more (Named []) s.0 within

-- what is live stays so where no use goes
pub literal_kept : (old new : Grammar) (more : List Symbol) (s : SymbolId) → IsWellFormed old → new.symbols ≡ old.symbols ++ more
    → all_occurrences s old.rules ≤ all_occurrences s new.rules
    → IsLive old (literal s) → IsLive new (literal s)
literal_kept old new more s well grows uses live =
    let both = (live_literal old s).0 live in
    let same = symbol_kept old.symbols new.symbols more s grows (counted_within old.symbols old.rules s well.rights both.1) in
    (live_literal new s).1 (ap is_literal same ∙ both.0, omega (arith, uses, both.1))

-- and was live before where no use comes
pub literal_back : (old new : Grammar) (more : List Symbol) (s : SymbolId) → IsWellFormed old → new.symbols ≡ old.symbols ++ more
    → all_occurrences s new.rules ≤ all_occurrences s old.rules
    → IsLive new (literal s) → IsLive old (literal s)
literal_back old new more s well grows uses live =
    let both = (live_literal new s).0 live in
    let some : 0 < all_occurrences s old.rules = omega (arith, uses, both.1) in
    let same = symbol_kept old.symbols new.symbols more s grows (counted_within old.symbols old.rules s well.rights some) in
    (live_literal old s).1 (ap is_literal (sym same) ∙ both.0, some)

-- ---- tokens and skips

pub named_same : (old new : Grammar) (n : RuleId) → new.definitions ≡ old.definitions → IsLive new (named n) ↔ IsLive old (named n)
named_same old new n same = (
  λ live. (live_named old n).1 (subst (λ definitions. Contains (numbers_in definitions) n) same ((live_named new n).0 live)),
  λ live. (live_named new n).1 (subst (λ definitions. Contains (numbers_in definitions) n) (sym same) ((live_named old n).0 live)),
)

-- the numbers are versions up to this one
pub number_within : (version : ℕ) (definitions : List Definition) (n : RuleId) → AllByRecursion (λ live. IsNumber version live.number.0) definitions
    → Contains (numbers_in definitions) n → n.0 ≤ version
number_within version [] n each c = absurd (contains_none n c)
number_within version (x ∷ xs) n each c = elim (contains_cases x.number (numbers_in xs) n c) [
  | inl e ↦ let same : x.number.0 ≡ n.0 = ap (λ (r : RuleId). r.0) e in omega (arith, same, each.0.1)
  | inr d ↦ number_within version xs n each.1 d
]

-- the numbers without one
numbers_without : (definitions : List Definition) (gone n : RuleId) → Contains (numbers_in (filter (λ other. not (other.number.0 == gone.0)) definitions)) n ↔
    (Contains (numbers_in definitions) n × (n ≡ gone → ⊥))
numbers_without [] gone n = (λ c. absurd (contains_none n c), λ w. absurd (contains_none n w.0))
numbers_without (x ∷ xs) gone n = by (x.number.0 == gone.0) refl (numbers_without xs gone n)
  where
    by : (b : Bool) → (x.number.0 == gone.0) ≡ b → Contains (numbers_in (filter (λ other. not (other.number.0 == gone.0)) xs)) n ↔ (Contains (numbers_in xs) n
        × (n ≡ gone → ⊥))
        → Contains (numbers_in (cond (not b) (x ∷ filter (λ other. not (other.number.0 == gone.0)) xs) (filter (λ other. not (other.number.0 == gone.0)) xs))) n
        ↔ (Contains (numbers_in (x ∷ xs)) n × (n ≡ gone → ⊥))
    by true is rest =
        let same : x.number ≡ gone = ap (λ k. let r : RuleId = record { 0 = k } in r) (eqb-true x.number.0 gone.0 is) in (
          λ c. let known = rest.0 c in (contains_later x.number (numbers_in xs) n known.0, known.1),
          λ w. rest.1 (elim (contains_cases x.number (numbers_in xs) n w.0) [ inl e ↦ absurd (w.1 (sym e ∙ same)) | inr d ↦ d ], w.1),
        )
    by false is rest = (
      λ c. elim (contains_cases x.number (numbers_in (filter (λ other. not (other.number.0 == gone.0)) xs)) n c) [
        | inl e ↦ (
          subst (Contains (numbers_in (x ∷ xs))) e (contains_first x.number (numbers_in xs)),
          λ gone-is. eqb-false x.number.0 gone.0 is
              (ap (λ (r : RuleId). r.0) (e ∙ gone-is)),
        )
        | inr d ↦ let known = rest.0 d in (contains_later x.number (numbers_in xs) n known.0, known.1)
      ],
      λ w. elim (contains_cases x.number (numbers_in xs) n w.0) [
        | inl e ↦ subst (Contains (x.number ∷ numbers_in (filter (λ other. not (other.number.0 == gone.0)) xs))) e
            (contains_first x.number (numbers_in (filter (λ other. not (other.number.0 == gone.0)) xs)))
        | inr d ↦ contains_later x.number (numbers_in (filter (λ other. not (other.number.0 == gone.0)) xs)) n (rest.1 (d, w.1))
      ],
    )

-- ---- a token or a skip that is added

added_symbols : (g : Grammar) (skip : Bool) (d : DefText) → (after_edit g (adds skip d)).symbols ≡ with_symbols g.symbols (Named d.name ∷ [])
unfolding after_edit
added_symbols g true d = refl
added_symbols g false d = refl

added_rules : (g : Grammar) (skip : Bool) (d : DefText) → (after_edit g (adds skip d)).rules ≡ g.rules
unfolding after_edit
added_rules g true d = refl
added_rules g false d = refl

added_numbers : (g : Grammar) (skip : Bool) (d : DefText) → numbers_in (after_edit g (adds skip d)).definitions ≡ numbers_in g.definitions ++ record {
  0 =
      g.version + 1;
} ∷ []
unfolding after_edit
added_numbers g true d = map-append (λ (live : Definition). live.number) g.definitions _
added_numbers g false d = map-append (λ (live : Definition). live.number) g.definitions _

pub live_added : (g : Grammar) (skip : Bool) (d : DefText) → IsWellFormed g → (other : DefId)
    → IsLive (after_edit g (adds skip d)) other ↔ (IsLive g other ⊎ (other ≡ named (record { 0 = g.version + 1 })))
live_added g skip d well (literal s) =
    let grown = with_symbols-grown g.symbols (Named d.name ∷ []) in
    let grows = added_symbols g skip d ∙ grown.is in
    let same : all_occurrences s (after_edit g (adds skip d)).rules ≡ all_occurrences s g.rules = ap (all_occurrences s) (added_rules g skip d) in (
      λ live. inl (literal_back g (after_edit g (adds skip d)) grown.more s well grows (omega (arith, same)) live),
      λ w. elim w [ inl live ↦ literal_kept g (after_edit g (adds skip d)) grown.more s well grows (omega (arith, same)) live | inr e ↦ absurd cc ],
    )
live_added g skip d well (named n) =
    let new : RuleId = record { 0 = g.version + 1 } in (
      λ live. elim (Contains-push_cases (numbers_in g.definitions) new n (subst (λ numbers. Contains numbers n) (added_numbers g skip d)
          ((live_named (after_edit g (adds skip d)) n).0 live))) [
            | inl c ↦ inl ((live_named g n).1 c)
            | inr e ↦ inr (ap named (sym e))
          ],
      λ w. (live_named (after_edit g (adds skip d)) n).1 (subst (λ numbers. Contains numbers n) (sym (added_numbers g skip d)) (elim w [
        | inl live ↦ Contains-append_left (numbers_in g.definitions) (new ∷ []) n ((live_named g n).0 live)
        | inr e ↦ let same : n ≡ new = cc in subst (Contains (numbers_in g.definitions ++ new ∷ [])) (sym same) (Contains-push (numbers_in g.definitions) new)
      ])),
    )

-- ---- and one that is dropped

dropped_rules : (g : Grammar) (skip : Bool) (name : List ℕ) → (after_edit g (drops skip name)).rules ≡ g.rules
unfolding after_edit
dropped_rules g true name = refl
dropped_rules g false name = refl

pub live_dropped : (g : Grammar) (skip : Bool) (name : List ℕ) (gone : Definition) → IsWellFormed g → IsAccepted g (drops skip name)
    → definition_found g skip name ≡ Some gone → (other : DefId)
    → IsLive (after_edit g (drops skip name)) other ↔ (IsLive g other × (other ≡ named gone.number → ⊥))
live_dropped g skip name gone well accepted found (literal s) =
    let grows = symbols_stay_definition g skip name well accepted ∙ sym (append-nil g.symbols) in
    let same : all_occurrences s (after_edit g (drops skip name)).rules ≡ all_occurrences s g.rules = ap (all_occurrences s) (dropped_rules g skip name) in (
      λ live. (literal_back g (after_edit g (drops skip name)) [] s well grows (omega (arith, same)) live, λ e. cc),
      λ w. literal_kept g (after_edit g (drops skip name)) [] s well grows (omega (arith, same)) w.0,
    )
live_dropped g skip name gone well accepted found (named n) =
    let kept = definitions_dropped g skip name gone well accepted found in
    let numbers = numbers_without g.definitions gone.number n in (
      λ live.
          let known = numbers.0 (subst (λ definitions. Contains (numbers_in definitions) n) kept ((live_named (after_edit g (drops skip name)) n).0 live)) in
          ((live_named g n).1 known.0, λ e. known.1 (let same : n ≡ gone.number = cc in same)),
      λ w. (live_named (after_edit g (drops skip name)) n).1 (subst (λ definitions. Contains (numbers_in definitions) n) (sym kept)
          (numbers.1 ((live_named g n).0 w.0, λ e. w.1 (ap named e)))),
    )
