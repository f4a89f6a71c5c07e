-- What preparing an edit makes is ready for it.
use Rattle.std.proofs.Common.{◌≡◌, ◌<◌, ◌≤◌, ◌+◌, ℕ, zero, suc, List, [], ◌∷◌, ◌++◌, length, Bool, true, false, cond, nat_lt, Option, Some, None, slice_get}
use Rattle.std.proofs.Common.{option_map, find, IfSome, IsTrue, Vec, Contains, not, ◌↔◌, ◌==◌, ◌⊎◌, inl, inr, Result, Ok, Err, refl, ap, sym, ◌∙◌, subst, arith}
use Rattle.std.specs.List.{AllByRecursion}
use Rattle.std.specs.declared.alloc.Global.{Global}
use Rattle.edit_log.specs.declared.definitions.DefId.{DefId}
use Rattle.edit_log.specs.Lookups.{rule_of}
use Rattle.edit_log.proofs.PlainLists.{each_contained, found, find_only, distinct_map, sorted_keys}
use Rattle.std.proofs.lemmas.Bool.{eqb-true, eq-eqb, ne_eqb}
use Rattle.std.proofs.lemmas.Bool.{ltb-true, ltb-false}
use Rattle.std.proofs.lemmas.Option.{slice_get_past}
use Rattle.grammar_text.specs.declared.symbol.Symbol.{Symbol}
use Rattle.grammar_text.specs.declared.symbol.Symbol.TheVariants.{Named}
use Rattle.grammar_text.specs.declared.edit.RuleText.{RuleText}
use Rattle.grammar_text.specs.declared.edit.DefText.{DefText}
use Rattle.grammar_text.specs.declared.edit.Edit.{Edit}
use Rattle.grammar_text.specs.declared.edit.Edit.TheVariants.{AddRule, DropRule, AddToken, DropToken, AddSkip, DropSkip}
use Rattle.forest.specs.declared.symbols.SymbolId.{SymbolId}
use Rattle.forest.specs.declared.rules.RuleId.{RuleId}
use Rattle.forest.specs.declared.rules.Rule.{Rule}
use Rattle.edit_log.specs.declared.fresh_symbols.FreshSymbol.{FreshSymbol}
use Rattle.edit_log.specs.declared.named_definitions.NamedDefinition.{NamedDefinition}
use Rattle.edit_log.specs.declared.ready.Ready.{Ready}
use Rattle.edit_log.specs.declared.ready.Plan.TheVariants as plan
use Rattle.edit_log.specs.Symbols.{place_of, number_of, with_symbol, with_symbols, numbered}
use Rattle.edit_log.specs.History.{Definition, Grammar, after_edit, has_name, is_of_kind}
use Rattle.edit_log.specs.Facts.{IsWellFormed, IsRight}
use Rattle.edit_log.specs.Verdict.{IsAccepted, rule_found, definition_found}
use Rattle.edit_log.specs.Touches.{IsTouchOf}
use Rattle.edit_log.specs.Replicas.{Replica, Spare, symbols_in, seen_of, IsFreshSymbol}
use Rattle.edit_log.specs.Replicas.{HasPositions, AreFreshFor, HasSpare, HasRoomAt, HasRoomUnder, IsNoMoreThan}
use Rattle.edit_log.specs.Replicas.{IsPlanFor, IsReadyFor, of_kind, adds, drops}
use Rattle.edit_log.proofs.Places.{place_of-append, with_symbols-grows}
use Rattle.edit_log.proofs.Verdicts.{free, rule_there, definition_there}
use Rattle.edit_log.proofs.OneName.{found_of_kind}

-- ---- a rule that is added

pub fresh_for_rule : (g : Grammar) (r : RuleText) (fresh : List FreshSymbol) → g.symbols ++ symbols_in fresh ≡ with_symbols g.symbols (Named r.left ∷ r.right)
    → AllByRecursion IsFreshSymbol fresh → length fresh ≤ 1 + length r.right → length r.right ≤ 16
    → AreFreshFor g (AddRule r) fresh
unfolding after_edit
fresh_for_rule g r fresh grown each few short = record { symbols = sym grown; each = each; few = omega (arith, few, short) }

pub rule_planned : (g : Grammar) (r : RuleText) (fresh : List FreshSymbol) (number : RuleId) (live : Rule)
    → g.symbols ++ symbols_in fresh ≡ with_symbols g.symbols (Named r.left ∷ r.right) → number.0 ≡ g.version + 1
    → live ≡ numbered (g.symbols ++ symbols_in fresh) number.0 r → live ≡ numbered (after_edit g (AddRule r)).symbols (g.version + 1) r
unfolding after_edit
rule_planned g r fresh number live grown number-is is = is ∙ (λ i. numbered (grown i) (number-is i) r)

-- ---- a rule that is dropped

-- its number is that of the live rule that is written so
pub dropped_number : (g : Grammar) (r : RuleText) (number : RuleId) → Some number ≡ option_map (λ live. live.number) (rule_found g r)
    → (live : Rule) × (rule_found g r ≡ Some live) × (number ≡ live.number)
dropped_number g r number told = by (rule_found g r) refl told
  where
    by : (o : Option Rule) → rule_found g r ≡ o → Some number ≡ option_map (λ live. live.number) o
        → (live : Rule) × (rule_found g r ≡ Some live) × (number ≡ live.number)
    by None is told = absurd cc
    by (Some live) is told = (live, is, let same : number ≡ live.number = cc in same)

pub no_number : (g : Grammar) (r : RuleText) → IsAccepted g (DropRule r) → None ≡ option_map (λ live. live.number) (rule_found g r) → ⊥
no_number g r accepted told =
    let there = rule_there g r (free g (DropRule r) accepted.taken).lack in
    let some : None ≡ option_map (λ (live : Rule). live.number) (Some there.0) = told ∙ ap (option_map (λ (live : Rule). live.number)) there.1 in
    absurd cc

-- a live rule is found by its number
pub found_by_number : (g : Grammar) (r : RuleText) (live : Rule) → IsWellFormed g → rule_found g r ≡ Some live → rule_of g.rules live.number ≡ Some live
found_by_number g r live well is =
    let finds = found _ g.rules live is in
    let numbers = sorted_keys (λ (l : Rule). l.number.0) g.rules well.rule_order in
    find_only (λ l. l.number.0 == live.number.0) g.rules live (record { there = finds.there; passes = eq-eqb live.number.0 live.number.0 refl })
    (λ other there passes. distinct_map (λ (l : Rule). l.number.0) g.rules other live numbers there finds.there (eqb-true other.number.0 live.number.0 passes))

-- the parts of a live rule have numbers
pub parts_within : (g : Grammar) (r : RuleText) (live : Rule) → IsWellFormed g → rule_found g r ≡ Some live → (part : SymbolId) → Contains live.right part
    → part.0 < length g.symbols
parts_within g r live well is part there =
    let right = each_contained (λ (l : Rule). IsRight g.symbols l.right) g.rules live well.rights (found _ g.rules live is).there in
    each_contained (λ (x : SymbolId). x.0 < length g.symbols) live.right part right.0 there

pub some_listed : (items : List DefId) (n : ℕ) → n ≡ length items → IsTrue (not (n == 0)) ↔ (items ≡ [] → ⊥)
some_listed [] n is = (
  λ some. absurd (let none : not (n == 0) ≡ false = ap not (eq-eqb n 0 is) in let never : false ≡ true = sym none ∙ some in cc),
  λ never. absurd (never refl),
)
some_listed (d ∷ items) n is = (λ some empty. absurd cc, λ never. ap not (ne_eqb n 0 (λ e. omega (arith, e, is))))

-- ---- a token or a skip that is added

pub fresh_for_definition : (g : Grammar) (skip : Bool) (d : DefText) (fresh : List FreshSymbol)
    → g.symbols ++ symbols_in fresh ≡ with_symbol g.symbols (Named d.name) → AllByRecursion IsFreshSymbol fresh → length fresh ≤ 1
    → AreFreshFor g (adds skip d) fresh
unfolding after_edit
fresh_for_definition g true d fresh grown each few = record { symbols = sym grown; each = each; few = omega (arith, few) }
fresh_for_definition g false d fresh grown each few = record { symbols = sym grown; each = each; few = omega (arith, few) }

pub definition_planned : (g : Grammar) (skip : Bool) (d : DefText) (fresh : List FreshSymbol) (number : RuleId) (symbol : SymbolId) (live : NamedDefinition)
    → g.symbols ++ symbols_in fresh ≡ with_symbol g.symbols (Named d.name) → AllByRecursion IsFreshSymbol fresh → length fresh ≤ 1 → number.0 ≡ g.version + 1
    → symbol ≡ number_of (g.symbols ++ symbols_in fresh) (Named d.name)
    → seen_of live ≡ record { number = number; name = symbol; is_skip = skip; expression = d.expression } → HasPositions live
    → (list : Vec FreshSymbol Global) → list.items ≡ fresh → IsPlanFor g (adds skip d) (plan.AddDefinition (record {
      name = d.name;
      live = live;
      fresh =
          list;
    }))
unfolding after_edit
definition_planned g true d fresh number symbol live grown each few number-is symbol-is seen positions list list-is = (
  refl,
  record {
    is = seen ∙ (λ i. record {
      number = record { 0 = number-is i };
      name = (symbol-is ∙ ap (λ ss. number_of ss (Named d.name)) grown) i;
      is_skip = true;
      expression = d.expression;
    });
    positions = positions;
  },
  subst (AreFreshFor g (AddSkip d)) (sym list-is) (fresh_for_definition g true d fresh grown each few),
)
definition_planned g false d fresh number symbol live grown each few number-is symbol-is seen positions list list-is = (
  refl,
  record {
    is = seen ∙ (λ i. record {
      number = record { 0 = number-is i };
      name = (symbol-is ∙ ap (λ ss. number_of ss (Named d.name)) grown) i;
      is_skip = false;
      expression = d.expression;
    });
    positions = positions;
  },
  subst (AreFreshFor g (AddToken d)) (sym list-is) (fresh_for_definition g false d fresh grown each few),
)

-- ---- a token or a skip that is dropped

-- the definition that an accepted edit drops has the number that is told of its name
pub dropped_definition : (g : Grammar) (skip : Bool) (name : List ℕ) (number : RuleId) → IsWellFormed g → IsAccepted g (drops skip name)
    → Some number ≡ option_map (λ live. live.number) (find (has_name g.symbols name) g.definitions)
    → (live : Definition) × (definition_found g skip name ≡ Some live) × (number ≡ live.number)
dropped_definition g skip name number well accepted told = by (find (has_name g.symbols name) g.definitions) refl told
  where
    there : (live : Definition) × (definition_found g skip name ≡ Some live)
    there = definition_there g skip name (free g (drops skip name) accepted.taken).lack

    by : (o : Option Definition) → find (has_name g.symbols name) g.definitions ≡ o → Some number ≡ option_map (λ live. live.number) o
        → (live : Definition) × (definition_found g skip name ≡ Some live) × (number ≡ live.number)
    by None is told = absurd cc
    by (Some one) is told = (there.0, there.1, (let first : number ≡ one.number = cc in first) ∙ ap (λ (d : Definition). d.number) same)
      where
        kind : (k : Bool) → cond k (Some one) None ≡ Some there.0 → one ≡ there.0
        kind true e = cc
        kind false e = absurd cc

        same : one ≡ there.0
        same = kind (is_of_kind skip one) (sym (found_of_kind g skip name well ∙ ap (of_kind skip) is) ∙ there.1)

pub no_definition : (g : Grammar) (skip : Bool) (name : List ℕ) → IsWellFormed g → IsAccepted g (drops skip name)
    → None ≡ option_map (λ live. live.number) (find (has_name g.symbols name) g.definitions) → ⊥
no_definition g skip name well accepted told = by (find (has_name g.symbols name) g.definitions) refl told
  where
    there : (live : Definition) × (definition_found g skip name ≡ Some live)
    there = definition_there g skip name (free g (drops skip name) accepted.taken).lack

    by : (o : Option Definition) → find (has_name g.symbols name) g.definitions ≡ o → None ≡ option_map (λ live. live.number) o → ⊥
    by None is told = let never : None ≡ Some there.0 = sym (found_of_kind g skip name well ∙ ap (of_kind skip) is) ∙ there.1 in absurd cc
    by (Some one) is told = absurd cc

pub definition_end_planned : (g : Grammar) (skip : Bool) (name : List ℕ) (number : RuleId) → (live : Definition) × (definition_found g skip name ≡ Some live) ×
    (number ≡ live.number) → IsPlanFor g (drops skip name) (plan.DropDefinition (record { name = name; number = number }))
definition_end_planned g true name number there = (refl, there)
definition_end_planned g false name number there = (refl, there)

-- ---- what is ready stays ready where memory grows

room_stays : (old new : Spare) → IsNoMoreThan old new → HasSpare old → HasSpare new
room_stays old new grows has = record {
  symbols = omega (arith, grows.symbols, has.symbols);
  rows = omega (arith, grows.rows, has.rows);
  live = omega (arith, grows.live, has.live);
  rules = omega (arith, grows.rules, has.rules);
  rule_numbers = omega (arith, grows.rule_numbers, has.rule_numbers);
  definitions = omega (arith, grows.definitions, has.definitions);
  definition_numbers = omega (arith, grows.definition_numbers, has.definition_numbers);
}

at_stays : (old new : Spare) (place : ℕ) → IsNoMoreThan old new → IfSome (slice_get old.under place) (λ count. 1 ≤ count)
    → IfSome (slice_get new.under place) (λ count. 1 ≤ count)
at_stays old new place grows has = by (slice_get old.under place) refl has
  where
    none : {X : Type 0} (xs : List X) (i : ℕ) → slice_get xs i ≡ None → length xs ≤ i
    none [] i is = omega arith
    none (x ∷ xs) zero is = absurd cc
    none (x ∷ xs) (suc i) is = let rest = none xs i is in omega (arith, rest)

    by : (o : Option ℕ) → slice_get old.under place ≡ o → IfSome o (λ count. 1 ≤ count) → IfSome (slice_get new.under place) (λ count. 1 ≤ count)
    by None is has = rw (slice_get_past new.under place (omega (arith, none old.under place is, grows.count))) tt
    by (Some count) is has = let more = grows.under place count is in rw more.1 (omega (arith, has, more.2))

under_stays : (old new : Replica) (edit : Edit) → new.grammar ≡ old.grammar → IsNoMoreThan old.room new.room → HasRoomUnder old edit → HasRoomUnder new edit
under_stays old new (AddRule r) same grows has =
    subst (λ (g : Grammar). IfSome (slice_get new.room.under (number_of g.symbols (Named r.left)).0) (λ count. 1 ≤ count)) (sym same)
    (at_stays old.room new.room (place_of old.grammar.symbols (Named r.left)) grows has)
under_stays old new (DropRule r) same grows has = tt
under_stays old new (AddToken d) same grows has = tt
under_stays old new (DropToken name) same grows has = tt
under_stays old new (AddSkip d) same grows has = tt
under_stays old new (DropSkip name) same grows has = tt

pub stays_ready : (old new : Replica) → new.grammar ≡ old.grammar → IsNoMoreThan old.room new.room → (edit : Edit) (ready : Ready) → IsReadyFor old edit ready
    → IsReadyFor new edit ready
stays_ready old new same grows edit ready is = record {
  applicable = record {
    accepted = subst (λ g. IsAccepted g edit) (sym same) is.applicable.accepted;
    plan = subst (λ g. IsPlanFor g edit ready.plan) (sym same) is.applicable.plan;
    room = room_stays old.room new.room grows is.applicable.room;
    under = under_stays old new edit same grows is.applicable.under;
  };
  touch = subst (λ g. IsTouchOf g edit ready.touch) (sym same) is.touch;
}

-- ---- and what was prepared is ready

grows_symbol : (g : Grammar) (r : RuleText) → (more : List Symbol) × ((after_edit g (AddRule r)).symbols ≡ g.symbols ++ more)
unfolding after_edit
grows_symbol g r = let grows = with_symbols-grows g.symbols (Named r.left ∷ r.right) in (grows.more, grows.is)

under_prepared : (replica : Replica) (edit : Edit) (ready : Ready) → IsTouchOf replica.grammar edit ready.touch
    → length replica.room.under ≡ length replica.grammar.symbols → HasRoomAt replica.room ready.touch.left → HasRoomUnder replica edit
under_prepared replica (AddRule r) ready touch count room = by (nat_lt (place_of replica.grammar.symbols (Named r.left)) (length replica.grammar.symbols)) refl
  where
    by : (there : Bool) → nat_lt (place_of replica.grammar.symbols (Named r.left)) (length replica.grammar.symbols) ≡ there
        → IfSome (slice_get replica.room.under (place_of replica.grammar.symbols (Named r.left))) (λ count. 1 ≤ count)
    by true there =
        let grown = grows_symbol replica.grammar r in
        let same : place_of (after_edit replica.grammar (AddRule r)).symbols (Named r.left) ≡ place_of replica.grammar.symbols (Named r.left) =
        ap (λ ss. place_of ss (Named r.left)) grown.1 ∙ place_of-append replica.grammar.symbols grown.0 (Named r.left)
        (ltb-true (place_of replica.grammar.symbols (Named r.left)) (length replica.grammar.symbols) there) in
        subst (λ place. IfSome (slice_get replica.room.under place) (λ count. 1 ≤ count)) same (subst (HasRoomAt replica.room) touch.left room)
    by false there = rw (slice_get_past replica.room.under (place_of replica.grammar.symbols (Named r.left)) (omega (
      arith,
      count,
      ltb-false (place_of replica.grammar.symbols (Named r.left)) (length replica.grammar.symbols) there,
    ))) tt
under_prepared replica (DropRule r) ready touch count room = tt
under_prepared replica (AddToken d) ready touch count room = tt
under_prepared replica (DropToken name) ready touch count room = tt
under_prepared replica (AddSkip d) ready touch count room = tt
under_prepared replica (DropSkip name) ready touch count room = tt

pub prepared : (middle new : Replica) (edit : Edit) (ready : Ready) → new.grammar ≡ middle.grammar → IsNoMoreThan middle.room new.room → HasSpare middle.room
    → IsAccepted middle.grammar edit → IsPlanFor middle.grammar edit ready.plan → IsTouchOf middle.grammar edit ready.touch
    → length new.room.under ≡ length new.grammar.symbols → HasRoomAt new.room ready.touch.left → IsReadyFor new edit ready
prepared middle new edit ready same grows has accepted planned touch count room =
    let new_touch = subst (λ g. IsTouchOf g edit ready.touch) (sym same) touch in
    record {
      applicable = record {
        accepted = subst (λ g. IsAccepted g edit) (sym same) accepted;
        plan = subst (λ g. IsPlanFor g edit ready.plan) (sym same) planned;
        room = room_stays middle.room new.room grows has;
        under = under_prepared new edit ready new_touch count room;
      };
      touch = new_touch;
    }
