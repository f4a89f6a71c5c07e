-- A new replica agrees with the empty grammar.
use Rattle.std.proofs.Common.{◌≡◌, ◌<◌, ℕ, List, [], ◌∷◌, Bool, true, false, ◌&&◌, cond, Option, Some, None, IsTrue, Vec, HashMap, codes, refl, ap, arith}
use Rattle.std.specs.declared.alloc.Global.{Global}
use Rattle.std.specs.Option.{is_some, option_flatten}
use Rattle.std.specs.Map.{lookup}
use Rattle.std.specs.List.Sorted.{IsStrictlySortedBy}
use Rattle.edit_log.specs.Lists.{live_number}
use Rattle.grammar_text.specs.declared.symbol.Symbol.{Symbol}
use Rattle.grammar_text.specs.declared.symbol.Symbol.TheVariants.{Named}
use Rattle.grammar_text.specs.declared.edit.RuleText.{RuleText}
use Rattle.forest.specs.declared.rules.RuleId.{RuleId}
use Rattle.forest.specs.declared.rules.Rule.{Rule}
use Rattle.regex_ast.specs.Positions.{Table}
use Rattle.edit_log.specs.declared.definitions.DefId.{DefId}
use Rattle.edit_log.specs.declared.definitions.DefId.TheVariants.{Literal as literal, Named as named}
use Rattle.edit_log.specs.declared.definitions.DefKind.{DefKind}
use Rattle.edit_log.specs.declared.definitions.DefKind.TheVariants.{Token}
use Rattle.edit_log.specs.declared.named_definitions.NamedDefinition.{NamedDefinition}
use Rattle.edit_log.specs.History.{empty_grammar}
use Rattle.edit_log.specs.Live.{IsLive, is_literal}
use Rattle.edit_log.specs.Symbols.{symbol_at}
use Rattle.edit_log.specs.Agreement.{grammar_in, Agrees}
use Rattle.edit_log.proofs.After.{well_formed_empty}

abbrev pub start : List Symbol
start = Named (codes "START") ∷ []

-- nothing is live
none_live : (d : DefId) → IsLive empty_grammar d → ⊥
none_live (literal symbol) live = by (is_literal (symbol_at start symbol)) live
  where
    by : (is : Bool) → IsTrue (is_some {T = DefKind} (cond (is && false) (Some (Token symbol)) None)) → ⊥
    by true live = absurd cc
    by false live = absurd cc
none_live (named number) live = absurd cc

one_place : (one : Vec RuleId Global) (place : ℕ) → place < 1 → place ≡ 0
one_place one place within = omega arith

pub agrees_empty : (symbols : List Symbol) (rules : List Rule) (numbers : RuleText → Option RuleId) (names : List ℕ → Option RuleId)
    (lefts : List (Vec RuleId Global)) (one : Vec RuleId Global) (uses : List ℕ) (literals : List (Option Table))
    (definitions : List NamedDefinition) (live : List DefId) (spare : List Rule) → symbols ≡ start → rules ≡ [] → ((r : RuleText) → numbers r ≡ None)
    → ((name : List ℕ) → names name ≡ None) → lefts ≡ one ∷ [] → one.items ≡ []
    → uses ≡ 0 ∷ [] → literals ≡ None ∷ [] → definitions ≡ [] → live ≡ [] → spare ≡ []
    → Agrees (grammar_in 0 symbols rules definitions) numbers names lefts uses literals definitions live spare
unfolding IsStrictlySortedBy
agrees_empty symbols rules numbers names lefts one uses literals definitions live spare symbols-is rules-is no_number no_name lefts-are one-is uses-are
    literals-are definitions-are live-is spare-is =
    rw (symbols-is, rules-is, lefts-are, uses-are, literals-are, definitions-are, live-is) (record {
      well_formed = well_formed_empty;
      finds_rules = no_number;
      finds_definitions = no_name;
      has_lefts = record { len = refl; lists = λ place within. rw (one_place one place within) one-is };
      has_uses = record { len = refl; counts = λ place within. rw (one_place one place within) refl };
      has_literals = (refl, tt);
      has_positions = tt;
      has_live = record { order = tt; members = λ d. ((λ there. absurd (omega (arith, there.1))), (λ is. absurd (none_live d is))) };
      no_spare = spare-is;
    })

-- an empty map has no number of any key
pub none_among : {K S : Type 0} (eq : K → K → Bool) (numbers : HashMap K (Option RuleId) S) → numbers.entries ≡ [] → (key : K)
    → live_number eq numbers key ≡ None
none_among eq numbers empty key = ap (λ es. option_flatten (lookup (eq key) es)) empty
