-- The verdict on an edit, step by step.
use Rattle.std.proofs.Common.{◌≡◌, ◌⊎◌, ℕ, List, [], ◌∷◌, Bool, true, false, not, ◌||◌, cond, codes, inr, Option, Some, None, option_map, find, OnOk, IfErr}
use Rattle.std.proofs.Common.{Result, Ok, Err, Bor, refl, ap, ◌∙◌}
use Rattle.std.specs.List.{list_any}
use Rattle.std.specs.Option.{is_some, option_or}
use Rattle.std.specs.Bool.{beq}
use Rattle.std.specs.Str.{bytes_eq}
use Rattle.std.proofs.lemmas.Option.{same_Some}
use Rattle.grammar_text.specs.declared.edit.RuleText.{RuleText}
use Rattle.grammar_text.specs.declared.edit.DefText.{DefText}
use Rattle.grammar_text.specs.declared.edit.Edit.TheVariants.{AddRule, DropRule}
use Rattle.forest.specs.declared.rules.RuleId.{RuleId}
use Rattle.forest.specs.declared.rules.Rule.{Rule}
use Rattle.edit_log.specs.declared.refusal.Refusal.{Refusal}
use Rattle.edit_log.specs.declared.refusal.Refusal.TheVariants.{NameClash, Exists, NoSuch}
use Rattle.edit_log.specs.History.{Definition, Grammar, has_name}
use Rattle.edit_log.specs.Verdict.{rule_found, definition_found, is_left, is_taken, fullness, verdict}
use Rattle.edit_log.specs.declared.named_definitions.NamedDefinition.{NamedDefinition}
use Rattle.edit_log.specs.Replicas.{seen_of, of_kind, adds, drops}

any_find : {X : Type 0} (test : X → Bool) (xs : List X) → list_any test xs ≡ is_some (find test xs)
any_find test [] = refl
any_find {X} test (x ∷ xs) = by (test x) (any_find test xs)
  where
    by : (is : Bool) → list_any test xs ≡ is_some (find test xs) → (is || list_any test xs) ≡ is_some (cond is (Some x) (find test xs))
    by true rest = refl
    by false rest = rest

abbrev named_in : Grammar → List ℕ → Option Definition
named_in g name = find (has_name g.symbols name) g.definitions

-- ---- rules

pub rule_clash : (g : Grammar) (r : RuleText) → is_some (named_in g r.left) ≡ true → verdict g (AddRule r) ≡ Some (NameClash r.left)
unfolding verdict
rule_clash g r named = rw (any_find (has_name g.symbols r.left) g.definitions ∙ named) refl

pub rule_twin : (g : Grammar) (r : RuleText) (number : RuleId) → is_some (named_in g r.left) ≡ false
    → option_map (λ live. live.number) (rule_found g r) ≡ Some number → verdict g (AddRule r) ≡ Some (Exists number.0)
unfolding verdict
rule_twin g r number unnamed told = rw (any_find (has_name g.symbols r.left) g.definitions ∙ unnamed) (by (rule_found g r) told)
  where
    by : (found : Option Rule) → option_map (λ live. live.number) found ≡ Some number
        → option_or (option_map (λ live. Exists live.number.0) found) (option_or None (fullness g)) ≡ Some (Exists number.0)
    by None told = absurd cc
    by (Some live) told = ap (λ (n : RuleId). Some (Exists n.0)) (same_Some live.number number told)

pub rule_free : (g : Grammar) (r : RuleText) → is_some (named_in g r.left) ≡ false → option_map (λ live. live.number) (rule_found g r) ≡ None
    → verdict g (AddRule r) ≡ fullness g
unfolding verdict
rule_free g r unnamed told = rw (any_find (has_name g.symbols r.left) g.definitions ∙ unnamed) (by (rule_found g r) told)
  where
    by : (found : Option Rule) → option_map (λ live. live.number) found ≡ None
        → option_or (option_map (λ live. Exists live.number.0) found) (option_or None (fullness g)) ≡ fullness g
    by None told = refl
    by (Some live) told = absurd cc

pub rule_absent : (g : Grammar) (r : RuleText) → is_some (option_map (λ live. live.number) (rule_found g r)) ≡ false → verdict g (DropRule r) ≡ Some NoSuch
unfolding verdict
rule_absent g r told = by (rule_found g r) refl told
  where
    by : (found : Option Rule) → rule_found g r ≡ found → is_some (option_map (λ live. live.number) found) ≡ false → verdict g (DropRule r) ≡ Some NoSuch
    by None is told = rw is refl
    by (Some live) is told = absurd cc

pub rule_there : (g : Grammar) (r : RuleText) → is_some (option_map (λ live. live.number) (rule_found g r)) ≡ true → verdict g (DropRule r) ≡ fullness g
unfolding verdict
rule_there g r told = by (rule_found g r) refl told
  where
    by : (found : Option Rule) → rule_found g r ≡ found → is_some (option_map (λ live. live.number) found) ≡ true → verdict g (DropRule r) ≡ fullness g
    by None is told = absurd cc
    by (Some live) is told = rw is refl

-- ---- tokens and skips

pub define_start : (g : Grammar) (skip : Bool) (d : DefText) → bytes_eq d.name (codes "START") ≡ true → verdict g (adds skip d) ≡ Some (NameClash d.name)
unfolding verdict
define_start g true d is = rw is refl
define_start g false d is = rw is refl

taken_left : (g : Grammar) (other : Bool) (name : List ℕ) → is_left g name ≡ true → is_taken g other name ≡ true
taken_left g other name is = by (bytes_eq name (codes "START"))
  where
    by : (start : Bool) → (start || is_left g name || is_some (definition_found g other name)) ≡ true
    by true = refl
    by false = rw is refl

pub define_left : (g : Grammar) (skip : Bool) (d : DefText) → is_left g d.name ≡ true → verdict g (adds skip d) ≡ Some (NameClash d.name)
unfolding verdict
define_left g true d is = rw (taken_left g false d.name is) refl
define_left g false d is = rw (taken_left g true d.name is) refl

-- a name that is neither START nor a left side
pub record IsPlain (g : Grammar) (name : List ℕ) : Type 0 where
  pub start : bytes_eq name (codes "START") ≡ false
  pub left : is_left g name ≡ false

pub define_other : (g : Grammar) (skip : Bool) (d : DefText) (live : Definition) → IsPlain g d.name → definition_found g (not skip) d.name ≡ Some live
    → verdict g (adds skip d) ≡ Some (NameClash d.name)
unfolding verdict
define_other g true d live plain found = rw (plain.start, plain.left, found) refl
define_other g false d live plain found = rw (plain.start, plain.left, found) refl

pub define_twin : (g : Grammar) (skip : Bool) (d : DefText) (live : Definition) → IsPlain g d.name → definition_found g (not skip) d.name ≡ None
    → definition_found g skip d.name ≡ Some live
    → verdict g (adds skip d) ≡ Some (Exists live.number.0)
unfolding verdict
define_twin g true d live plain none found = rw (plain.start, plain.left, none, found) refl
define_twin g false d live plain none found = rw (plain.start, plain.left, none, found) refl

pub define_free : (g : Grammar) (skip : Bool) (d : DefText) → IsPlain g d.name → definition_found g (not skip) d.name ≡ None
    → definition_found g skip d.name ≡ None → verdict g (adds skip d) ≡ fullness g
unfolding verdict
define_free g true d plain none found = rw (plain.start, plain.left, none, found) refl
define_free g false d plain none found = rw (plain.start, plain.left, none, found) refl

pub end_absent : (g : Grammar) (skip : Bool) (name : List ℕ) → definition_found g skip name ≡ None → verdict g (drops skip name) ≡ Some NoSuch
unfolding verdict
end_absent g true name found = rw found refl
end_absent g false name found = rw found refl

pub end_there : (g : Grammar) (skip : Bool) (name : List ℕ) (live : Definition) → definition_found g skip name ≡ Some live
    → verdict g (drops skip name) ≡ fullness g
unfolding verdict
end_there g true name live found = rw found refl
end_there g false name live found = rw found refl

-- ---- kinds

pub of_this_kind : (skip : Bool) (live : Definition) → not (beq live.is_skip skip) ≡ false → of_kind skip (Some live) ≡ Some live
of_this_kind skip live same = by skip live.is_skip refl same
  where
    by : (skip is : Bool) → live.is_skip ≡ is → not (beq is skip) ≡ false → of_kind skip (Some live) ≡ Some live
    by true true e same = rw e refl
    by true false e same = absurd cc
    by false true e same = absurd cc
    by false false e same = rw e refl

pub not_other_kind : (skip : Bool) (live : Definition) → not (beq live.is_skip skip) ≡ false → of_kind (not skip) (Some live) ≡ None
not_other_kind skip live same = by skip live.is_skip refl same
  where
    by : (skip is : Bool) → live.is_skip ≡ is → not (beq is skip) ≡ false → of_kind (not skip) (Some live) ≡ None
    by true true e same = rw e refl
    by true false e same = absurd cc
    by false true e same = absurd cc
    by false false e same = rw e refl

pub of_other_kind : (skip : Bool) (live : Definition) → not (beq live.is_skip skip) ≡ true → of_kind (not skip) (Some live) ≡ Some live
of_other_kind skip live other = by skip live.is_skip refl other
  where
    by : (skip is : Bool) → live.is_skip ≡ is → not (beq is skip) ≡ true → of_kind (not skip) (Some live) ≡ Some live
    by true true e other = absurd cc
    by true false e other = rw e refl
    by false true e other = rw e refl
    by false false e other = absurd cc

pub not_this_kind : (skip : Bool) (live : Definition) → not (beq live.is_skip skip) ≡ true → of_kind skip (Some live) ≡ None
not_this_kind skip live other = by skip live.is_skip refl other
  where
    by : (skip is : Bool) → live.is_skip ≡ is → not (beq is skip) ≡ true → of_kind skip (Some live) ≡ None
    by true true e other = absurd cc
    by true false e other = rw e refl
    by false true e other = rw e refl
    by false false e other = absurd cc

-- ---- what is left to check is whether there is room

pub taken_by_room : (g : Grammar) (answer : Option Refusal) (checked : Result (Unit {0}) Refusal) → answer ≡ fullness g → OnOk checked (fullness g ≡ None)
    → OnOk checked (answer ≡ None)
taken_by_room g answer (Ok u) is taken = is ∙ taken
taken_by_room g answer (Err e) is taken = tt

pub refused_by_room : (g : Grammar) (answer : Option Refusal) (checked : Result (Unit {0}) Refusal) → answer ≡ fullness g
    → IfErr checked (λ e. fullness g ≡ Some e) → IfErr checked (λ e. answer ≡ Some e)
refused_by_room g answer (Ok u) is refused = tt
refused_by_room g answer (Err e) is refused = is ∙ refused

pub or_refused : (answer : Option Refusal) (P : Refusal → Type 0) (checked : Result (Unit {0}) Refusal) → IfErr checked (λ e. answer ≡ Some e)
    → IfErr checked (λ e. P e ⊎ (answer ≡ Some e))
or_refused answer P (Ok u) refused = tt
or_refused answer P (Err e) refused = inr refused

-- what is seen of an answer is there where the answer is
pub some_seen : (told : Option (Bor NamedDefinition)) → is_some (option_map (λ live. seen_of live.now) told) ≡ is_some told
some_seen None = refl
some_seen (Some live) = refl
