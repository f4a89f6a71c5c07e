-- What an edit that is taken meets.
use Rattle.std.proofs.Common.{◌≡◌, cond, ℕ, Bool, true, false, List, Option, Some, None, refl, option_map}
use Rattle.std.specs.Option.{option_or}
use Rattle.grammar_text.specs.declared.edit.RuleText.{RuleText}
use Rattle.grammar_text.specs.declared.edit.Edit.{Edit}
use Rattle.grammar_text.specs.declared.edit.Edit.TheVariants.{DropRule}
use Rattle.forest.specs.declared.rules.Rule.{Rule}
use Rattle.edit_log.specs.declared.refusal.Refusal.TheVariants.{NoSuch}
use Rattle.edit_log.specs.History.{Definition, Grammar}
use Rattle.edit_log.specs.Verdict.{rule_found, definition_found, clash, twin, lack, fullness, verdict}
use Rattle.edit_log.specs.Replicas.{drops}

-- there is no reason against the edit
pub record IsFree (g : Grammar) (edit : Edit) : Type 0 where
  pub clash : clash g edit ≡ None
  pub twin : twin g edit ≡ None
  pub lack : lack g edit ≡ None
  pub fullness : fullness g ≡ None

first_none : {A : Type 0} (a b : Option A) → option_or a b ≡ None → (a ≡ None) × (b ≡ None)
first_none None b e = (refl, e)
first_none (Some x) b e = absurd cc

pub free : (g : Grammar) (edit : Edit) → verdict g edit ≡ None → IsFree g edit
unfolding verdict
free g edit taken =
    let one = first_none (clash g edit) (option_or (twin g edit) (option_or (lack g edit) (fullness g))) taken in
    let two = first_none (twin g edit) (option_or (lack g edit) (fullness g)) one.1 in
    let three = first_none (lack g edit) (fullness g) two.1 in
    record { clash = one.0; twin = two.0; lack = three.0; fullness = three.1 }

pub when_none : {A : Type 0} (test : Bool) (x : A) → cond test (Some x) None ≡ None → test ≡ false
when_none true x e = absurd cc
when_none false x e = refl

pub map_none : {A B : Type 0} (f : A → B) (o : Option A) → option_map f o ≡ None → o ≡ None
map_none f None e = refl
map_none f (Some x) e = absurd cc

-- what is dropped is there
pub rule_there : (g : Grammar) (r : RuleText) → lack g (DropRule r) ≡ None → (live : Rule) × (rule_found g r ≡ Some live)
rule_there g r none = by (rule_found g r) refl
  where
    by : (o : Option Rule) → rule_found g r ≡ o → (live : Rule) × (rule_found g r ≡ Some live)
    by None is = let lacks : lack g (DropRule r) ≡ Some NoSuch = rw is refl in absurd cc
    by (Some live) is = (live, is)

pub definition_there : (g : Grammar) (skip : Bool) (name : List ℕ) → lack g (drops skip name) ≡ None
    → (live : Definition) × (definition_found g skip name ≡ Some live)
definition_there g true name none = by (definition_found g true name) refl
  where
    by : (o : Option Definition) → definition_found g true name ≡ o → (live : Definition) × (definition_found g true name ≡ Some live)
    by None is = let lacks : lack g (drops true name) ≡ Some NoSuch = rw is refl in absurd cc
    by (Some live) is = (live, is)
definition_there g false name none = by (definition_found g false name) refl
  where
    by : (o : Option Definition) → definition_found g false name ≡ o → (live : Definition) × (definition_found g false name ≡ Some live)
    by None is = let lacks : lack g (drops false name) ≡ Some NoSuch = rw is refl in absurd cc
    by (Some live) is = (live, is)
