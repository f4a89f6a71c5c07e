-- Which loads of a place go on to the next place of the version that is being given up.
use Rattle.std.proofs.Common.{◌≡◌, ℕ, zero, suc, ◌⊎◌, eqb, eq-eqb, inl, inr, sym, refl, ap, ◌∙◌, subst, arith}
use Rattle.std.proofs.lemmas.Bool.{eqb-true}
use mathlib.Core.Bool.{cond}
use Rattle.std.specs.Prelude.{Some, None, Option, Bool, true, false}
use Rattle.pin_rule.specs.declared.sizes.Sizes.{Sizes}
use Rattle.pin_rule.specs.declared.view.View.{View}
use Rattle.pin_rule.specs.declared.view.Role.{Role}
use Rattle.pin_rule.specs.declared.view.GivingUp.{GivingUp}
use Rattle.pin_rule.specs.Lists.{In}
use Rattle.pin_rule.specs.GivingUp.{oldest, with_next, is_passed, is_reached, role_met}
use Rattle.pin_rule.specs.Steps.{after_load_place}
use Rattle.pin_rule.proofs.Bools.{no_bool, both_true}
use Rattle.pin_rule.proofs.Spare.{is_in_tells}
use Rattle.pin_rule.proofs.GoingOn.{role_next}

-- the place is the one reached, and is passed
pub record Passes (z : Sizes) (o : Option Role) (page place n : ℕ) : Type 0 where
  pub role : Role
  pub given : GivingUp
  pub has : o ≡ Some role
  pub giving : role.giving_up ≡ Some given
  pub page_is : given.page ≡ page
  pub place_is : given.reached ≡ place
  pub passed : is_passed role n ≡ true
  pub is : role_met z o page place n ≡ Some (role_next z role given)

module _ (z : Sizes) (page place n : ℕ) where
  reached_cases : (r : Role) (g : GivingUp) (a b : Bool) → r.giving_up ≡ Some g → is_reached (Some g) page place ≡ a → is_passed r n ≡ b
      → (role_met z (Some r) page place n ≡ Some r) ⊎ Passes z (Some r) page place n
  reached_cases r g false b up ea eb = inl (ap (λ (o : Option GivingUp). Some (cond (is_reached o page place) (cond (is_passed r n) (with_next z r o) r) r)) up
      ∙ ap (λ (c : Bool). Some (cond c (cond (is_passed r n) (with_next z r (Some g)) r) r)) ea)
  reached_cases r g true false up ea eb = inl (
      ap (λ (o : Option GivingUp). Some (cond (is_reached o page place) (cond (is_passed r n) (with_next z r o) r) r)) up
      ∙ ap (λ (c : Bool). Some (cond c (cond (is_passed r n) (with_next z r (Some g)) r) r)) ea
      ∙ ap (λ (c : Bool). Some (cond c (with_next z r (Some g)) r)) eb)
  reached_cases r g true true up ea eb = let both = both_true (eqb g.page page) (eqb g.reached place) ea in inr (record {
    role = r;
    given = g;
    has = refl;
    giving = up;
    page_is = eqb-true g.page page both.0;
    place_is = eqb-true g.reached place both.1;
    passed = eb;
    is = ap (λ (o : Option GivingUp). Some (cond (is_reached o page place) (cond (is_passed r n) (with_next z r o) r) r)) up
        ∙ ap (λ (c : Bool). Some (cond c (cond (is_passed r n) (with_next z r (Some g)) r) r)) ea
        ∙ ap (λ (c : Bool). Some (cond c (with_next z r (Some g)) r)) eb;
  })

  given_cases : (r : Role) (o : Option GivingUp) → r.giving_up ≡ o → (role_met z (Some r) page place n ≡ Some r) ⊎ Passes z (Some r) page place n
  given_cases r None up = inl (ap (λ (o : Option GivingUp). Some (cond (is_reached o page place) (cond (is_passed r n) (with_next z r o) r) r)) up)
  given_cases r (Some g) up = reached_cases r g (is_reached (Some g) page place) (is_passed r n) up refl refl

  pub met_cases : (o : Option Role) → (role_met z o page place n ≡ o) ⊎ Passes z o page place n
  met_cases None = inl refl
  met_cases (Some r) = given_cases r r.giving_up refl

  -- where no version is being given up, a load leaves the role
  pub role_stays : (r : Role) → r.giving_up ≡ None → role_met z (Some r) page place n ≡ Some r
  role_stays r up = ap (λ (o : Option GivingUp). Some (cond (is_reached o page place) (cond (is_passed r n) (with_next z r o) r) r)) up

at_reached : (g : GivingUp) → is_reached (Some g) g.page g.reached ≡ true
at_reached g = ap (λ (b : Bool). cond b (eqb g.reached g.reached) false) (eq-eqb g.page g.page refl) ∙ eq-eqb g.reached g.reached refl

either_way : (b : Bool) (r : Role) → Some (cond b r r) ≡ Some r
either_way true r = refl
either_way false r = refl

-- What a load of the place reached makes of the role

pub role_passes : (z : Sizes) (r : Role) (g : GivingUp) (n : ℕ) → r.giving_up ≡ Some g → is_passed r n ≡ true
    → role_met z (Some r) g.page g.reached n ≡ Some (role_next z r g)
role_passes z r g n up passed = ap (λ (o : Option GivingUp). Some (cond (is_reached o g.page g.reached) (cond (is_passed r n) (with_next z r o) r) r)) up
    ∙ ap (λ (c : Bool). Some (cond c (cond (is_passed r n) (with_next z r (Some g)) r) r)) (at_reached g)
    ∙ ap (λ (c : Bool). Some (cond c (with_next z r (Some g)) r)) passed

pub role_waits : (z : Sizes) (r : Role) (page place n : ℕ) → is_passed r n ≡ false → role_met z (Some r) page place n ≡ Some r
role_waits z r page place n waits = ap (λ (c : Bool). Some (cond (is_reached r.giving_up page place) (cond c (with_next z r r.giving_up) r) r)) waits
    ∙ either_way (is_reached r.giving_up page place) r

-- a view keeps its role over a load where it has none, or where no version is being given up
pub load_keeps_none : (v : View) (page place n : ℕ) → v.role ≡ None → (after_load_place v page place n).role ≡ v.role
load_keeps_none v page place n has = ap (λ (o : Option Role). role_met v.sizes o page place n) has ∙ sym has

pub load_keeps_role : (v : View) (r : Role) (page place n : ℕ) → v.role ≡ Some r → r.giving_up ≡ None → (after_load_place v page place n).role ≡ v.role
load_keeps_role v r page place n has idle = ap (λ (o : Option Role). role_met v.sizes o page place n) has ∙ role_stays v.sizes page place n r idle ∙ sym has

-- a row that is passed was carried into the oldest live version
pub carried_row : (r : Role) (n row : ℕ) → is_passed r n ≡ true → n ≡ suc row → In row (oldest r).carried
carried_row r zero row passed e = absurd (omega arith)
carried_row r (suc m) row passed e = elim (is_in_tells m (oldest r).carried) [
  | inl t ↦ subst (λ (k : ℕ). In k (oldest r).carried) (let same : m ≡ row = omega arith in same) t.1
  | inr t ↦ absurd (no_bool (sym t.0 ∙ passed))
]
