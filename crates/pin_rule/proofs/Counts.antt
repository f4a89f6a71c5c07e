-- Pins by their numbers: none is more than the pins of the table's life.
use Rattle.std.proofs.Common.{◌≡◌, ◌≢◌, ℕ, ◌<◌, ◌≤◌, List, ne_eqb, eq-eqb, ap, arith}
use mathlib.Core.Bool.{cond}
use mathlib.Core.Logic.{dite}
use native.Mathlib.Decide.{ℕ_discrete}
use Rattle.std.specs.Prelude.{Some, None, Option}
use Rattle.pin_rule.specs.declared.sizes.Sizes.{Sizes}
use Rattle.pin_rule.specs.declared.content.Entry.{Entry}
use Rattle.pin_rule.specs.declared.view.View.{View}
use Rattle.pin_rule.specs.declared.view.Pin.{Pin}
use Rattle.pin_rule.specs.declared.view.Live.{Live}
use Rattle.pin_rule.specs.Layout.{release}
use Rattle.pin_rule.specs.Lists.{total}
use Rattle.pin_rule.specs.PartLive.{HasTaken, pins_on, one_pin, pins_of, pinning}
use Rattle.pin_rule.specs.Lawful.{Lawful}
use Rattle.pin_rule.proofs.Lists.{total_le, sum_at}
use Rattle.pin_rule.proofs.Versions.{taken_live}

pub pins_here : (version : ℕ) (p : Pin) → p.version ≡ version → pins_on version (Some p) ≡ 1
pins_here version p e = ap (λ b. cond b 1 0) (eq-eqb p.version version e)

pub pins_else : (version : ℕ) (p : Pin) → p.version ≢ version → pins_on version (Some p) ≡ 0
pins_else version p n = ap (λ b. cond b 1 0) (ne_eqb p.version version n)

at_most_one : (version : ℕ) (o : Option Pin) → pins_on version o ≤ one_pin o
at_most_one version None = omega arith
at_most_one version (Some p) = dite (ℕ_discrete p.version version) (λ e. let a = pins_here version p e in omega arith) (λ n. let a =
    pins_else version p n in omega arith)

pub some_pinning : (views : List View) (version : ℕ) → pinning views version ≤ total pins_of views
some_pinning views version = total_le (λ (u : View). pins_on version u.pinned) pins_of (λ u. let a = at_most_one version u.pinned in omega arith) views

module _ (L : List Entry → Type 0) (F : List Entry → List ℕ → Type 0) (z : Sizes) (words : List ℕ) (views : List View) (h : Lawful L F z words views) where
  pub few_dropped : (page : ℕ) → page < z.versions → release z words page ≤ z.pins
  few_dropped page inside = let b = h.budget in let a = sum_at z.versions (release z words) page inside in omega arith

  pub few_taken : (l : Live) (t : ℕ) → HasTaken h.role h.taken l t → t ≤ z.pins
  few_taken l t k = let c = h.pins.counted l t k in let b = h.budget in
      let a = sum_at z.versions (release z words) l.page (h.live.page_in l (taken_live z h.role h.live h.taken l t k)) in
      let n = some_pinning views l.version in omega arith
