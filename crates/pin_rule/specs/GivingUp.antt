-- How the oldest version leaves the live ones, and how its page is gone through: what the steps on it change of the editor's role.
use Rattle.std.specs.Prelude.{ℕ, zero, suc, ◌+◌, List, [], ◌∷◌, Option, Some, None, Bool, true, false, cond}
use lib.Dec.{eqb}
use Rattle.pin_rule.specs.declared.sizes.Sizes.{Sizes}
use Rattle.pin_rule.specs.declared.view.Live.{Live}
use Rattle.pin_rule.specs.declared.view.Older.{Older}
use Rattle.pin_rule.specs.declared.view.GivingUp.{GivingUp}
use Rattle.pin_rule.specs.declared.view.Role.{Role}
use Rattle.pin_rule.specs.Lists.{is_in}

-- the last of a list of older versions that is not empty, and those before it
abbrev pub last_of : Older → List Older → Older
last_of o [] = o
last_of o (p ∷ ps) = last_of p ps

abbrev pub before_last : Older → List Older → List Older
before_last o [] = []
before_last o (p ∷ ps) = o ∷ before_last p ps

-- the word of the version's page shows that each pin taken on it was dropped
abbrev pub shows_dropped : Older → ℕ → ℕ → Bool
shows_dropped o page met = cond (eqb o.live.page page) (eqb met (o.live.base + o.taken)) false

-- the oldest version is no longer live, and is given up from its first place on
abbrev pub without_oldest : Role → Older → List Older → ℕ → Role
without_oldest r o rest met = record r {
  older = rest;
  released = (o.live.page, met) ∷ r.released;
  giving_up = Some record { version = o.live.version; page = o.live.page; reached = 0 };
}

abbrev pub if_dropped : Role → List Older → ℕ → ℕ → Role
if_dropped r [] page met = r
if_dropped r (o ∷ os) page met = cond (shows_dropped (last_of o os) page met) (without_oldest r (last_of o os) (before_last o os) met) r

-- one version is given up at a time
abbrev pub if_idle : Role → Option GivingUp → ℕ → ℕ → Role
if_idle r None page met = if_dropped r r.older page met
if_idle r (Some g) page met = r

abbrev pub role_released : Option Role → ℕ → ℕ → Option Role
role_released None page met = None
role_released (Some r) page met = Some (if_idle r r.giving_up page met)

-- The page of the version that is given up

-- the last live version of these
abbrev pub last_live : Live → List Older → Live
last_live l [] = l
last_live l (o ∷ os) = last_live o.live os

-- the live version that follows the one that is given up
abbrev pub oldest : Role → Live
oldest r = last_live r.newest r.older

-- the place after the one reached comes next; after the last place nothing is left
abbrev pub next_place : Sizes → GivingUp → Option GivingUp
next_place z g = cond (eqb (suc g.reached) z.places) None (Some record g { reached = suc g.reached })

abbrev pub with_next : Sizes → Role → Option GivingUp → Role
with_next z r None = r
with_next z r (Some g) = record r { giving_up = next_place z g }

-- the place is empty, or its row was carried into the version that follows
abbrev pub is_passed : Role → ℕ → Bool
is_passed r zero = true
is_passed r (suc row) = is_in row (oldest r).carried

abbrev pub is_reached : Option GivingUp → ℕ → ℕ → Bool
is_reached None page place = false
is_reached (Some g) page place = cond (eqb g.page page) (eqb g.reached place) false

abbrev pub role_met : Sizes → Option Role → ℕ → ℕ → ℕ → Option Role
role_met z None page place met = None
role_met z (Some r) page place met = Some (cond (is_reached r.giving_up page place) (cond (is_passed r met) (with_next z r r.giving_up) r) r)

abbrev pub role_freed : Sizes → Option Role → Option Role
role_freed z None = None
role_freed z (Some r) = Some (with_next z r r.giving_up)
