-- What a view has.
use Rattle.std.specs.Prelude.{◌≡◌, ◌≢◌, ◌⊎◌, ℕ, List, [], ◌∷◌, ◌++◌, map, length, Some, None, Option, cond}
use mathlib.Core.Option as maybe
use lib.Dec.{eqb}
use lib.ListN.{get_elem?}
use Rattle.lend.specs.declared.limits.TheConstants.{WHOLE}
use Rattle.pin_rule.specs.declared.content.Entry.{Entry}
use Rattle.pin_rule.specs.declared.view.View.{View}
use Rattle.pin_rule.specs.declared.view.OwnRow.{OwnRow}
use Rattle.pin_rule.specs.declared.view.Pin.{Pin}
use Rattle.pin_rule.specs.declared.view.Live.{Live}
use Rattle.pin_rule.specs.declared.view.Older.{Older}
use Rattle.pin_rule.specs.declared.view.Role.{Role}
use Rattle.pin_rule.specs.declared.view.GivingUp.{GivingUp}
use Rattle.pin_rule.specs.Lists.{In}

-- all shares together, which are the parts of the right to the table
abbrev pub whole : ℕ
whole = WHOLE

-- the version that a view's log leads to
abbrev pub now : View → ℕ
now v = length v.log

abbrev pub Owns : View → OwnRow → Type 0
Owns v o = v.own ≡ Some o

-- the seat of this number owns the row of o, and has written the words of o
abbrev pub OwnsAt : List View → ℕ → OwnRow → Type 0
OwnsAt views seat o = (v : View) × (get_elem? views seat ≡ maybe.some v) × Owns v o

abbrev pub EachView : List View → (View → Type 0) → Type 0
EachView views P = (seat : ℕ) (v : View) → get_elem? views seat ≡ maybe.some v → P v

-- the views of two seats
abbrev pub AreOfTwoSeats : List View → ℕ → ℕ → View → View → Type 0
AreOfTwoSeats views i j v w = (i ≢ j) × (get_elem? views i ≡ maybe.some v) × (get_elem? views j ≡ maybe.some w)

-- the live versions of the editor's role, newest first
abbrev pub lives : Role → List Live
lives r = r.newest ∷ map (λ (o : Older). o.live) r.older

abbrev pub IsLiveVersion : Role → Live → Type 0
IsLiveVersion r l = In l (lives r)

abbrev pub given_page : Option GivingUp → List ℕ
given_page None = []
given_page (Some g) = g.page ∷ []

-- the pages of the live versions and of the one that is being given up
abbrev pub pages_taken : Role → List ℕ
pages_taken r = given_page r.giving_up ++ map (λ (l : Live). l.page) (lives r)

-- a pin names a live version and its page
abbrev pub Names : Role → Pin → Type 0
Names r p = (l : Live) × IsLiveVersion r l × (l.version ≡ p.version) × (l.page ≡ p.page)

-- a log is the beginning of another
abbrev pub IsPrefix : List Entry → List Entry → Type 0
IsPrefix l m = (rest : List Entry) × (m ≡ l ++ rest)

-- the view has the log of the version that it pins, or is the editor's
abbrev pub IsCaughtUp : View → Type 0
IsCaughtUp v = ((p : Pin) × (v.pinned ≡ Some p) × (p.version ≡ now v)) ⊎ ((r : Role) × (v.role ≡ Some r))

-- The version whose page this is, as far as a view may speak of it

abbrev pub if_at : ℕ → ℕ → ℕ → Option ℕ → Option ℕ
if_at page at version else_ = cond (eqb at page) (Some version) else_

abbrev pub version_given_up : Option GivingUp → ℕ → Option ℕ
version_given_up None page = None
version_given_up (Some g) page = if_at page g.page g.version None

abbrev pub version_of_role : Option Role → ℕ → Option ℕ
version_of_role None page = None
version_of_role (Some r) page = if_at page r.newest.page r.newest.version (version_given_up r.giving_up page)

abbrev pub version_pinned : Option Pin → Option ℕ → ℕ → Option ℕ
version_pinned None else_ page = else_
version_pinned (Some p) else_ page = if_at page p.page p.version else_

-- the page of the version that the view pins; for the editor also that of the newest version or of the one that is being given up
abbrev pub version_at : View → ℕ → Option ℕ
version_at v page = version_pinned v.pinned (version_of_role v.role page) page
