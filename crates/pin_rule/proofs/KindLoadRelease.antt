-- A load of a release word keeps the rule: the oldest version may leave the live ones.
use Rattle.std.proofs.Common.{◌≡◌, ◌≢◌, ℕ, ◌+◌, List, [], ◌∷◌, ◌⊎◌, set, eqb, eq-eqb, ne_eqb, inl, inr, sym, refl, ap, ◌∙◌, subst}
use Rattle.std.proofs.lemmas.Bool.{eqb-true}
use mathlib.Core.Option as maybe
use mathlib.Core.Bool.{cond}
use lib.ListN.{get_elem?}
use Rattle.std.specs.Prelude.{Some, None, Option, Bool, true, false}
use Rattle.pin_rule.specs.declared.sizes.Sizes.{Sizes}
use Rattle.pin_rule.specs.declared.content.Entry.{Entry}
use Rattle.pin_rule.specs.declared.view.View.{View}
use Rattle.pin_rule.specs.declared.view.Older.{Older}
use Rattle.pin_rule.specs.declared.view.Role.{Role}
use Rattle.pin_rule.specs.declared.view.GivingUp.{GivingUp}
use Rattle.pin_rule.specs.declared.ops.Op.TheVariants as op
use Rattle.pin_rule.specs.Layout.{release_word, release}
use Rattle.pin_rule.specs.GivingUp.{last_of, before_last, shows_dropped, without_oldest, if_dropped, if_idle, role_released}
use Rattle.pin_rule.specs.Lawful.{Lawful}
use Rattle.pin_rule.specs.Steps.{after_load_release}
use Rattle.pin_rule.specs.Keeps.{Keeps}
use Rattle.pin_rule.proofs.Bools.{both_true}
use Rattle.pin_rule.proofs.Frames.{set_same}
use Rattle.pin_rule.proofs.Seats.{none_some}
use Rattle.pin_rule.proofs.Versions.{is_role}
use Rattle.pin_rule.proofs.Learning.{learns_met}
use Rattle.pin_rule.proofs.Leaving.{leaves}

-- the word is that of the oldest version, and shows that all its pins were dropped
pub record Drops (o : Option Role) (page n : ℕ) : Type 0 where
  pub role : Role
  pub first : Older
  pub rest : List Older
  pub has : o ≡ Some role
  pub idle : role.giving_up ≡ None
  pub older : role.older ≡ first ∷ rest
  pub page_is : (last_of first rest).live.page ≡ page
  pub dropped : n ≡ (last_of first rest).live.base + (last_of first rest).taken
  pub is : role_released o page n ≡ Some (without_oldest role (last_of first rest) (before_last first rest) n)

module _ (page n : ℕ) where
  shown_cases : (r : Role) (a : Older) (os : List Older) (b : Bool) → r.giving_up ≡ None → r.older ≡ a ∷ os → shows_dropped (last_of a os) page n ≡ b
      → (role_released (Some r) page n ≡ Some r) ⊎ Drops (Some r) page n
  shown_cases r a os false idle older e = inl (ap (λ (g : Option GivingUp). Some (if_idle r g page n)) idle
      ∙ ap (λ (ls : List Older). Some (if_dropped r ls page n)) older
      ∙ ap (λ (c : Bool). Some (cond c (without_oldest r (last_of a os) (before_last a os) n) r)) e)
  shown_cases r a os true idle older e = let o = last_of a os in let both = both_true (eqb o.live.page page) (eqb n (o.live.base + o.taken)) e in inr (record {
    role = r;
    first = a;
    rest = os;
    has = refl;
    idle = idle;
    older = older;
    page_is = eqb-true o.live.page page both.0;
    dropped = eqb-true n (o.live.base + o.taken) both.1;
    is = ap (λ (g : Option GivingUp). Some (if_idle r g page n)) idle ∙ ap (λ (ls : List Older). Some (if_dropped r ls page n)) older
        ∙ ap (λ (c : Bool). Some (cond c (without_oldest r (last_of a os) (before_last a os) n) r)) e;
  })

  older_cases : (r : Role) (ls : List Older) → r.giving_up ≡ None → r.older ≡ ls → (role_released (Some r) page n ≡ Some r) ⊎ Drops (Some r) page n
  older_cases r [] idle older = inl (ap (λ (g : Option GivingUp). Some (if_idle r g page n)) idle
      ∙ ap (λ (ls : List Older). Some (if_dropped r ls page n)) older)
  older_cases r (a ∷ os) idle older = shown_cases r a os (shows_dropped (last_of a os) page n) idle older refl

  given_cases : (r : Role) (g : Option GivingUp) → r.giving_up ≡ g → (role_released (Some r) page n ≡ Some r) ⊎ Drops (Some r) page n
  given_cases r None e = older_cases r r.older e refl
  given_cases r (Some g) e = inl (ap (λ (o : Option GivingUp). Some (if_idle r o page n)) e)

  pub released_cases : (o : Option Role) → (role_released o page n ≡ o) ⊎ Drops o page n
  released_cases None = inl refl
  released_cases (Some r) = given_cases r r.giving_up refl

-- What a load of the oldest version's release word makes of the role

module _ (r : Role) (a : Older) (os : List Older) (n : ℕ) (idle : r.giving_up ≡ None) (older : r.older ≡ a ∷ os) where
  abbrev last : Older
  last = last_of a os

  shown : (b : Bool) → shows_dropped last last.live.page n ≡ b
      → role_released (Some r) last.live.page n ≡ Some (cond b (without_oldest r last (before_last a os) n) r)
  shown b e = ap (λ (g : Option GivingUp). Some (if_idle r g last.live.page n)) idle
      ∙ ap (λ (ls : List Older). Some (if_dropped r ls last.live.page n)) older
      ∙ ap (λ (c : Bool). Some (cond c (without_oldest r last (before_last a os) n) r)) e

  shows : shows_dropped last last.live.page n ≡ eqb n (last.live.base + last.taken)
  shows = ap (λ (b : Bool). cond b (eqb n (last.live.base + last.taken)) false) (eq-eqb last.live.page last.live.page refl)

  pub role_drops : n ≡ last.live.base + last.taken → role_released (Some r) last.live.page n ≡ Some (without_oldest r last (before_last a os) n)
  role_drops e = shown true (shows ∙ eq-eqb n (last.live.base + last.taken) e)

  pub role_keeps : n ≢ last.live.base + last.taken → role_released (Some r) last.live.page n ≡ Some r
  role_keeps e = shown false (shows ∙ ne_eqb n (last.live.base + last.taken) e)

module _ (L : List Entry → Type 0) (F : List Entry → List ℕ → Type 0) (v : View) (page : ℕ) (words : List ℕ) (views : List View) (id n : ℕ)
    (h : Lawful L F v.sizes words views) (at : get_elem? views id ≡ maybe.some v) (e : release v.sizes words page ≡ n) where
  abbrev z : Sizes
  z = v.sizes

  abbrev w : View
  w = after_load_release v page n

  stays : role_released v.role page n ≡ v.role → Lawful L F z (set words (release_word z page) n) (set views id w)
  stays same = learns_met L F z words views id v w at h (release_word z page) n e (record { sizes = refl; share = refl; role = same }) (record {
    log = refl;
    log_words = refl;
    pinned = refl;
    pins_left = refl;
  }) refl (h.known id v at) (h.facts id v at)

  drops : (a : Older) (os : List Older) → v.role ≡ Some h.role → h.role.giving_up ≡ None → h.role.older ≡ a ∷ os → (last_of a os).live.page ≡ page
      → n ≡ (last_of a os).live.base + (last_of a os).taken → w.role ≡ Some (without_oldest h.role (last_of a os) (before_last a os) n)
      → Lawful L F z (set words (release_word z page) n) (set views id w)
  drops a os has idle older page_is dropped is = subst (λ (ws : List ℕ). Lawful L F z ws (set views id w)) (sym (ap (set words (release_word z page)) (sym e)
      ∙ set_same words (release_word z page)))
      (leaves L F z words views id v w at h a os n older idle (ap (release z words) page_is ∙ e) dropped (record {
        sizes = refl;
        share = refl;
        own = refl;
        steady = record { log = refl; log_words = refl; pinned = refl; pins_left = refl };
        right = (let right = h.shares.rightful id v at in (λ o. let r = right.0 o in absurd (none_some h.role (sym r.2 ∙ has)), right.1));
        knows = h.facts id v at;
        whole = h.known id v at;
        was = has;
        is = is;
      }))

module _ (L : List Entry → Type 0) (F : List Entry → List ℕ → Type 0) (v : View) where
  pub keeps_load_release : (page : ℕ) → Keeps L F v (op.LoadRelease page)
  keeps_load_release page words views id n h at e = elim (released_cases page n v.role) [
    | inl same ↦ stays L F v page words views id n h at e same
    | inr d ↦ let same : d.role ≡ h.role = is_role L F v.sizes words views id v at h d.role d.has in
        drops L F v page words views id n h at e d.first d.rest (d.has ∙ ap Some same) (ap (λ (r : Role). r.giving_up) (sym same) ∙ d.idle)
        (ap (λ (r : Role). r.older) (sym same) ∙ d.older) d.page_is d.dropped
        (d.is ∙ ap (λ (r : Role). Some (without_oldest r (last_of d.first d.rest) (before_last d.first d.rest) n)) same)
  ]
