-- What the view with the whole share learns of the newest page stands.
use Rattle.std.proofs.Common.{◌≡◌, ℕ, suc, ◌<◌, List, [], ◌∷◌, map, eqb, sym, refl, ap, ◌∙◌}
use Rattle.std.proofs.lemmas.Bool.{eqb-true}
use mathlib.Core.Option as maybe
use mathlib.Core.Bool.{cond}
use lib.ListN.{get_elem?}
use Rattle.std.specs.Prelude.{Some, None, Option, Bool, true, false}
use Rattle.pin_rule.specs.declared.sizes.Sizes.{Sizes}
use Rattle.pin_rule.specs.declared.content.Entry.{Entry}
use Rattle.pin_rule.specs.declared.view.View.{View}
use Rattle.pin_rule.specs.declared.view.Role.{Role}
use Rattle.pin_rule.specs.declared.view.KnownPlace.{KnownPlace}
use Rattle.pin_rule.specs.Layout.{entry, row_at}
use Rattle.pin_rule.specs.Lists.{Each}
use Rattle.pin_rule.specs.Views.{whole}
use Rattle.pin_rule.specs.PartClaims.{StandsIn}
use Rattle.pin_rule.specs.PartFacts.{IsKnown}
use Rattle.pin_rule.specs.Lawful.{Lawful}
use Rattle.pin_rule.specs.Steps.{is_newest_page, keeps_page, learned_place, known_met, learned_word, known_read}
use Rattle.pin_rule.proofs.Bools.{no_bool, both_true}
use Rattle.pin_rule.proofs.Lists.{each_mapped, same_row}
use Rattle.pin_rule.proofs.Versions.{is_role}

pub each_cond : {A : Type 0} (P : A → Type 0) (b : Bool) (l m : List A) → Each P l → Each P m → Each P (cond b l m)
each_cond P true l m h k = h
each_cond P false l m h k = k

newest_of : (o : Option Role) (page : ℕ) → is_newest_page o page ≡ true → (r : Role) × (o ≡ Some r) × (r.newest.page ≡ page)
newest_of None page e = absurd (no_bool e)
newest_of (Some r) page e = (r, refl, eqb-true r.newest.page page e)

each_learned : (P : KnownPlace → Type 0) (place n : ℕ) (ks : List KnownPlace) → P (record { place = place; met = n; words = [] }) → Each P ks
    → Each P (learned_place place n ks)
each_learned P place n [] p h = (p, tt)
each_learned P place n (k ∷ ks) p h = each_cond P (eqb k.place place) (k ∷ ks) (k ∷ learned_place place n ks) h (h.0, each_learned P place n ks p h.1)

module _ (L : List Entry → Type 0) (F : List Entry → List ℕ → Type 0) (z : Sizes) (words : List ℕ) (views : List View) (id : ℕ) (v : View)
    (at : get_elem? views id ≡ maybe.some v) (h : Lawful L F z words views) where
  -- the page that the view keeps is the newest one
  pub keeps_newest : (page : ℕ) → keeps_page v page ≡ true → h.role.newest.page ≡ page
  keeps_newest page e = let r = newest_of v.role page (both_true (eqb v.share whole) (is_newest_page v.role page) e).1 in
      sym (ap (λ (x : Role). x.newest.page) (is_role L F z words views id v at h r.0 r.1)) ∙ r.2

  module _ (all : v.share ≡ whole) where
    on_met : (b : Bool) (page place n : ℕ) → keeps_page v page ≡ b → place < z.places → entry z words page place ≡ n
        → Each (IsKnown z words h.role) (cond b (learned_place place n v.known) v.known)
    on_met false page place n is inside e = h.known id v at all
    on_met true page place n is inside e = each_learned (IsKnown z words h.role) place n v.known
        (inside, ap (λ (p : ℕ). entry z words p place) (keeps_newest page is) ∙ e, λ row _. tt) (h.known id v at all)

    pub known_meets : (page place n : ℕ) → place < z.places → entry z words page place ≡ n → Each (IsKnown z words h.role) (known_met v page place n)
    known_meets page place n inside e = on_met (keeps_page v page) page place n refl inside e

    one_more_word : (b : Bool) (row index n : ℕ) (k : KnownPlace) (r : ℕ) → eqb k.met (suc row) ≡ b → index < z.width → row_at z words row index ≡ n
        → k.met ≡ suc r → Each (StandsIn z words r) k.words → Each (StandsIn z words r) (cond b ((index, n) ∷ k.words) k.words)
    one_more_word false row index n k r is inside e met ws = ws
    one_more_word true row index n k r is inside e met ws = let same : row ≡ r = same_row k.met row r (eqb-true k.met (suc row) is) met in
        ((inside, ap (λ (q : ℕ). row_at z words q index) (sym same) ∙ e), ws)

    pub known_reads : (row index n : ℕ) → index < z.width → row_at z words row index ≡ n → Each (IsKnown z words h.role) (known_read v row index n)
    known_reads row index n inside e = let known = h.known id v at all in
        each_cond (IsKnown z words h.role) (eqb v.share whole) (map (learned_word row index n) v.known) v.known
        (each_mapped (IsKnown z words h.role) (IsKnown z words h.role) (learned_word row index n) (λ k x. (
          x.0,
          x.1,
          λ r met. one_more_word (eqb k.met (suc row)) row index n k r refl inside e met (x.2 r met),
        )) v.known known) known
