-- The rule while the words stay and a view notes what stands.
use Rattle.std.proofs.Common.{◌≡◌, ℕ, zero, suc, ◌<◌, List, slice_index, set, sym, refl, ap, ◌∙◌, subst}
use mathlib.Core.Option as maybe
use lib.ListN.{get_elem?}
use Rattle.std.specs.Prelude.{Some, None, Option}
use Rattle.pin_rule.specs.declared.sizes.Sizes.{Sizes}
use Rattle.pin_rule.specs.declared.content.Entry.{Entry}
use Rattle.pin_rule.specs.declared.view.View.{View}
use Rattle.pin_rule.specs.declared.view.Role.{Role}
use Rattle.pin_rule.specs.declared.view.EntryFact.{EntryFact}
use Rattle.pin_rule.specs.Layout.{entry}
use Rattle.pin_rule.specs.Lists.{Each}
use Rattle.pin_rule.specs.PartFacts.{EntryStands, Knows, KnowsWhole}
use Rattle.pin_rule.specs.Lawful.{Lawful}
use Rattle.pin_rule.specs.Steps.{met_entry}
use Rattle.pin_rule.proofs.Frames.{set_same}
use Rattle.pin_rule.proofs.Seats.{IsAlike, IsSteady, owned_before, owned_after, claims_by}
use Rattle.pin_rule.proofs.Versions.{Speaks}
use Rattle.pin_rule.proofs.Settling.{settles, right_on}

module _ (L : List Entry → Type 0) (F : List Entry → List ℕ → Type 0) (z : Sizes) (words : List ℕ) (views : List View) (id : ℕ) (v w : View)
    (at : get_elem? views id ≡ maybe.some v) (h : Lawful L F z words views) where
  -- a view may learn what stands
  pub learns : IsAlike v w → IsSteady v w → w.own ≡ v.own → KnowsWhole z words h.role w → Knows z words h.role w → Lawful L F z words (set views id w)
  learns alike steady same_own whole knows = settles L F z words words views id v w at h refl alike
      (right_on v w alike steady.pinned same_own (h.shares.rightful id v at)) steady
      (record { cur = refl; releases = λ _ _. refl; log = record { logs = λ _ _ _ _. refl; made = λ _ _ _ _ _. refl } })
      (claims_by z words h.role views (set views id w) (owned_before views id v w at same_own) (owned_after views id v w at same_own) h.claims)
      (record { places = λ _ _ _ _. refl; in_use = λ _ _ c _. c; rows = λ _ _ _ _ _ _. refl; given = λ _ _ _ _. refl }) knows whole

  -- the same where the word that was read is written again
  pub learns_met : (i n : ℕ) → slice_index words i ≡ n → IsAlike v w → IsSteady v w → w.own ≡ v.own → KnowsWhole z words h.role w → Knows z words h.role w
      → Lawful L F z (set words i n) (set views id w)
  learns_met i n e alike steady same_own whole knows = subst (λ (ws : List ℕ). Lawful L F z ws (set views id w))
      (sym (ap (set words i) (sym e) ∙ set_same words i)) (learns alike steady same_own whole knows)

pub met_stands : (z : Sizes) (words : List ℕ) (role : Role) (version : Option ℕ) (es : List EntryFact) (page place n : ℕ)
    → place < z.places
    → ((m : ℕ) → version ≡ Some m → Speaks role page m) → entry z words page place ≡ n → Each (EntryStands z words role) es
    → Each (EntryStands z words role) (met_entry version es place n)
met_stands z words role None es page place n inside of e h = h
met_stands z words role (Some m) es page place zero inside of e h = h
met_stands z words role (Some m) es page place (suc row) inside of e h = let s = of m refl in (
  record {
    known = s.0;
    live = λ l i is. (inside, ap (λ (p : ℕ). entry z words p place) (s.1 l i is) ∙ e);
    given_up = λ g up is. (inside, ap (λ (p : ℕ). entry z words p place) (s.2 g up is) ∙ e);
  },
  h,
)
