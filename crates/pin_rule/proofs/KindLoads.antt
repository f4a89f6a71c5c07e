-- A load of a place or of a row's word keeps the rule: the view may note what stands, and the editor may go on to the next place of the version that is
-- being given up.
use Rattle.std.proofs.Common.{◌≡◌, ℕ, suc, ◌<◌, List, [], ◌∷◌, set, ne_eqb, eq-eqb, inl, inr, sym, refl, ap, ◌∙◌, subst, arith}
use mathlib.Core.Option as maybe
use mathlib.Core.Bool.{cond}
use mathlib.Core.Logic.{dite}
use native.Mathlib.Decide.{ℕ_discrete}
use lib.ListN.{get_elem?}
use Rattle.std.specs.Prelude.{Some, None, Option, true}
use Rattle.pin_rule.specs.declared.sizes.Sizes.{Sizes}
use Rattle.pin_rule.specs.declared.content.Entry.{Entry}
use Rattle.pin_rule.specs.declared.view.View.{View}
use Rattle.pin_rule.specs.declared.view.Role.{Role}
use Rattle.pin_rule.specs.declared.view.EntryFact.{EntryFact}
use Rattle.pin_rule.specs.declared.view.WordFact.{WordFact}
use Rattle.pin_rule.specs.declared.ops.Op.TheVariants as op
use Rattle.pin_rule.specs.Layout.{row_word, entry, row_at, place_word}
use Rattle.pin_rule.specs.Lists.{Each, In}
use Rattle.pin_rule.specs.PartFacts.{EntryStands, WordStands, Knows, KnowsWhole}
use Rattle.pin_rule.specs.Lawful.{Lawful}
use Rattle.pin_rule.specs.Steps.{met_word, version_of, after_load_row, after_load_place}
use Rattle.pin_rule.specs.Keeps.{Keeps}
use Rattle.pin_rule.proofs.Lists.{each_in}
use Rattle.pin_rule.proofs.Frames.{set_same}
use Rattle.pin_rule.proofs.Seats.{none_some, same_some, owned_before, owned_after, claims_by}
use Rattle.pin_rule.proofs.Versions.{speaks, is_role}
use Rattle.pin_rule.proofs.Known.{known_reads, known_meets}
use Rattle.pin_rule.specs.declared.view.GivingUp.{GivingUp}
use Rattle.pin_rule.specs.Views.{version_at}
use Rattle.pin_rule.specs.GivingUp.{oldest, is_passed, role_met}
use Rattle.pin_rule.specs.Pages.{IsToFree}
use Rattle.pin_rule.specs.PartClaims.{Claims}
use Rattle.pin_rule.proofs.Oldest.{oldest_live}
use Rattle.pin_rule.proofs.GoingOn.{role_next, free_before, free_after, goes_on}
use Rattle.pin_rule.proofs.Learning.{learns_met, met_stands}
use Rattle.pin_rule.proofs.Passing.{met_cases, carried_row}

-- an entry of the view names the row
pub names : (es : List EntryFact) (row version : ℕ) → version_of es row ≡ Some version → (e : EntryFact) × In e es × (e.row ≡ row) × (e.version ≡ version)
names [] row version e = absurd (none_some version e)
names (x ∷ xs) row version e = dite (ℕ_discrete x.row row)
    (λ same. (x, inl refl, same, same_some x.version version (sym (ap (λ b. cond b (Some x.version) (version_of xs row)) (eq-eqb x.row row same)) ∙ e)))
    (λ n. let r = names xs row version (sym (ap (λ b. cond b (Some x.version) (version_of xs row)) (ne_eqb x.row row n)) ∙ e) in (r.0, inr r.1, r.2, r.3))

word_stands : (z : Sizes) (words : List ℕ) (role : Role) (o : Option ℕ) (es : List EntryFact) (ws : List WordFact) (row index n : ℕ) → version_of es row ≡ o
    → index < z.width → row_at z words row index ≡ n
    → Each (EntryStands z words role) es → Each (WordStands z words role) ws → Each (WordStands z words role) (met_word o ws row index n)
word_stands z words role None es ws row index n is inside read h k = k
word_stands z words role (Some version) es ws row index n is inside read h k = let r = names es row version is in
    let e = each_in (EntryStands z words role) r.0 es h r.1 in (
      record {
        known = (let top = e.known in let same = r.3 in omega arith);
        live = λ l i is_v. let y = e.live l i (is_v ∙ sym r.3) in ((r.0.place, y.0, y.1 ∙ ap suc r.2), (inside, read));
      },
      k,
    )

module _ (L : List Entry → Type 0) (F : List Entry → List ℕ → Type 0) (v : View) (page place : ℕ) (inside : place < v.sizes.places) (words : List ℕ)
    (views : List View) (id n : ℕ) (h : Lawful L F v.sizes words views) (at : get_elem? views id ≡ maybe.some v) (e : entry v.sizes words page place ≡ n) where
  abbrev z : Sizes
  z = v.sizes

  abbrev w : View
  w = after_load_place v page place n

  facts : Knows z words h.role w
  facts = let k = h.facts id v at in
      (met_stands z words h.role (version_at v page) v.entries page place n inside (speaks L F z words views id v at h page) e k.0, k.1)

  known : KnowsWhole z words h.role w
  known all = known_meets L F z words views id v at h all page place n inside e

  stays : role_met z v.role page place n ≡ v.role → Lawful L F z (set words (place_word z page place) n) (set views id w)
  stays same = learns_met L F z words views id v w at h (place_word z page place) n e (record { sizes = refl; share = refl; role = same }) (record {
    log = refl;
    log_words = refl;
    pinned = refl;
    pins_left = refl;
  }) refl known facts

  module _ (g : GivingUp) (has : v.role ≡ Some h.role) (giving : h.role.giving_up ≡ Some g) (page_is : g.page ≡ page) (place_is : g.reached ≡ place)
      (passed : is_passed h.role n ≡ true) (is : w.role ≡ Some (role_next z h.role g)) where
    -- no row is to be freed at the place
    none_there : (row : ℕ) → IsToFree z words h.role row → (entry z words g.page g.reached ≡ suc row) → ⊥
    none_there row t r = let old = oldest_live z h.role h.live in
        let met : n ≡ suc row = sym e ∙ (λ i. entry z words (sym page_is i) (sym place_is i)) ∙ r in
        t.3 (oldest h.role, old, h.carried.stands (oldest h.role) row old (carried_row h.role n row passed met))

    claims : Claims z words (set views id w) (role_next z h.role g)
    claims = let c = claims_by z words h.role views (set views id w) (owned_before views id v w at refl) (owned_after views id v w at refl) h.claims in
        let back = free_before z g h.role giving words in record {
          bit = c.bit;
          in_use = λ r ri o. elim (c.in_use r ri o) [
            | inl y ↦ inl y
            | inr y ↦ elim y [ inl t ↦ inr (inl t) | inr t ↦ inr (inr (free_after z g h.role giving words r t (none_there r t))) ]
          ];
          owned = λ i o y. let q = c.owned i o y in record {
            in_range = q.in_range;
            in_use = q.in_use;
            in_no_page = q.in_no_page;
            not_to_free = λ t. q.not_to_free (back o.row t);
            written = q.written;
          };
          one_owner = c.one_owner;
          to_free = λ r t. c.to_free r (back r t);
        }

    passes : Lawful L F z (set words (place_word z page place) n) (set views id w)
    passes = subst (λ (ws : List ℕ). Lawful L F z ws (set views id w)) (sym (ap (set words (place_word z page place)) (sym e) ∙ set_same words
        (place_word z page place)))
        (goes_on L F z words words views id v w at h g giving
        (record {
          long = refl;
          quiet = record { cur = refl; releases = λ _ _. refl; log = record { logs = λ _ _ _ _. refl; made = λ _ _ _ _ _. refl } };
          kept = record { places = λ _ _ _ _. refl; in_use = λ _ _ c _. c; rows = λ _ _ _ _ _ _. refl; given = λ _ _ _ _. refl };
        })
        (record {
          sizes = refl;
          share = refl;
          steady = record { log = refl; log_words = refl; pinned = refl; pins_left = refl };
          right = (let right = h.shares.rightful id v at in (λ o. let r = right.0 o in absurd (none_some h.role (sym r.2 ∙ has)), right.1));
          was = has;
          is = is;
        })
        claims facts known)

module _ (L : List Entry → Type 0) (F : List Entry → List ℕ → Type 0) (v : View) where
  pub keeps_load_place : (page place : ℕ) → place < v.sizes.places → Keeps L F v (op.LoadPlace page place)
  keeps_load_place page place inside words views id n h at e = elim (met_cases v.sizes page place n v.role) [
    | inl same ↦ stays L F v page place inside words views id n h at e same
    | inr p ↦ let same : p.role ≡ h.role = is_role L F v.sizes words views id v at h p.role p.has in
        passes L F v page place inside words views id n h at e p.given (p.has ∙ ap Some same) (ap (λ (r : Role). r.giving_up) (sym same) ∙ p.giving) p.page_is
        p.place_is (ap (λ (r : Role). is_passed r n) (sym same) ∙ p.passed) (p.is ∙ ap (λ (r : Role). Some (role_next v.sizes r p.given)) same)
  ]

  pub keeps_load_row : (row index : ℕ) → index < v.sizes.width → Keeps L F v (op.LoadRow row index)
  keeps_load_row row index inside words views id n h at e = let z = v.sizes in let w = after_load_row v row index n in let k = h.facts id v at in
      learns_met L F z words views id v w at h (row_word z row index) n e (record { sizes = refl; share = refl; role = refl }) (record {
        log = refl;
        log_words =
            refl;
        pinned = refl;
        pins_left = refl;
      }) refl (λ all. known_reads L F z words views id v at h all row index n inside e)
      (k.0, word_stands z words h.role (version_of v.entries row) v.entries v.words row index n refl inside e k.0 k.1)
