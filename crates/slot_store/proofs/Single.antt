-- Single steps of a user at work.
use Rattle.std.proofs.Common.{◌≡◌, ◌≢◌, ℕ, zero, suc, ◌<◌, List, [], ◌∷◌, ◌++◌, inl, inr, eq-eqb, sym, refl, ap, ◌∙◌, subst}
use mathlib.Core.Bool.{cond}
use Rattle.std.specs.Prelude.{Option, Some, None}
use Rattle.pin_rule.specs.declared.sizes.Sizes.{Sizes}
use Rattle.slot_store.specs.declared.site.Site.{Site}
use Rattle.pin_rule.specs.declared.view.View.{View}
use Rattle.pin_rule.specs.declared.view.OwnRow.{OwnRow}
use Rattle.pin_rule.specs.declared.view.Role.{Role}
use Rattle.pin_rule.specs.declared.view.EntryFact.{EntryFact}
use Rattle.pin_rule.specs.declared.view.WordFact.{WordFact}
use Rattle.pin_rule.specs.declared.view.Kind.TheVariants as kind
use Rattle.pin_rule.specs.Lists.{In}
use Rattle.pin_rule.specs.Views.{version_at, version_pinned, version_of_role}
use Rattle.pin_rule.specs.Steps.{met_entry, met_word, version_of, own_words, published_words, loaded_place, loaded_row, published, gave_back, after_load_place}
use Rattle.pin_rule.specs.Steps.{after_load_row, after_publish, after_give_back}
use Rattle.pin_rule.specs.GivingUp.{role_met}
use Rattle.pin_rule.specs.Ops.{exchanged}
use Rattle.pin_rule.specs.Told.{KnowsRow}
use Rattle.pin_rule.proofs.Lists.{in_right}
use Rattle.pin_rule.proofs.KindLoads.{names}
use Rattle.pin_rule.proofs.Passing.{role_stays}
use Rattle.slot_store.specs.Walks.{IsAtWork, Moves, KnowsAt, Reads}
use Rattle.slot_store.proofs.LaterPlaces.{learns_same, learns_place, learns_row}

word_grows : (o : Option ℕ) (ws : List WordFact) (row index n : ℕ) (x : WordFact) → In x ws → In x (met_word o ws row index n)
word_grows None ws row index n x i = i
word_grows (Some version) ws row index n x i = inr i

pub entry_grows : (o : Option ℕ) (es : List EntryFact) (place n : ℕ) (e : EntryFact) → In e es → In e (met_entry o es place n)
entry_grows None es place n e i = i
entry_grows (Some version) es place zero e i = i
entry_grows (Some version) es place (suc row) e i = inr i

-- the kinds that write no word of a row

load_row_apart : kind.LoadRow ≢ kind.WriteRow
load_row_apart e = cc

load_place_apart : kind.LoadPlace ≢ kind.WriteRow
load_place_apart e = cc

publish_apart : kind.Publish ≢ kind.WriteRow
publish_apart e = cc

give_back_apart : kind.GiveBack ≢ kind.WriteRow
give_back_apart e = cc

pub claim_apart : kind.Claim ≢ kind.WriteRow
claim_apart e = cc

-- a view that names a row knows it
pub names_known : (v : View) (version row : ℕ) → version_of v.entries row ≡ Some version → KnowsRow v version row
names_known v version row is = let r = names v.entries row version is in
    (r.0.place, subst (λ (t : ℕ × ℕ). In (let e : EntryFact = record { version = t.0; place = r.0.place; row = t.1 } in e) v.entries) (λ i. (r.3 i, r.2 i)) r.1)

pub knows_row : (z : Site) (v : View) (row : ℕ) → version_of v.entries row ≡ Some z.version → KnowsRow v z.version row
knows_row z v row is = names_known v z.version row is

-- the newest entry names its row
pub names_it : (version : ℕ) (es : List EntryFact) (place row : ℕ) → version_of (record { version = version; place = place; row = row } ∷ es) row ≡ Some version
names_it version es place row = ap (λ b. cond b (Some version) (version_of es row)) (eq-eqb row row refl)

stays_settled : (z : Sizes) (o : Option Role) (page place n : ℕ) → ((r : Role) → o ≡ Some r → r.giving_up ≡ None) → role_met z o page place n ≡ o
stays_settled z None page place n s = refl
stays_settled z (Some r) page place n s = role_stays z page place n r (s r refl)

module _ (z : Site) (v : View) (work : IsAtWork z v) where
  module _ (row index n : ℕ) where
    pub moves_row : Moves v (after_load_row v row index n) (loaded_row z.sizes row index n ∷ [])
    moves_row = record {
      sizes = refl;
      log = refl;
      share = refl;
      pins_left = refl;
      log_words = refl;
      quiet = ((tt, load_row_apart), tt);
      pinned = refl;
      role = refl;
      steps = ap (λ (y : Sizes). v.steps ++ loaded_row y row index n ∷ []) work.sizes;
      entries = λ _ i. i;
      words = λ x i. word_grows (version_of v.entries row) v.words row index n x i;
      known = learns_row v row index n;
    }

    pub reads_row : index < z.sizes.width → version_of v.entries row ≡ Some z.version
        → Reads z (after_load_row v row index n) (loaded_row z.sizes row index n ∷ []) row index n
    reads_row inside is = (
      (inside, inl refl),
      subst (λ (o : Option ℕ). In (let x : WordFact = record {
        version = z.version;
        row = row;
        index = index;
        word =
            n;
      } in x) (met_word o v.words row index n)) (sym is) (inl refl),
    )

  first : version_at v z.page ≡ Some z.version
  first = ap (λ p. version_pinned p (version_of_role v.role z.page) z.page) work.pinned ∙ ap (λ b. cond b (Some z.version) (version_of_role v.role z.page))
      (eq-eqb z.page z.page refl)

  module _ (place n : ℕ) (inside : place < z.sizes.places) where
    pub moves_place : Moves v (after_load_place v z.page place n) (loaded_place z.sizes z.page place n ∷ [])
    moves_place = record {
      sizes = refl;
      log = refl;
      share = refl;
      pins_left = refl;
      log_words = refl;
      quiet = ((tt, load_place_apart), tt);
      pinned = refl;
      role = stays_settled v.sizes v.role z.page place n work.settled;
      steps = ap (λ (y : Sizes). v.steps ++ loaded_place y z.page place n ∷ []) work.sizes;
      entries = λ e i. entry_grows (version_at v z.page) v.entries place n e i;
      words = λ _ i. i;
      known = learns_place v z.page place n (subst (λ (y : Sizes). place < y.places) (sym work.sizes) inside);
    }

  -- the entries after a row was met at the place
  pub met_at : (place row : ℕ) → met_entry (version_at v z.page) v.entries place (suc row) ≡ record {
    version = z.version;
    place = place;
    row =
        row;
  } ∷ v.entries
  met_at place row = ap (λ (o : Option ℕ). met_entry o v.entries place (suc row)) first

  module _ (w : View) (place row : ℕ) (met : w.entries ≡ met_entry (version_at v z.page) v.entries place (suc row)) where
    pub knows_at : KnowsAt z w place row
    knows_at = subst (λ (es : List EntryFact). In (let e : EntryFact = record { version = z.version; place = place; row = row } in e) es)
        (sym (met ∙ met_at place row)) (inl refl)

    pub names_row : version_of w.entries row ≡ Some z.version
    names_row = ap (λ (es : List EntryFact). version_of es row) (met ∙ met_at place row) ∙ names_it z.version v.entries place row

published_grow : (o : Option ℕ) (own : Option OwnRow) (ws : List WordFact) (n : ℕ) (x : WordFact) → In x ws → In x (published_words o own ws n)
published_grow None own ws n x i = i
published_grow (Some version) own ws zero x i = in_right x (own_words version own) ws i
published_grow (Some version) own ws (suc n) x i = i

-- another row was met at the place
pub moves_publish : (z : Site) (v : View) (place row n : ℕ) → place < z.sizes.places → v.sizes ≡ z.sizes
    → Moves v (after_publish v z.page place row (suc n)) (published z.sizes z.page place row (suc n) ∷ [])
moves_publish z v place row n inside sizes = record {
  sizes = refl;
  log = refl;
  share = refl;
  pins_left = refl;
  log_words = refl;
  quiet = ((tt, publish_apart), tt);
  pinned = refl;
  role = refl;
  steps = ap (λ (y : Sizes). v.steps ++ published y z.page place row (suc n) ∷ []) sizes;
  entries = λ e i. entry_grows (version_at v z.page) v.entries place (exchanged (suc row) (suc n)) e i;
  words = λ x i. published_grow (version_at v z.page) v.own v.words (suc n) x i;
  known = learns_place v z.page place (suc n) (subst (λ (y : Sizes). place < y.places) (sym sizes) inside);
}

pub moves_give_back : (z : Site) (v : View) (row : ℕ) → v.sizes ≡ z.sizes → Moves v (after_give_back v row) (gave_back z.sizes row ∷ [])
moves_give_back z v row sizes = record {
  sizes = refl;
  log = refl;
  share = refl;
  pins_left = refl;
  log_words = refl;
  quiet = ((tt, give_back_apart), tt);
  pinned = refl;
  role = refl;
  steps = ap (λ (y : Sizes). v.steps ++ gave_back y row ∷ []) sizes;
  entries = λ _ i. i;
  words = λ _ i. i;
  known = learns_same v (after_give_back v row) refl;
}
