-- Which keys a user with the whole share knows to be absent, by the places that it passed.
use Rattle.std.proofs.Common.{◌≡◌, ◌≢◌, ℕ, zero, suc, ◌<◌, List, inl, inr, slice_index, sym, refl, ap, ◌∙◌, subst, arith}
use Rattle.std.proofs.lemmas.Bool.{cases_lt}
use mathlib.Core.Logic.{dite}
use native.Mathlib.Decide.{ℕ_discrete}
use Rattle.pin_rule.specs.declared.sizes.Sizes.{Sizes}
use Rattle.pin_rule.specs.declared.view.View.{View}
use Rattle.pin_rule.specs.declared.view.Step.{Step}
use Rattle.pin_rule.specs.declared.view.KnownPlace.{KnownPlace}
use Rattle.pin_rule.specs.Lists.{In}
use Rattle.pin_rule.specs.Rows.{on_path}
use Rattle.pin_rule.specs.Told.{KnowsWord, IsReached, IsAlike, IsOfOnePage, IsTold}
use Rattle.pin_rule.specs.Views.{whole}
use Rattle.pin_rule.specs.Ready.{KnowsOther}
use Rattle.pin_rule.proofs.Paths.{on_page, path_reaches}
use Rattle.slot_store.specs.declared.site.Site.{Site}
use Rattle.slot_store.specs.Keys.{row_of, head_of}
use Rattle.slot_store.specs.Known.{KnowsPlaces, IsSoleAt, HasKnownKey, LacksKey, IsFilled, HoldsWords}
use Rattle.slot_store.specs.Walks.{IsAtWork, MovesBy, KnowsAt, Passed, IsEmptyIn}
use Rattle.slot_store.proofs.ByWord.{head_key_is, head_in_row}
use Rattle.slot_store.proofs.LaterPlaces.{places_on}

-- a user that was alone at the page is so still
pub sole_on : {P : Step → Type 0} (z : Site) (v w : View) (a : List Step) → MovesBy P v w a → IsSoleAt z v → IsSoleAt z w
sole_on z v w a m sole = record {
  share = m.share ∙ sole.share;
  role = sole.role;
  has = m.role ∙ sole.has;
  one_version = sole.one_version;
  version = sole.version;
  page = sole.page;
  every = subst (λ (y : Sizes). KnowsPlaces y w.known) (sym m.sizes) (places_on v.sizes v.known w.known (m.known sole.share sole.every) sole.every);
}

-- the rows that were passed have other keys
pub others : (z : Site) (w : View) (added : List Step) (key : List ℕ) (steps : ℕ) → Passed z w added key steps → (before : ℕ) → before < steps
    → KnowsOther w z.version (slice_index (head_of key)) (on_path z.sizes key before)
others z w added key steps passed before lt = let p = passed before lt in let o = p.3 in (p.0, o.0, o.1, p.2, o.2.1, o.3.0, o.3.1, o.4)

-- the whole row has the words that tell its key
pub other_head : (z : Site) (w : View) (key payload : List ℕ) (place : ℕ) → KnowsOther w z.version (slice_index (row_of key payload)) place
    → KnowsOther w z.version (slice_index (head_of key)) place
other_head z w key payload place k = (k.0, k.1, k.2, k.3, k.4, k.5, k.6, λ e. k.7 (e ∙ sym (head_in_row key payload k.1 (k.5, k.6))))

pub one_page : (F : List ℕ → Type 0) (z : Site) (w : View) → IsAtWork z w → IsTold F w z.version → w.share ≡ whole → IsOfOnePage z.sizes w.known
one_page F z w work told all = subst (λ (y : Sizes). IsOfOnePage y w.known) work.sizes (told.one_page all)

some_row : (n : ℕ) → n ≢ 0 → (row : ℕ) × (n ≡ suc row)
some_row zero ne = absurd (ne refl)
some_row (suc n) ne = (n, refl)

module _ (F : List ℕ → Type 0) (z : Site) (w : View) (work : IsAtWork z w) (told : IsTold F w z.version) (sole : IsSoleAt z w) where
  alike : IsAlike w z.version
  alike = told.alike sole.share sole.role sole.has sole.version

  -- the row that was met at a place is known there, with the words that were read
  pub holds : (P : ℕ → Type 0) (words : List ℕ) (place row : ℕ) → place < z.sizes.places → KnowsAt z w place row
      → ((index : ℕ) → P index → KnowsWord w z.version row index (slice_index words index))
      → HoldsWords w.known P words
  holds P words place row lt at read = let k = sole.every place (subst (λ (y : Sizes). place < y.places) (sym work.sizes) lt) in
      let met = alike.places k.0 place row k.1 k.2 at in record {
        at = k.0;
        there = k.1;
        taken = λ e. let s : 0 ≡ suc row = sym e ∙ met in omega arith;
        alike = λ index a of i. alike.words k.0 row index a (slice_index words index) k.1 met i (read index of);
      }

  module _ (key : List ℕ) where
    other_there : (place : ℕ) → KnowsOther w z.version (slice_index (head_of key)) place → (k : KnownPlace) → In k w.known → k.place ≡ place
        → ¬ (HasKnownKey key k)
    other_there place o k i at h = o.7 (sym (alike.words k o.0 o.1 (slice_index (head_of key) o.1) o.2 i (alike.places k place o.0 i at o.3)
        (h.1 o.1 (o.5, o.6)) o.4))

    reached : (k : KnownPlace) → In k w.known → HasKnownKey key k → IsReached z.sizes w.known key k.place
    reached k i h = let row = some_row k.met h.0 in
        subst (λ (t : Sizes × List ℕ). IsReached t.0 w.known t.1 k.place) (λ d. (work.sizes d, head_key_is key d))
        (told.reached sole.share k row.0 (slice_index (head_of key)) i row.1 h.1)

    -- the rows before a place on the path have other keys, and that place is empty
    pub lacks_at_empty : (step : ℕ) → step < z.sizes.places
        → ((before : ℕ) → before < step → KnowsOther w z.version (slice_index (head_of key)) (on_path z.sizes key before))
        → IsEmptyIn w.known (on_path z.sizes key step) → LacksKey w.known key
    lacks_at_empty step lt passed empty k i h = let r = reached k i h in elim (cases_lt r.0 step) [
      | inl below ↦ other_there (on_path z.sizes key r.0) (passed r.0 below) k i (sym r.2) h
      | inr above ↦ dite (ℕ_discrete r.0 step) (λ e. h.0 (empty k i (sym r.2 ∙ ap (on_path z.sizes key) e)))
          (λ ne. let inside = on_page z.sizes key (omega arith) step in
          let l = sole.every (on_path z.sizes key step) (subst (λ (y : Sizes). on_path z.sizes key step < y.places) (sym work.sizes) inside) in
          r.3 step l.0 (omega arith) l.1 l.2 (empty l.0 l.1 l.2))
    ]

    -- the rows at all places have other keys
    module _ (passed : (before : ℕ) → before < z.sizes.places → KnowsOther w z.version (slice_index (head_of key)) (on_path z.sizes key before)) where
      other_at : (k : KnownPlace) → In k w.known → KnowsOther w z.version (slice_index (head_of key)) k.place
      other_at k i = let inside = subst (λ (y : Sizes). k.place < y.places) work.sizes (alike.inside k i) in
          let r = path_reaches z.sizes key (omega arith) k.place inside in
          subst (KnowsOther w z.version (slice_index (head_of key))) r.2 (passed r.0 r.1)

      pub all_lack : LacksKey w.known key
      all_lack k i h = other_there k.place (other_at k i) k i refl h

      pub all_filled : IsFilled w.known
      all_filled k i e = let o = other_at k i in let s : 0 ≡ suc o.0 = sym e ∙ alike.places k k.place o.0 i refl o.3 in omega arith
