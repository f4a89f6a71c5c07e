-- The rows that a chooser was asked about are those of the page, each once.
use Rattle.std.proofs.Common.{◌≡◌, ◌≤◌, ℕ, suc, List, [], ◌∷◌, ◌++◌, length, sym, refl, ap, ◌∙◌, subst, arith}
use Rattle.std.specs.Prelude.{Option, Some, None}
use Rattle.pin_rule.specs.declared.view.View.{View}
use Rattle.pin_rule.specs.declared.view.KnownPlace.{KnownPlace}
use Rattle.pin_rule.specs.Lists.{In}
use Rattle.pin_rule.specs.Views.{whole}
use Rattle.slot_store.specs.GraphAnswers.{AllDiffer}
use Rattle.version_store.specs.Asking.{AsksEach, AsksRows}
use Rattle.version_store.specs.declared.current.Current.{Current}
use Rattle.version_store.specs.Rows.{Found, IsWholeRow, rows_found}
use Rattle.version_store.specs.Graphs.{rows_known, IsWholeKnown}
use Rattle.version_store.specs.Stages.{IsFoundAt, key_in, WritesEntry, FindsRows}
use Rattle.version_store.proofs.GraphRows.{found_to, found_from, was_found, is_found}

-- One place more

module _ {S : Type 0} (moves : S → List ℕ → S → Type 0) where
  -- the chooser was asked about one row more
  asks_more : (first mid last : S) (rows : List (List ℕ)) (row : List ℕ) → AsksEach moves first rows mid → moves mid row last
      → AsksEach moves first (rows ++ row ∷ []) last
  asks_more first mid last [] row each m = (last, subst (λ (s : S). moves s row last) each m, refl)
  asks_more first mid last (r ∷ rows) row each m = (each.0, each.1, asks_more each.0 mid last rows row each.2 m)

  rows_none : (found : List (Option Found)) → rows_found (found ++ None ∷ []) ≡ rows_found found
  rows_none [] = refl
  rows_none (None ∷ fs) = rows_none fs
  rows_none (Some f ∷ fs) = ap (λ (rows : List (List ℕ)). f.words ∷ rows) (rows_none fs)

  rows_more : (found : List (Option Found)) (g : Found) → rows_found (found ++ Some g ∷ []) ≡ rows_found found ++ g.words ∷ []
  rows_more [] g = refl
  rows_more (None ∷ fs) g = rows_more fs g
  rows_more (Some f ∷ fs) g = ap (λ (rows : List (List ℕ)). f.words ∷ rows) (rows_more fs g)

  module _ (first mid : S) where
    pub asks_none : (found : List (Option Found)) → AsksEach moves first (rows_found found) mid → AsksEach moves first (rows_found (found ++ None ∷ [])) mid
    asks_none found each = subst (λ (rows : List (List ℕ)). AsksEach moves first rows mid) (sym (rows_none found)) each

    pub asks_row : (last : S) (found : List (Option Found)) (f : Found) → AsksEach moves first (rows_found found) mid → moves mid f.words last
        → AsksEach moves first (rows_found (found ++ Some f ∷ [])) last
    asks_row last found f each m = subst (λ (rows : List (List ℕ)). AsksEach moves first rows last) (sym (rows_more found f))
        (asks_more first mid last (rows_found found) f.words each m)

-- The whole page

-- no row was found at two places
once_found : (fs : List (Option Found)) → ((o p : ℕ) (f g : Found) → IsFoundAt fs o f → IsFoundAt fs p g → f.words ≡ g.words → o ≡ p)
    → AllDiffer (rows_found fs)
once_found [] once = tt
once_found (None ∷ fs) once = once_found fs (λ o p f g a b e. let s = once (suc o) (suc p) f g a b e in omega arith)
once_found (Some f ∷ fs) once = (
  λ i. let x = found_from fs f.words i in let s = once 0 (suc x.0) f x.1 refl x.2 x.3 in absurd (omega arith),
  once_found fs (λ o p g h a b e. let s = once (suc o) (suc p) g h a b e in omega arith),
)

few_found : (fs : List (Option Found)) → length (rows_found fs) ≤ length fs
few_found [] = omega arith
few_found (None ∷ fs) = let few = few_found fs in omega arith
few_found (Some f ∷ fs) = let few = few_found fs in omega arith

-- with the whole share the page that is known is the page that was read
pub asks_rows : {S : Type 0} (moves : S → List ℕ → S → Type 0) (first last : S) (c : Current) (v v1 v2 : View) (entry : List ℕ) (found : List (Option Found))
    → WritesEntry c v v1 entry → FindsRows c v1 v2 found → length found ≡ c.sizes.places → AsksEach moves first (rows_found found) last
    → v.share ≡ whole → IsWholeKnown c.sizes v.known → AsksRows moves first last (rows_known v.known) c.sizes.places
asks_rows moves first last c v v1 v2 entry found wrote finds every each share known =
    let all : v1.share ≡ whole = wrote.goes.stays.share ∙ share in
    let before : IsWholeKnown c.sizes v1.known = subst (IsWholeKnown c.sizes) (sym wrote.known) known in
    let wholes : (o : ℕ) (f : Found) → IsFoundAt found o f → IsWholeRow f.words = λ o f e. (finds.known o f e).is_whole in
    let was = was_found c.sizes v1.known v2.known found every (finds.learns all) wholes (finds.alike all) before in
    let is = is_found c.sizes v1.known v2.known found every (finds.learns all) wholes (finds.alike all) before in
    record {
      asked = rows_found found;
      each = each;
      once = once_found found (λ o p f g a b e. finds.keys_once o p f g a b (ap key_in e));
      only = λ row i. let x = found_from found row i in subst (λ (ks : List KnownPlace). In row (rows_known ks)) wrote.known
          (subst (λ (r : List ℕ). In r (rows_known v1.known)) (sym x.3) (is x.0 x.1 x.2));
      every = λ row i. let x = was row (subst (λ (ks : List KnownPlace). In row (rows_known ks)) (sym wrote.known) i) in
          subst (λ (r : List ℕ). In r (rows_found found)) (sym x.3) (found_to found x.0 x.1 x.2);
      few = (let few = few_found found in omega arith);
    }
