-- Passes that are taken in, one after the other, and what a whole bench has.
use Rattle.std.proofs.Common.{◌≡◌, ℕ, ◌+◌, ◌<◌, List, [], ◌∷◌, ◌++◌, inl, inr, length, get_or, sym, refl, ap, ◌∙◌, subst, arith}
use Rattle.std.specs.Prelude.{Option, Some, remove}
use Rattle.atomic_table.specs.Seated.{TableId}
use Rattle.pin_rule.specs.declared.sizes.Sizes.{Sizes}
use Rattle.pin_rule.specs.declared.view.View.{View}
use Rattle.pin_rule.specs.declared.view.Older.{Older}
use Rattle.pin_rule.specs.Lists.{In, total}
use Rattle.pin_rule.specs.Steps.{after_join}
use Rattle.slot_store.specs.Meaning.{PassMeaning, pass_meaning}
use Rattle.version_store.specs.Meaning.{EditorMeaning, bench_meaning, editor_meaning}
use Rattle.version_store.specs.Roles.{role_of, role_or_first}
use Rattle.version_store.specs.Rows.{Found, IsWholeRow}
use Rattle.version_store.specs.Edits.{page_loads}
use Rattle.version_store.specs.Learning.{KnowsFound}
use Rattle.version_store.specs.Stages.{Goes}
use Rattle.version_store.specs.GivingUp.{GivesUp, GivesUpAll}
use Rattle.version_store.specs.Gathering.{AreOfTable, taken_in, taken_in_all, ReadsPage, Gathers}
use Rattle.version_store.proofs.GivenUp.{IsAlike, alike}

-- One pass

pub joined : (v w x : View) (t s u : TableId × ℕ) (p : PassMeaning) → x ≡ after_join v w → u ≡ t → pass_meaning w s ≡ p
    → editor_meaning x u ≡ taken_in p (editor_meaning v t)
joined v w x t s u p is table same = ap (λ (y : View). editor_meaning y u) is ∙ ap (editor_meaning (after_join v w)) table
    ∙ ap (λ (q : PassMeaning). taken_in q (editor_meaning v t)) same

pub rest_of_table : (m : EditorMeaning) (p : PassMeaning) (ps : List PassMeaning) → AreOfTable m (p ∷ ps) → AreOfTable (taken_in p m) ps
rest_of_table m p ps h = record { tables = h.tables.1; pins = (let a = h.pins in omega arith) }

pub one_of_table : (m : EditorMeaning) (p : PassMeaning) (ps : List PassMeaning) → AreOfTable m (p ∷ ps) → AreOfTable m (p ∷ [])
one_of_table m p ps h = record { tables = (h.tables.0, tt); pins = (let a = h.pins in omega arith) }

-- All of them

pub record IsTakenIn (m : EditorMeaning) (ps : List PassMeaning) (n : EditorMeaning) : Type 0 where
  pub sizes : n.sizes ≡ m.sizes
  pub log : n.log ≡ m.log
  pub table : n.table ≡ m.table
  pub share : n.share ≡ m.share + total (λ (p : PassMeaning). p.share) ps
  pub pins_left : n.pins_left ≡ m.pins_left + total (λ (p : PassMeaning). p.pins_left) ps

pub all_taken_in : (m : EditorMeaning) (ps : List PassMeaning) → IsTakenIn m ps (taken_in_all ps m)
all_taken_in m [] = record { sizes = refl; log = refl; table = refl; share = omega arith; pins_left = omega arith }
all_taken_in m (p ∷ ps) = let h = all_taken_in (taken_in p m) ps in record {
  sizes = h.sizes;
  log = h.log;
  table = h.table;
  share = (let a = h.share in omega arith);
  pins_left = (let a = h.pins_left in omega arith);
}

-- where none stays, no load showed a pin
not_empty : (rest : List Older) (o : Older) → (rest ++ o ∷ []) ≡ [] → ⊥
not_empty [] o e = cc
not_empty (x ∷ xs) o e = cc

pub all_given : (count : ℕ) (m n : EditorMeaning) → GivesUpAll count m n → n.older ≡ [] → GivesUp count m n
all_given count m n g none = elim g.3 [
  | inl t ↦ subst (GivesUp count m) (sym t.1) g.2
  | inr k ↦ absurd (not_empty k.rest k.oldest (sym k.older ∙ sym (ap (λ (x : EditorMeaning). x.older) k.is) ∙ none))
]

-- The bench

module _ (m : EditorMeaning) (ps : List PassMeaning) (count : ℕ) (given : EditorMeaning) (gave_up : GivesUp count (taken_in_all ps m) given)
    (none : given.older ≡ []) (x : View) (t : TableId × ℕ) (found : List (Option Found))
    (read : ReadsPage given (editor_meaning x t) found) where
  abbrev after : EditorMeaning
  after = editor_meaning x t

  taken : IsTakenIn m ps (taken_in_all ps m)
  taken = all_taken_in m ps

  kept : IsAlike (taken_in_all ps m) given
  kept = alike count (taken_in_all ps m) given gave_up

  pub share_is : after.share ≡ m.share + total (λ (p : PassMeaning). p.share) ps
  share_is = ap (λ (y : EditorMeaning). y.share) read.is ∙ kept.share ∙ taken.share

  pub older_is : after.older ≡ []
  older_is = ap (λ (y : EditorMeaning). y.older) read.is ∙ none

  pub gathers : (z : Sizes) → KnowsFound z x.known found → Gathers m ps (bench_meaning x t)
  gathers z knows = record {
    count = count;
    given = given;
    after = editor_meaning x t;
    gave_up = gave_up;
    one_version = none;
    found = found;
    read = read;
    known = knows.known;
    every = knows.every;
    sizes = ap (λ (y : EditorMeaning). y.sizes) read.is ∙ kept.sizes ∙ taken.sizes;
    log = ap (λ (y : EditorMeaning). y.log) read.is ∙ kept.log ∙ taken.log;
    table = ap (λ (y : EditorMeaning). y.table) read.is ∙ kept.table ∙ taken.table;
    pins_left = ap (λ (y : EditorMeaning). y.pins_left) read.is ∙ kept.pins_left ∙ taken.pins_left;
    steps = refl;
  }

-- Lists of passes

pub first_taken : {A : Type 0} (xs : List A) (x : A) (ys : List A) → 0 < length xs → x ≡ get_or xs 0 x → ys ≡ remove xs 0 → xs ≡ x ∷ ys
first_taken [] x ys lt e r = absurd (omega arith)
first_taken (y ∷ xs) x ys lt e r = λ i. sym e i ∷ sym r i

pub none_left : {A : Type 0} (xs : List A) → length xs ≡ 0 → xs ≡ []
none_left [] e = refl
none_left (x ∷ xs) e = absurd (omega arith)

-- The page is read

pub reads : (v w : View) (t : TableId × ℕ) (z : Sizes) (page : ℕ) (found : List (Option Found)) → v.sizes ≡ z → (role_of v).newest.page ≡ page
    → length found ≡ z.places → ((f : Found) → In (Some f) found → IsWholeRow f.words) → Goes v w (page_loads z page 0 found) → w.role ≡ v.role
    → ReadsPage (editor_meaning v t) (editor_meaning w t) found
reads v w t z page found sizes at every whole_rows goes role = record {
  every_place = every ∙ ap (λ (y : Sizes). y.places) (sym sizes);
  whole_rows = whole_rows;
  is = λ i. record {
    sizes = goes.stays.sizes i;
    log = goes.log i;
    table = t;
    share = goes.stays.share i;
    pins_left = goes.stays.pins_left i;
    newest = (role_or_first (role i)).newest;
    older = (role_or_first (role i)).older;
    steps = (goes.steps ∙ (λ j. v.steps ++ page_loads (sym sizes j) (sym at j) 0 found)) i;
  };
}
