-- The walk along the path of a key, past the rows with other keys.
use Rattle.std.proofs.Common.{◌≡◌, ◌≢◌, ℕ, suc, ◌+◌, ◌-◌, ◌<◌, List, [], ◌∷◌, ◌++◌, inl, sym, ap, ◌∙◌, subst, arith}
use mathlib.Core.Logic.{dite}
use native.Mathlib.Decide.{ℕ_discrete}
use Rattle.std.specs.Prelude.{Some}
use Rattle.pin_rule.specs.declared.sizes.Sizes.{Sizes}
use Rattle.slot_store.specs.declared.site.Site.{Site}
use Rattle.pin_rule.specs.declared.view.View.{View}
use Rattle.pin_rule.specs.declared.view.Step.{Step}
use Rattle.pin_rule.specs.Rows.{on_path}
use Rattle.pin_rule.specs.Steps.{version_of, loaded_place, after_load_place}
use Rattle.pin_rule.specs.Told.{IsTold, IsAsKnown}
use Rattle.pin_rule.specs.Lists.{In}
use Rattle.pin_rule.proofs.Lists.{in_left, in_right}
use Rattle.pin_rule.proofs.Paths.{on_page, path_reaches}
use Rattle.slot_store.specs.declared.finding.Seen.TheVariants as seen
use Rattle.slot_store.specs.Quiet.{IsPlain}
use Rattle.slot_store.specs.Answers.{MetRow, IsPageFull}
use Rattle.slot_store.specs.Known.{IsSoleAt}
use Rattle.slot_store.proofs.LaterPlaces.{later_back}
use Rattle.slot_store.proofs.Lacking.{sole_on}
use Rattle.slot_store.specs.Walks.{IsEmptyIn, IsAtWork, MovesBy, Moves, KnowsAt, ReadsKey, Passed, Compares, Walking, Walks}
use Rattle.slot_store.proofs.Growing.{stays, work_on, moves_on, moves_as, earlier, later, key_on, other_on, met_on, passed_on}
use Rattle.slot_store.proofs.Single.{moves_place, knows_at, names_row, knows_row}

-- a row was met at a place
pub record Meets (P : Step → Type 0) (z : Site) (v w : View) (place row : ℕ) : Type 0 where
  pub added : List Step
  pub moves : MovesBy P v w added
  pub met : MetRow z.sizes z.page added place row
  pub at : KnowsAt z w place row
  pub version : version_of w.entries row ≡ Some z.version

pub starts : (P : Step → Type 0) (z : Site) (v : View) (key : List ℕ) (place : ℕ) → place ≡ on_path z.sizes key 0 → Walking P z v v key 0 place
starts P z v key place at = record { added = []; moves = stays v; passed = λ before lt. absurd (omega arith); at = at }

pub on_the_page : (P : Step → Type 0) (z : Site) (v w : View) (key : List ℕ) (steps place : ℕ) → Walking P z v w key steps place → steps < z.sizes.places
    → place < z.sizes.places
on_the_page P z v w key steps place k lt = subst (λ (p : ℕ). p < z.sizes.places) (sym k.at) (on_page z.sizes key (omega arith) steps)

-- a row that the view names is one of the table
pub range : (F : List ℕ → Type 0) (z : Site) (u : View) (row : ℕ) → u.sizes ≡ z.sizes → version_of u.entries row ≡ Some z.version → IsTold F u z.version
    → row < z.sizes.rows
range F z u row sizes version told = subst (λ (y : Sizes). row < y.rows) sizes (told.range row (knows_row z u row version))

module _ (z : Site) (w u : View) (work : IsAtWork z w) (place n : ℕ) (inside : place < z.sizes.places) (is : u ≡ after_load_place w z.page place n) where
  pub loads : Moves w u (loaded_place z.sizes z.page place n ∷ [])
  loads = subst (λ (x : View). Moves w x (loaded_place z.sizes z.page place n ∷ [])) (sym is) (moves_place z w work place n inside)

  -- the place that was met empty is not known to be taken
  pub met_empty : IsSoleAt z w → IsAsKnown w z.page place n → n ≡ 0 → IsEmptyIn u.known place
  met_empty sole as_known e k i at = let b = later_back w.known u.known (loads.known sole.share sole.every) k i in
      b.2.1 ∙ sym (as_known sole.share sole.role b.0 sole.has sole.page b.1 (sym b.2.0 ∙ at)) ∙ e

  pub loaded_on : IsAtWork z u
  loaded_on = work_on z w u (loaded_place z.sizes z.page place n ∷ []) work loads

  pub meets : (F : List ℕ → Type 0) → IsTold F u z.version → (row : ℕ) → n ≡ suc row → Meets IsPlain z w u place row
  meets F told row e = let t = is ∙ ap (after_load_place w z.page place) e in let entries = ap (λ (x : View). x.entries) t in record {
    added = loaded_place z.sizes z.page place n ∷ [];
    moves = loads;
    met = (
      range F z u row (loads.sizes ∙ work.sizes) (names_row z w work u place row entries) told,
      inl (inl (ap (loaded_place z.sizes z.page place) (sym e))),
    );
    at = knows_at z w work u place row entries;
    version = names_row z w work u place row entries;
  }

  pub loaded_it : (F : List ℕ → Type 0) (told : IsTold F u z.version) (row : ℕ) (e : n ≡ suc row)
      → In (loaded_place z.sizes z.page place (suc row)) (meets F told row e).added
  unfolding meets
  loaded_it F told row e = inl (ap (loaded_place z.sizes z.page place) (sym e))

-- the number of the row that was met
pub row_met : (n : ℕ) → n ≢ 0 → n ≡ suc (n - 1)
row_met n h = dite (ℕ_discrete n 0) (λ e. absurd (h e)) (λ ne. omega arith)

-- a place that is empty was met
pub empty : (z : Site) (v w : View) (key : List ℕ) (steps place : ℕ) → Walking IsPlain z v w key steps place → w.own ≡ v.own → IsAtWork z w → (u : View) (n : ℕ)
    → u ≡ after_load_place w z.page place n → n ≡ 0 → steps < z.sizes.places → IsAsKnown w z.page place n
    → Walks z v u key (seen.Empty place)
empty z v w key steps place walk own work u n is e lt as_known = let b : List Step = loaded_place z.sizes z.page place n ∷ [] in
    let inside = on_the_page IsPlain z v w key steps place walk lt in
    let m = loads z w u work place n inside is in record {
      added = walk.added ++ b;
      moves = moves_on v w u walk.added b walk.moves m;
      own = ap (λ (x : View). x.own) is ∙ own;
      is = (
        steps,
        lt,
        sym walk.at,
        (
          walk.added,
          ap (λ (k : ℕ). walk.added ++ loaded_place z.sizes z.page place k ∷ []) e,
          passed_on z w u walk.added walk.added
              (record { steps = λ _ i. i; entries = m.entries; words = m.words }) key steps walk.passed,
          λ sole. met_empty z w u work place n inside is (sole_on z v w walk.added walk.moves sole) as_known e,
        ),
      );
    }

-- a row was met, and compared with the key
module _ (P : Step → Type 0) (plain : (s : Step) → IsPlain s → P s) (z : Site) (v w : View) (key : List ℕ) (steps place : ℕ)
    (walk : Walking P z v w key steps place) (u x : View) (row : ℕ) (m : Meets P z w u place row) (same : Type 0) (c : Compares z u x row key same) where
  on : MovesBy P w x (m.added ++ c.added)
  on = moves_on w u x m.added c.added m.moves (moves_as IsPlain P plain u x c.added c.moves)

  pub moves_all : MovesBy P v x (walk.added ++ (m.added ++ c.added))
  moves_all = moves_on v w x walk.added (m.added ++ c.added) walk.moves on

  pub met_all : MetRow z.sizes z.page (walk.added ++ (m.added ++ c.added)) place row
  met_all = met_on z x x (m.added ++ c.added) (walk.added ++ (m.added ++ c.added)) (later x walk.added (m.added ++ c.added)) place row
      (met_on z u x m.added (m.added ++ c.added) (earlier u x m.added c.added c.moves) place row m.met)

  passed_all : Passed z x (walk.added ++ (m.added ++ c.added)) key steps
  passed_all = passed_on z w x walk.added (walk.added ++ (m.added ++ c.added)) (earlier w x walk.added (m.added ++ c.added) on) key steps walk.passed

  pub key_all : same → ReadsKey z x (walk.added ++ (m.added ++ c.added)) row key
  key_all is = key_on z x x (m.added ++ c.added) (walk.added ++ (m.added ++ c.added)) (later x walk.added (m.added ++ c.added)) row key
      (key_on z x x c.added (m.added ++ c.added) (later x m.added c.added) row key (c.yes is))

  pub at_all : KnowsAt z x place row
  at_all = c.moves.entries _ m.at

  pub goes_on : ¬ same → (next : ℕ) → next ≡ on_path z.sizes key (steps + 1) → Walking P z v x key (steps + 1) next
  goes_on not next at = record {
    added = walk.added ++ (m.added ++ c.added);
    moves = moves_all;
    passed = λ before lt. dite (ℕ_discrete before steps)
        (λ e. (
          row,
          subst (λ (p : ℕ). MetRow z.sizes z.page (walk.added ++ (m.added ++ c.added)) p row) (walk.at ∙ ap (on_path z.sizes key) (sym e)) met_all,
          subst (λ (p : ℕ). KnowsAt z x p row) (walk.at ∙ ap (on_path z.sizes key) (sym e)) (c.moves.entries _ m.at),
          other_on z x x (m.added ++ c.added) (walk.added ++ (m.added ++ c.added)) (later x walk.added (m.added ++ c.added)) row key
              (other_on z x x c.added (m.added ++ c.added) (later x m.added c.added) row key (c.no not)),
        ))
        (λ n. passed_all before (omega arith));
    at = at;
  }

-- the row has the key
pub found : (z : Site) (v w : View) (key : List ℕ) (steps place : ℕ) (walk : Walking IsPlain z v w key steps place) (u x : View) (row : ℕ)
    (m : Meets IsPlain z w u place row) (same : Type 0) (c : Compares z u x row key same)
    → x.own ≡ v.own → steps < z.sizes.places → same → row < z.sizes.rows → In (loaded_place z.sizes z.page place (suc row)) m.added
    → Walks z v x key (seen.Same row)
found z v w key steps place walk u x row m same c own lt yes_it_is inside loaded = let plain : (s : Step) → IsPlain s → IsPlain s = λ _ p. p in record {
  added = walk.added ++ (m.added ++ c.added);
  moves = moves_all IsPlain plain z v w key steps place walk u x row m same c;
  own = own;
  is = (
    inside,
    c.version,
    (
      place,
      on_the_page IsPlain z v w key steps place walk lt,
      in_right _ walk.added (m.added ++ c.added)
          (in_left _ m.added c.added loaded),
      c.moves.entries _ m.at,
    ),
    key_all IsPlain plain z v w key steps place walk u x row m same c yes_it_is,
  );
}

-- all places were passed, so all hold other keys
pub full : (z : Site) (w : View) (added : List Step) (key : List ℕ) → Passed z w added key z.sizes.places → IsPageFull z.sizes z.page added key
full z w added key passed place inside = let r = path_reaches z.sizes key (omega arith) place inside in let p = passed r.0 r.1 in let o = p.3 in
    (p.0, o.0, o.1, subst (λ (q : ℕ). MetRow z.sizes z.page added q p.0) r.2 p.1, o.2.0, o.3, o.4)
