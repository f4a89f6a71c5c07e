-- The loop that compares a row with a key.
use Rattle.std.proofs.Common.{◌≡◌, ◌≢◌, ℕ, suc, ◌+◌, ◌<◌, ◌≤◌, List, [], ◌∷◌, ◌++◌, length, slice_index, sym, refl, ap, ◌∙◌, subst, arith}
use mathlib.Core.Logic.{dite}
use native.Mathlib.Decide.{ℕ_discrete}
use Rattle.std.specs.Prelude.{Some, IsTrue, true, false}
use Rattle.slot_store.specs.declared.site.Site.{Site}
use Rattle.pin_rule.specs.declared.view.View.{View}
use Rattle.pin_rule.specs.declared.view.Step.{Step}
use Rattle.pin_rule.specs.Steps.{version_of, loaded_row, after_load_row}
use Rattle.pin_rule.specs.Told.{KnowsRow, KnowsWord}
use Rattle.slot_store.specs.Keys.{head_of, TellsKey}
use Rattle.slot_store.specs.Walks.{IsAtWork, Moves, Reads, Compares}
use Rattle.slot_store.proofs.Growing.{stays, moves_on, work_on, earlier, later, reads_on}
use Rattle.slot_store.proofs.Single.{knows_row, moves_row, reads_row}

-- the words below an index that tell the key are those of the key
pub record Reading (z : Site) (v w : View) (row : ℕ) (key : List ℕ) (bound : ℕ) : Type 0 where
  pub added : List Step
  pub moves : Moves v w added
  pub own : w.own ≡ v.own
  pub version : version_of w.entries row ≡ Some z.version
  pub words : (index : ℕ) → TellsKey key index → index < bound → Reads z w added row index (slice_index (head_of key) index)

untrue : IsTrue false → ⊥
untrue e = cc

pub head_at : (key : List ℕ) (i : ℕ) → slice_index (head_of key) (i + 2) ≡ slice_index key i
head_at key i = ap (slice_index (head_of key)) (let r : i + 2 ≡ suc (suc i) = omega arith in r)

pub starts : (z : Site) (v : View) (row : ℕ) (key : List ℕ) → version_of v.entries row ≡ Some z.version → Reading z v v row key 0
starts z v row key is = record { added = []; moves = stays v; own = refl; version = is; words = λ index _ lt. absurd (omega arith) }

-- a further word was loaded
module _ (z : Site) (v w u : View) (row : ℕ) (key : List ℕ) (work : IsAtWork z v) (bound index n : ℕ) (inside : index < z.sizes.width)
    (is : u ≡ after_load_row w row index n) (r : Reading z v w row key bound) where
  Loaded : View → Type 0
  Loaded x = (added : List Step) × Moves v x added × (x.own ≡ v.own) × (version_of x.entries row ≡ Some z.version) × Reads z x added row index n
      × ((at : ℕ) → TellsKey key at → at < bound → Reads z x added row at (slice_index (head_of key) at))

  loaded : Loaded u
  unfolding Loaded
  loaded = let b : List Step = loaded_row z.sizes row index n ∷ [] in let at_work = work_on z v w r.added work r.moves in
      let t = after_load_row w row index n in let m = moves_row z w at_work row index n in
      subst Loaded (sym is) (
        r.added ++ b,
        moves_on v w t r.added b r.moves m,
        r.own,
        r.version,
        reads_on z t t b (r.added ++ b) (later t r.added b) row index n (reads_row z w at_work row index n inside r.version),
        λ at tells lt. reads_on z w t r.added (r.added ++ b) (earlier w t r.added b m) row at _ (r.words at tells lt),
      )

  pub differs : TellsKey key index → n ≢ slice_index (head_of key) index → Compares z v u row key (IsTrue false)
  unfolding Loaded
  differs tells ne = let l = loaded in record {
    added = l.0;
    moves = l.1;
    own = l.2;
    version = l.3;
    yes = λ t. absurd (untrue t);
    no =
        λ _. (index, n, l.4, tells, ne);
  }

  pub agrees : n ≡ slice_index (head_of key) index → bound ≡ index → Reading z v u row key (index + 1)
  unfolding Loaded
  agrees same at_end = let l = loaded in record {
    added = l.0;
    moves = l.1;
    own = l.2;
    version = l.3;
    words = λ at tells lt. dite (ℕ_discrete at index)
        (λ e. subst (λ (x : ℕ). Reads z u l.0 row x (slice_index (head_of key) x)) (sym e) (subst (λ (x : ℕ). Reads z u l.0 row index x) same l.4))
        (λ other. l.5 at tells (omega arith));
  }

  pub past : IsAtWork z u
  unfolding Loaded
  past = let l = loaded in work_on z v u l.0 work l.1

  pub sizes_on : u.sizes ≡ z.sizes
  unfolding Loaded
  sizes_on = loaded.1.sizes ∙ work.sizes

  pub knows_both : KnowsRow u z.version row × KnowsWord u z.version row index n
  unfolding Loaded
  knows_both = (knows_row z u row loaded.3, loaded.4.1)

-- the word at index 1 tells nothing of the key
pub past_one : (z : Site) (v w : View) (row : ℕ) (key : List ℕ) → Reading z v w row key 1 → Reading z v w row key 2
past_one z v w row key r = record {
  added = r.added;
  moves = r.moves;
  own = r.own;
  version = r.version;
  words = λ index tells lt. let n =
      tells.1 in r.words index tells (dite (ℕ_discrete index 1) (λ e. absurd (n e)) (λ _. omega arith));
}

pub ends : (z : Site) (v w : View) (row : ℕ) (key : List ℕ) (bound : ℕ) → 2 + length key ≤ bound → Reading z v w row key bound
    → Compares z v w row key (IsTrue true)
ends z v w row key bound all r = record {
  added = r.added;
  moves = r.moves;
  own = r.own;
  version = r.version;
  yes = λ _ index tells. let lt =
      tells.0 in r.words index tells (omega arith);
  no = λ n. absurd (n refl);
}
