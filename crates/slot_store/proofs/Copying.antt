-- The loop that copies a payload into the buffer.
use Rattle.std.proofs.Common.{◌≡◌, ℕ, ◌+◌, ◌<◌, ◌≤◌, List, [], ◌∷◌, ◌++◌, length, slice_index, set, get_or-set_same, get_or-set_other, sym, refl, ◌∙◌, subst}
use Rattle.std.proofs.Common.{arith}
use mathlib.Core.Logic.{dite}
use native.Mathlib.Decide.{ℕ_discrete}
use Rattle.std.specs.Prelude.{Some}
use Rattle.pin_rule.specs.declared.sizes.Sizes.{Sizes}
use Rattle.slot_store.specs.declared.site.Site.{Site}
use Rattle.pin_rule.specs.declared.view.View.{View}
use Rattle.pin_rule.specs.declared.view.Step.{Step}
use Rattle.pin_rule.specs.Steps.{version_of, loaded_row, after_load_row}
use Rattle.pin_rule.specs.Told.{IsTold, KnowsWord}
use Rattle.slot_store.specs.Walks.{IsAtWork, Moves, Reads, Copies}
use Rattle.slot_store.proofs.Growing.{moves_on, work_on, earlier, later, reads_on}
use Rattle.slot_store.proofs.Single.{knows_row, moves_row, reads_row}

-- a load of a word of a row that the view names
pub record Loads (z : Site) (v w : View) (row index n : ℕ) : Type 0 where
  pub added : List Step
  pub moves : Moves v w added
  pub own : w.own ≡ v.own
  pub version : version_of w.entries row ≡ Some z.version
  pub read : Reads z w added row index n

pub loads : (z : Site) (v u : View) (row index n : ℕ) → index < z.sizes.width → IsAtWork z v → version_of v.entries row ≡ Some z.version
    → u ≡ after_load_row v row index n → Loads z v u row index n
loads z v u row index n inside work version is = subst (λ (x : View). Loads z v x row index n) (sym is)
    (record {
      added = loaded_row z.sizes row index n ∷ [];
      moves = moves_row z v work row index n;
      own = refl;
      version = version;
      read =
          reads_row z v work row index n inside version;
    })

-- a row has a word that tells the length of its payload
pub second_in : (z : Site) → 1 < z.sizes.width
second_in z = let w = z.sizes.width_in in omega arith

pub at_work : (z : Site) (v u : View) (row n : ℕ) → IsAtWork z v → version_of v.entries row ≡ Some z.version → u ≡ after_load_row v row 1 n → IsAtWork z u
at_work z v u row n work version is = let l = loads z v u row 1 n (second_in z) work version is in work_on z v u l.added work l.moves

pub starts : (z : Site) (v u : View) (row from n : ℕ) (buffer : List ℕ) → Loads z v u row 1 n → Copies z v u row from n 0 buffer
starts z v u row from n buffer l = record {
  added = l.added;
  moves = l.moves;
  own = l.own;
  version = l.version;
  size_read = l.read;
  words =
      λ i lt. absurd (omega arith);
}

-- key and payload have room in the row
pub wide : (F : List ℕ → Type 0) (z : Site) (v u : View) (row key n : ℕ) → IsAtWork z v → Loads z v u row 1 n → KnowsWord v z.version row 0 key
    → IsTold F u z.version → 2 + (key + n) ≤ z.sizes.width
wide F z v u row key n work l k told = subst (λ (y : Sizes). 2 + (key + n) ≤ y.width) (l.moves.sizes ∙ work.sizes)
    (told.room row key n (knows_row z u row l.version) (l.moves.words _ k) l.read.1)

module _ (z : Site) (v w u : View) (row from size i x : ℕ) (buffer : List ℕ) (work : IsAtWork z v) (is : u ≡ after_load_row w row (from + i) x)
    (inside : i < length buffer) (word_in : from + i < z.sizes.width) where
  pub goes_on : Copies z v w row from size i buffer → Copies z v u row from size (i + 1) (set buffer i x)
  goes_on c = let l = loads z w u row (from + i) x word_in (work_on z v w c.added work c.moves) c.version is in
      let more = earlier w u c.added l.added l.moves in
      record {
        added = c.added ++ l.added;
        moves = moves_on v w u c.added l.added c.moves l.moves;
        own = l.own ∙ c.own;
        version = l.version;
        size_read = reads_on z w u c.added (c.added ++ l.added) more row 1 size c.size_read;
        words = λ j lt. dite (ℕ_discrete j i)
            (λ e. subst (λ (k : ℕ). Reads z u (c.added ++ l.added) row (from + k) (slice_index (set buffer i x) k)) (sym e)
            (subst (Reads z u (c.added ++ l.added) row (from + i)) (sym (get_or-set_same buffer i x 0 inside)) (reads_on z u u l.added (c.added ++ l.added)
            (later u c.added l.added) row (from + i) x l.read)))
            (λ n. subst (Reads z u (c.added ++ l.added) row (from + j)) (sym (get_or-set_other buffer i j x 0 n)) (reads_on z w u c.added (c.added
            ++ l.added) more row (from + j) _ (c.words j (omega arith))));
      }
