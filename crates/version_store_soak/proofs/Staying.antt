-- What stays the same in two steps, one after the other.
use Rattle.std.proofs.Common.{refl, ◌∙◌}
use Rattle.slot_store.specs.Meaning.{Meaning}
use Rattle.version_store.specs.Meaning.{BenchMeaning, EditorMeaning}
use Rattle.version_store.specs.Edits.{IsSameEditor}
use Rattle.version_store.specs.GivingUp.{GivesUpAll}
use Rattle.version_store.proofs.GivenUp.{alike_all}
use Rattle.version_store_soak.specs.Working.{StaysSeated, HasSamePins}

pub still_seated : (m : Meaning) → StaysSeated m m
still_seated m = record { sizes = refl; table = refl; share = refl; pins_left = refl }

pub seated_on : (l m n : Meaning) → StaysSeated l m → StaysSeated m n → StaysSeated l n
seated_on l m n a b = record {
  sizes = b.sizes ∙ a.sizes;
  table = b.table ∙ a.table;
  share = b.share ∙ a.share;
  pins_left = b.pins_left ∙ a.pins_left;
}

pub same_bench : (m : BenchMeaning) → HasSamePins m m
same_bench m = record { sizes = refl; pins_left = refl }

pub bench_on : (l m n : BenchMeaning) → HasSamePins l m → HasSamePins m n → HasSamePins l n
bench_on l m n a b = record { sizes = b.sizes ∙ a.sizes; pins_left = b.pins_left ∙ a.pins_left }

pub same_editor : (m : EditorMeaning) → IsSameEditor m m
same_editor m = record { sizes = refl; table = refl; share = refl; pins_left = refl }

pub editor_on : (l m n : EditorMeaning) → IsSameEditor l m → IsSameEditor m n → IsSameEditor l n
editor_on l m n a b = record {
  sizes = b.sizes ∙ a.sizes;
  table = b.table ∙ a.table;
  share = b.share ∙ a.share;
  pins_left = b.pins_left ∙ a.pins_left;
}

-- also where versions are given up
pub given_up : (count : _) (l m n : EditorMeaning) → IsSameEditor l m → GivesUpAll count m n → IsSameEditor l n
given_up count l m n a g = let h = alike_all count m n g in editor_on l m n a (record {
  sizes = h.sizes;
  table = h.table;
  share = h.share;
  pins_left = h.pins_left;
})
