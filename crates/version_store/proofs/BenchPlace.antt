-- A bench that reads one place of its page stays the same in all but its steps, and the row that it met is of its graph.
use Rattle.std.proofs.Common.{◌≡◌, ℕ, suc, ◌<◌, List, ◌++◌, inr, refl, sym, ap, ◌∙◌}
use Rattle.std.specs.Prelude.{Option, Some, None}
use Rattle.atomic_table.specs.Seated.{TableId}
use Rattle.pin_rule.specs.declared.sizes.Sizes.{Sizes}
use Rattle.pin_rule.specs.declared.content.Entry.{Entry}
use Rattle.pin_rule.specs.declared.view.View.{View}
use Rattle.pin_rule.specs.declared.view.Role.{Role}
use Rattle.pin_rule.specs.declared.view.KnownPlace.{KnownPlace}
use Rattle.pin_rule.specs.Lists.{In}
use Rattle.pin_rule.specs.Views.{whole, now}
use Rattle.pin_rule.specs.Told.{IsOfOnePage, Tells}
use Rattle.version_store.specs.declared.current.Current.{Current}
use Rattle.version_store.specs.Rows.{Found}
use Rattle.version_store.specs.Edits.{place_loads}
use Rattle.version_store.specs.Graphs.{rows_known, IsWholeKnown}
use Rattle.version_store.specs.Meaning.{bench_meaning}
use Rattle.version_store.specs.BenchRows.{LoadsPlace}
use Rattle.version_store.specs.Learning.{Grown}
use Rattle.version_store.specs.Placed.{StandsKnownAt}
use Rattle.version_store.specs.PlaceReading.{word_of_found, KnewPlace, ReadsPlace}
use Rattle.version_store.proofs.PlaceRead.{still_whole, rows_kept, rows_every, read_there, read_known}

-- known are places of one page
pub one_page_told : (L : List Entry → Type 0) (F : List Entry → List ℕ → Type 0) (w : View) (r : Role) → w.role ≡ Some r → w.share ≡ whole → Tells L F w
    → IsOfOnePage w.sizes w.known
one_page_told L F w r has all told = (told (inr (r, has))).1.one_page all

-- a word that is known is known once
abbrev pub IsOnce : List KnownPlace → Type 0
IsOnce ls = (l : KnownPlace) (row index a b : ℕ) → In l ls → l.met ≡ suc row → In (index, a) l.words → In (index, b) l.words → a ≡ b

pub once_told : (L : List Entry → Type 0) (F : List Entry → List ℕ → Type 0) (w : View) (r : Role) → w.role ≡ Some r → r.newest.version ≡ now w
    → w.share ≡ whole → Tells L F w → IsOnce w.known
once_told L F w r has newest all told l row index a b i met x y = ((told (inr (r, has))).1.alike all r has newest).once l row index a b i met x y

module _ (v w : View) (t : TableId × ℕ) (z : Sizes) (place : ℕ) (x : Option Found) (c : Current) (sizes : c.sizes ≡ z) (measured : v.sizes ≡ z)
    (reads : ReadsPlace c v w place x) (all : v.share ≡ whole) (known : IsWholeKnown z v.known) (lt : place < z.places) (once : IsOnce w.known) where
  knew : KnewPlace v.known w.known place x
  knew = reads.knew all (known.every place lt)

  pub still_known : IsWholeKnown z w.known
  still_known = still_whole z v.known w.known known knew.grown once

  pub loads_place : LoadsPlace (bench_meaning v t) (bench_meaning w t) place x
  loads_place = record {
    page = c.page;
    steps = reads.goes.steps ∙ ap (λ (y : Sizes). v.steps ++ place_loads y c.page place x) (sizes ∙ sym measured);
    sizes = reads.goes.stays.sizes;
    log = reads.goes.log;
    table = refl;
    pins_left = reads.goes.stays.pins_left;
    kept = rows_kept z v.known w.known known knew.grown once;
    every = rows_every z v.known w.known known knew.grown once;
  }

  pub row_stands : (f : Found) → x ≡ Some f → StandsKnownAt v.known place f.words
  row_stands f e = read_there z v.known w.known known knew.grown once place f.row f.words (reads.is_whole f e) lt (knew.shows f e)
      (λ k i at. knew.met k i at ∙ ap word_of_found e)

  pub none_stands : x ≡ None → (row : List ℕ) → ¬ (StandsKnownAt v.known place row)
  none_stands e row s = s.3 (knew.met s.0 s.1 s.2 ∙ ap word_of_found e)

  pub grown_known : Grown v.known w.known
  grown_known = knew.grown

  pub row_there : (f : Found) → x ≡ Some f → In f.words (rows_known v.known)
  row_there f e = read_known z v.known w.known known knew.grown once place f.row f.words (reads.is_whole f e) lt (knew.shows f e)
      (λ k i at. knew.met k i at ∙ ap word_of_found e)
