-- Where rows stand while places are read, and that no key stands twice.
use Rattle.std.proofs.Common.{◌≡◌, ◌≢◌, ◌↔◌, ℕ, ◌<◌, List, length, slice_index, sym, refl, ◌∙◌, subst, arith}
use Rattle.std.specs.Borrow.{Bor}
use Rattle.std.specs.Prelude.{Option, Some}
use Rattle.atomic_table.specs.Seated.{TableId}
use Rattle.pin_rule.specs.declared.content.Entry.{Entry}
use Rattle.pin_rule.specs.declared.sizes.Sizes.{Sizes}
use Rattle.pin_rule.specs.declared.view.KnownPlace.{KnownPlace}
use Rattle.pin_rule.specs.declared.view.View.{View}
use Rattle.pin_rule.specs.Lists.{In}
use Rattle.pin_rule.specs.Told.{HasKeyWords, IsOfOnePage, Tells}
use Rattle.pin_rule.specs.Views.{whole}
use Rattle.slot_store.specs.Keys.{row_of, head_of}
use Rattle.slot_store.proofs.ByWord.{head_in_row, content_is}
use Rattle.version_store.specs.Graphs.{word_in, row_known, rows_known, IsReadWhole, IsWholeKnown}
use Rattle.version_store.specs.Learning.{Grown}
use Rattle.version_store.specs.declared.current.Current.{Current}
use Rattle.version_store.specs.Meaning.{bench_meaning}
use Rattle.version_store.specs.Placed.{StandsKnownAt, IsByPlaces, MeetsAt, ReadsAt}
use Rattle.version_store.specs.PlaceReading.{ReadsPlace}
use Rattle.version_store.specs.Roles.{role_of}
use Rattle.version_store.specs.Rows.{Found}
use Rattle.version_store.proofs.BenchPlace.{IsOnce, one_page_told, still_known, grown_known}
use Rattle.version_store.proofs.CountedRows.{one_row}
use Rattle.version_store.proofs.GraphRows.{row_from, row_to}
use Rattle.version_store.proofs.KeyedRows.{content_word}
use Rattle.version_store.proofs.LaterRows.{row_of_met}
use Rattle.version_store.proofs.PlaceRead.{same_row}

-- each row stands where it stood
pub stands_still : (z : Sizes) (ks ls : List KnownPlace) → IsWholeKnown z ks → Grown ks ls → IsOnce ls → (place : ℕ) (row : List ℕ)
    → StandsKnownAt ks place row ↔ StandsKnownAt ls place row
stands_still z ks ls before g once place row = (on, back)
  where
    on : StandsKnownAt ks place row → StandsKnownAt ls place row
    on (k, i, at, ne, e) = let l = g.on k i in let r = row_of_met k.met ne in
        (l.0, l.1, l.2.0 ∙ at, (λ n. ne (sym l.2.1 ∙ n)), e ∙ sym (same_row z ks ls before g once k l.0 r.0 i l.1 l.2 r.1).0)

    back : StandsKnownAt ls place row → StandsKnownAt ks place row
    back (l, i, at, ne, e) = let k = g.back l i in let r = row_of_met l.met ne in (
      k.0,
      k.1,
      sym k.2.0 ∙ at,
      (λ n. ne (k.2.1 ∙ n)),
      e ∙ (same_row z ks ls before g once k.0 l r.0 k.1 i k.2 (sym k.2.1 ∙ r.1)).0,
    )

module _ (z : Sizes) (ks : List KnownPlace) (known : IsWholeKnown z ks) (one : IsOfOnePage z ks) where
  read : (k : KnownPlace) → In k ks → k.met ≢ 0 → IsReadWhole k.words
  read k i ne = let row = row_of_met k.met ne in known.rows k row.0 i row.1

  -- the words that tell the key of a row are known
  key_known : (k : KnownPlace) (key payload : List ℕ) → In k ks → k.met ≢ 0 → row_of key payload ≡ row_known k → HasKeyWords k.words (slice_index (head_of key))
  key_known k key payload i ne e index of =
      let same = content_word (word_in k.words) (slice_index (row_of key payload)) (sym e ∙ sym (content_is key payload)) in
      let a : word_in k.words 0 ≡ length key = same 0 (omega arith) in
      let lt = of.0 in
      subst (λ (x : ℕ). In (index, x) k.words) (same index (omega arith) ∙ head_in_row key payload index of) (read k i ne index (omega arith))

  pub by_places : IsByPlaces (StandsKnownAt ks) z.places (rows_known ks)
  by_places = record {
    only = λ place row s. subst (λ (x : List ℕ). In x (rows_known ks)) (sym s.4) (row_to ks s.0 s.1 s.3);
    every = λ row i. let k = row_from ks row i in (k.0.place, known.inside k.0 k.1, (k.0, k.1, refl, k.2, k.3));
    one_row = λ place a b s t. let r = row_of_met s.0.met s.3 in
        s.4 ∙ one_row z ks known one s.0 t.0 r.0 s.1 t.1 r.1 (sym (one.places s.0 t.0 s.1 t.1 (s.2 ∙ sym t.2)) ∙ r.1) ∙ sym t.4;
    keys_once = λ p q key a b s t. let r = row_of_met s.0.met s.3 in let o = row_of_met t.0.met t.3 in
        sym s.2 ∙ one.keys_once s.0 t.0 r.0 o.0 (slice_index (head_of key)) s.1 t.1 r.1 o.1 (key_known s.0 key a s.1 s.3 s.4) (key_known t.0 key b t.1 t.3 t.4)
        ∙ t.2;
  }

-- what the reading of a place tells of the page
pub reads_at : (L : List Entry → Type 0) (F : List Entry → List ℕ → Type 0) (v w : View) (t s : TableId × ℕ) (z : Sizes) (place : ℕ) (x : Option Found)
    (c : Current) (sizes : c.sizes ≡ z) (measured : v.sizes ≡ z) (reads : ReadsPlace c v w place x) (all : v.share ≡ whole) (known : IsWholeKnown z v.known)
    (lt : place < z.places) (once : IsOnce w.known) (answer : Option (Bor (List ℕ))) → MeetsAt (StandsKnownAt v.known) (F v.log) place answer → Tells L F w
    → w.role ≡ Some (role_of w) → ReadsAt F (bench_meaning v t) (bench_meaning w s) (StandsKnownAt v.known) (StandsKnownAt w.known) place answer
reads_at L F v w t s z place x c sizes measured reads all known lt once answer meets told has =
    let still = still_known v w t z place x c sizes measured reads all known lt once in
    let measure = reads.goes.stays.sizes ∙ measured in record {
      meets = meets;
      stays = stands_still z v.known w.known known (grown_known v w t z place x c sizes measured reads all known lt once) once;
      by_places = by_places w.sizes w.known (subst (λ (y : Sizes). IsWholeKnown y w.known) (sym measure) still)
          (one_page_told L F w (role_of w) has (reads.goes.stays.share ∙ all) told);
    }
