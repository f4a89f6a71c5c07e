use Rattle.std.proofs.Common.{◌≡◌, ◌≢◌, ◌<◌, ◌≤◌, ◌++◌, ℕ, List, take, slice_index}
use Rattle.version_store.specs.Marks.{is_marked, AreMarked}
use Rattle.version_store.proofs.carried_rows.CarriedRows.note_places.Given as goal

abbrev pub invariant-loop-place : goal.invariant-loop-place
invariant-loop-place l = record {
  sizes : l.self.sizes ≡ l.fn.self.sizes;
  noted : (before : List ℕ) → AreMarked l.fn.self.sizes l.fn.self.marks.items l.page before
      → AreMarked l.self.sizes l.self.marks.items l.page (before ++ take l.place l.fn.part);
  others : (p row : ℕ) → row < l.fn.self.sizes.rows → p ≢ l.page
      → is_marked l.self.sizes l.self.marks.items p row ≡ is_marked l.fn.self.sizes l.fn.self.marks.items p row;
  emptied : (k : ℕ) → k < l.place → slice_index l.part k ≡ 0;
  left : (k : ℕ) → l.place ≤ k → slice_index l.part k ≡ slice_index l.fn.part k;
}
