use Rattle.std.proofs.Common.{◌≡◌, ◌≢◌, ◌<◌, ◌≤◌, ◌*◌, ℕ, length, take, slice_index}
use Rattle.version_store.specs.Marks.{is_marked, AreMarked}
use Rattle.version_store.proofs.carried_rows.CarriedRows.note.Given as goal

abbrev pub invariant-loop-group : goal.invariant-loop-group
invariant-loop-group l = record {
  sizes : l.self.sizes ≡ l.fn.self.sizes;
  noted : AreMarked l.self.sizes l.self.marks.items l.page (take (l.group * 8) l.fn.places);
  others : (p row : ℕ) → row < l.fn.self.sizes.rows → p ≢ l.page
      → is_marked l.self.sizes l.self.marks.items p row ≡ is_marked l.fn.self.sizes l.fn.self.marks.items p row;
  many : length l.places ≡ length l.fn.places;
  emptied : (k : ℕ) → k < l.group * 8 → slice_index l.places k ≡ 0;
  left : (k : ℕ) → l.group * 8 ≤ k → slice_index l.places k ≡ slice_index l.fn.places k;
}
