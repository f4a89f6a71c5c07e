use Rattle.std.proofs.Common.{◌≡◌, ◌+◌, ◌<◌, slice_index, refl, ap, ◌∙◌, arith}
use Rattle.pin_rule.specs.declared.sizes.Sizes.{Sizes}
use Rattle.pin_rule.specs.Hands.{view_of, sizes_of}
use Rattle.slot_store.proofs.Growing.{work_on}
use Rattle.slot_store.proofs.Storing.{may_write, starts, goes_on}
use Rattle.slot_store.proofs.writing.write_words.Goals as goal

pub loop-i-init : goal.loop-i-init
loop-i-init g c = record { table = refl; writes = starts c.args.site (view_of c.args.hand.now) c.args.row c.args.from c.args.words.now c.requires.owns }

pub write_row_at-requires-clause-share : goal.write_row_at-requires-clause-share
write_row_at-requires-clause-share g c = let t = c.loop-i.invariant.writes in
    (work_on c.args.site (view_of c.args.hand.now) (view_of c.loop-i.hand) t.added c.requires.work t.moves).share

pub write_row_at-requires-clause-word : goal.write_row_at-requires-clause-word
write_row_at-requires-clause-word g c = let same : (sizes_of c.loop-i.hand) ≡ c.args.site.sizes = c.loop-i.invariant.writes.moves.sizes
    ∙ c.requires.work.sizes in
    let a : (sizes_of c.loop-i.hand).rows ≡ c.args.site.sizes.rows = ap (λ (y : Sizes). y.rows) same in
    let b : (sizes_of c.loop-i.hand).width ≡ c.args.site.sizes.width = ap (λ (y : Sizes). y.width) same in (omega arith, omega arith)

pub write_row_at-requires-clause-keeps : goal.write_row_at-requires-clause-keeps
write_row_at-requires-clause-keeps g c =
    let h = c.loop-i.hand in let t = c.loop-i.invariant.writes in
    let same : (sizes_of h).width ≡ c.args.site.sizes.width = ap (λ (y : Sizes). y.width) (t.moves.sizes ∙ c.requires.work.sizes) in
    let inside : c.args.from + c.loop-i.i < (sizes_of h).width = omega arith in
    may_write g.C.Content.lawful g.C.Content.fits (view_of h) c.args.row (c.args.from + c.loop-i.i) (slice_index c.args.words.now c.loop-i.i) t.owns inside

pub loop-i-preserved : goal.loop-i-preserved
loop-i-preserved g c = record {
  table = c.write_row_at.ensures.table ∙ c.loop-i.invariant.table;
  writes = goes_on c.args.site (view_of c.args.hand.now) (view_of c.loop-i.hand)
      (view_of c.write_row_at.new.self) c.requires.work c.args.row c.args.from c.args.words.now c.loop-i.i
      (slice_index c.args.words.now c.loop-i.i) c.write_row_at.ensures.view c.loop-i.invariant.writes (omega arith) refl;
}
