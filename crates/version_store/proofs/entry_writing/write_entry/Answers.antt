use Rattle.std.proofs.Common.{◌≡◌, ◌<◌, ℕ, length, take, slice_index, refl, sym, ◌∙◌, subst, arith}
use Rattle.pin_rule.specs.declared.ops.Op.TheVariants as op
use Rattle.pin_rule.specs.Keeps.{Keeps}
use Rattle.pin_rule.specs.Hands.{view_of}
use Rattle.version_store.specs.Stages.{WritesEntry}
use Rattle.version_store.proofs.EntryWords.{more, may, taken, next_taken, all_taken}
use Rattle.version_store.proofs.entry_writing.write_entry.Goals as goal

pub write_log-requires-clause-keeps : goal.write_log-requires-clause-keeps
write_log-requires-clause-keeps g c =
    let entry = c.args.entry.now in let i : ℕ = c.loop-index.index in let r = c.requires in let long : length entry ≡ 32 = c.type_inv.entry.1.1.0.1 in
    let x : ℕ = slice_index entry i in let w = view_of c.loop-index.hand in let few = taken entry long i c.loop-index-test.true in
    subst (λ (n : ℕ). Keeps g.C.Content.lawful g.C.Content.fits w (op.WriteLog c.args.current.version n x)) few
    (may c.args.current (view_of c.args.hand.now) r.editor w (take i entry) x c.loop-index.invariant.wrote g.C.Content.lawful g.C.Content.fits entry r.log
    r.room r.lawful
    (all_taken entry long i c.loop-index-test.true x refl) (let lt : i < 32 = c.loop-index-test.true in omega arith))

pub loop-index-preserved : goal.loop-index-preserved
loop-index-preserved g c =
    let entry = c.args.entry.now in let i : ℕ = c.loop-index.index in let r = c.requires in let long : length entry ≡ 32 = c.type_inv.entry.1.1.0.1 in
    let x : ℕ = slice_index entry i in let w = view_of c.loop-index.hand in let few = taken entry long i c.loop-index-test.true in
    let u = view_of c.write_log.new.self in let v = view_of c.args.hand.now in record {
      table = c.write_log.ensures.table ∙ c.loop-index.invariant.table;
      wrote = subst (WritesEntry c.args.current v u) (sym (next_taken entry long i c.loop-index-test.true))
          (more c.args.current v r.editor w (take i entry) x c.loop-index.invariant.wrote u i (sym few) c.write_log.ensures.view r.next);
    }
