use Rattle.std.proofs.Common.{◌≡◌, ℕ, suc, ◌+◌, ◌-◌, List, take, drop, slice_index, inl, sym, subst, arith}
use Rattle.pin_rule.specs.Hands.{view_of}
use Rattle.version_store.specs.Stages.{next_log_of}
use Rattle.version_store.specs.Choices.{PutsAtFirst}
use Rattle.version_store.proofs.RowChoice.{may_ask}
use Rattle.version_store.proofs.WholeRows.{key_taken}
use Rattle.version_store.proofs.choosing.choose_row.Goals as goal

pub keep-requires : goal.keep-requires
keep-requires g c = let r = c.requires in let e = c.read_row-count.ensures in let v = view_of c.args.hand.now in
    let w = view_of c.read_row-count.new.hand in (
      w.log,
      next_log_of v,
      may_ask g.C.Content.lawful g.C.Content.fits (g.H.Chooser.leads c.args.chooser.now) c.args.current v w c.args.row
          (take c.read_row-count.result c.read_row-count.new.buffer) (next_log_of v) r.editor r.named e.read e.is_whole e.told r.lawful r.leads,
    )

pub returns-then-keep-clause-chosen : goal.returns-then-keep-clause-chosen
returns-then-keep-clause-chosen g c = let r = c.requires in let e = c.read_row-count.ensures in let v = view_of c.args.hand.now in
    let words = take c.read_row-count.result c.read_row-count.new.buffer in let w = view_of c.read_row-count.new.hand in
    let asked = may_ask g.C.Content.lawful g.C.Content.fits (g.H.Chooser.leads c.args.chooser.now) c.args.current v w c.args.row
    (take c.read_row-count.result c.read_row-count.new.buffer) (next_log_of v) r.editor r.named e.read e.is_whole e.told r.lawful r.leads in
    let key : ℕ = slice_index c.read_row-count.new.buffer 0 in record {
      words = words;
      is_whole = e.is_whole;
      reads = e.read;
      asked = c.keep.ensures.moves;
      chosen = inl (
        c.keep.ensures.exact.0 c.if-keep.true,
        c.keep.ensures.fits c.if-keep.true w.log (next_log_of v) asked,
        subst (λ (k : List ℕ). PutsAtFirst c.args.current.sizes k (suc c.args.row) c.args.places.now c.put_at_first.new.places)
            (sym (key_taken c.read_row-count.new.buffer c.read_row-count.result e.is_whole e.few (2 + key - 2) (omega arith)))
            (subst (λ (n : ℕ). PutsAtFirst c.args.current.sizes (take (2 + key - 2) (drop 2 c.read_row-count.new.buffer)) n c.args.places.now
            c.put_at_first.new.places) (let row : ℕ = c.args.row in let r : row + 1 ≡ suc row = omega arith in r) c.put_at_first.ensures),
      );
    }
