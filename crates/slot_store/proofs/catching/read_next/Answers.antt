use Rattle.std.proofs.Common.{◌≡◌, ◌<◌, ◌+◌, ℕ, refl, sym, ◌∙◌, arith}
use Rattle.pin_rule.specs.Hands.{view_of}
use Rattle.pin_rule.proofs.KindLoadLog.{keeps_load_log}
use Rattle.slot_store.proofs.CatchingUp.{more_words, whole_entry, next_on, last_on}
use Rattle.slot_store.proofs.catching.read_next.Goals as goal

pub load_log-requires-clause-keeps : goal.load_log-requires-clause-keeps
load_log-requires-clause-keeps g c = keeps_load_log g.C.Content.lawful g.C.Content.fits (view_of c.loop-index.hand) c.args.entry c.loop-index.index

pub load_log-requires-2-clause-keeps : goal.load_log-requires-2-clause-keeps
load_log-requires-2-clause-keeps g c = keeps_load_log g.C.Content.lawful g.C.Content.fits (view_of c.loop-index.hand) c.args.entry 31

pub loop-index-preserved : goal.loop-index-preserved
loop-index-preserved g c = let z = c.args.site in let v = view_of c.args.hand.now in let w = view_of c.loop-index.hand in let u = view_of c.load_log.new.self in
    let i : ℕ = c.loop-index.index in let r = c.loop-index.invariant.reads in let b = c.requires.behind in
    let lt : i < 31 = c.loop-index-test.true in record {
      table = c.load_log.ensures.table ∙ c.loop-index.invariant.table;
      reads = next_on z v w u c.args.entry i r (more_words z w c.args.entry i c.load_log.result (r.moves.pinned
          ∙ b.pinned) c.requires.entry r.at r.words u c.load_log.ensures.view (omega arith));
    }

pub returns-clause-read : goal.returns-clause-read
returns-clause-read g c = let z = c.args.site in let v = view_of c.args.hand.now in let w = view_of c.loop-index.hand in
    let u = view_of c.load_log-2.new.self in let i : ℕ = c.loop-index.index in let r = c.loop-index.invariant.reads in let b = c.requires.behind in
    let top = c.loop-index.auto.index-end in let out = c.loop-index-test.false in let is : i ≡ 31 = omega arith in
    last_on z v w u c.args.entry i (c.args.entry + 1) r (whole_entry z w c.args.entry 31 c.load_log-2.result (r.moves.pinned ∙ b.pinned) c.requires.entry r.at
    (r.words ∙ is) u c.load_log-2.ensures.view refl (r.moves.sizes ∙ b.sizes) (λ e. b.share (sym r.moves.share ∙ e)))
