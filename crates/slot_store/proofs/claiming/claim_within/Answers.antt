use Rattle.std.proofs.Common.{◌≡◌, ◌<◌, refl, ap, ◌∙◌, arith}
use Rattle.pin_rule.specs.declared.sizes.Sizes.{Sizes}
use Rattle.pin_rule.specs.Hands.{view_of, sizes_of}
use Rattle.pin_rule.proofs.KindClaim.{keeps_claim}
use Rattle.slot_store.proofs.Growing.{work_on}
use Rattle.slot_store.proofs.Taking.{starts, won, goes_on, ends}
use Rattle.slot_store.proofs.claiming.claim_within.Goals as goal

pub loop-row-init : goal.loop-row-init
loop-row-init g c = record {
  table = refl;
  taking = starts c.args.site (view_of c.args.hand.now) c.args.from c.requires.free;
  told = λ lt. absurd (omega arith);
  still = λ t. t;
}

pub claim-requires-clause-share : goal.claim-requires-clause-share
claim-requires-clause-share g c = let t = c.loop-row.invariant.taking in
    (work_on c.args.site (view_of c.args.hand.now) (view_of c.loop-row.hand) t.added c.requires.work t.moves).share

pub claim-requires-clause-row : goal.claim-requires-clause-row
claim-requires-clause-row g c =
    let same : (sizes_of c.loop-row.hand).rows ≡ c.args.site.sizes.rows = ap (λ (y : Sizes). y.rows) (c.loop-row.invariant.taking.moves.sizes
    ∙ c.requires.work.sizes) in omega arith

pub claim-requires-clause-keeps : goal.claim-requires-clause-keeps
claim-requires-clause-keeps g c =
    let h = c.loop-row.hand in let t = c.loop-row.invariant.taking in
    let same : (sizes_of h).rows ≡ c.args.site.sizes.rows = ap (λ (y : Sizes). y.rows) (t.moves.sizes ∙ c.requires.work.sizes) in
    let inside : c.loop-row.row < (sizes_of h).rows = omega arith in
    let work = work_on c.args.site (view_of c.args.hand.now) (view_of h) t.added c.requires.work t.moves in
    keeps_claim g.C.Content.lawful g.C.Content.fits (view_of h) c.loop-row.row inside t.free work.share _ work.pinned

pub returns-then-claim-eq0-clause-claim : goal.returns-then-claim-eq0-clause-claim
returns-then-claim-eq0-clause-claim g c =
    won c.args.site (view_of c.args.hand.now) (view_of c.loop-row.hand)
    (view_of c.claim.new.self) c.requires.work c.args.from c.loop-row.row c.claim.result c.claim.ensures.view c.loop-row.invariant.taking
    c.if-claim-eq0.true (omega arith) c.args.to

pub loop-row-preserved : goal.loop-row-preserved
loop-row-preserved g c = record {
  table = c.claim.ensures.table ∙ c.loop-row.invariant.table;
  taking = goes_on c.args.site (view_of c.args.hand.now) (view_of c.loop-row.hand)
      (view_of c.claim.new.self) c.requires.work c.args.from c.loop-row.row c.claim.result c.claim.ensures.view c.loop-row.invariant.taking c.if-claim-eq0.false
      c.claim.ensures.met;
  told = λ _. c.claim.ensures.told;
  still = λ _. c.claim.ensures.told;
}

pub returns-clause-claim : goal.returns-clause-claim
returns-clause-claim g c = ends c.args.site (view_of c.args.hand.now)
    (view_of c.loop-row.hand) c.args.from c.loop-row.row c.args.to c.loop-row-test.false c.loop-row.invariant.taking

pub returns-clause-told : goal.returns-clause-told
returns-clause-told g c lt = let out = c.loop-row-test.false in c.loop-row.invariant.told (omega arith)
