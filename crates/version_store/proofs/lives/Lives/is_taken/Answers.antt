use Rattle.std.proofs.Common.{◌<◌, ℕ, length, inr, subst, arith}
use Rattle.pin_rule.specs.Lists.{In}
use Rattle.version_store.specs.LivePages.{pages_noted}
use Rattle.version_store.proofs.Noting.{page_at, page_next}
use Rattle.version_store.proofs.lives.Lives.is_taken.Goals as goal

pub returns-then-index-page-clause-yes : goal.returns-then-index-page-clause-yes
returns-then-index-page-clause-yes c = λ _. let s = c.args.self.now in
    let lt : c.loop-at.at < length s.older.items = (let t = c.loop-at-test.true in let n = c.len-at-end.ensures in omega arith) in
    subst (λ (p : ℕ). In p (pages_noted s.newest s.older.items)) c.if-index-page.true
    (inr (page_at s.older.items c.loop-at.at c.index.result.now lt c.index.ensures))

pub loop-at-preserved : goal.loop-at-preserved
loop-at-preserved c = let s = c.args.self.now in
    let lt : c.loop-at.at < length s.older.items = (let t = c.loop-at-test.true in let n = c.len-at-end.ensures in omega arith) in
    page_next s.newest s.older.items c.loop-at.at c.index.result.now c.args.page lt c.index.ensures c.if-index-page.false c.loop-at.invariant
