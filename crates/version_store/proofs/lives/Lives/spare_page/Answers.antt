use Rattle.std.proofs.Common.{ℕ, refl, sym, subst, arith}
use mathlib.Core.Logic.{dite}
use native.Mathlib.Decide.{ℕ_discrete}
use Rattle.pin_rule.specs.Lists.{In}
use Rattle.version_store.specs.LivePages.{pages_noted}
use Rattle.version_store.proofs.Noting.{some_spare}
use Rattle.version_store.proofs.lives.Lives.spare_page.Goals as goal

pub loop-page-preserved : goal.loop-page-preserved
loop-page-preserved c = λ page lt. let s = c.args.self.now in dite (ℕ_discrete page c.loop-page.page)
    (λ same. subst (λ (p : ℕ). In p (pages_noted s.newest s.older.items)) (sym same) (c.if-not-is_taken.ensures.yes refl))
    (λ ne. c.loop-page.invariant page (omega arith))

pub returns-clause-spare : goal.returns-clause-spare
returns-clause-spare c = λ _. let s = c.args.self.now in some_spare s.newest s.older.items s.sizes.versions c.requires
    (λ page lt. c.loop-page.invariant page (let out = c.loop-page-test.false in omega arith))
