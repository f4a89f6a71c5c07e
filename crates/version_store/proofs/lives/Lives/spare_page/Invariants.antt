use Rattle.std.proofs.Common.{◌<◌, ℕ}
use Rattle.pin_rule.specs.Lists.{In}
use Rattle.version_store.specs.LivePages.{pages_noted}
use Rattle.version_store.proofs.lives.Lives.spare_page.Given as goal

abbrev pub invariant-loop-page : goal.invariant-loop-page
invariant-loop-page l = (page : ℕ) → page < l.page → In page (pages_noted l.self.newest l.self.older.items)
