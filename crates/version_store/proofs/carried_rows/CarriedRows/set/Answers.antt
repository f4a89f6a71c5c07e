use Rattle.version_store.proofs.MarkedRows.{set_else}
use Rattle.version_store.proofs.carried_rows.CarriedRows.set.Goals as goal

pub returns-clause-else_ : goal.returns-clause-else_
returns-clause-else_ c = let s = c.args.self.now in set_else s.sizes s.marks.items s.room c.args.page c.args.row c.requires.page c.requires.row c.args.carried
