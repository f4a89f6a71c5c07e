use Rattle.std.proofs.Common.{◌∙◌}
use Rattle.edit_log.proofs.Places.{insert_key-new}
use Rattle.edit_log.proofs.symbol_table.push_symbol.Goals as goal

pub returns-clause-keys : goal.returns-clause-keys
returns-clause-keys c = c.in-Ok.ensures.keys ∙ insert_key-new c.args.symbols.now.keys c.args.symbol c.requires.new
