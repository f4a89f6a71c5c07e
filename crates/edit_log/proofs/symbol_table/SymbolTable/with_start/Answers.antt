use Rattle.std.proofs.Common.{[], ◌++◌, ◌∷◌, None, List, ap, ◌∙◌}
use Rattle.edit_log.specs.declared.symbol_table.Row.{Row}
use Rattle.edit_log.proofs.symbol_table.SymbolTable.with_start.Goals as goal

pub returns-clause-rows : goal.returns-clause-rows
returns-clause-rows c = (
  c.new.result,
  c.new.ensures.items,
  c.in_ok-push.ensures.items ∙ ap (λ (rows : List Row). rows ++ record {
    rules = c.new.result;
    uses =
        0;
    positions = None;
  } ∷ []) c.new-rows.ensures.items,
)
