use Rattle.std.proofs.Common.{List, [], refl, sym, subst}
use Rattle.edit_log.specs.History.{empty_grammar}
use Rattle.pin_rule.specs.declared.content.Entry.{Entry}
use Rattle.graph_content.specs.Contents.{IsLogOfGrammar}
use Rattle.sections_tests.proofs.table.make_bench.Goals as goal

pub returns-clause-log : goal.returns-clause-log
returns-clause-log c =
    subst (λ (log : List Entry). IsLogOfGrammar log empty_grammar) (sym c.in_ok-bench.ensures.log)
    (record { history = []; is = record { is_history = tt; entries = refl }; made = refl })
