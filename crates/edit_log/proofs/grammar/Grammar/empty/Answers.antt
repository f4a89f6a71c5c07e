use Rattle.std.proofs.Common.{◌≡◌, [], ◌∷◌, ap, ◌∙◌}
use Rattle.grammar_text.specs.Sameness.{rule_eq}
use Rattle.std.specs.Str.{bytes_eq}
use Rattle.edit_log.specs.Rows.{lefts_in, uses_in, literals_in}
use Rattle.edit_log.proofs.EmptyReplica.{agrees_empty, none_among}
use Rattle.edit_log.proofs.grammar.Grammar.empty.Goals as goal

pub invariant_of-result : goal.invariant_of-result
invariant_of-result c =
    let rows = c.in_ok-table.ensures.rows in
    agrees_empty _ _ _ _ _ rows.0 _ _ _ _ _ c.in_ok-table.ensures.symbols c.no_rules.ensures (none_among rule_eq c.new-2.result c.new-2.ensures.empty)
    (none_among bytes_eq c.new-4.result c.new-4.ensures.empty)
    (ap (λ rs. lefts_in rs) rows.2) rows.1 (ap (λ rs. uses_in rs) rows.2)
    (ap (λ rs. literals_in rs) rows.2) c.new-3.ensures.items c.new-5.ensures.items c.new.ensures.items
