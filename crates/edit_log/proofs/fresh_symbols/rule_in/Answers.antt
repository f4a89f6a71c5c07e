use Rattle.std.proofs.Common.{◌≡◌, ◌++◌, ap, rules, ◌∙◌, map}
use Rattle.edit_log.specs.Replicas.{symbols_in}
use Rattle.edit_log.specs.Symbols.{number_of, with_symbols}
use Rattle.edit_log.proofs.Texts.{rule_numbered}
use Rattle.edit_log.proofs.fresh_symbols.rule_in.Goals as goal

pub returns-clause-numbered : goal.returns-clause-numbered
returns-clause-numbered c =
    let known = c.args.known.now.keys in
    let middle = known ++ symbols_in c.number_in.new.fresh.items in
    let symbols = known ++ symbols_in c.numbers_in.new.fresh.items in
    let right = c.args.text.now.right in
    let same : c.in_ok-clone.field-0 ≡ c.args.text.now.left = search rules in
    let grown : symbols ≡ with_symbols middle right = c.in_ok-right.ensures.grown ∙ ap (with_symbols middle) c.as_slice.ensures in
    let numbers : c.from_vec.result ≡ map (number_of symbols) right = c.from_vec.ensures ∙ c.in_ok-right.ensures.numbers ∙ ap
    (map (number_of symbols)) c.as_slice.ensures in
    rule_numbered (known ++ symbols_in c.args.fresh.now.items) middle symbols c.args.text.now c.in_ok-clone.field-0 c.args.number c.in_ok-left.left
    c.from_vec.result same c.in_ok-left.ensures.grown c.in_ok-left.ensures.number grown numbers
