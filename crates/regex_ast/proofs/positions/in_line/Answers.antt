-- Each turn adds the next number's row.
use Rattle.std.proofs.Common.{sym, ap, ◌∙◌, ◌++◌, ◌∷◌, [], map}
use Rattle.regex_ast.specs.Bytes.{numbers_from}
use Rattle.regex_ast.specs.Links.{next_below}
use Rattle.regex_ast.proofs.TableLemmas.{map-more}
use Rattle.regex_ast.proofs.positions.in_line.Goals as goal

pub loop-number-preserved : goal.loop-number-preserved
loop-number-preserved c =
    rw (c.in_ok-push.ensures.items, c.loop-number.invariant)
    (ap (λ r. map (next_below c.args.count) (numbers_from 0 c.loop-number.number) ++ r ∷ []) c.in_ok-next.ensures
    ∙ sym (map-more (next_below c.args.count) c.loop-number.number))
