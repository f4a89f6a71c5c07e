use Rattle.std.proofs.Common.{◌++◌, ap, ◌∙◌, refl, subst, append_assoc}
use Rattle.std.specs.List.{flat_map}
use Rattle.forest_print.specs.Prefixes.{AppendsPrefix}
use Rattle.forest_print.specs.Lines.{split_line, span_line, node_text}
use Rattle.forest_print.proofs.PrefixSteps.{stops_first, stops_last, on_err}
use Rattle.forest_print.proofs.forest_lines.put_node.Goals as goal

pub returns-in_err-put_span-clause-prefix : goal.returns-in_err-put_span-clause-prefix
unfolding node_text
returns-in_err-put_span-clause-prefix c =
    let node = c.args.node.now in
    on_err c.from_residual.result
    (stops_first c.args.lines.now c.put_span.new.lines (span_line c.args.name.now node.from node.to) (flat_map split_line node.splits)
    (node_text c.args.name.now node) c.in_err-put_span.ensures.prefix refl)

pub returns-in_err-put_splits-clause-prefix : goal.returns-in_err-put_splits-clause-prefix
unfolding node_text
returns-in_err-put_splits-clause-prefix c =
    let node = c.args.node.now in
    let begun : AppendsPrefix c.put_span.new.lines c.put_splits.new.lines (flat_map split_line node.splits) =
    subst (λ splits. AppendsPrefix c.put_span.new.lines c.put_splits.new.lines (flat_map split_line splits)) c.as_slice.ensures
    c.in_err-put_splits.ensures.prefix in
    on_err c.from_residual-in_err-put_splits.result
    (stops_last c.args.lines.now c.put_span.new.lines c.put_splits.new.lines (span_line c.args.name.now node.from node.to)
    (flat_map split_line node.splits) (node_text c.args.name.now node) c.in_ok-put_span.ensures.whole begun refl)

pub returns-clause-whole : goal.returns-clause-whole
unfolding node_text
returns-clause-whole c =
    let node = c.args.node.now in
    c.in_ok-put_splits.ensures.whole ∙ ap (λ splits. c.put_span.new.lines ++ flat_map split_line splits) c.as_slice.ensures
    ∙ ap (λ o. o ++ flat_map split_line node.splits) c.in_ok-put_span.ensures.whole ∙ append_assoc c.args.lines.now
    (span_line c.args.name.now node.from node.to) (flat_map split_line node.splits)
