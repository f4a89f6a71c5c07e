use Rattle.std.proofs.Common.{◌≡◌, length, map, sym, ap, subst, arith}
use Rattle.std.proofs.lemmas.List.{length-map}
use Rattle.packed_spans.specs.Packed.{Packed}
use Rattle.packed_spans.specs.Complete.{AreDifferent, IsComplete}
use Rattle.packed_spans.specs.Tables.{row_span, packed_of}
use Rattle.packed_spans.specs.Nodes.{AreNodesOf}
use Rattle.packed_spans.proofs.Making.{forest_is}
use Rattle.packed_spans.proofs.packed_spans.PackedSpans.forest.Goals as goal

pub mark_reached-requires-clause-root : goal.mark_reached-requires-clause-root
mark_reached-requires-clause-root c =
    let spans : map row_span c.self.inside.table.spans.items ≡ c.args.self.now.spans = ap (λ (q : Packed). q.spans) c.self.view_is in
    omega (arith, c.requires.root, ap length spans, length-map c.self.inside.table.spans.items row_span)

pub nodes_of-requires-clause-different : goal.nodes_of-requires-clause-different
nodes_of-requires-clause-different c =
    let spans : map row_span c.self.inside.table.spans.items ≡ c.args.self.now.spans = ap (λ (q : Packed). q.spans) c.self.view_is in
    subst AreDifferent (sym spans) c.requires.different

pub returns-clause-forest : goal.returns-clause-forest
returns-clause-forest c = λ rules tokens complete.
    let packed : Packed = packed_of c.self.inside.table.spans.items c.self.inside.table.splits.items c.self.inside.table.parts.items in
    let here : packed ≡ c.args.self.now = c.self.view_is in
    let inside = subst (λ (p : Packed). IsComplete rules tokens p c.args.root) (sym here) complete in
    let nodes = subst (AreNodesOf c.self.inside.table.spans.items c.self.inside.table.splits.items c.self.inside.table.parts.items
    c.mark_reached.new.marks.marked.items 0) (sym c.from_vec.ensures) c.in_ok-nodes.ensures.nodes in
    forest_is rules tokens _ _ _ c.args.root c.self.invariant.few inside c.mark_reached.new.marks.marked.items _ c.in_ok-mark_reached.ensures.reached nodes
