use Rattle.std.proofs.Common.{inl, inr, arith}
use Rattle.std.proofs.lemmas.List.{length-map}
use Rattle.std.proofs.lemmas.Option.{slice_get_within}
use Rattle.gss.specs.declared.rows.NodeRow.{NodeRow}
use Rattle.gss.specs.PlaceGraphs.{place_with}
use Rattle.gss.specs.Rows.{places}
use Rattle.gss.proofs.Searching.{none_yet}
use Rattle.gss.proofs.rows.find_place.Goals as goal
use Rattle.gss.proofs.rows.find_place.Goals.{else-row-at-via-then-row-at+else-row-state, else-row-at-via-else-row-at}

pub loop-number-preserved : goal.loop-number-preserved
loop-number-preserved c = elim c.else-row-at.branch [
  | else-row-at-via-then-row-at+else-row-state w ↦
      none_yet c.args.nodes.now c.loop-number.number c.args.state c.args.at _ c.loop-number-test.true (inr w.if-row-state.false) c.loop-number.invariant
  | else-row-at-via-else-row-at w ↦
      none_yet c.args.nodes.now c.loop-number.number c.args.state c.args.at _ c.loop-number-test.true (inl w.if-row-at.false) c.loop-number.invariant
]

pub returns-clause-none : goal.returns-clause-none
returns-clause-none c = λ (n, at). c.loop-number.invariant n (omega (
  arith,
  slice_get_within (places c.args.nodes.now) n (place_with c.args.state c.args.at) at,
  length-map c.args.nodes.now (λ (r : NodeRow). r.place),
)) at
