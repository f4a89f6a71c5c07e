use Rattle.std.proofs.Common.{sym, subst, arith}
use Rattle.gss.specs.declared.rows.NodeRow.{NodeRow}
use Rattle.gss.specs.Chains.{none}
use Rattle.gss.specs.Rows.{places, AreLinked}
use Rattle.gss.proofs.Growing.{found_pushed, linked_node}
use Rattle.gss.proofs.rows.add_place.Goals as goal

pub returns-clause-found : goal.returns-clause-found
returns-clause-found c =
    let row : NodeRow = record { place = c.args.place; first = none; last = none; above = none } in
    found_pushed c.args.nodes.now.items c.push.new.self.items c.make_room.new.newest.items row c.len-node.result c.in_ok-push.ensures.items (omega arith)
    (omega arith) c.in_ok-make_room.ensures.room c.requires.new (c.make_room.ensures.found (places c.args.nodes.now.items) c.requires.found)

pub returns-clause-linked : goal.returns-clause-linked
returns-clause-linked c = subst (λ nodes. AreLinked nodes c.args.links.now) (sym c.in_ok-push.ensures.items)
    (linked_node c.args.nodes.now.items c.args.links.now c.args.place c.requires.linked)
