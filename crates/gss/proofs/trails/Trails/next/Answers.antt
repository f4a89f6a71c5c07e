-- The next trail.
use Rattle.std.proofs.Common.{Bool, IsTrue, subst}
use Rattle.gss.specs.Trails.{Standing, IsNextTrail, IsAtEnd}
use Rattle.gss.specs.Descents.{TurnsTo, FindsTrail}
use Rattle.gss.proofs.TrailSteps.{next_turned, end_turned}
use Rattle.gss.proofs.trails.Trails.next.Goals as goal

pub returns-clause-next : goal.returns-clause-next
returns-clause-next c is =
    let at : Standing = record { walk = c.self.inside.walk; is_begun = c.self.inside.is_begun; trail = c.self.inside.part.links.items } in
    let begun : IsTrue at.is_begun = let no = c.if-not-self.false in cc in
    let turns = subst (λ (b : Bool). TurnsTo c.args.graph.now.links at.walk at.trail c.turn.new.part.links.items b) c.if-not-turns.false
    c.in_ok-turns.ensures.turns in
    subst (λ (s : Standing). IsNextTrail c.args.graph.now.links s c.find-2.new.part.links.items) c.self.view_is
    (next_turned c.args.graph.now.links at begun c.turn.new.part.links.items c.find-2.new.part.links.items turns
    (subst (λ (b : Bool). FindsTrail c.args.graph.now.links at.walk c.turn.new.part.links.items c.find-2.new.part.links.items b) is
    c.in_ok-found-2.ensures.finds))

pub returns-clause-end : goal.returns-clause-end
returns-clause-end c is =
    let at : Standing = record { walk = c.self.inside.walk; is_begun = c.self.inside.is_begun; trail = c.self.inside.part.links.items } in
    let begun : IsTrue at.is_begun = let no = c.if-not-self.false in cc in
    let turns = subst (λ (b : Bool). TurnsTo c.args.graph.now.links at.walk at.trail c.turn.new.part.links.items b) c.if-not-turns.false
    c.in_ok-turns.ensures.turns in
    subst (λ (s : Standing). IsAtEnd c.args.graph.now.links s) c.self.view_is
    (end_turned c.args.graph.now.links at begun c.turn.new.part.links.items c.find-2.new.part.links.items turns
    (subst (λ (b : Bool). FindsTrail c.args.graph.now.links at.walk c.turn.new.part.links.items c.find-2.new.part.links.items b) is
    c.in_ok-found-2.ensures.finds))
