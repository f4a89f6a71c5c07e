-- Up to a link that has a newer one beside it.
use Rattle.std.proofs.Common.{List, ℕ, true, sym, subst}
use Rattle.gss.specs.Trails.{IsPartOfTrail}
use Rattle.gss.specs.Descents.{IsMetAfter, TurnsTo}
use Rattle.gss.proofs.TrailParts.{met_popped}
use Rattle.gss.proofs.TrailSteps.{IsRising, rising_more, turned_part, turned}
use Rattle.gss.proofs.trails.turn.Goals as goal

pub returns-in-Some-next_until-clause-part : goal.returns-in-Some-next_until-clause-part
returns-in-Some-next_until-clause-part c =
    let rising = subst (λ (ls : List ℕ). IsRising c.args.graph.now.links c.args.walk c.args.part.now.links.items ls) c.in-Some.ensures.items
    c.up.invariant.rising in
    subst (λ (ls : List ℕ). IsPartOfTrail c.args.graph.now.links c.args.walk ls) (sym c.in_ok-put.ensures.links)
    (turned_part c.args.graph.now.links c.args.walk c.args.part.now.links.items c.pop.new.self.items c.in-Some.link rising c.in-Some-next_until.next
    c.in-Some-next_until.ensures.next.0 c.in-Some-next_until.ensures.next.1)

pub returns-in-Some-next_until-clause-turns : goal.returns-in-Some-next_until-clause-turns
returns-in-Some-next_until-clause-turns c =
    let rising = subst (λ (ls : List ℕ). IsRising c.args.graph.now.links c.args.walk c.args.part.now.links.items ls) c.in-Some.ensures.items
    c.up.invariant.rising in
    subst (λ (ls : List ℕ). TurnsTo c.args.graph.now.links c.args.walk c.args.part.now.links.items ls true) (sym c.in_ok-put.ensures.links)
    (turned c.args.graph.now.links c.args.walk c.args.part.now.links.items c.pop.new.self.items c.in-Some.link rising c.in-Some-next_until.next
    c.in-Some-next_until.ensures.next.0 c.in-Some-next_until.ensures.next.1)

pub up-preserved : goal.up-preserved
up-preserved c =
    let rising = subst (λ (ls : List ℕ). IsRising c.args.graph.now.links c.args.walk c.args.part.now.links.items ls) c.in-Some.ensures.items
    c.up.invariant.rising in
    let met = subst (λ (ls : List ℕ). IsMetAfter c.args.walk.through ls c.up.part.met) c.in-Some.ensures.items c.up.invariant.met_is in
    record {
      rising = rising_more c.args.graph.now.links c.args.walk c.args.part.now.links.items c.pop.new.self.items c.in-Some.link rising
          c.in_default-next_until.ensures.none;
      met_is = met_popped c.args.walk.through c.pop.new.self.items c.in-Some.link c.up.part.met met;
    }
