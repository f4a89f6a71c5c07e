use Rattle.std.proofs.Common.{◌≡◌, ◌<◌, false, true, length, get_or, take, Some, sym, ap, ◌∙◌, arith}
use Rattle.std.proofs.lemmas.List.Elements.{Contains-get_or}
use Rattle.std.proofs.lemmas.List.{take_all}
use Rattle.edit_log.specs.Rows.{uses_in, literals_in}
use Rattle.edit_log.proofs.UseLists.{ended_more, ended_same, ended_none, ended_all}
use Rattle.edit_log.proofs.uses.ended.Goals as goal
use Rattle.edit_log.proofs.uses.ended.Goals.{then-is_used, else-is_used}

pub loop-part-init : goal.loop-part-init
loop-part-init c = record {
  lists = rw c.in_ok-gone.ensures.items (ended_none (literals_in c.args.rows.now) (uses_in c.args.rows.now) c.args.right.now);
  room = omega (arith, c.in_ok-gone.ensures.capacity, c.in_ok-gone.ensures.len);
}

pub loop-part-preserved : goal.loop-part-preserved
loop-part-preserved c =
    let right = c.args.right.now in
    let uses = uses_in c.args.rows.now in
    let literals = literals_in c.args.rows.now in
    let i = c.loop-part.part-index in
    let near : i < length right = omega arith in
    let there = Contains-get_or right i (record { 0 = 0 }) near in
    let invariant = c.loop-part.invariant in
    elim c.if-is_used.branch [
      | then-is_used w ↦
          let used = c.is_used.ensures.0 w.if-is_used.true in
          record {
            lists = rw w.gone-is (ended_more literals uses right i (record { 0 = 0 }) near c.loop-part.gone.items w.insert.new.live.items (
              there,
              used.0,
              used.1
                  ∙ ap Some c.occurrences.ensures.value,
            ) invariant.lists (w.insert.ensures.live invariant.lists.order));
            room = rw w.gone-is (omega (arith, w.insert.ensures.room, invariant.room));
          }
      | else-is_used w ↦ record {
        lists = rw w.gone-is (ended_same literals uses right i (record { 0 = 0 }) near c.loop-part.gone.items
            (λ last. absurd (let never : false ≡ true = sym w.if-is_used.false ∙ c.is_used.ensures.1 (
              last.1,
              last.2
                  ∙ ap Some (sym c.occurrences.ensures.value),
            ) in cc)) invariant.lists);
        room = rw w.gone-is (omega (arith, invariant.room));
      }
    ]

pub returns : goal.returns
returns c =
    let right = c.args.right.now in
    let all : take c.loop-part.part-index right ≡ right = take_all c.loop-part.part-index right (omega arith) in
    ended_all (literals_in c.args.rows.now) (uses_in c.args.rows.now) right c.loop-part.gone.items (rw all at c.loop-part.invariant.lists)
