use Rattle.std.proofs.Common.{sym, ap, ◌∙◌, subst}
use Rattle.row_coding.specs.Words.{item_payload_words}
use Rattle.row_coding.specs.Conditions.{FitsCoding}
use Rattle.graph_content.specs.Contents.{FitsLog}
use Rattle.slot_store.specs.Answers.{Finds}
use Rattle.slot_store.specs.GraphAnswers.{WhereTold, LookTells}
use Rattle.live_graph.proofs.finding.find_items.Goals as goal

pub read_items-requires : goal.read_items-requires
read_items-requires g c = c.requires.readable c.in-Found.payload.now c.in-Found.ensures.lent

pub returns-in_ok-expansion-in-Found-clause-looks : goal.returns-in_ok-expansion-in-Found-clause-looks
returns-in_ok-expansion-in-Found-clause-looks g c =
    let added = subst (Finds FitsLog (g.P.Page.means c.args.page.now) (g.P.Page.means c.find.follows.lender-at-none) c.args.key.now) c.in-Found.is
    c.find.follows.holds-at-none in
    let graph = subst (λ look. WhereTold (g.P.Page.means c.args.page.now).graph (LookTells (g.P.Page.means c.args.page.now).sizes.places c.args.key.now look))
    c.in-Found.is c.find.ensures.graph in
    let can = c.requires.readable c.in-Found.payload.now c.in-Found.ensures.lent in
    let same = c.in_ok-expansion-in-Found.ensures can.0 can.1 can.3 in
    record {
      added = added.0;
      passes = record { is = added.1; quiet = added.2 };
      looks = (c.in-Found.payload.now, (subst FitsCoding (sym same) can.1, can.3 ∙ ap item_payload_words (sym same)), added.3, graph);
    }
