use Rattle.std.proofs.Common.{◌∙◌, inl}
use Rattle.row_coding.specs.Rows.{kernel}
use Rattle.graph_content.proofs.RowTests.{left_decides, no_left}
use Rattle.graph_content.proofs.touching.touches_items.Goals as goal

pub returns-then-names_ended : goal.returns-then-names_ended
returns-then-names_ended c = λ g items fit is. inl (c.if-names_ended.ensures items is.payload fit is.words)

pub moves_on-requires : goal.moves_on-requires
moves_on-requires c =
    let (g, items, is) = c.requires in
    (is.codes.0, c.payload_in.ensures (kernel items) is.payload is.words ∙ is.codes.2)

pub returns-in-Some : goal.returns-in-Some
returns-in-Some c = λ g items fit is.
    left_decides g c.args.touch.now items is.codes.0 c.in-Some.left c.moves_on.result is.codes.1 c.in-Some.is
    (c.if-names_ended.ensures items is.payload fit is.words)
    (c.moves_on.ensures is.codes.0 (c.payload_in.ensures (kernel items) is.payload is.words ∙ is.codes.2))

pub returns-in-None : goal.returns-in-None
returns-in-None c = λ g items fit is. no_left g c.args.touch.now items c.in-None.is (c.if-names_ended.ensures items is.payload fit is.words)
