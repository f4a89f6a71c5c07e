use Rattle.pin_rule.specs.Hands.{view_of}
use Rattle.slot_store.proofs.Storing.{whole_row}
use Rattle.slot_store.proofs.writing.write_whole.Goals as goal

pub returns-clause-wrote : goal.returns-clause-wrote
returns-clause-wrote g c =
    whole_row c.args.site (view_of c.args.hand.now) (view_of c.write_words.new.hand) (view_of c.write_words-2.new.hand)
    (view_of c.write_words-3.new.hand) c.args.row c.args.key.now c.args.payload.now c.write_words.ensures.wrote c.write_words-2.ensures.wrote
    c.write_words-3.ensures.wrote
