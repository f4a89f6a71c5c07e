-- What users mean, with a pinned page and without one.
use Rattle.pin_rule.specs.Hands.{view_of, table_of}
use Rattle.slot_store.specs.declared.pinned.Pinned.{Pinned}
use Rattle.slot_store.specs.declared.pass.Pass.{Pass}
use Rattle.slot_store.specs.Meaning.{Meaning, PassMeaning, pass_meaning}
use Rattle.slot_store.specs.PinnedHands.{meaning_in}

abbrev pub means_of : {C : Type 0} → Pinned C → Meaning
means_of p = meaning_in p.hand

abbrev pub pass_of : {C : Type 0} → Pass C → PassMeaning
pass_of p = pass_meaning (view_of p.hand) (table_of p.hand)
