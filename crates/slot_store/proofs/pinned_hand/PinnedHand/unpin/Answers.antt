use Rattle.pin_rule.specs.Hands.{view_of}
use Rattle.pin_rule.proofs.KindPin.{keeps_unpin}
use Rattle.slot_store.proofs.pinned_hand.PinnedHand.unpin.Goals as goal

pub unpin-requires-clause-keeps : goal.unpin-requires-clause-keeps
unpin-requires-clause-keeps g c = let p = c.args.self in keeps_unpin g.C.Content.lawful g.C.Content.fits (view_of p.hand) _ p.pinned p.free
