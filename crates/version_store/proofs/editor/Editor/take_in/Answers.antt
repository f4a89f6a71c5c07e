use Rattle.pin_rule.specs.Hands.{view_of}
use Rattle.pin_rule.proofs.Parting.{keeps_join}
use Rattle.version_store.proofs.editor.Editor.take_in.Goals as goal

pub join-requires-clause-keeps : goal.join-requires-clause-keeps
join-requires-clause-keeps g c = let e = c.args.self.now in let i = c.into_hand.ensures.idle in
    keeps_join g.C.Content.lawful g.C.Content.fits (view_of e.hand) (view_of c.into_hand.result) e.shared i.free i.unpinned i.plain
