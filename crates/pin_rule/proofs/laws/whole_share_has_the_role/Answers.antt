use Rattle.pin_rule.proofs.Alone.{alone_has_role}
use Rattle.pin_rule.proofs.laws.whole_share_has_the_role.Goals as goal

pub returns : goal.returns
returns g c z words views i v h at all = alone_has_role g.C.Content.lawful g.C.Content.fits z words views i v at h all
