use Rattle.std.proofs.Common.{sym}
use Rattle.pin_rule.proofs.Alone.{alone_share, alone_nothing}
use Rattle.pin_rule.proofs.laws.alone.Goals as goal

pub returns-clause-share : goal.returns-clause-share
returns-clause-share g c z words views i j v w h two all = alone_share g.C.Content.lawful g.C.Content.fits z words views i v two.1 h all j w
    (λ e. two.0 (sym e)) two.2

pub returns-clause-nothing : goal.returns-clause-nothing
returns-clause-nothing g c z words views i j v w h two all = alone_nothing g.C.Content.lawful g.C.Content.fits z words views i v two.1 h all j w
    (λ e. two.0 (sym e)) two.2
