use Rattle.std.specs.Prelude.{[]}
use Rattle.pin_rule.proofs.tests.is_kept.Goals as goal

-- every log is lawful, and every row fits it
pub keep-requires : goal.keep-requires
keep-requires g c = ([], [], (tt, tt, c.requires [] [], tt))
