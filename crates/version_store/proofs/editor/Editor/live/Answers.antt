use Rattle.std.proofs.Common.{◌+◌, ℕ, ap, ◌∙◌}
use Rattle.pin_rule.specs.Hands.{view_of}
use Rattle.version_store.specs.Roles.{role_of}
use Rattle.version_store.proofs.SparePages.{older_many}
use Rattle.version_store.proofs.editor.Editor.live.Goals as goal

pub returns : goal.returns
returns g c = let e = c.args.self.now in c.count.ensures ∙ ap (λ (n : ℕ). n + 1) (older_many (role_of (view_of e.hand)) e.lives e.noted e.keeps_all)
