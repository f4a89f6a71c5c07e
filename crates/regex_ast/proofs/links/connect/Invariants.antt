use Rattle.std.proofs.Common.{◌≡◌, ℕ, ◌<◌, ◌||◌, ◌&&◌, nat_lt, length}
use Rattle.regex_ast.specs.Bytes.{has}
use Rattle.regex_ast.specs.Links.{row}
use Rattle.regex_ast.proofs.links.connect.Given as goal

abbrev pub invariant-loop-position : goal.invariant-loop-position
invariant-loop-position l =
    (q p : ℕ) → q < length l.rows → has (row l.rows q) p ≡ (has (row l.initial.rows q) p || ((nat_lt q l.position && has l.before q) && has l.next p))
