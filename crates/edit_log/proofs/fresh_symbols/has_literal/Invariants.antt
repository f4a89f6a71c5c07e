use Rattle.std.proofs.Common.{◌≡◌, false, take}
use Rattle.std.specs.List.{list_any}
use Rattle.edit_log.specs.Live.{is_literal}
use Rattle.edit_log.specs.Replicas.{symbols_in}
use Rattle.edit_log.proofs.fresh_symbols.has_literal.Given as goal

-- none of those so far is a literal
abbrev pub invariant-loop-one : goal.invariant-loop-one
invariant-loop-one l = list_any is_literal (symbols_in (take l.one-index l.fresh)) ≡ false
