use Rattle.std.proofs.Common.{◌≡◌, ◌+◌, List, length, sym, subst, rules}
use Rattle.script_text.specs.declared.command.Block.{Block}
use Rattle.script_text.specs.Lines.{lines_of}
use Rattle.script_text.specs.Scripts.{nothing, TakesAll, SpellsScript, IsBad, IsFirstBad}
use Rattle.script_text.specs.Seen.{IsReason}
use Rattle.script_text.proofs.ScriptLaws.{one_script, not_both}
use Rattle.script_text.proofs.ScriptSteps.{begins, goes_on, stops, ends}
use Rattle.script_text.proofs.script.read_script.Goals as goal

pub lines-init : goal.lines-init
lines-init c = rw c.new-progress.ensures (begins c.args.bytes.now)

pub lines-preserved : goal.lines-preserved
lines-preserved c =
    goes_on c.args.bytes.now c.lines.rest.now c.split_line.result.0.now c.split_line.result.1.now c.lines.number c.lines.progress c.take.new.self
    c.lines.invariant c.split_line.ensures.lines c.split_line.ensures.less c.in-Ok.ensures.takes

-- the line is the first bad one
first_bad : (c : goal.After-drop-progress-inside) → IsFirstBad c.args.bytes.now (record { line = c.lines.number + 1; kind = c.in-Err-Wrong.kind })
first_bad c =
    let line = c.split_line.result.0.now in
    stops c.args.bytes.now c.lines.rest.now line c.split_line.result.1.now c.lines.number c.lines.progress c.in-Err-Wrong.kind
    c.lines.invariant c.split_line.ensures.lines
    (subst (IsReason (IsBad c.lines.progress line)) c.in-Err-Wrong.field-0-is c.in-Err-Wrong.ensures.refused)

pub returns-in-Err-Wrong-clause-only : goal.returns-in-Err-Wrong-clause-only
returns-in-Err-Wrong-clause-only c = λ script spelled. absurd (not_both c.args.bytes.now script (record {
  line = c.lines.number + 1;
  kind =
      c.in-Err-Wrong.kind;
}) spelled (first_bad c))

pub returns-in-Err-Wrong-clause-exact : goal.returns-in-Err-Wrong-clause-exact
returns-in-Err-Wrong-clause-exact c = rw c.in-Err-Wrong.kind-is (first_bad c)

-- what was read is what the bytes spell
found : (c : goal.After-into_script) → SpellsScript c.args.bytes.now c.into_script.result
found c =
    let end : length c.lines.rest.now ≡ 0 = search rules in
    let whole : List Block → Type 0 = λ blocks. TakesAll nothing (lines_of c.args.bytes.now) (record { blocks = blocks }) in
    subst whole (sym c.into_script.ensures) (ends c.args.bytes.now c.lines.rest.now c.lines.number c.lines.progress c.lines.invariant end)

pub returns-clause-found : goal.returns-clause-found
returns-clause-found c = found c

pub returns-clause-only : goal.returns-clause-only
returns-clause-only c = λ script spelled. one_script c.args.bytes.now c.into_script.result script (found c) spelled
