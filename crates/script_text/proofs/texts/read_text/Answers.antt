use Rattle.std.proofs.Common.{sym, ◌∙◌, ◌≡◌, length, rules}
use Rattle.script_text.proofs.TextSteps.{with_front-end}
use Rattle.script_text.proofs.texts.read_text.Goals as goal

pub returns : goal.returns
returns c =
    let all_read : length c.loop-rest.rest.now ≡ 0 = search rules in
    sym (with_front-end c.loop-rest.text.items c.loop-rest.rest.now all_read) ∙ c.loop-rest.invariant
