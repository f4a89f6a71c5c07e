use Rattle.std.proofs.Common.{◌≡◌, sym, ap, ◌∙◌}
use Rattle.regex_ast.specs.Bytes.{has}
use Rattle.isg_states.proofs.Tables.{from_last, to_last}
use Rattle.isg_states.proofs.Winners.{any_has}
use Rattle.isg_states.proofs.winner.is_last.Goals as goal

pub returns : goal.returns
returns c =
    let told : c.contains.result ≡ has c.live_positions.result.now.last c.args.mark.index =
    c.contains.ensures.value ∙ any_has c.last.result.now c.args.mark.index ∙ ap (λ xs. has xs c.args.mark.index) c.last.ensures in
    (λ e. from_last c.args.mark c.live_positions.ensures (sym told ∙ e), λ last. told ∙ to_last c.args.mark c.live_positions.ensures last)
