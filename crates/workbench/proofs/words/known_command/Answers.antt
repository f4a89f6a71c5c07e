use Rattle.std.proofs.Common.{◌≡◌, ◌∙◌, true, ap, ap₂, rules}
use Rattle.clap.specs.Simple.{app_of_fields, on_top, with_rule}
use Rattle.clap.specs.Walk.{rule_of}
use Rattle.workbench.specs.Words.{stats_flag}
use Rattle.workbench.proofs.words.known_command.Goals as goal

pub returns : goal.returns
returns c =
    let flag_is : rule_of c.action-stats.result ≡ stats_flag = search rules in
    c.in_ok-command.ensures.shape (search rules)
    ∙ ap₂ with_rule (ap app_of_fields c.disable_help_flag.ensures
    ∙ ap (on_top (λ s. record s { disable_help_flag = true })) c.new-2.ensures.app) flag_is
