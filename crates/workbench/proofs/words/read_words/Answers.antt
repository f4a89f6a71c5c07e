use Rattle.std.proofs.Common.{◌≡◌, ◌∙◌, [], ap, subst, inl, inr}
use Rattle.clap.specs.Faults.{fault_of, is_simple_and_free}
use Rattle.clap.specs.Kinds.{Kinds, HasKind}
use Rattle.clap.specs.Matches.{found_of}
use Rattle.clap.specs.Simple.{App, app_of, is_simple, matches_of}
use Rattle.clap.specs.Walk.{rows_of, texts}
use Rattle.workbench.specs.Words.{command_line, TakesWords}
use Rattle.workbench.proofs.KnownWords.{reads_flag}
use Rattle.workbench.proofs.words.read_words.Goals as goal

pub returns-in-Ok-clause-taken : goal.returns-in-Ok-clause-taken
returns-in-Ok-clause-taken c =
    let app_is = c.in_ok-command.ensures in
    subst (λ (a : App). fault_of a (texts c.args.words.now) ≡ []) app_is (c.in-Ok.ensures.kinds (ap is_simple_and_free app_is))

pub returns-in-Ok-clause-asked : goal.returns-in-Ok-clause-asked
returns-in-Ok-clause-asked c =
    let app_is = c.in_ok-command.ensures in
    let takes : TakesWords (texts c.args.words.now) =
    subst (λ (a : App). fault_of a (texts c.args.words.now) ≡ []) app_is (c.in-Ok.ensures.kinds (ap is_simple_and_free app_is)) in
    let rows : rows_of (found_of c.in-Ok.matches) ≡ matches_of command_line (texts c.args.words.now) =
    subst (λ (a : App). rows_of (found_of c.in-Ok.matches) ≡ matches_of a (texts c.args.words.now)) app_is
    (c.in-Ok.ensures.matches (ap is_simple app_is)).0 in
    reads_flag (texts c.args.words.now) (found_of c.in-Ok.matches) c.get_flag.result takes rows c.get_flag.ensures.value c.get_flag.ensures.other

pub returns-in-Err-clause-bad : goal.returns-in-Err-clause-bad
returns-in-Err-clause-bad c = λ is takes.
    let app_is = c.in_ok-command.ensures in
    let kinds = c.in-Err.ensures.kinds (ap is_simple_and_free app_is) in
    let none : fault_of (app_of c.in_ok-command.command) (texts c.args.words.now) ≡ [] = ap (λ (a : App). fault_of a (texts c.args.words.now)) app_is ∙ takes in
    elim (subst (λ (k : Kinds). HasKind k c.in-Err.error) none kinds) [
      | inl out ↦ c.why.ensures (cc is) out
      | inr among ↦ among
    ]
