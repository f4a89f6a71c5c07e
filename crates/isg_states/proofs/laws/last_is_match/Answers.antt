use Rattle.std.proofs.Common.{subst}
use Rattle.edit_log.specs.Tokens.{MatchesPiece}
use Rattle.isg_states.proofs.PositionsAfter.{from_match, to_match}
use Rattle.isg_states.proofs.laws.last_is_match.Goals as goal

pub returns : goal.returns
returns c = λ grammar piece definition some small live. (
  λ matches. from_match grammar piece definition some small live matches,
  λ last. subst (λ d. MatchesPiece grammar d piece) last.1 (to_match grammar piece last.0 last.2 last.3),
)
