use Rattle.sections.proofs.KeysFollow.{all_fit, keys_follow}
use Rattle.sections.proofs.laws.keys_follow.Goals as goal

pub returns : goal.returns
returns c = record {
  fit =
      λ z log grammar command reply tallies before after first last is_log proper fit is shares.
      all_fit z log grammar is_log first last fit tallies before after command reply proper shares;
  follows =
      λ z log grammar command reply tallies before after first last is_log proper fit is shares.
      keys_follow z log grammar is_log first last fit tallies before after command reply proper shares;
}
