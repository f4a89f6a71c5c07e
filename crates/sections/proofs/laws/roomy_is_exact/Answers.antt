use Rattle.sections.specs.HeldKeys.{held_in}
use Rattle.sections.proofs.RoomyLists.{all_fit_last, held_last}
use Rattle.sections.proofs.laws.roomy_is_exact.Goals as goal

pub returns : goal.returns
returns c = record {
  fit = all_fit_last;
  exact =
      λ z log grammar blocks first last is_log proper fit roomy shared.
      held_last z log grammar blocks first last (held_in grammar first) is_log proper fit (λ key. (λ has. has, λ has. has)) roomy shared;
}
