-- Where there is room for all keys, the graph behind a run is what its commands reached.
use Rattle.std.proofs.Common.{◌↔◌, ℕ, Bool, List, [], ◌∷◌}
use Rattle.std.specs.List.{AllByRecursion}
use Rattle.edit_log.specs.History.{Grammar, empty_grammar}
use Rattle.script_text.specs.declared.command.Block.{Block}
use Rattle.script_text.specs.declared.command.Block.TheVariants.{Alone, Par}
use Rattle.pin_rule.specs.declared.sizes.Sizes.{Sizes}
use Rattle.pin_rule.specs.Layout.{full_sizes}
use Rattle.row_coding.specs.Rows.{Key}
use Rattle.replies.specs.Replies.{grammar_after}
use Rattle.replies.specs.Blocks.{IsProperBlock, grammar_after_all}
use Rattle.sections.specs.Shared.{AreShared, none_shared, more_shared}
use Rattle.sections.specs.HeldKeys.{AllFit, held_in, held_after, IsRoomy}
use Rattle.sections.proofs.RoomyLists.{held_last}
use Rattle.workbench.specs.Benches.{AreAnswers, none, more, no_key}
use Rattle.workbench.proofs.BenchSteps.{log_none}

-- the lines aside, answers one after the other are graphs one after the other
shared_by : (stats : Bool) (z : Sizes) (grammar : Grammar) (blocks : List Block) (first last : List (List ℕ)) (lines : List ℕ)
    → AreAnswers stats z grammar blocks first last lines
    → AreShared z grammar blocks first last
shared_by stats z grammar [] _ _ _ none = none_shared
shared_by stats z grammar (Par commands ∷ blocks) first last lines answers = elim answers [ ]
shared_by stats z grammar (Alone command ∷ blocks) first last _ (more {reply = reply} {next = next} {lines = rest} is graph others) =
    more_shared (record { reply = reply; is = is; tallies = graph.tallies; before = graph.before; after = graph.after; shares = graph.shares })
    (shared_by stats z (grammar_after grammar command) blocks next last rest others)

all_fit_at_first : AllFit empty_grammar []
all_fit_at_first = λ row there. absurd there

none_held : (key : Key) → held_in empty_grammar [] key ↔ no_key key
none_held key = (λ held. absurd held.1, λ never. absurd never)

pub graph_of_roomy : (stats : Bool) (blocks : List Block) (last : List (List ℕ)) (lines : List ℕ) → AllByRecursion IsProperBlock blocks
    → AreAnswers stats full_sizes empty_grammar blocks [] last lines → IsRoomy full_sizes empty_grammar blocks no_key → (key : Key)
    → held_in (grammar_after_all empty_grammar blocks) last key ↔ held_after full_sizes empty_grammar blocks no_key key
graph_of_roomy stats blocks last lines proper answers roomy key =
    held_last full_sizes [] empty_grammar blocks [] last no_key log_none proper all_fit_at_first none_held roomy
    (shared_by stats full_sizes empty_grammar blocks [] last lines answers) key
