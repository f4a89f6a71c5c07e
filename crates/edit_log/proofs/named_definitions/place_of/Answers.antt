use Rattle.std.proofs.Common.{rules}
use Rattle.std.specs.Ordering.{nat_cmp}
use Rattle.std.proofs.lemmas.Fn.{always_returns_same}
use Rattle.edit_log.specs.declared.named_definitions.NamedDefinition.{NamedDefinition}
use Rattle.edit_log.specs.History.{Definition}
use Rattle.edit_log.specs.Replicas.{seen_of}
use Rattle.edit_log.proofs.NumberSearches.{sorted_map, searched}
use Rattle.edit_log.proofs.named_definitions.place_of.Goals as goal

pub returns : goal.returns
returns c =
    let definitions = c.args.definitions.now in
    let answer = c.binary_search_by-found.ensures in
    let position = answer.position (λ (live : NamedDefinition). nat_cmp live.number.0 c.args.number.0) (always_returns_same _ _ _ (λ a r f h. search rules)) in
    let sorted = sorted_map seen_of (λ (d : Definition). d.number.0) definitions c.requires in
    rw c.ok.ensures.value (searched (λ (live : NamedDefinition). live.number.0) definitions sorted c.args.number.0 c.binary_search_by-found.result answer.bound
    position)
