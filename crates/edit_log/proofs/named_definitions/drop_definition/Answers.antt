use Rattle.std.proofs.Common.{◌≡◌, ◌==◌, Bool, List, ℕ, find, slice_get, Option, Some, option_map, subst, ◌∙◌}
use Rattle.edit_log.specs.declared.named_definitions.NamedDefinition.{NamedDefinition}
use Rattle.forest.specs.declared.rules.RuleId.{RuleId}
use Rattle.edit_log.specs.History.{Definition}
use Rattle.edit_log.specs.Replicas.{seen_of}
use Rattle.edit_log.proofs.NumberSearches.{sorted_map, found_in, none_in, nothing_removed, found_removed}
use Rattle.edit_log.proofs.named_definitions.drop_definition.Goals as goal

-- the definition has the number
abbrev has : RuleId → NamedDefinition → Bool
has number live = live.number.0 == number.0

-- the answer tells of this list
abbrev Tells : RuleId → Option ℕ → List NamedDefinition → Type 0
Tells number answer definitions = option_map (λ place. slice_get definitions place) answer ≡ option_map Some (find (has number) definitions)

pub returns-in-Some : goal.returns-in-Some
returns-in-Some c =
    let definitions = c.args.definitions.now.items in
    let tells = subst (Tells c.args.number c.place_of.result) c.deref.ensures.value c.place_of.ensures in
    let h = found_in (has c.args.number) definitions c.place_of.result c.in-Some.place c.in-Some.is tells in
    let sorted = sorted_map seen_of (λ (d : Definition). d.number.0) definitions c.requires in
    c.remove.ensures.items ∙ found_removed (λ (live : NamedDefinition). live.number.0) c.args.number.0 definitions c.in-Some.place sorted h

pub returns-in_default : goal.returns-in_default
returns-in_default c =
    let definitions = c.args.definitions.now.items in
    let tells = subst (Tells c.args.number c.place_of.result) c.deref.ensures.value c.place_of.ensures in
    nothing_removed (λ (live : NamedDefinition). live.number.0) c.args.number.0 definitions
    (none_in (has c.args.number) definitions c.place_of.result c.in_default.is tells)
