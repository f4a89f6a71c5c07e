-- What steps show, more steps show too.
use Rattle.std.proofs.Common.{◌≡◌, inl, inr, ℕ, List, [], ◌++◌, sym, ap, ◌∙◌, subst, arith, append_assoc, append-nil}
use Rattle.edit_log.specs.History.{Grammar}
use Rattle.pin_rule.specs.declared.view.Step.{Step}
use Rattle.pin_rule.proofs.Lists.{each_append}
use Rattle.row_coding.specs.Rows.{Key, key_words}
use Rattle.slot_store.specs.Meaning.{Meaning as PageMeaning, with_graph, extended}
use Rattle.slot_store.specs.Quiet.{IsQuiet}
use Rattle.live_graph.specs.declared.origin.Origin.{Origin}
use Rattle.live_graph.specs.declared.origin.Origin.TheVariants.{Found, Made, Raced, Alone}
use Rattle.live_graph.specs.Showing.{StandsAmong, Comes, IsNarrow, HasNoRow, HasNoPlace, WasFound, WasMade, WasThere, ShowsKey, Came}
use Rattle.live_graph.specs.Showing.ShowsKey.{found, made, met, no_row, no_place}
use Rattle.live_graph.specs.Answers.{Passes, HasPassed}

-- ---- parts

pub whole_part : (steps : List Step) → StandsAmong steps steps
whole_part steps = record { before = []; after = []; is = sym (append-nil steps) }

pub part_within : {part steps : List Step} (front back : List Step) → StandsAmong part steps → StandsAmong part (front ++ (steps ++ back))
part_within {part} {steps} front back p = record {
  before = front ++ p.before;
  after = p.after ++ back;
  is =
      ap (λ middle. front ++ (middle ++ back)) p.is
      ∙ ap (λ rest. front ++ rest) (append_assoc p.before (part ++ p.after) back ∙ ap (λ rest. p.before ++ rest) (append_assoc part p.after back))
      ∙ sym (append_assoc front p.before (part ++ (p.after ++ back)));
}

module _ (m : PageMeaning) (steps : List Step) (front back : List Step) where
  no_row_within : {key : List ℕ} → HasNoRow m steps key → HasNoRow m (front ++ (steps ++ back)) key
  no_row_within h = record {
    look = h.look;
    claims = h.claims;
    part = part_within front back h.part;
    place = h.place;
    initial = h.initial;
    full = h.full;
  }

  no_place_within : {key : List ℕ} → HasNoPlace m steps key → HasNoPlace m (front ++ (steps ++ back)) key
  no_place_within h = record { walk = h.walk; part = part_within front back h.part; full = h.full }

  found_within : {key payload : List ℕ} → WasFound m steps key payload → WasFound m (front ++ (steps ++ back)) key payload
  found_within h = record { look = h.look; part = part_within front back h.part; found = h.found }

  made_within : {key payload : List ℕ} → WasMade m steps key payload → WasMade m (front ++ (steps ++ back)) key payload
  made_within h = record { call = h.call; part = part_within front back h.part; made = h.made }

  there_within : {key : List ℕ} → WasThere m steps key → WasThere m (front ++ (steps ++ back)) key
  there_within h = record { call = h.call; part = part_within front back h.part; already = h.already }

  pub came_within : (grammar : Grammar) (key : Key) (origin : Origin) → Came m steps grammar key origin
      → Came m (front ++ (steps ++ back)) grammar key origin
  came_within grammar key Found (payload, codes, was) = (payload, codes, found_within was)
  came_within grammar key Made (payload, codes, was) = (payload, codes, made_within was)
  came_within grammar key Raced was = there_within was
  came_within grammar key Alone (inl wide) = inl wide
  came_within grammar key Alone (inr (inl none)) = inr (inl (no_row_within none))
  came_within grammar key Alone (inr (inr none)) = inr (inr (no_place_within none))

-- with more steps behind them
pub came_before : (m : PageMeaning) (steps more : List Step) (grammar : Grammar) (key : Key) (origin : Origin) → Came m steps grammar key origin
    → Came m (steps ++ more) grammar key origin
came_before m steps more grammar key origin came = came_within m steps [] more grammar key origin came

-- with more steps before them
pub came_behind : (m : PageMeaning) (more steps : List Step) (grammar : Grammar) (key : Key) (origin : Origin) → Came m steps grammar key origin
    → Came m (more ++ steps) grammar key origin
came_behind m more steps grammar key origin came =
    subst (λ all. Came m (more ++ all) grammar key origin) (append-nil steps) (came_within m steps more [] grammar key origin came)

-- the room that the key's row has is all that could be wanting but a free row and a free place
pub shown : (m : PageMeaning) (steps : List Step) (grammar : Grammar) (key : Key) (origin : Origin) → Came m steps grammar key origin
    → IsNarrow m.sizes grammar key → ShowsKey m steps (key_words key)
shown m steps grammar key Found (payload, codes, was) narrow = found was
shown m steps grammar key Made (payload, codes, was) narrow = made was
shown m steps grammar key Raced was narrow = met was
shown m steps grammar key Alone (inl (payload, codes, wide)) narrow = absurd (omega (arith, wide, narrow payload codes))
shown m steps grammar key Alone (inr (inl none)) narrow = no_row none
shown m steps grammar key Alone (inr (inr none)) narrow = no_place none

-- ---- steps that came

steps_of : (m : PageMeaning) (one other : List Step) → extended (extended m one) other ≡ extended m (one ++ other)
steps_of m one other = ap (λ all. record m { steps = all }) (append_assoc m.steps one other)

pub comes_join : {old middle new : PageMeaning} {one other : List Step} → Comes old middle one → Comes middle new other → Comes old new (one ++ other)
comes_join {old} {middle} {new} {one} {other} first second = record {
  is = second.is ∙ ap (λ m. extended (with_graph m new.graph) other) first.is ∙ steps_of (with_graph old new.graph) one other;
  quiet = each_append IsQuiet one other first.quiet second.quiet;
}

pub comes_none : (m : PageMeaning) → Comes m m []
comes_none m = record { is = ap (λ all. record m { steps = all }) (sym (append-nil m.steps)); quiet = tt }

-- ---- and the graph stayed

pub passes_none : (m : PageMeaning) → Passes m m []
passes_none m = record { is = ap (λ all. record m { steps = all }) (sym (append-nil m.steps)); quiet = tt }

pub same_graph : (old new : PageMeaning) (added : List Step) → Passes old new added → new.graph ≡ old.graph
same_graph old new added passes = ap (λ (m : PageMeaning). m.graph) passes.is

pub passes_comes : (old new : PageMeaning) (added : List Step) → Passes old new added → Comes old new added
passes_comes old new added passes = record {
  is = passes.is ∙ ap (λ graph. extended (with_graph old graph) added) (sym (same_graph old new added passes));
  quiet = passes.quiet;
}

pub passed_none : (m : PageMeaning) → HasPassed m m
passed_none m = ([], passes_none m)
