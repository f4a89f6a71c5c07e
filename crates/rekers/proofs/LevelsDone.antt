-- Levels of a parse, one after the other: what is done at the end of each, and what there is where a parse stops.
use Rattle.std.proofs.Common.{◌≡◌, ℕ, ◌+◌, ◌<◌, ◌≤◌, List, [], Result, Err, length, refl, sym, ◌∙◌, ap, subst, arith, slice_get, get_or, option_map, Some}
use Rattle.std.specs.Result.{IfErr}
use Rattle.std.proofs.lemmas.Option.{slice_get-map, slice_get-get_or}
use Rattle.forest.specs.declared.symbols.SymbolId.{SymbolId}
use Rattle.forest.specs.declared.symbols.Token.{Token}
use Rattle.forest.specs.declared.rules.Rule.{Rule}
use Rattle.edit_log.specs.History.{Grammar}
use Rattle.item_sets.specs.declared.item.Item.{Item}
use Rattle.live_graph.specs.Meaning.{GraphMeaning}
use Rattle.live_graph.specs.Cost.{RisesAsCost}
use Rattle.parser_states.specs.Asked.{StandsButKernels, AsksNew}
use Rattle.parser_states.proofs.AskedKernels.{asks_join}
use Rattle.rekers.specs.declared.level.Level.{Level}
use Rattle.rekers.specs.declared.parser.Parser.{Parser}
use Rattle.rekers.specs.declared.limits.TheConstants.{SIZE_LIMIT}
use Rattle.rekers.specs.declared.parse_error.ParseError.{ParseError}
use Rattle.rekers.specs.declared.parse_error.ParseError.TheVariants.{TooLarge, NoMemory}
use Rattle.rekers.specs.Answers.{kinds_of, UnlessParseNoMemory, IfTooLarge, IsWithin, TellsTooLarge}
use Rattle.rekers.specs.Asked.{AsksStates, AsksSomeStates}
use Rattle.forest.specs.Numbers.{KeepsNumbers}
use Rattle.rekers.specs.Found.{found}
use Rattle.rekers.specs.Reductions.{IsWorked}
use Rattle.rekers.specs.Sound.{IsSoundParser, ArePlaced}
use Rattle.rekers.specs.Steps.{IsStep, IsWithinLimit, IsAboveLimit, AreShifted}
use Rattle.rekers.specs.Levels.{AreLevelsDone, IsStopped}
use Rattle.rekers.proofs.Growth.{keeps_on}
use Rattle.rekers.proofs.AtEnd.{IsAtEnd, is_done, found_size}
use Rattle.rekers.proofs.FoundSizes.{above}
use Rattle.rekers.proofs.LevelSteps.{shifted_grows, asks_some, asks_all, keeps_none}

-- ---- what `?` hands on

-- the result is this error
abbrev pub IsErrorOf : {Y : Type 0} → Result Y ParseError → ParseError → Type 0
IsErrorOf r error = (y : ParseError) × (r ≡ Err y) × (y ≡ error)

is_err_of : {Y : Type 0} (r : Result Y ParseError) (error : ParseError) → IsErrorOf r error → r ≡ Err error
is_err_of r error (y, is, same) = is ∙ ap Err same

-- what holds unless memory ran out
pub unless_mapped : {Y P Q : Type 0} (error : ParseError) (r : Result Y ParseError) → IsErrorOf r error → (P → Q)
    → UnlessParseNoMemory {X = Unit {0}} (Err error) P
    → UnlessParseNoMemory r Q
unless_mapped {Y} {P} {Q} error r is on holds = subst (λ z. UnlessParseNoMemory {X = Y} z Q) (sym (is_err_of r error is)) (by error holds)
  where
    by : (e : ParseError) → UnlessParseNoMemory {X = Unit {0}} (Err e) P → UnlessParseNoMemory {X = Y} (Err e) Q
    by (TooLarge count) p = on p
    by NoMemory p = tt

pub unless_both : {Y P Q R : Type 0} (error : ParseError) (r : Result Y ParseError) → IsErrorOf r error → (P → Q → R)
    → UnlessParseNoMemory {X = Unit {0}} (Err error) P
    → UnlessParseNoMemory {X = Unit {0}} (Err error) Q → UnlessParseNoMemory r R
unless_both {Y} {P} {Q} {R} error r is on one two = subst (λ z. UnlessParseNoMemory {X = Y} z R) (sym (is_err_of r error is)) (by error one two)
  where
    by : (e : ParseError) → UnlessParseNoMemory {X = Unit {0}} (Err e) P → UnlessParseNoMemory {X = Unit {0}} (Err e) Q → UnlessParseNoMemory {X = Y} (Err e) R
    by (TooLarge count) p q = on p q
    by NoMemory p q = tt

-- where what was found is sound and too much, the parser stopped for that
pub stopped_by : {Y P Q : Type 0} (rules : List Rule) (tokens : List SymbolId) (q : Parser) (error : ParseError) (r : Result Y ParseError) → IsErrorOf r error
    → (P → IsSoundParser rules tokens q) → (Q → ArePlaced (found q)) → UnlessParseNoMemory {X = Unit {0}} (Err error) P
    → UnlessParseNoMemory {X = Unit {0}} (Err error) Q
    → IsAboveLimit q error → IfErr r (IsStopped rules tokens q)
stopped_by {Y} {P} {Q} rules tokens q error r is sound placed one two more =
    subst (λ z. IfErr {T = Y} z (IsStopped rules tokens q)) (sym (is_err_of r error is)) (by error one two more)
  where
    by : (e : ParseError) → UnlessParseNoMemory {X = Unit {0}} (Err e) P → UnlessParseNoMemory {X = Unit {0}} (Err e) Q → IsAboveLimit q e
        → IsStopped rules tokens q e
    by (TooLarge count) a b c = record { sound = sound a; placed = placed b; above = c }
    by NoMemory a b c = tt

-- the parser stopped in a later call
pub stopped_on : {Y : Type 0} (rules other : List Rule) (tokens : List SymbolId) (q : Parser) (error : ParseError) (r : Result Y ParseError) → IsErrorOf r error
    → other ≡ rules → IsStopped other tokens q error → IfErr r (IsStopped rules tokens q)
stopped_on {Y} rules other tokens q error r is same stopped =
    subst (λ z. IfErr {T = Y} z (IsStopped rules tokens q)) (sym (is_err_of r error is)) (subst (λ rs. IsStopped rs tokens q error) same stopped)

-- ---- one level

-- a level whose shifts are made, and whose reductions are not
pub record IsLevelBegun (rules : List Rule) (tokens : List SymbolId) (p : Parser) : Type 0 where
  pub sound : IsSoundParser rules tokens p
  pub placed : ArePlaced (found p)
  pub shifted : AreShifted rules tokens (found p) p.level.at

-- all shifts to the first place are made
pub shifted_none : (rules : List Rule) (tokens : List SymbolId) (p : Parser) → p.level.at ≡ 0 → AreShifted rules tokens (found p) p.level.at
shifted_none rules tokens p first node i kernel x n e below moves = absurd (omega (arith, below, first))

pub rules_in : {Base : Type 0} {old new : GraphMeaning Base} → StandsButKernels old new → new.grammar.rules ≡ old.grammar.rules
rules_in stands = ap (λ (g : Grammar). g.rules) stands.grammar

pub sound_in : {Base : Type 0} {old new : GraphMeaning Base} (tokens : List SymbolId) (q : Parser) → StandsButKernels old new
    → IsSoundParser new.grammar.rules tokens q
    → IsSoundParser old.grammar.rules tokens q
sound_in tokens q stands sound = subst (λ rs. IsSoundParser rs tokens q) (rules_in stands) sound

pub stands_then : {Base : Type 0} {old middle new : GraphMeaning Base} → StandsButKernels old middle → StandsButKernels middle new → StandsButKernels old new
stands_then one two = record {
  grammar = two.grammar ∙ one.grammar;
  base = two.base ∙ one.base;
  scans = two.scans ∙ one.scans;
}

module _ {Base : Type 0} (tokens : List SymbolId) (old middle new : GraphMeaning Base) (between after : ℕ) (p q : Parser) (one : StandsButKernels old middle)
    (two : StandsButKernels middle new) where
  pub sound_then : IsStep tokens p q middle new between after → IsSoundParser old.grammar.rules tokens q
  sound_then step = sound_in tokens q (stands_then one two) step.sound

  pub asks_reduced : (first : List (List Item)) (before : ℕ) → KeepsNumbers first p.states.kernels → AsksNew first p.states.kernels old middle before between
      → IsStep tokens p q middle new between after → AsksNew first q.states.kernels old new before after
  asks_reduced first before keeps asks step =
      asks_join first p.states.kernels q.states.kernels old middle new before between after keeps step.grows.kernels asks step.asks

  -- the reductions of a level that was begun are too many
  pub stopped_reducing : {Y : Type 0} (error : ParseError) (r : Result Y ParseError) → IsErrorOf r error → ArePlaced (found p)
      → UnlessParseNoMemory {X = Unit {0}} (Err error) (IsStep tokens p q middle new between after) → IsAboveLimit q error
      → IfErr r (IsStopped old.grammar.rules tokens q)
  stopped_reducing {Y} error r is placed step more =
      stopped_by {Y = Y} {P = IsStep tokens p q middle new between after} {Q = IsStep tokens p q middle new between after}
      old.grammar.rules tokens q error r is sound_then (λ s. s.placed placed) step step more

  -- what was asked for up to there, and for them
  pub asks_reducing : {Y : Type 0} (error : ParseError) (r : Result Y ParseError) → IsErrorOf r error → (first : List (List Item)) (before : ℕ)
      → KeepsNumbers first p.states.kernels → AsksNew first p.states.kernels old middle before between
      → UnlessParseNoMemory {X = Unit {0}} (Err error) (IsStep tokens p q middle new between after)
      → UnlessParseNoMemory r (AsksNew first q.states.kernels old new before after)
  asks_reducing {Y} error r is first before keeps asks step =
      unless_mapped {Y = Y} {P = IsStep tokens p q middle new between after} error r is (asks_reduced first before keeps asks) step

  pub kernels_reducing : {Y : Type 0} (error : ParseError) (r : Result Y ParseError) → IsErrorOf r error → (first : List (List Item))
      → KeepsNumbers first p.states.kernels → UnlessParseNoMemory {X = Unit {0}} (Err error) (IsStep tokens p q middle new between after)
      → UnlessParseNoMemory r (KeepsNumbers first q.states.kernels)
  kernels_reducing {Y} error r is first keeps step =
      unless_mapped {Y = Y} {P = IsStep tokens p q middle new between after} error r is
      (λ s. keeps_on first p.states.kernels q.states.kernels keeps s.grows.kernels) step

  -- the reductions of a level that was begun are made
  pub level_done : IsLevelBegun old.grammar.rules tokens p → (at : ℕ) → p.level.at ≡ at → IsStep tokens p q middle new between after
      → IsWorked middle.grammar.rules (found q) (length q.stacks.links) (length q.stacks.nodes) → IsWithinLimit q
      → AreLevelsDone old.grammar.rules tokens q at
  level_done begun at is step worked within =
      let rs = old.grammar.rules in
      let sound = sound_then step in
      let level : q.level ≡ p.level = step.level in
      let there : q.level.at ≡ p.level.at = ap (λ (l : Level). l.at) level in
      let shifted : AreShifted rs tokens (found p) q.level.at = subst (λ n. AreShifted rs tokens (found p) n) (sym there) begun.shifted in
      let inside : q.level.first_node ≤ length p.stacks.nodes =
      omega (arith, begun.sound.level.nodes_within, ap (λ (l : Level). l.first_node) level) in
      record {
        sound = sound;
        placed = step.placed begun.placed;
        worked = subst (λ r. IsWorked r (found q) (length q.stacks.links) (length q.stacks.nodes)) (rules_in one) worked;
        shifted = shifted_grows rs tokens (found p) (found q) q.level.at q.level.first_node q.level.first_link begun.sound.graph step.grows inside sound.level
            shifted;
        within = within;
        at_is = there ∙ is;
      }

-- ---- one level after the other

-- all levels up to this place are done, and the graph was asked for their states
pub record AreDoneTo {Base : Type 0} (tokens : List Token) (old new : GraphMeaning Base) (before after : ℕ) (p : Parser) (at : ℕ) : Type 0 where
  pub done : AreLevelsDone old.grammar.rules (kinds_of tokens) p at
  pub asks : AsksNew [] p.states.kernels old new before after
  pub stands : StandsButKernels old new
  pub never_back : before ≤ after
  pub inside : at ≤ length tokens

-- what holds by the rules of the graph before it was asked holds by those after it
pub done_in : {Base : Type 0} {old new : GraphMeaning Base} (tokens : List SymbolId) (p : Parser) (at : ℕ) → StandsButKernels old new
    → AreLevelsDone old.grammar.rules tokens p at → AreLevelsDone new.grammar.rules tokens p p.level.at
done_in {old = old} {new = new} tokens p at stands done =
    let here : AreLevelsDone old.grammar.rules tokens p p.level.at = subst (λ n. AreLevelsDone old.grammar.rules tokens p n) (sym done.at_is) done in
    subst (λ rs. AreLevelsDone rs tokens p p.level.at) (sym (rules_in stands)) here

pub done_back : {Base : Type 0} {old new : GraphMeaning Base} (tokens : List SymbolId) (p : Parser) (at : ℕ) → StandsButKernels old new
    → AreLevelsDone new.grammar.rules tokens p at → AreLevelsDone old.grammar.rules tokens p at
done_back tokens p at stands done = subst (λ rs. AreLevelsDone rs tokens p at) (rules_in stands) done

-- the kind of the token that comes next
pub kind_at : (tokens : List Token) (i at : ℕ) (default : Token) → at ≡ i → i < length tokens
    → slice_get (kinds_of tokens) at ≡ Some (get_or tokens i default).kind
kind_at tokens i at default same below =
    let there : slice_get tokens i ≡ Some (get_or tokens i default) = slice_get-get_or tokens i default below in
    let kind : slice_get (kinds_of tokens) i ≡ Some (get_or tokens i default).kind =
    slice_get-map (λ (t : Token). t.kind) tokens i ∙ ap (λ o. option_map (λ (t : Token). t.kind) o) there in
    subst (λ n. slice_get (kinds_of tokens) n ≡ Some (get_or tokens i default).kind) (sym same) kind

module _ {Base : Type 0} (tokens : List Token) (old middle new : GraphMeaning Base) (before between after : ℕ) (p q : Parser) (at : ℕ)
    (so_far : AreDoneTo tokens old middle before between p at) where
  pub asks_then : AsksNew p.states.kernels q.states.kernels middle new between after → KeepsNumbers p.states.kernels q.states.kernels
      → AsksNew [] q.states.kernels old new before after
  asks_then asks keeps =
      asks_join [] p.states.kernels q.states.kernels old middle new before between after (keeps_none p.states.kernels) keeps so_far.asks asks

  pub done_then : AreLevelsDone middle.grammar.rules (kinds_of tokens) q (p.level.at + 1) → AsksNew p.states.kernels q.states.kernels middle new between after
      → KeepsNumbers p.states.kernels q.states.kernels → StandsButKernels middle new → between ≤ after → at < length tokens
      → AreDoneTo tokens old new before after q (at + 1)
  done_then done asks keeps stands later below = record {
    done = subst (λ n. AreLevelsDone old.grammar.rules (kinds_of tokens) q (n + 1)) so_far.done.at_is
        (done_back (kinds_of tokens) q (p.level.at + 1) so_far.stands done);
    asks = asks_then asks keeps;
    stands = stands_then so_far.stands stands;
    never_back = omega (arith, so_far.never_back, later);
    inside = omega (arith, below);
  }

  -- what was asked for where the next level stopped
  pub asks_stopped : {Y : Type 0} (error : ParseError) (r : Result Y ParseError) → IsErrorOf r error
      → UnlessParseNoMemory {X = Unit {0}} (Err error) (AsksNew p.states.kernels q.states.kernels middle new between after)
      → UnlessParseNoMemory {X = Unit {0}} (Err error) (KeepsNumbers p.states.kernels q.states.kernels)
      → UnlessParseNoMemory r (AsksNew [] q.states.kernels old new before after)
  asks_stopped {Y} error r is asks keeps =
      unless_both {Y = Y} {P = AsksNew p.states.kernels q.states.kernels middle new between after} {Q = KeepsNumbers p.states.kernels q.states.kernels} error
      r is
      asks_then asks keeps

-- ---- the parse

module _ {Base : Type 0} (tokens : List Token) (old new : GraphMeaning Base) (before after : ℕ) (q : Parser) where
  pub at_end : AreLevelsDone old.grammar.rules (kinds_of tokens) q (length tokens) → IsAtEnd old.grammar.rules tokens q
  at_end done = record { sound = done.sound; worked = done.worked; shifted = done.shifted; at = done.at_is }

  pub parse_within : AreLevelsDone old.grammar.rules (kinds_of tokens) q (length tokens) → IsWithin old.grammar.rules (kinds_of tokens)
  parse_within done = (
    length q.stacks.links + length q.spans.splits,
    found_size old.grammar.rules tokens q (at_end done),
    done.within.limit,
  )

  pub parse_asks : AreLevelsDone old.grammar.rules (kinds_of tokens) q (length tokens) → AsksNew [] q.states.kernels old new before after
      → AsksStates (kinds_of tokens) old new
  parse_asks done asks =
      asks_all old.grammar.rules (kinds_of tokens) (found q) old new before after refl (is_done old.grammar.rules tokens q (at_end done)) done.placed asks

  pub parse_steps : {Y : Type 0} (error : ParseError) (r : Result Y ParseError) → IsErrorOf r error
      → UnlessParseNoMemory {X = Unit {0}} (Err error) (AsksNew [] q.states.kernels old new before after)
      → UnlessParseNoMemory r (RisesAsCost old new before after)
  parse_steps {Y} error r is asks =
      unless_mapped {Y = Y} {P = AsksNew [] q.states.kernels old new before after} error r is (λ a. a.rises) asks

  pub parse_too_large : {Y : Type 0} (error : ParseError) (r : Result Y ParseError) → IsErrorOf r error
      → IsStopped old.grammar.rules (kinds_of tokens) q error → IfErr r (TellsTooLarge old.grammar.rules (kinds_of tokens))
  parse_too_large {Y} error r is stopped =
      subst (λ z. IfErr {T = Y} z (TellsTooLarge old.grammar.rules (kinds_of tokens))) (sym (is_err_of r error is)) (by error stopped)
    where
      by : (e : ParseError) → IsStopped old.grammar.rules (kinds_of tokens) q e → TellsTooLarge old.grammar.rules (kinds_of tokens) e
      by (TooLarge count) s = (
        s.above.0,
        above old.grammar.rules (kinds_of tokens) (found q) s.sound.numbered s.sound.graph s.sound.spans_below SIZE_LIMIT s.above.1,
      )
      by NoMemory s = tt

  pub parse_asks_some : {Y : Type 0} (error : ParseError) (r : Result Y ParseError) → IsErrorOf r error
      → IsStopped old.grammar.rules (kinds_of tokens) q error → UnlessParseNoMemory {X = Unit {0}} (Err error)
      (AsksNew [] q.states.kernels old new before after)
      → IfTooLarge r (AsksSomeStates (kinds_of tokens) old new)
  parse_asks_some {Y} error r is stopped asks =
      subst (λ z. IfTooLarge {X = Y} z (AsksSomeStates (kinds_of tokens) old new)) (sym (is_err_of r error is)) (by error stopped asks)
    where
      by : (e : ParseError) → IsStopped old.grammar.rules (kinds_of tokens) q e
          → UnlessParseNoMemory {X = Unit {0}} (Err e) (AsksNew [] q.states.kernels old new before after)
          → IfTooLarge {X = Y} (Err e) (AsksSomeStates (kinds_of tokens) old new)
      by (TooLarge count) s a = asks_some old.grammar.rules (kinds_of tokens) (found q) old new before after refl s.sound.graph s.placed a
      by NoMemory s a = tt
