-- The queue of a level is worked, a node or a link at each turn.
use Rattle.std.proofs.Common.{◌≡◌, ℕ, ◌+◌, ◌-◌, ◌<◌, ◌≤◌, ◌⊎◌, inl, inr, List, Result, Err, length, sym, ◌∙◌, ap, subst, arith}
use Rattle.std.proofs.lemmas.Bool.{cases_lt}
use Rattle.std.proofs.lemmas.Option.{slice_get_within}
use Rattle.forest.specs.declared.symbols.SymbolId.{SymbolId}
use Rattle.edit_log.specs.History.{Grammar}
use Rattle.item_sets.proofs.Chains.{at_below}
use Rattle.live_graph.specs.Meaning.{GraphMeaning}
use Rattle.parser_states.specs.Asked.{StandsButKernels}
use Rattle.parser_states.proofs.AskedKernels.{stands_same, stands_join}
use Rattle.rekers.specs.declared.parser.Parser.{Parser}
use Rattle.rekers.specs.declared.level.Level.{Level}
use Rattle.rekers.specs.declared.queue.Queue.{Queue}
use Rattle.rekers.specs.declared.limits.TheConstants.{SIZE_LIMIT}
use Rattle.rekers.specs.declared.parse_error.ParseError.{ParseError}
use Rattle.rekers.specs.declared.parse_error.ParseError.TheVariants.{TooLarge, NoMemory}
use Rattle.rekers.specs.Answers.{UnlessParseNoMemory}
use Rattle.forest.specs.Numbers.{KeepsNumbers}
use Rattle.rekers.specs.Found.{found}
use Rattle.rekers.specs.Reductions.{IsWorked}
use Rattle.rekers.specs.Sound.{IsSoundParser}
use Rattle.rekers.specs.Steps.{IsStep, IsWithinLimit, GoesOn}
use Rattle.rekers.proofs.Stepping.{step_none, step_on}

-- the empty rules of the nodes before one number are worked, and the trails through the links before another
pub record IsQueued {Base : Type 0} (tokens : List SymbolId) (old new : Parser) (graph graph' : GraphMeaning Base) (before after node link : ℕ) : Type 0 where
  pub step : IsStep tokens old new graph graph' before after
  pub within : IsWithinLimit new
  pub stands : StandsButKernels graph graph'
  pub never_back : before ≤ after
  pub worked : IsWorked graph.grammar.rules (found new) link node
  pub nodes : node ≤ length new.stacks.nodes
  pub links : link ≤ length new.stacks.links
  pub node_of_level : old.level.first_node ≤ node
  pub link_of_level : old.level.first_link ≤ link

-- how many nodes and links may come yet
abbrev pub queue_left : ℕ → ℕ → ℕ
queue_left node link = SIZE_LIMIT + SIZE_LIMIT + 1 - (node + link)

-- each turn leaves fewer
pub fewer_left : (p : Parser) → IsWithinLimit p → (queue next : Queue) → GoesOn p queue next → queue_left next.node next.link < queue_left queue.node queue.link
fewer_left p within queue next on =
    let few = within.few in
    let limit = within.limit in
    let nodes = on.nodes in
    let links = on.links in
    let more = on.one_more in
    omega (arith, few, limit, nodes, links, more)

-- what is not below is the whole
pub whole : {a b : ℕ} → a ≤ b → (a < b → ⊥) → a ≡ b
whole {a} {b} most not = elim (cases_lt a b) [ inl less ↦ absurd (not less) | inr above ↦ omega (arith, most, above) ]

longer : {X : Type 0} (xs ys : List X) → KeepsNumbers xs ys → length xs ≤ length ys
longer xs ys keeps = elim (cases_lt (length ys) (length xs)) [
  | inl less ↦
      let (x, e) = at_below xs (length ys) less in
      absurd (omega (arith, slice_get_within ys (length ys) x (keeps (length ys) x e)))
  | inr most ↦ omega (arith, most)
]

pub none_queued : {Base : Type 0} (tokens : List SymbolId) (p : Parser) (graph : GraphMeaning Base) (steps : ℕ) → IsSoundParser graph.grammar.rules tokens p
    → IsWithinLimit p → IsWorked graph.grammar.rules (found p) p.level.first_link p.level.first_node
    → IsQueued tokens p p graph graph steps steps p.level.first_node p.level.first_link
none_queued tokens p graph steps sound within worked = record {
  step = step_none tokens p graph steps sound;
  within = within;
  stands = stands_same graph;
  never_back = omega arith;
  worked = worked;
  nodes = sound.level.nodes_within;
  links = sound.level.links_within;
  node_of_level = omega arith;
  link_of_level = omega arith;
}

module _ {Base : Type 0} (tokens : List SymbolId) (p q : Parser) (graph graph' : GraphMeaning Base) (before between node link : ℕ)
    (so_far : IsQueued tokens p q graph graph' before between node link) where
  pub link_here : q.level.first_link ≤ link
  link_here = subst (λ (l : Level). l.first_link ≤ link) (sym so_far.step.level) so_far.link_of_level

  -- none is left
  pub queue_done : ((node < length q.stacks.nodes) ⊎ (link < length q.stacks.links) → ⊥)
      → IsWorked graph.grammar.rules (found q) (length q.stacks.links) (length q.stacks.nodes)
  queue_done none =
      subst (λ n. IsWorked graph.grammar.rules (found q) n (length q.stacks.nodes)) (whole so_far.links (λ less. none (inr less)))
      (subst (λ n. IsWorked graph.grammar.rules (found q) link n) (whole so_far.nodes (λ less. none (inl less))) so_far.worked)

  -- the next one is worked
  pub queued_more : (t : Parser) (graph'' : GraphMeaning Base) (after : ℕ) (queue next : Queue) → queue.node ≡ node → queue.link ≡ link → GoesOn q queue next
      → IsStep tokens q t graph' graph'' between after → IsWorked graph'.grammar.rules (found t) next.link next.node → IsWithinLimit t
      → StandsButKernels graph' graph'' → between ≤ after → IsQueued tokens p t graph graph'' before after next.node next.link
  queued_more t graph'' after queue next at_node at_link on step worked within stands never_back = record {
    step = step_on tokens p q t graph graph' graph'' before between after so_far.step step;
    within = within;
    stands = stands_join graph graph' graph'' so_far.stands stands;
    never_back = let n = so_far.never_back in omega (arith, n, never_back);
    worked = subst (λ (gr : Grammar). IsWorked gr.rules (found t) next.link next.node) so_far.stands.grammar worked;
    nodes = let n = on.nodes in omega (arith, n, longer q.stacks.nodes t.stacks.nodes step.grows.nodes);
    links = let n = on.links in omega (arith, n, longer q.stacks.links t.stacks.links step.grows.links);
    node_of_level = let low = so_far.node_of_level in let n = on.node in omega (arith, low, n, at_node);
    link_of_level = let low = so_far.link_of_level in let n = on.link in omega (arith, low, n, at_link);
  }

-- what holds unless memory ran out is passed on with the error, whatever the values are
pub unless_passed : (X : Type 0) {Y P Q : Type 0} (e : ParseError) (r : Result Y ParseError) → ((y : ParseError) × (r ≡ Err y) × (y ≡ e)) → (P → Q)
    → UnlessParseNoMemory {X = X} (Err e) P → UnlessParseNoMemory r Q
unless_passed X {Y} {P} {Q} e r (y, is, same) on holds = subst (λ x. UnlessParseNoMemory {X = Y} x Q) (sym (is ∙ ap Err same)) (by e holds)
  where
    by : (e : ParseError) → UnlessParseNoMemory {X = X} (Err e) P → UnlessParseNoMemory {X = Y} (Err e) Q
    by (TooLarge count) p = on p
    by NoMemory p = tt
