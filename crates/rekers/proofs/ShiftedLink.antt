-- The shift from one node: the node behind its move on the token, and the link between the two.
use Rattle.std.proofs.Common.{◌≡◌, ℕ, ◌+◌, ◌<◌, ◌≤◌, ◌^◌, List, [], ◌∷◌, ◌++◌, length, refl, sym, ◌∙◌, ap, subst, arith, slice_get, Some, length-append}
use Rattle.std.proofs.lemmas.Option.{slice_get_within}
use Rattle.forest.specs.declared.symbols.SymbolId.{SymbolId}
use Rattle.forest.specs.declared.rules.Rule.{Rule}
use Rattle.edit_log.specs.History.{Grammar}
use Rattle.gss.specs.declared.stack_graph.Place.{Place}
use Rattle.gss.specs.declared.stack_graph.Edge.{Edge}
use Rattle.packed_spans.specs.declared.span.TheConstants.{TOKEN_PART}
use Rattle.rekers.specs.declared.level.Level.{Level}
use Rattle.rekers.specs.declared.limits.TheConstants.{SIZE_LIMIT}
use Rattle.rekers.specs.declared.parser.Parser.{Parser}
use Rattle.rekers.specs.Found.{found, Grows}
use Rattle.rekers.specs.Reductions.{IsLinkTo}
use Rattle.rekers.specs.Sound.{IsSoundParser}
use Rattle.rekers.specs.Steps.{IsLinkable, IsUpper, IsUnlinked, IsShift, HasFewNodes, IsWithinLimit}
use Rattle.rekers.proofs.Growth.{node_grows}

limit_is : SIZE_LIMIT ≡ 262144
limit_is = refl

-- a parser within the limit has room for more nodes and links
pub within_room : (p : Parser) → IsWithinLimit p → (length p.stacks.nodes < 2 ^ 30) × (length p.stacks.links < 2 ^ 30)
within_room p within = (omega (arith, within.few, within.limit, limit_is), omega (arith, within.limit, limit_is))

-- the state of a node has a number
pub state_below : (rules : List Rule) (tokens : List SymbolId) (p : Parser) → IsSoundParser rules tokens p → (node : ℕ) (place : Place)
    → slice_get p.stacks.nodes node ≡ Some place → place.state < length p.states.kernels
state_below rules tokens p sound node place e =
    let (kernel, is, reached) = sound.graph.nodes node place e in slice_get_within p.states.kernels place.state kernel is

-- a node and a link more
pub few_after : (p q r : Parser) (edge : Edge) → HasFewNodes p → length q.stacks.nodes ≤ length p.stacks.nodes + 1 → q.stacks.links ≡ p.stacks.links
    → r.stacks.nodes ≡ q.stacks.nodes → r.stacks.links ≡ q.stacks.links ++ edge ∷ [] → HasFewNodes r
few_after p q r edge few count links nodes more =
    omega (arith, few, count, ap length links, ap length nodes, ap length more, length-append q.stacks.links (edge ∷ []))

-- ---- what holds of the node before the states and nodes grew holds behind

module _ (tokens : List SymbolId) (p q : Parser) (G H : Grammar) (grammar : H ≡ G) (grows : Grows (found p) (found q)) (level : q.level ≡ p.level) (node : ℕ)
    (kind : SymbolId) where
  pub shift_on : IsShift (found p) tokens node kind p.level.at → IsShift (found q) tokens node kind q.level.at
  shift_on is = record {
    kernel = is.kernel;
    from = is.from;
    node_is = node_grows (found p) (found q) grows is.node_is;
    next = ap (λ (l : Level). l.at) level ∙ is.next;
    token = is.token;
  }

  pub linkable_after : IsLinkable G.rules tokens (found p) node kind p.level.at → IsLinkable H.rules tokens (found q) node kind q.level.at
  linkable_after is =
      let there : IsLinkable G.rules tokens (found q) node kind p.level.at = record {
        kernel = is.kernel;
        from = is.from;
        node = node_grows (found p) (found q) grows is.node;
        derives = is.derives;
        moves = is.moves;
      } in
      subst (λ (gr : Grammar). IsLinkable gr.rules tokens (found q) node kind q.level.at) (sym grammar)
      (subst (λ (l : Level). IsLinkable G.rules tokens (found q) node kind l.at) (sym level) there)

  pub upper_after : (upper : ℕ) → IsUpper G.rules (found q) p.level.at node kind upper → IsUpper H.rules (found q) q.level.at node kind upper
  upper_after upper is =
      subst (λ (gr : Grammar). IsUpper gr.rules (found q) q.level.at node kind upper) (sym grammar)
      (subst (λ (l : Level). IsUpper G.rules (found q) l.at node kind upper) (sym level) is)

  pub unlinked_after : q.stacks.links ≡ p.stacks.links → IsUnlinked (found p) p.level.first_link node kind → IsUnlinked (found q) q.level.first_link node kind
  unlinked_after links none = λ link (past, edge, e, low, symbol). none link
      (subst (λ (l : Level). l.first_link ≤ link) level past, edge, subst (λ ls. slice_get ls link ≡ Some edge) links e, low, symbol)

  -- a link to the level's place
  pub linked_at : (r : Parser) (link : ℕ) → IsLinkTo (found r) link node kind q.level.at TOKEN_PART → IsLinkTo (found r) link node kind p.level.at TOKEN_PART
  linked_at r link is = subst (λ (l : Level). IsLinkTo (found r) link node kind l.at TOKEN_PART) level is
