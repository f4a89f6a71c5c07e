-- Steps of a parser, one after the other.
use Rattle.std.proofs.Common.{◌≡◌, ℕ, List, slice_get, Some, refl, sym, ◌∙◌, subst}
use Rattle.forest.specs.declared.symbols.SymbolId.{SymbolId}
use Rattle.live_graph.specs.Meaning.{GraphMeaning}
use Rattle.parser_states.specs.Asked.{AsksNew}
use Rattle.parser_states.proofs.AskedKernels.{asks_none, asks_join}
use Rattle.rekers.specs.declared.parser.Parser.{Parser}
use Rattle.rekers.specs.Found.{found, Grows}
use Rattle.rekers.specs.Sound.{IsSoundParser}
use Rattle.rekers.specs.Steps.{IsStep}
use Rattle.rekers.proofs.Growth.{grows_same, grows_on, node_grows}

module _ {Base : Type 0} (tokens : List SymbolId) where
  -- nothing was done
  pub step_none : (p : Parser) (graph : GraphMeaning Base) (steps : ℕ) → IsSoundParser graph.grammar.rules tokens p → IsStep tokens p p graph graph steps steps
  step_none p graph steps sound = record {
    sound = sound;
    grows = grows_same (found p);
    placed = λ placed. placed;
    level = refl;
    asks = asks_none p.states.kernels graph steps;
  }

  -- a step for which the graph is not asked
  pub step_alone : (p q : Parser) (graph : GraphMeaning Base) (steps : ℕ) → IsSoundParser graph.grammar.rules tokens q → Grows (found p) (found q)
      → q.states ≡ p.states → q.level ≡ p.level → IsStep tokens p q graph graph steps steps
  step_alone p q graph steps sound grows states level = record {
    sound = sound;
    grows = grows;
    placed = λ placed number kernel e.
        let (node, i, is) = placed number kernel (subst (λ ss. slice_get ss.kernels number ≡ Some kernel) states e) in
        (node, i, node_grows (found p) (found q) grows is);
    level = level;
    asks = subst (λ ss. AsksNew p.states.kernels ss.kernels graph graph steps steps) (sym states) (asks_none p.states.kernels graph steps);
  }

  -- a step, and then another one
  pub step_on : (p q r : Parser) (first second third : GraphMeaning Base) (before between after : ℕ) → IsStep tokens p q first second before between
      → IsStep tokens q r second third between after → IsStep tokens p r first third before after
  step_on p q r first second third before between after one two = record {
    sound = two.sound;
    grows = grows_on (found p) (found q) (found r) one.grows two.grows;
    placed = λ placed. two.placed (one.placed placed);
    level = two.level ∙ one.level;
    asks = asks_join p.states.kernels q.states.kernels r.states.kernels first second third before between after one.grows.kernels two.grows.kernels
        one.asks two.asks;
  }
