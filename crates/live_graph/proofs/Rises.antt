-- The cost of a graph rises with the count of steps.
use Rattle.std.proofs.Common.{◌≡◌, inl, inr, ℕ, ◌+◌, List, [], ◌∷◌, ◌++◌, sym, ap, subst, arith}
use Rattle.edit_log.specs.History.{Grammar}
use Rattle.item_sets.specs.declared.item.Item.{Item}
use Rattle.item_sets.specs.Expansions.{IsCost}
use Rattle.isg_states.specs.declared.scan_key.ScanKey.{ScanKey}
use Rattle.isg_states.specs.Expansion.{IsScanCost}
use Rattle.live_graph.specs.Meaning.{GraphMeaning}
use Rattle.live_graph.specs.Cost.{IsSum, IsCostOf, RisesAsCost}
use Rattle.live_graph.specs.Asking.{AsksScan, AsksKernel}
use Rattle.item_sets.proofs.ExpansionLaws.{one_count}
use Rattle.isg_states.proofs.OneExpansion.{one_cost}
use Rattle.live_graph.proofs.Sums.{sum_push, one_sum}

module _ {Key : Type 0} (Costs : Grammar → Key → ℕ → Type 0) where
  -- the sum over the same keys in the same grammar
  same_sum : (g h : Grammar) (old new : List Key) (sum : ℕ) → h ≡ g → new ≡ old → IsSum (Costs g) old sum → IsSum (Costs h) new sum
  same_sum g h old new sum grammar keys is = subst (λ k. IsSum (Costs k) new sum) (sym grammar) (subst (λ list. IsSum (Costs g) list sum) (sym keys) is)

module _ {Base : Type 0} where
  pub scan_rises : (old new : GraphMeaning Base) (key : ScanKey) (before after : ℕ) → AsksScan old key new before after → RisesAsCost old new before after
  scan_rises old new key before after asks = elim asks.asks.works [
    | inl idle ↦ record {
      rise = 0;
      steps = omega (arith, idle.1);
      cost = λ cost is. record {
        scans = is.scans;
        kernels = is.kernels;
        scans_cost = same_sum IsScanCost old.grammar new.grammar old.scans.own new.scans.own is.scans asks.grammar idle.0 is.scans_cost;
        kernels_cost = same_sum (λ g. IsCost g.rules) old.grammar new.grammar old.kernels.own new.kernels.own is.kernels asks.grammar (ap (λ k. k.own)
            asks.kernels) is.kernels_cost;
        sum = omega (arith, is.sum);
      };
    }
    | inr busy ↦ record {
      rise = busy.2.0;
      steps = busy.2.2;
      cost = λ cost is. record {
        scans = is.scans + busy.2.0;
        kernels = is.kernels;
        scans_cost = same_sum IsScanCost old.grammar new.grammar (old.scans.own ++ key ∷ []) new.scans.own (is.scans + busy.2.0) asks.grammar busy.1
            (sum_push (IsScanCost old.grammar) old.scans.own key is.scans busy.2.0 is.scans_cost busy.2.1);
        kernels_cost = same_sum (λ g. IsCost g.rules) old.grammar new.grammar old.kernels.own new.kernels.own is.kernels asks.grammar (ap (λ k. k.own)
            asks.kernels) is.kernels_cost;
        sum = omega (arith, is.sum);
      };
    }
  ]

  pub kernel_rises : (old new : GraphMeaning Base) (key : List Item) (before after : ℕ) → AsksKernel old key new before after → RisesAsCost old new before after
  kernel_rises old new key before after asks = elim asks.asks.works [
    | inl idle ↦ record {
      rise = 0;
      steps = omega (arith, idle.1);
      cost = λ cost is. record {
        scans = is.scans;
        kernels = is.kernels;
        scans_cost = same_sum IsScanCost old.grammar new.grammar old.scans.own new.scans.own is.scans asks.grammar (ap (λ k. k.own) asks.scans) is.scans_cost;
        kernels_cost = same_sum (λ g. IsCost g.rules) old.grammar new.grammar old.kernels.own new.kernels.own is.kernels asks.grammar idle.0 is.kernels_cost;
        sum = omega (arith, is.sum);
      };
    }
    | inr busy ↦ record {
      rise = busy.2.0;
      steps = busy.2.2;
      cost = λ cost is. record {
        scans = is.scans;
        kernels = is.kernels + busy.2.0;
        scans_cost = same_sum IsScanCost old.grammar new.grammar old.scans.own new.scans.own is.scans asks.grammar (ap (λ k. k.own) asks.scans) is.scans_cost;
        kernels_cost = same_sum (λ g. IsCost g.rules) old.grammar new.grammar (old.kernels.own ++ key ∷ []) new.kernels.own (is.kernels + busy.2.0)
            asks.grammar busy.1
            (sum_push (IsCost old.grammar.rules) old.kernels.own key is.kernels busy.2.0 is.kernels_cost busy.2.1);
        sum = omega (arith, is.sum);
      };
    }
  ]

  -- nothing rose
  pub rise_none : (graph : GraphMeaning Base) (steps : ℕ) → RisesAsCost graph graph steps steps
  rise_none graph steps = record {
    rise = 0;
    steps = omega arith;
    cost = λ cost is. record {
      scans = is.scans;
      kernels = is.kernels;
      scans_cost =
          is.scans_cost;
      kernels_cost = is.kernels_cost;
      sum = omega (arith, is.sum);
    };
  }

  pub rise_join : (old middle new : GraphMeaning Base) (before between after : ℕ) → RisesAsCost old middle before between
      → RisesAsCost middle new between after → RisesAsCost old new before after
  rise_join old middle new before between after first second = record {
    rise = first.rise + second.rise;
    steps = omega (arith, first.steps, second.steps);
    cost = λ cost is. subst (IsCostOf new) (omega arith) (second.cost (cost + first.rise) (first.cost cost is));
  }

  pub one_cost_of : (graph : GraphMeaning Base) (one other : ℕ) → IsCostOf graph one → IsCostOf graph other → one ≡ other
  one_cost_of graph one other is that = omega (
    arith,
    is.sum,
    that.sum,
    one_sum (IsScanCost graph.grammar) (one_cost graph.grammar) graph.scans.own is.scans that.scans is.scans_cost that.scans_cost,
    one_sum (IsCost graph.grammar.rules) (one_count graph.grammar.rules) graph.kernels.own is.kernels that.kernels is.kernels_cost that.kernels_cost,
  )
