-- Sums of costs.
use Rattle.std.proofs.Common.{◌≡◌, ℕ, ◌+◌, List, [], ◌∷◌, ◌++◌, refl, sym, ◌∙◌, arith}
use Rattle.live_graph.specs.Cost.{IsSum}

module _ {Key : Type 0} (Costs : Key → ℕ → Type 0) where
  -- one key more adds its cost
  pub sum_push : (keys : List Key) (key : Key) (sum cost : ℕ) → IsSum Costs keys sum → Costs key cost → IsSum Costs (keys ++ key ∷ []) (sum + cost)
  sum_push [] key sum cost is costs = (cost, 0, costs, refl, omega (arith, is))
  sum_push (first ∷ keys) key sum cost is costs = (is.0, is.1 + cost, is.2, sum_push keys key is.1 cost is.3 costs, omega (arith, is.4))

  -- keys that have one cost each have one sum
  pub one_sum : ((key : Key) (one other : ℕ) → Costs key one → Costs key other → one ≡ other) → (keys : List Key) (one other : ℕ) → IsSum Costs keys one
      → IsSum Costs keys other → one ≡ other
  one_sum unique [] one other is that = is ∙ sym that
  one_sum unique (first ∷ keys) one other is that =
      let heads = unique first is.0 that.0 is.2 that.2 in
      let tails = one_sum unique keys is.1 that.1 is.3 that.3 in
      omega (arith, is.4, that.4, heads, tails)
