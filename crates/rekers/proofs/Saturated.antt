-- A set of links between states at places that is closed under shifts and reductions has each link and each visited split.
use Rattle.std.proofs.Common.{◌≡◌, ℕ, zero, suc, ◌≤◌, List, [], ◌∷◌, length, drop, refl, ap, arith, Contains, slice_get, Some}
use Rattle.std.proofs.lemmas.Option.{slice_get_within}
use Rattle.forest.specs.declared.symbols.SymbolId.{SymbolId}
use Rattle.forest.specs.declared.rules.RuleId.{RuleId}
use Rattle.forest.specs.declared.rules.Rule.{Rule}
use Rattle.forest.specs.Derivation.{Derives, DerivesAlong, token, by_rule, done, part}
use Rattle.forest.proofs.Derivations.{Derives-le, Along-le}
use Rattle.item_sets.specs.declared.item.Item.{Item}
use Rattle.item_sets.specs.Prefixes.{start_kernel, item_at, HasRight, live, IsNext}
use Rattle.item_sets.specs.Expansions.{InClosure, own, added, InMove, past, HasMove, IsMoveOf}
use Rattle.item_sets.proofs.Chains.{HasOneRight}
use Rattle.rekers.specs.States.{IsStateAt}
use Rattle.rekers.specs.Size.{StateLink, IsLink}
use Rattle.rekers.proofs.Reached.{IsClosedUnderMoves, states_in, one_move}

abbrev pub link_of : List Item → ℕ → SymbolId → List Item → ℕ → StateLink
link_of s i x v j = record { lower = s; from = i; symbol = x; upper = v; to = j }

-- links from one node up to another, by their symbols and the places of their upper ends
pub data IsPath (L : List Item → ℕ → SymbolId → List Item → ℕ → Type 0) : List Item → ℕ → List SymbolId → List ℕ → List Item → ℕ → Type 0 where
  here : {s : List Item} {i : ℕ} → IsPath L s i [] [] s i
  over : {s w v : List Item} {i k j : ℕ} {x : SymbolId} {xs : List SymbolId} {cuts : List ℕ} → L s i x w k → IsPath L w k xs cuts v j
      → IsPath L s i (x ∷ xs) (k ∷ cuts) v j

-- the nodes and the links up to last are closed under shifts and reductions
pub record IsSaturated (rules : List Rule) (tokens : List SymbolId) (last : ℕ) (N : List Item → ℕ → Type 0)
    (L : List Item → ℕ → SymbolId → List Item → ℕ → Type 0) : Type 0 where
  pub begun : N start_kernel 0
  pub ends : (s : List Item) (i : ℕ) (x : SymbolId) (v : List Item) (j : ℕ) → L s i x v j → N v j
  pub moves : (s : List Item) (i : ℕ) (x : SymbolId) (v : List Item) (j : ℕ) → L s i x v j → IsMoveOf rules s x v
  pub shifts : (s : List Item) (i : ℕ) (x : SymbolId) → N s i → slice_get tokens i ≡ Some x → suc i ≤ last → HasMove rules (Contains s) x
      → (v : List Item) × L s i x v (suc i)
  pub reduces : (v : List Item) (j : ℕ) (r : Rule) (u : List Item) (i : ℕ) (cuts : List ℕ) → N v j → j ≤ last → Contains rules r
      → InClosure rules (Contains v) (item_at r.number (length r.right)) → IsPath L u i r.right cuts v j → N u i → HasMove rules (Contains u) r.left
      → (w : List Item) × L u i r.left w j

-- what is behind the dot, and its first symbol
pub drop_next : {X : Type 0} (xs : List X) (d : ℕ) (x : X) (rest : List X) → drop d xs ≡ x ∷ rest → (slice_get xs d ≡ Some x) × (drop (suc d) xs ≡ rest)
drop_next [] zero x rest e = absurd cc
drop_next [] (suc d) x rest e = absurd cc
drop_next (y ∷ ys) zero x rest e = (cc, cc)
drop_next (y ∷ ys) (suc d) x rest e = drop_next ys d x rest e

drop_end : {X : Type 0} (xs : List X) (d : ℕ) → d ≤ length xs → drop d xs ≡ [] → d ≡ length xs
drop_end [] d l e = omega arith
drop_end (y ∷ ys) zero l e = absurd cc
drop_end (y ∷ ys) (suc d) l e = ap suc (drop_end ys d (omega arith) e)

-- a walk from a node along a right side from the dot on
pub record IsWalk (rules : List Rule) (N : List Item → ℕ → Type 0) (L : List Item → ℕ → SymbolId → List Item → ℕ → Type 0) (s : List Item) (i : ℕ)
    (xs : List SymbolId) (cuts : List ℕ) (k : RuleId) (dot : ℕ) (j : ℕ) : Type 0 where
  pub top : List Item
  pub node : N top j
  pub path : IsPath L s i xs cuts top j
  pub finished : InClosure rules (Contains top) (item_at k dot)

pub added_by : {rules : List Rule} {K : Item → Type 0} {r : Rule} {item : Item} → InMove rules K r.left item → Contains rules r
    → InClosure rules K (item_at r.number 0)
added_by (past c n) r = added c n r

module _ (rules : List Rule) (tokens : List SymbolId) (last : ℕ) (N : List Item → ℕ → Type 0) (L : List Item → ℕ → SymbolId → List Item → ℕ → Type 0)
    (closed : IsSaturated rules tokens last N L) where
  mutual
    -- from each node, what is derived has its link
    pub linked : {x : SymbolId} {i j : ℕ} → Derives rules tokens x i j → (s : List Item) → N s i → j ≤ last → HasMove rules (Contains s) x
        → (v : List Item) × L s i x v j
    linked (token {x = x} {i = i} e) s n l m = closed.shifts s i x n e l m
    linked (by_rule {r = r} {i = i} {j = j} {cuts = cuts} c a) s n l m =
        let w : IsWalk rules N L s i r.right cuts r.number (length r.right) j = walk a s n l r.number r.right 0 (live c) refl (omega arith) (added_by m.1 c) in
        closed.reduces w.top j r s i cuts w.node l c w.finished w.path n m

    pub walk : {xs : List SymbolId} {i : ℕ} {cuts : List ℕ} {j : ℕ} → DerivesAlong rules tokens xs i cuts j → (s : List Item) → N s i → j ≤ last
        → (k : RuleId) (right : List SymbolId) (d : ℕ) → HasRight rules k right → drop d right ≡ xs → d ≤ length right
        → InClosure rules (Contains s) (item_at k d) → IsWalk rules N L s i xs cuts k (length right) j
    walk done s n l k right d h e b c =
        let all : d ≡ length right = drop_end right d b e in
        record { top = s; node = n; path = here; finished = rw all at c }
    walk (part {x = x} {xs = xs} {i = i} {k = mid} der rest) s n l k right d h e b c =
        let (at, more) = drop_next right d x xs e in
        let next : IsNext rules (item_at k d) x = record { right = right; has = h; at_dot = at } in
        let (w, link) = linked der s n (omega (arith, Along-le rest)) (_, past c next) in
        let moved : Contains w (item_at k (suc d)) = (closed.moves s i x w mid link).list.whole _ (past c next) in
        let on = walk rest w (closed.ends s i x w mid link) l k right (suc d) h more (slice_get_within right d x at) (own moved) in
        record { top = on.top; node = on.node; path = over link on.path; finished = on.finished }

  -- the nodes are closed under moves, so each state that is reached is a node
  closed_under_moves : IsClosedUnderMoves rules tokens last N
  closed_under_moves = record {
    begun = closed.begun;
    moves = λ s i x j n d l m. let (v, link) = linked d s n l m in (v, closed.moves s i x v j link, closed.ends s i x v j link);
  }

  pub nodes_in : HasOneRight rules → {s : List Item} {i : ℕ} → IsStateAt rules tokens s i → i ≤ last → N s i
  nodes_in numbers state l = states_in rules numbers tokens last N closed_under_moves state l

  -- each link up to last is there
  pub links_in : HasOneRight rules → (link : StateLink) → IsLink rules tokens link → link.to ≤ last → L link.lower link.from link.symbol link.upper link.to
  links_in numbers link is l =
      let n : N link.lower link.from = nodes_in numbers is.reached (omega (arith, Derives-le is.derives)) in
      let (w, there) = linked is.derives link.lower n l is.move.some in
      let same : w ≡ link.upper = one_move (closed.moves link.lower link.from link.symbol w link.to there) is.move in
      rw same at there
