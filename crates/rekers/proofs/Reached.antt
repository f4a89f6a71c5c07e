-- The states that are reached are the least set with the start state and, with each state, its moves on what is derived.
use Rattle.std.proofs.Common.{◌≡◌, ℕ, ◌≤◌, List, [], ◌∷◌, ◌++◌, refl, sym, subst, append_assoc, arith, Contains}
use Rattle.std.proofs.lemmas.List.{append-nil}
use Rattle.forest.specs.declared.symbols.SymbolId.{SymbolId}
use Rattle.forest.specs.declared.rules.Rule.{Rule}
use Rattle.forest.specs.Derivation.{Derives, DerivesAlong, done, part}
use Rattle.forest.proofs.Derivations.{Derives-le}
use Rattle.item_sets.specs.declared.item.Item.{Item}
use Rattle.item_sets.specs.Prefixes.{start_item, start_kernel, item_at, first, IsViable, InKernel, IsKernelOf}
use Rattle.item_sets.specs.Expansions.{InMove, past, HasMove, IsMoveOf}
use Rattle.item_sets.proofs.Chains.{HasOneRight, closure_is_valid, viable_is_move}
use Rattle.item_sets.proofs.Kernels.{one_list, start_list}
use Rattle.item_sets.proofs.ExpansionLaws.{closure_of_more, moves_to}
use Rattle.rekers.specs.States.{IsStateAt}

pub move_of_more : {rules : List Rule} {K L : Item → Type 0} {x : SymbolId} {item : Item} → ((it : Item) → K it → L it) → InMove rules K x item
    → InMove rules L x item
move_of_more f (past c n) = past (closure_of_more f c) n

-- a move leads to one kernel
pub one_move : {rules : List Rule} {kernel : List Item} {x : SymbolId} {a b : List Item} → IsMoveOf rules kernel x a → IsMoveOf rules kernel x b → a ≡ b
one_move m n = one_list m.list n.list (λ it. (λ k. k, λ k. k))

-- symbols that derive the tokens one after the other, from the end
data Spelled (rules : List Rule) (tokens : List SymbolId) : List SymbolId → ℕ → Type 0 where
  nothing : Spelled rules tokens [] 0
  next : {g : List SymbolId} {x : SymbolId} {i j : ℕ} → Spelled rules tokens g i → Derives rules tokens x i j → Spelled rules tokens (g ++ x ∷ []) j

spelled_on : {rules : List Rule} {tokens : List SymbolId} {g : List SymbolId} {i : ℕ} {cuts : List ℕ} {j : ℕ} (h : List SymbolId)
    → Spelled rules tokens h i → DerivesAlong rules tokens g i cuts j → Spelled rules tokens (h ++ g) j
spelled_on h s done = rw append-nil s
spelled_on h s (part {x = x} {xs = xs} d a) = rw append_assoc at (spelled_on (h ++ x ∷ []) (next s d) a)

along_last : {rules : List Rule} {tokens : List SymbolId} {g : List SymbolId} {i : ℕ} {cuts : List ℕ} {k : ℕ} {x : SymbolId} {j : ℕ}
    → DerivesAlong rules tokens g i cuts k → Derives rules tokens x k j → DerivesAlong rules tokens (g ++ x ∷ []) i (cuts ++ j ∷ []) j
along_last done d = part d done
along_last (part e a) d = part e (along_last a d)

from_along : {rules : List Rule} {tokens : List SymbolId} {g : List SymbolId} {i : ℕ} {cuts : List ℕ} {j : ℕ} → DerivesAlong rules tokens g i cuts j → i ≡ 0
    → Spelled rules tokens g j
from_along {rules} {tokens} {g} a e = spelled_on [] (subst (λ n. Spelled rules tokens [] n) (sym e) nothing) a

-- a set of states at places with the start state and, with each state, its moves on what is derived
pub record IsClosedUnderMoves (rules : List Rule) (tokens : List SymbolId) (last : ℕ) (N : List Item → ℕ → Type 0) : Type 0 where
  pub begun : N start_kernel 0
  pub moves : (s : List Item) (i : ℕ) (x : SymbolId) (j : ℕ) → N s i → Derives rules tokens x i j → j ≤ last → HasMove rules (Contains s) x
      → (upper : List Item) × IsMoveOf rules s x upper × N upper j

module _ (rules : List Rule) (numbers : HasOneRight rules) where
  viable_from_move : {g : List SymbolId} {x : SymbolId} {item : Item} → InMove rules (InKernel rules g) x item → IsViable rules g
  viable_from_move {g} (past {k = k} {d = d} c n) = (item_at k d, (closure_is_valid rules numbers g (item_at k d)).0 c)

  -- the move of a state that is reached is reached
  pub next_state : (tokens : List SymbolId) {s : List Item} {i : ℕ} {x : SymbolId} {upper : List Item} {j : ℕ} → IsStateAt rules tokens s i
      → Derives rules tokens x i j → IsMoveOf rules s x upper → IsStateAt rules tokens upper j
  next_state tokens {x = x} {upper = upper} state d m =
      let there = moves_to rules numbers state.is_kernel x upper m in
      record { prefix = state.prefix ++ x ∷ []; cuts = _; derives = along_last state.derives d; viable = there.0; is_kernel = there.1 }

  pub first_state : (tokens : List SymbolId) → IsStateAt rules tokens start_kernel 0
  first_state tokens = record { prefix = []; cuts = []; derives = done; viable = (start_item, first {d = 0} (omega arith)); is_kernel = start_list rules }

  -- each kernel that is reached up to last is in a set that is closed so
  kernels_in : (tokens : List SymbolId) (last : ℕ) (N : List Item → ℕ → Type 0) → IsClosedUnderMoves rules tokens last N → {g : List SymbolId} {i : ℕ}
      → Spelled rules tokens g i → i ≤ last → IsViable rules g → (s : List Item) × IsKernelOf rules g s × N s i
  kernels_in tokens last N c nothing l v = (_, start_list rules, c.begun)
  kernels_in tokens last N c (next {g = g} {x = x} {i = i} {j = j} sp d) l v =
      let m : HasMove rules (InKernel rules g) x = (viable_is_move rules numbers g x).0 v in
      let (s, k, n) = kernels_in tokens last N c sp (omega (arith, Derives-le d)) (viable_from_move m.1) in
      let (upper, up, there) = c.moves s i x j n d l (m.0, move_of_more k.whole m.1) in
      (upper, (moves_to rules numbers k x upper up).1, there)

  pub states_in : (tokens : List SymbolId) (last : ℕ) (N : List Item → ℕ → Type 0) → IsClosedUnderMoves rules tokens last N → {s : List Item} {i : ℕ}
      → IsStateAt rules tokens s i → i ≤ last → N s i
  states_in tokens last N c {s} {i} state l =
      let (t, k, n) = kernels_in tokens last N c (from_along state.derives refl) l state.viable in
      let same : t ≡ s = one_list k state.is_kernel (λ it. (λ x. x, λ x. x)) in
      rw same at n
