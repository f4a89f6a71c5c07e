-- Chains step by step. The closure of the kernel of g has the last items of the chains with string g, and the kernel of a
-- longer prefix is the move of the kernel.
use Rattle.std.proofs.Common.{◌≡◌, ℕ, zero, suc, ◌<◌, ◌≤◌, ◌↔◌, inl, inr, List, [], ◌∷◌, ◌++◌, length, take, refl, ap, subst, append_assoc, arith, Contains}
use Rattle.std.proofs.Common.{slice_get, Some}
use Rattle.std.proofs.lemmas.List.{append-nil}
use Rattle.std.proofs.lemmas.Option.{slice_get_within}
use Rattle.forest.specs.declared.symbols.SymbolId.{SymbolId}
use Rattle.forest.specs.declared.symbols.TheConstants.{START}
use Rattle.forest.specs.declared.rules.RuleId.{RuleId}
use Rattle.forest.specs.declared.rules.Rule.{Rule}
use Rattle.item_sets.specs.declared.item.Item.{Item}
use Rattle.item_sets.specs.Prefixes.{rule_zero, item_at, HasRight, whole, live, IsNext, EndsChain, first, later, IsViable, InKernel}
use Rattle.item_sets.specs.Expansions.{InClosure, own, added, InMove, past, HasMove}

-- the numbers tell the right sides
pub record HasOneRight (rules : List Rule) : Type 0 where
  pub one : (k : RuleId) (a b : List SymbolId) → HasRight rules k a → HasRight rules k b → a ≡ b

-- one symbol more of a prefix
pub take_next : {X : Type 0} (xs : List X) (d : ℕ) (x : X) → slice_get xs d ≡ Some x → take (suc d) xs ≡ take d xs ++ x ∷ []
take_next [] d x e = cc
take_next (y ∷ ys) zero x e = let same : y ≡ x = cc in ap (λ z. z ∷ []) same
take_next (y ∷ ys) (suc d) x e = ap (λ zs. y ∷ zs) (take_next ys d x e)

pub snoc_last : {X : Type 0} (xs ys : List X) (x y : X) → xs ++ x ∷ [] ≡ ys ++ y ∷ [] → (xs ≡ ys) × (x ≡ y)
snoc_last [] [] x y e = (refl, cc)
snoc_last [] (b ∷ []) x y e = absurd cc
snoc_last [] (b ∷ c ∷ ys) x y e = absurd cc
snoc_last (a ∷ []) [] x y e = absurd cc
snoc_last (a ∷ c ∷ xs) [] x y e = absurd cc
snoc_last (a ∷ xs) (b ∷ ys) x y e =
    let tails : xs ++ x ∷ [] ≡ ys ++ y ∷ [] = cc in
    let heads : a ≡ b = cc in
    let rest : (xs ≡ ys) × (x ≡ y) = snoc_last xs ys x y tails in
    (cc (heads, rest.0), rest.1)

pub snoc_some : {X : Type 0} (xs : List X) (x : X) → xs ++ x ∷ [] ≡ [] → ⊥
snoc_some [] x e = cc
snoc_some (a ∷ xs) x e = cc

-- the same items step by step: a dot moves past one symbol, or a rule is added
pub data Steps (rules : List Rule) : List SymbolId → Item → Type 0 where
  begin : Steps rules [] (item_at rule_zero 0)
  shift : {g : List SymbolId} {k : RuleId} {d : ℕ} {x : SymbolId} → Steps rules g (item_at k d) → IsNext rules (item_at k d) x
      → Steps rules (g ++ x ∷ []) (item_at k (suc d))
  predict : {g : List SymbolId} {before : Item} {r : Rule} → Steps rules g before → IsNext rules before r.left → Contains rules r
      → Steps rules g (item_at r.number 0)

-- below the length there is an element
pub at_below : {X : Type 0} (xs : List X) (d : ℕ) → d < length xs → (x : X) × (slice_get xs d ≡ Some x)
at_below [] d l = absurd (omega arith)
at_below (y ∷ ys) zero l = (y, refl)
at_below (y ∷ ys) (suc d) l = at_below ys d (omega arith)

shift_all : (rules : List Rule) (g : List SymbolId) (k : RuleId) (right : List SymbolId) (d : ℕ) → Steps rules g (item_at k 0) → HasRight rules k right
    → d ≤ length right → Steps rules (g ++ take d right) (item_at k d)
shift_all rules g k right zero s h l = rw append-nil s
shift_all rules g k right (suc d) s h l =
    let before : Steps rules (g ++ take d right) (item_at k d) = shift_all rules g k right d s h (omega arith) in
    let (x, e) = at_below right d l in
    rw (take_next right d x e, ← append_assoc) (shift before (record { right = right; has = h; at_dot = e }))

pub to_steps : {rules : List Rule} {g : List SymbolId} {item : Item} → EndsChain rules g item → Steps rules g item
to_steps (first {d = zero} l) = begin
to_steps (first {d = suc zero} l) = shift {g = []} begin (record { right = START ∷ []; has = whole; at_dot = refl })
to_steps (first {d = suc (suc d)} l) = absurd (omega arith)
to_steps {rules} (later {g = g} {r = r} {d = d} before next c l) = shift_all rules g r.number r.right d (predict (to_steps before) next c) (live c) l

module _ (rules : List Rule) (numbers : HasOneRight rules) where
  extend : {g : List SymbolId} {item : Item} {x : SymbolId} → EndsChain rules g item → IsNext rules item x
      → EndsChain rules (g ++ x ∷ []) (item_at item.rule (suc item.dot))
  extend {x = x} (first {d = zero} l) next =
      let same : next.right ≡ START ∷ [] = numbers.one rule_zero _ _ next.has whole in
      let e : slice_get (START ∷ []) 0 ≡ Some x = rw same at next.at_dot in
      let y : START ≡ x = cc in
      subst (λ y. EndsChain rules (y ∷ []) (item_at rule_zero 1)) y (first {d = 1} (omega arith))
  extend {x = x} (first {d = suc d} l) next =
      let same : next.right ≡ START ∷ [] = numbers.one rule_zero _ _ next.has whole in
      let e : slice_get (START ∷ []) (suc d) ≡ Some x = rw same at next.at_dot in
      absurd cc
  extend {x = x} (later {g = g} {r = r} {d = d} before n c l) next =
      let same : next.right ≡ r.right = numbers.one r.number _ _ next.has (live c) in
      let e : slice_get r.right d ≡ Some x = rw same at next.at_dot in
      let longer : suc d ≤ length r.right = slice_get_within r.right d x e in
      rw (append_assoc, ← take_next r.right d x e) (later {d = suc d} before n c longer)

  pub from_steps : {g : List SymbolId} {item : Item} → Steps rules g item → EndsChain rules g item
  from_steps begin = first {d = 0} (omega arith)
  from_steps (shift s n) = extend (from_steps s) n
  from_steps (predict {g = g} {r = r} s n c) = rw append-nil at (later {d = 0} (from_steps s) n c (omega arith))

  -- the closure of the kernel of g has the last items of the chains with string g
  closure_of_steps : {g : List SymbolId} {item : Item} → Steps rules g item → InClosure rules (InKernel rules g) item
  closure_of_steps begin = own (first {d = 0} (omega arith), inr (refl, refl))
  closure_of_steps (shift s n) = own (extend (from_steps s) n, inl (omega arith))
  closure_of_steps (predict s n c) = added (closure_of_steps s) n c

  steps_of_closure : {g : List SymbolId} {item : Item} → InClosure rules (InKernel rules g) item → Steps rules g item
  steps_of_closure (own k) = to_steps k.0
  steps_of_closure (added c n r) = predict (steps_of_closure c) n r

  pub closure_is_valid : (g : List SymbolId) (item : Item) → InClosure rules (InKernel rules g) item ↔ EndsChain rules g item
  closure_is_valid g item = (λ c. from_steps (steps_of_closure c), λ v. closure_of_steps (to_steps v))

  -- the kernel of a longer string is the move of the kernel
  move_of_kernel : {h : List SymbolId} {item : Item} (g : List SymbolId) (x : SymbolId) → Steps rules h item → h ≡ g ++ x ∷ [] → 0 < item.dot
      → InMove rules (InKernel rules g) x item
  move_of_kernel g x begin e l = absurd (omega arith)
  move_of_kernel g x (shift {g = g'} {k = k} {d = d} {x = x'} s n) e l =
      let both : (g' ≡ g) × (x' ≡ x) = snoc_last g' g x' x e in
      let c : InClosure rules (InKernel rules g) (item_at k d) = rw both.0 at (closure_of_steps s) in
      past c (rw both.1 at n)
  move_of_kernel g x (predict s n c) e l = absurd (omega arith)

  kernel_of_move : {g : List SymbolId} {x : SymbolId} {item : Item} → InMove rules (InKernel rules g) x item → InKernel rules (g ++ x ∷ []) item
  kernel_of_move (past c n) = (from_steps (shift (steps_of_closure c) n), inl (omega arith))

  pub kernel_is_move : (g : List SymbolId) (x : SymbolId) (item : Item) → InKernel rules (g ++ x ∷ []) item ↔ InMove rules (InKernel rules g) x item
  kernel_is_move g x item = (there, back)
    where
      there : InKernel rules (g ++ x ∷ []) item → InMove rules (InKernel rules g) x item
      there k = elim k.1 [ inl l ↦ move_of_kernel g x (to_steps k.0) refl l | inr e ↦ absurd (snoc_some g x e.0) ]

      back : InMove rules (InKernel rules g) x item → InKernel rules (g ++ x ∷ []) item
      back m = kernel_of_move m

  pub kernel_nonempty : {g : List SymbolId} {item : Item} → Steps rules g item → (kernel_item : Item) × InKernel rules g kernel_item
  kernel_nonempty begin = (_, (first {d = 0} (omega arith), inr (refl, refl)))
  kernel_nonempty (shift s n) = (_, (extend (from_steps s) n, inl (omega arith)))
  kernel_nonempty (predict s n c) = kernel_nonempty s

  pub viable_is_move : (g : List SymbolId) (x : SymbolId) → IsViable rules (g ++ x ∷ []) ↔ HasMove rules (InKernel rules g) x
  viable_is_move g x = (
    λ v. let (item, k) = kernel_nonempty (to_steps v.1) in (item, (kernel_is_move g x item).0 k),
    λ m. (m.0, ((kernel_is_move g x m.0).1 m.1).0),
  )
