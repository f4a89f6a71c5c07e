-- A path of links down from a node by a rule that is finished there is a visited split, and leads to a link.
use Rattle.std.proofs.Common.{◌≡◌, ℕ, zero, suc, ◌+◌, ◌<◌, inl, inr, List, [], ◌∷◌, length, drop, refl, sym, ◌∙◌, ap, subst, arith, Contains, slice_get, Some}
use Rattle.forest.specs.declared.symbols.SymbolId.{SymbolId}
use Rattle.forest.specs.declared.rules.RuleId.{RuleId}
use Rattle.forest.specs.declared.rules.Rule.{Rule}
use Rattle.forest.specs.Derivation.{DerivesAlong, by_rule, done, part}
use Rattle.item_sets.specs.declared.item.Item.{Item}
use Rattle.item_sets.specs.Prefixes.{item_at, HasRight, live, IsNext}
use Rattle.item_sets.specs.Expansions.{InClosure, own, added, InMove, past, HasMove, IsMoveOf}
use Rattle.item_sets.proofs.Numbering.{IsNumbered}
use Rattle.rekers.specs.States.{IsStateAt}
use Rattle.rekers.specs.Size.{IsLink, IsVisited}
use Rattle.rekers.proofs.Saturated.{IsPath, here, over, link_of}

-- an item whose dot has moved is the set's own
pub own_moved : {rules : List Rule} {K : Item → Type 0} {item : Item} → InClosure rules K item → 0 < item.dot → K item
own_moved (own k) l = k
own_moved (added c n r) l = absurd (omega arith)

pub before_dot : {rules : List Rule} {K : Item → Type 0} {x : SymbolId} {item : Item} → InMove rules K x item → (d : ℕ) → item.dot ≡ suc d
    → InClosure rules K (item_at item.rule d) × IsNext rules (item_at item.rule d) x
before_dot {rules} {K} {x} (past {k = k} {d = c} a n) d e =
    let same : c ≡ d = omega arith in subst (λ z. InClosure rules K (item_at k z) × IsNext rules (item_at k z) x) same (a, n)

pub drop_at : {X : Type 0} (xs : List X) (d : ℕ) (x : X) → slice_get xs d ≡ Some x → drop d xs ≡ x ∷ drop (suc d) xs
drop_at [] d x e = absurd cc
drop_at (y ∷ ys) zero x e = cc
drop_at (y ∷ ys) (suc d) x e = drop_at ys d x e

-- from a state's closure, a rule with the dot at 0 was added for its left side
pub move_on_left : {rules : List Rule} {tokens : List SymbolId} → IsNumbered rules → (s : List Item) (i : ℕ) (r : Rule) → IsStateAt rules tokens s i
    → Contains rules r → {item : Item} → InClosure rules (Contains s) item → item ≡ item_at r.number 0 → HasMove rules (Contains s) r.left
move_on_left numbers s i r state c (own {item = item} k) e =
    let dot : item.dot ≡ 0 = ap (λ (it : Item). it.dot) e in
    elim (state.is_kernel.within item k).1 [
      | inl l ↦ absurd (omega (arith, l, dot))
      | inr z ↦ absurd (numbers.some r c (ap (λ (it : Item). it.rule) (sym e ∙ z.1)))
    ]
move_on_left {rules} numbers s i r state c (added {before = before} {r = q} a n b) e =
    let same : q ≡ r = numbers.same q r b c (ap (λ (it : Item). it.rule) e) in
    let next : IsNext rules before r.left = subst (λ (p : Rule). IsNext rules before p.left) same n in
    (item_at before.rule (suc before.dot), past a next)

module _ (rules : List Rule) (tokens : List SymbolId) (L : List Item → ℕ → SymbolId → List Item → ℕ → Type 0)
    (sound : (s : List Item) (i : ℕ) (x : SymbolId) (v : List Item) (j : ℕ) → L s i x v j → IsLink rules tokens (link_of s i x v j))
    (numbers : IsNumbered rules) where
  -- down a path the dot goes back
  down : {u : List Item} {i : ℕ} {xs : List SymbolId} {cuts : List ℕ} {v : List Item} {j : ℕ} → IsPath L u i xs cuts v j → (k : RuleId) (right : List SymbolId)
      (d top : ℕ) → top ≡ d + length xs → HasRight rules k right → InClosure rules (Contains v) (item_at k top)
      → InClosure rules (Contains u) (item_at k d) × DerivesAlong rules tokens xs i cuts j
  down {u} here k right d top e h c =
      let same : top ≡ d = omega arith in
      (subst (λ z. InClosure rules (Contains u) (item_at k z)) same c, done)
  down (over {s = s} {w = w} {i = i} {k = mid} {x = x} link path) k right d top e h c =
      let is : IsLink rules tokens (link_of s i x w mid) = sound s i x w mid link in
      let above = down path k right (suc d) top (omega arith) h c in
      let back = before_dot (is.move.list.within (item_at k (suc d)) (own_moved above.0 (omega arith))) d refl in
      (back.0, part is.derives above.1)

  -- what a reduction adds is a link, and its path is a visited split
  pub reduction : (v : List Item) (j : ℕ) (r : Rule) (u : List Item) (i : ℕ) (cuts : List ℕ) → IsStateAt rules tokens u i → Contains rules r
      → InClosure rules (Contains v) (item_at r.number (length r.right)) → IsPath L u i r.right cuts v j
      → IsVisited rules tokens (record { rule = r.number; cuts = i ∷ cuts }) × HasMove rules (Contains u) r.left
      × ((w : List Item) → IsMoveOf rules u r.left w → IsLink rules tokens (link_of u i r.left w j))
  reduction v j r u i cuts state c a path =
      let (begun, along) = down path r.number r.right 0 (length r.right) (omega arith) (live c) a in (
        record { rule = r; live = c; number = refl; from = i; ends = cuts; cuts = refl; to = j; along = along; state = u; reached = state; begun = begun },
        move_on_left numbers u i r state c begun refl,
        λ w m. record { reached = state; derives = by_rule c along; move = m },
      )
