-- One rule more: an expansion differs exactly where the kernel moves on the rule's left side.
use Rattle.std.proofs.Common.{◌≡◌, ◌⊎◌, ◌↔◌, inl, inr, List, [], ◌∷◌, refl, sym, subst, ap, Contains}
use Rattle.forest.specs.declared.symbols.SymbolId.{SymbolId}
use Rattle.forest.specs.declared.rules.RuleId.{RuleId}
use Rattle.forest.specs.declared.rules.Rule.{Rule}
use Rattle.item_sets.specs.declared.item.Item.{Item}
use Rattle.item_sets.specs.Prefixes.{rule_zero, item_at, HasRight, whole, live, IsNext}
use Rattle.item_sets.specs.Expansions.{InClosure, own, added, InMove, past, HasMove, IsReduction}

-- each number names one rule, and 0 names none
pub record IsNumbered (rules : List Rule) : Type 0 where
  pub same : (a b : Rule) → Contains rules a → Contains rules b → a.number ≡ b.number → a ≡ b
  pub some : (a : Rule) → Contains rules a → a.number ≡ rule_zero → ⊥

one_by_number : {rules : List Rule} {k l : RuleId} {a b : List SymbolId} → IsNumbered rules → HasRight rules k a → HasRight rules l b → k ≡ l → a ≡ b
one_by_number n whole whole e = refl
one_by_number n whole (live {r = r} c) e = absurd (n.some r c (sym e))
one_by_number n (live {r = r} c) whole e = absurd (n.some r c e)
one_by_number n (live {r = r} c) (live {r = s} d) e = ap (λ (q : Rule). q.right) (n.same r s c d e)

pub one_right : {rules : List Rule} {k : RuleId} {a b : List SymbolId} → IsNumbered rules → HasRight rules k a → HasRight rules k b → a ≡ b
one_right n h i = one_by_number n h i refl

-- more has the rules of less and r, which is not among them
pub record IsWith (less : List Rule) (r : Rule) (more : List Rule) : Type 0 where
  pub numbered : IsNumbered more
  pub has : Contains more r
  pub kept : (q : Rule) → Contains less q → Contains more q
  pub only : (q : Rule) → Contains more q → Contains less q ⊎ (q ≡ r)
  pub new : Contains less r → ⊥

-- the same moves and the same reductions
pub record IsSame (a b : List Rule) (K : Item → Type 0) : Type 0 where
  pub moves : (x : SymbolId) (item : Item) → InMove a K x item ↔ InMove b K x item
  pub reductions : (k : RuleId) → IsReduction a K k ↔ IsReduction b K k

module _ (less : List Rule) (r : Rule) (more : List Rule) (w : IsWith less r more) where
  pub right_kept : {k : RuleId} {right : List SymbolId} → HasRight less k right → HasRight more k right
  right_kept whole = whole
  right_kept (live {r = q} c) = live (w.kept q c)

  -- what has another number has a right side without r too
  pub right_back : {k : RuleId} {right : List SymbolId} → HasRight more k right → (k ≡ r.number → ⊥) → HasRight less k right
  right_back whole other = whole
  right_back (live {r = q} c) other = elim (w.only q c) [ inl d ↦ live d | inr e ↦ absurd (other (ap (λ (p : Rule). p.number) e)) ]

  -- the number of r means nothing without r
  pub unnamed : {k : RuleId} {right : List SymbolId} → HasRight less k right → k ≡ r.number → ⊥
  unnamed whole e = w.numbered.some r w.has (sym e)
  unnamed (live {r = q} c) e = w.new (subst (λ (p : Rule). Contains less p) (w.numbered.same q r (w.kept q c) w.has e) c)

module _ (less : List Rule) (r : Rule) (more : List Rule) (w : IsWith less r more) (K : Item → Type 0)
    (named : (item : Item) → K item → (right : List SymbolId) × HasRight less item.rule right) where
  next_kept : {item : Item} {x : SymbolId} → IsNext less item x → IsNext more item x
  next_kept n = record { right = n.right; has = right_kept less r more w n.has; at_dot = n.at_dot }

  closure_kept : {item : Item} → InClosure less K item → InClosure more K item
  closure_kept (own k) = own k
  closure_kept (added {r = q} c n m) = added (closure_kept c) (next_kept n) (w.kept q m)

  closure_named : {item : Item} → InClosure less K item → (right : List SymbolId) × HasRight less item.rule right
  closure_named (own {item = item} k) = named item k
  closure_named (added {r = q} c n m) = (q.right, live m)

  -- what a known number means is the same in both
  next_back : {item : Item} {x : SymbolId} → InClosure less K item → IsNext more item x → IsNext less item x
  next_back {item} {x} c n =
      let (right, h) = closure_named c in
      let same : n.right ≡ right = one_right w.numbered n.has (right_kept less r more w h) in
      record { right = right; has = h; at_dot = rw same at n.at_dot }

  closure_back : {item : Item} → InClosure more K item → InClosure less K item ⊎ HasMove less K r.left
  closure_back (own k) = inl (own k)
  closure_back (added {before = before} {r = q} c n m) = elim (closure_back c) [
    | inr h ↦ inr h
    | inl d ↦ elim (w.only q m) [
      | inl old ↦ inl (added d (next_back d n) old)
      | inr e ↦ inr (_, past d (subst (λ (p : Rule). IsNext less before p.left) e (next_back d n)))
    ]
  ]

  pub same_unless_move : (HasMove less K r.left → ⊥) → IsSame less more K
  same_unless_move none = record {
    moves = λ x item. (there x item, back x item);
    reductions = λ k. (
      λ d. (d.0, right_kept less r more w d.1, closure_kept d.2),
      λ d. let c = back_closure _ d.2 in let (right, h) = closure_named c in
          let same : d.0 ≡ right = one_right w.numbered d.1 (right_kept less r more w h) in
          (d.0, subst (λ z. HasRight less k z) (sym same) h, c),
    );
  }
    where
      back_closure : (item : Item) → InClosure more K item → InClosure less K item
      back_closure item c = elim (closure_back c) [ inl d ↦ d | inr h ↦ absurd (none h) ]

      there : (x : SymbolId) (item : Item) → InMove less K x item → InMove more K x item
      there x item (past c n) = past (closure_kept c) (next_kept n)

      back : (x : SymbolId) (item : Item) → InMove more K x item → InMove less K x item
      back x item (past {k = k} {d = d} c n) = let c' = back_closure (item_at k d) c in past c' (next_back c' n)

  added_new : {item : Item} → InMove less K r.left item → InClosure more K (item_at r.number 0)
  added_new (past c n) = added (closure_kept c) (next_kept n) w.has

  unmoved : {x : SymbolId} {item : Item} → InMove less K x item → item.rule ≡ r.number → ⊥
  unmoved (past c n) e = unnamed less r more w n.has e

  pub differs_at_move : HasMove less K r.left → IsSame less more K → ⊥
  differs_at_move m same = go r.right refl
    where
      c : InClosure more K (item_at r.number 0)
      c = added_new m.1

      go : (right : List SymbolId) → r.right ≡ right → ⊥
      go [] e =
          let d : IsReduction more K r.number = (r.right, live w.has, rw e c) in
          let f = (same.reductions r.number).1 d in unnamed less r more w f.1 refl
      go (x ∷ xs) e =
          let n : IsNext more (item_at r.number 0) x = record { right = r.right; has = live w.has; at_dot = rw e } in
          unmoved ((same.moves x (item_at r.number 1)).1 (past c n)) refl

  -- a move on the left side is one in both
  pub move_on_left : HasMove less K r.left → HasMove more K r.left
  move_on_left (item, past c n) = (_, past (closure_kept c) (next_kept n))

  pub move_on_left_back : HasMove more K r.left → HasMove less K r.left
  move_on_left_back (item, past c n) = elim (closure_back c) [ inl d ↦ (_, past d (next_back d n)) | inr h ↦ h ]
