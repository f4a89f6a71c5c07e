-- The reductions of a state are one list, and those by empty rules are the ones along no links.
use Rattle.std.proofs.Common.{◌≡◌, ℕ, ◌<◌, List, [], ◌∷◌, drop, get_or, length, refl, sym, ap, subst, arith, Contains, slice_get, Some}
use Rattle.std.proofs.lemmas.Option.{slice_get_within, get_or_from_slice_get}
use Rattle.std.proofs.lemmas.Map.Keys.{Less-from_sorted}
use Rattle.std.specs.Cmp.{IsTotalOrder, nat_cmp_total, on_total}
use Rattle.std.specs.List.Sorted.{IsStrictlySortedBy}
use Rattle.std.specs.declared.cmp.Ordering.TheVariants.{Less}
use Rattle.forest.specs.declared.symbols.SymbolId.{SymbolId}
use Rattle.forest.specs.declared.rules.RuleId.{RuleId}
use Rattle.forest.specs.declared.rules.Rule.{Rule}
use Rattle.forest.proofs.Ascending.{same_list}
use Rattle.edit_log.proofs.PlainLists.{nat_cmp_less}
use Rattle.item_sets.specs.declared.item.Item.{Item}
use Rattle.item_sets.specs.Prefixes.{item_at, live}
use Rattle.item_sets.specs.Expansions.{InClosure}
use Rattle.item_sets.proofs.Numbering.{IsNumbered, one_right}
use Rattle.gss.specs.declared.stack_graph.Edge.{Edge}
use Rattle.parser_states.specs.declared.reduction.Reduction.{Reduction}
use Rattle.parser_states.specs.Reductions.{number_cmp, ListsReductions}
use Rattle.rekers.specs.Found.{Findings, IsNode, IsTrail, here, over}
use Rattle.rekers.specs.Reductions.{IsReducible}
use Rattle.rekers.proofs.Growth.{one_kernel}
use Rattle.rekers.proofs.Walks.{trail_size}

-- ---- lists of reductions

number_total : IsTotalOrder number_cmp
number_total = on_total (λ (r : Reduction). r.rule.0) nat_cmp_total

-- the reductions of a kernel are one list
pub one_listing : (rules : List Rule) (kernel : List Item) (Wanted : ℕ → Type 0) (a b : List Reduction) → ListsReductions rules kernel Wanted a
    → ListsReductions rules kernel Wanted b → a ≡ b
one_listing rules kernel Wanted a b is also = same_list number_cmp number_total a b is.ascends also.ascends
    (λ r c. (also.members r).1 ((is.members r).0 c))
    (λ r c. (is.members r).1 ((also.members r).0 c))

-- an earlier one is by another rule
pub other_rule : (reductions : List Reduction) → IsStrictlySortedBy number_cmp reductions → (n k : ℕ) (r s : Reduction) → n < k
    → slice_get reductions n ≡ Some r → slice_get reductions k ≡ Some s → r.rule ≡ s.rule → ⊥
other_rule reductions ascends n k r s less first second same =
    let low : get_or reductions n r ≡ r = get_or_from_slice_get reductions n r r first in
    let high : get_or reductions k r ≡ s = get_or_from_slice_get reductions k s r second in
    let sorted = Less-from_sorted number_cmp reductions n k r ascends less (slice_get_within reductions k s second) in
    let is : number_cmp r s ≡ Less =
    subst (λ x. number_cmp x s ≡ Less) low (subst (λ y. number_cmp (get_or reductions n r) y ≡ Less) high sorted) in
    let below : r.rule.0 < s.rule.0 = nat_cmp_less r.rule.0 s.rule.0 is in
    let number : r.rule.0 ≡ s.rule.0 = ap (λ (id : RuleId). id.0) same in
    omega (arith, below, number)

-- ---- along no links

none_of : {X : Type 0} (xs : List X) → length xs ≡ 0 → xs ≡ []
none_of [] e = refl
none_of (x ∷ xs) e = absurd (omega (arith, e))

-- no links lead from a node to itself, and have no labels
pub along_none : {links : List Edge} {lower top : ℕ} {trail labels : List ℕ} {xs : List SymbolId} → IsTrail links lower trail xs labels top → trail ≡ []
    → (lower ≡ top) × (labels ≡ [])
along_none here e = (refl, refl)
along_none (over edge on) e = absurd cc

module _ (rules : List Rule) (numbers : IsNumbered rules) (f : Findings) (node at : ℕ) (kernel : List Item) (node_is : IsNode f node kernel at)
    (reductions : List Reduction) (lists : ListsReductions rules kernel (λ size. size ≡ 0) reductions) where
  -- what is listed is a reduction along no links
  pub listed_reducible : (r : Reduction) → Contains reductions r → IsReducible rules f r node [] [] node at
  listed_reducible r c =
      let is = (lists.members r).0 c in
      let same = (one_right rules numbers).one is.rule.number is.finished.0 is.rule.right is.finished.1 (live is.live) in
      let finished : InClosure rules (Contains kernel) (item_at is.rule.number (length is.rule.right)) =
      subst (λ xs. InClosure rules (Contains kernel) (item_at is.rule.number (length xs))) same is.finished.2 in
      let none : is.rule.right ≡ [] = none_of is.rule.right is.wanted in
      record {
        rule = is.rule;
        live = is.live;
        made = is.made;
        upper = kernel;
        top_is = node_is;
        finished = finished;
        within = omega arith;
        along = subst (λ xs. IsTrail f.links node [] (drop 0 xs) [] node) (sym none) here;
        kernel = kernel;
        from = at;
        node_is = node_is;
        dotted = subst (λ n. InClosure rules (Contains kernel) (item_at is.rule.number n)) is.wanted finished;
      }

  -- a reduction along no links is listed
  pub reducible_listed : (r : Reduction) (lower : ℕ) (labels : List ℕ) (to : ℕ) → IsReducible rules f r lower [] labels node to → Contains reductions r
  reducible_listed r lower labels to p =
      let (same, place) = one_kernel p.top_is node_is in
      let finished : InClosure rules (Contains kernel) (item_at p.rule.number (length p.rule.right)) =
      subst (λ items. InClosure rules (Contains items) (item_at p.rule.number (length p.rule.right))) same p.finished in
      (lists.members r).1 (record {
        rule = p.rule;
        live = p.live;
        finished = (p.rule.right, live p.live, finished);
        wanted = sym (trail_size p.along);
        made = p.made;
      })
