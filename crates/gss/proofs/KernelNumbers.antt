-- Kernels by numbers, and nodes by the numbers of their kernels.
use Rattle.std.proofs.Common.{◌≡◌, inl, inr, ℕ, zero, suc, ◌<◌, Bool, false, List, [], ◌∷◌, ◌++◌, length, get_or, position, Option}
use Rattle.std.proofs.Common.{None, Some, Result, Ok, Err, OnErr}
use Rattle.std.proofs.Common.{is_some, slice_get, Contains, refl, sym, ap, ◌∙◌, subst, arith}
use Rattle.std.specs.Prelude.{if◌then◌else◌, nat_eq}
use Rattle.std.specs.Bool.{Decides}
use Rattle.std.specs.Cmp.{unsigned_Decides}
use Rattle.std.specs.Cmp.Lexicographic.{pointwise}
use Rattle.std.specs.List.{list_any}
use Rattle.std.proofs.lemmas.Bool.{and_parts, and_from, or_parts, both_ways}
use Rattle.std.proofs.lemmas.List.{map-append}
use Rattle.std.proofs.lemmas.List.Quantifiers.{position-Some}
use Rattle.std.proofs.lemmas.Option.{slice_get_within, slice_get-get_or, get_or_from_slice_get, same_Some}
use Rattle.std.proofs.lemmas.Slice.Eq.{slice_eq-Decides}
use Rattle.indexmap.specs.IndexSet.{insert_key}
use Rattle.edit_log.proofs.PlainLists.{contains_at}
use Rattle.forest.specs.declared.rules.RuleId.{RuleId}
use Rattle.item_sets.specs.declared.item.Item.{Item}
use Rattle.item_sets.specs.Orders.{item_eq}
use Rattle.item_sets.specs.Prefixes.{item_at}
use Rattle.gss.specs.declared.stack_graph.Place.{Place}
use Rattle.gss.specs.PlaceGraphs.{HasNode, place_with}
use Rattle.gss.specs.KernelGraphs.{KernelPlace, kernel_at, IsThere}
use Rattle.forest.specs.Numbers.{KeepsNumbers}
use Rattle.gss.specs.Views.{kernel_place, nodes_in, AreKernelsDistinct, AreNumbered}
use Rattle.gss.proofs.Chains.{get_new, get_last}
use Rattle.gss.proofs.Columns.{to_column, from_column}

-- ---- the same kernel

item_eq-decides : (a b : Item) → Decides (item_eq a b) (a ≡ b)
item_eq-decides a b =
    let rules = unsigned_Decides a.rule.0 b.rule.0 in
    let dots = unsigned_Decides a.dot b.dot in (
      λ e. let both = and_parts (nat_eq a.rule.0 b.rule.0) (nat_eq a.dot b.dot) e in
          ap (λ n. item_at (let r : RuleId = record { 0 = n } in r) a.dot) (rules.0 both.0) ∙ ap (λ n. item_at b.rule n) (dots.0 both.1),
      λ e. and_from (nat_eq a.rule.0 b.rule.0) (nat_eq a.dot b.dot) (rules.1 (ap (λ (i : Item). i.rule.0) e)) (dots.1 (ap (λ (i : Item). i.dot) e)),
    )

kernel_eq : List Item → List Item → Bool
kernel_eq = pointwise item_eq

kernel_eq-decides : (a b : List Item) → Decides (pointwise item_eq a b) (a ≡ b)
kernel_eq-decides a b = slice_eq-Decides item_eq-decides a b (pointwise item_eq a b) refl

-- ---- a kernel and its number

pub placed : (kernels : List (List Item)) (kernel : List Item) (place : ℕ) → position (pointwise item_eq kernel) kernels ≡ Some place
    → slice_get kernels place ≡ Some kernel
placed kernels kernel place is =
    let at = position-Some (pointwise item_eq kernel) kernels place kernel is in
    slice_get-get_or kernels place kernel at.0 ∙ ap Some (sym ((kernel_eq-decides kernel (get_or kernels place kernel)).0 at.1))

-- a kernel that is not among them goes behind them
pub pushed : (kernels new : List (List Item)) (kernel own : List Item) (r : Option ℕ) → own ≡ kernel → new ≡ insert_key (pointwise item_eq) kernels own
    → is_some r ≡ list_any (pointwise item_eq kernel) kernels → r ≡ None → new ≡ kernels ++ kernel ∷ []
pushed kernels new kernel own r same is found none =
    let put : new ≡ insert_key (pointwise item_eq) kernels kernel = subst (λ k. new ≡ insert_key (pointwise item_eq) kernels k) same is in
    put ∙ ap (λ b. if b then kernels else kernels ++ kernel ∷ []) (sym found ∙ ap is_some none)

absent : (kernels : List (List Item)) (kernel : List Item) (n : ℕ) → list_any (pointwise item_eq kernel) kernels ≡ false → slice_get kernels n ≡ Some kernel → ⊥
absent [] kernel n none at = omega (arith, slice_get_within [] n kernel at)
absent (k ∷ kernels) kernel zero none at =
    let parts = or_parts (pointwise item_eq kernel k) (list_any (pointwise item_eq kernel) kernels) none in
    both_ways (pointwise item_eq kernel k) parts.0 ((kernel_eq-decides kernel k).1 (sym (same_Some k kernel at)))
absent (k ∷ kernels) kernel (suc n) none at =
    let parts = or_parts (pointwise item_eq kernel k) (list_any (pointwise item_eq kernel) kernels) none in absent kernels kernel n parts.1 at

pub distinct_more : (kernels : List (List Item)) (kernel : List Item) (r : Option ℕ) → is_some r ≡ list_any (pointwise item_eq kernel) kernels → r ≡ None
    → AreKernelsDistinct kernels → AreKernelsDistinct (kernels ++ kernel ∷ [])
distinct_more kernels kernel r found none are n m k at_n at_m =
    let out : list_any (pointwise item_eq kernel) kernels ≡ false = sym found ∙ ap is_some none in
    elim (get_last kernels kernel k n at_n) [
      | inl old_n ↦ elim (get_last kernels kernel k m at_m) [
        | inl old_m ↦ are n m k old_n old_m
        | inr new_m ↦ absurd (absent kernels kernel n out (subst (λ q. slice_get kernels n ≡ Some q) (sym new_m.1) old_n))
      ]
      | inr new_n ↦ elim (get_last kernels kernel k m at_m) [
        | inl old_m ↦ absurd (absent kernels kernel m out (subst (λ q. slice_get kernels m ≡ Some q) (sym new_n.1) old_m))
        | inr new_m ↦ omega (arith, new_n.0, new_m.0)
      ]
    ]

-- ---- nodes

module _ (kernels more : List (List Item)) (keeps : KeepsNumbers kernels more) where
  keeps_length : (n : ℕ) → n < length kernels → n < length more
  keeps_length n within = slice_get_within more n (get_or kernels n []) (keeps n (get_or kernels n []) (slice_get-get_or kernels n [] within))

  same_kernel : (n : ℕ) → n < length kernels → get_or more n [] ≡ get_or kernels n []
  same_kernel n within = get_or_from_slice_get more n (get_or kernels n []) [] (keeps n (get_or kernels n []) (slice_get-get_or kernels n [] within))

  pub same_nodes : (nodes : List Place) → ((n : ℕ) (node : Place) → slice_get nodes n ≡ Some node → node.state < length kernels)
      → nodes_in more nodes ≡ nodes_in kernels nodes
  same_nodes [] within = refl
  same_nodes (node ∷ nodes) within =
      let here : kernel_place more node ≡ kernel_place kernels node =
      ap (λ (k : List Item). kernel_at k node.at) (same_kernel node.state (within 0 node refl)) in
      let rest : nodes_in more nodes ≡ nodes_in kernels nodes = same_nodes nodes (λ n q at. within (suc n) q at) in
      ap (λ (q : KernelPlace). q ∷ nodes_in more nodes) here ∙ ap (λ (qs : List KernelPlace). kernel_place kernels node ∷ qs) rest

  pub still_numbered : (nodes : List Place) → AreNumbered kernels nodes → AreKernelsDistinct more → AreNumbered more nodes
  still_numbered nodes are distinct = record {
    distinct = distinct;
    within = λ n node at. keeps_length node.state (are.within n node at);
  }

module _ (kernels : List (List Item)) (nodes : List Place) (state at : ℕ) (kernel : List Item) (is : slice_get kernels state ≡ Some kernel) where
  kernel_is : kernel_place kernels (place_with state at) ≡ kernel_at kernel at
  kernel_is = ap (λ (k : List Item). kernel_at k at) (get_or_from_slice_get kernels state kernel [] is)

  -- the node of the state and position is that of the kernel and position
  pub node_there : (n : ℕ) → slice_get nodes n ≡ Some (place_with state at) → slice_get (nodes_in kernels nodes) n ≡ Some (kernel_at kernel at)
  node_there n here = to_column (kernel_place kernels) nodes n (place_with state at) here ∙ ap (λ (q : KernelPlace). Some q) kernel_is

  pub numbered_more : AreNumbered kernels nodes → AreNumbered kernels (nodes ++ place_with state at ∷ [])
  numbered_more are = record {
    distinct = are.distinct;
    within = λ n node here. elim (get_last nodes (place_with state at) node n here) [
      | inl old ↦ are.within n node old
      | inr new ↦ subst (λ (p : Place). p.state < length kernels) new.1 (slice_get_within kernels state kernel is)
    ];
  }

  pub nodes_more : nodes_in kernels (nodes ++ place_with state at ∷ []) ≡ nodes_in kernels nodes ++ kernel_at kernel at ∷ []
  nodes_more = map-append (kernel_place kernels) nodes (place_with state at ∷ [])
      ∙ ap (λ (q : KernelPlace). nodes_in kernels nodes ++ q ∷ []) kernel_is

  -- no node of the state and position is none of the kernel and position
  pub node_new : AreNumbered kernels nodes → (HasNode nodes state at → ⊥) → Contains (nodes_in kernels nodes) (kernel_at kernel at) → ⊥
  node_new are none (n, within, there) =
      let here : slice_get (nodes_in kernels nodes) n ≡ Some (kernel_at kernel at) =
      slice_get-get_or (nodes_in kernels nodes) n (kernel_at kernel at) within ∙ ap (λ (q : KernelPlace). Some q) there in
      let (node, at_n, same) = from_column (kernel_place kernels) nodes n (kernel_at kernel at) here in
      let its_kernel : get_or kernels node.state [] ≡ kernel = ap (λ (q : KernelPlace). q.kernel) same in
      let its_at : node.at ≡ at = ap (λ (q : KernelPlace). q.at) same in
      let its : slice_get kernels node.state ≡ Some kernel =
      slice_get-get_or kernels node.state [] (are.within n node at_n) ∙ ap (λ (k : List Item). Some k) its_kernel in
      let its_state : node.state ≡ state = are.distinct node.state state kernel its is in
      let node_is : node ≡ place_with state at = ap (λ s. place_with s node.at) its_state ∙ ap (λ p. place_with state p) its_at in
      none (n, at_n ∙ ap (λ (p : Place). Some p) node_is)

-- ---- what a call for a node leaves

pub on_err : {T E P : Type 0} (r : Result T E) → P → OnErr r P
on_err (Ok x) p = tt
on_err (Err e) p = p

module _ (kernels more : List (List Item)) (nodes : List Place) (state at : ℕ) (kernel : List Item) (are : AreNumbered kernels nodes)
    (keeps : KeepsNumbers kernels more) (distinct : AreKernelsDistinct more) (is : slice_get more state ≡ Some kernel) where
  -- the node was there
  pub there_before : (n : ℕ) → slice_get nodes n ≡ Some (place_with state at) → IsThere (nodes_in kernels nodes) (nodes_in more nodes) (kernel_at kernel at)
  there_before n here =
      let same : nodes_in more nodes ≡ nodes_in kernels nodes = same_nodes kernels more keeps nodes are.within in
      inr (
        contains_at (nodes_in kernels nodes) n (kernel_at kernel at)
            (subst (λ (qs : List KernelPlace). slice_get qs n ≡ Some (kernel_at kernel at)) same (node_there more nodes state at kernel is n here)),
        same,
      )

  -- the node is new
  pub there_now : (new : List Place) → new ≡ nodes ++ place_with state at ∷ [] → (HasNode nodes state at → ⊥)
      → IsThere (nodes_in kernels nodes) (nodes_in more new) (kernel_at kernel at)
  there_now new new_is none =
      let same : nodes_in more nodes ≡ nodes_in kernels nodes = same_nodes kernels more keeps nodes are.within in
      inl (
        λ c. node_new more nodes state at kernel is (still_numbered kernels more keeps nodes are distinct) none
            (subst (λ (qs : List KernelPlace). Contains qs (kernel_at kernel at)) (sym same) c),
        ap (nodes_in more) new_is ∙ nodes_more more nodes state at kernel is ∙ ap (λ (qs : List KernelPlace). qs ++ kernel_at kernel at ∷ []) same,
      )

  pub numbered_now : (new : List Place) → new ≡ nodes ++ place_with state at ∷ [] → AreNumbered more new
  numbered_now new new_is = subst (λ (ps : List Place). AreNumbered more ps) (sym new_is)
      (numbered_more more nodes state at kernel is (still_numbered kernels more keeps nodes are distinct))

  pub last_there : (new : List Place) (n : ℕ) → new ≡ nodes ++ place_with state at ∷ [] → n ≡ length nodes
      → slice_get (nodes_in more new) n ≡ Some (kernel_at kernel at)
  last_there new n new_is size = node_there more new state at kernel is n
      (subst (λ (ps : List Place). slice_get ps n ≡ Some (place_with state at)) (sym new_is)
      (subst (λ m. slice_get (nodes ++ place_with state at ∷ []) m ≡ Some (place_with state at)) (sym size) (get_new nodes (place_with state at))))
