-- How many rows a list has, and whether it has so many.
use Rattle.std.proofs.Common.{◌⊎◌, inl, inr, ℕ, zero, suc, ◌≤◌, Bool, true, false, List, [], ◌∷◌, length, refl, sym, ap, subst, arith}
use Rattle.std.proofs.Common.{Contains, Decides, bytes_eq}
use Rattle.std.proofs.lemmas.Bool.{cases_lt}
use Rattle.std.proofs.lemmas.Slice.Eq.{bytes_eq-Decides}
use Rattle.forest.specs.Distinct.{IsDistinct}
use Rattle.forest.proofs.Ascending.{contains_here, contains_there, contains_cases}
use Rattle.forest.proofs.Counting.{at_most}
use Rattle.pin_rule.specs.declared.sizes.Sizes.{Sizes}
use Rattle.pin_rule.specs.Lists.{In}
use Rattle.slot_store.specs.GraphAnswers.{AllDiffer, HasRows}
use Rattle.live_graph.specs.Growing.{HasAsMany, IsFull}
use Rattle.live_graph.proofs.ToldGraphs.{still_as_many}

-- ---- is it so, or not

pub decided_by : {P : Type 0} (test : Bool) → Decides test P → P ⊎ (P → ⊥)
decided_by true decides = inl (decides.0 refl)
decided_by false decides = inr (λ p. let never = decides.1 p in cc never)

is_there : (row : List ℕ) (rows : List (List ℕ)) → In row rows ⊎ (In row rows → ⊥)
is_there row [] = inr (λ never. never)
is_there row (other ∷ rows) = elim (decided_by (bytes_eq row other) (bytes_eq-Decides row other)) [
  | inl same ↦ inl (inl same)
  | inr differs ↦ elim (is_there row rows) [
    | inl there ↦ inl (inr there)
    | inr lacks ↦ inr (λ there. elim there [ inl same ↦ differs same | inr later ↦ lacks later ])
  ]
]

-- ---- lists in the words of others

contains_in : {X : Type 0} (x : X) (xs : List X) → In x xs → Contains xs x
contains_in x [] never = absurd never
contains_in x (y ∷ ys) (inl same) = subst (Contains (y ∷ ys)) (sym same) (contains_here y ys)
contains_in x (y ∷ ys) (inr there) = contains_there y ys x (contains_in x ys there)

in_contains : {X : Type 0} (x : X) (xs : List X) → Contains xs x → In x xs
in_contains x [] (k, less, at) = absurd (omega (arith, less))
in_contains x (y ∷ ys) there = elim (contains_cases y ys x there) [ inl same ↦ inl (sym same) | inr later ↦ inr (in_contains x ys later) ]

distinct_rows : (rows : List (List ℕ)) → AllDiffer rows → IsDistinct rows
distinct_rows [] once = tt
distinct_rows (row ∷ rows) once = (λ there. once.0 (in_contains row rows there), distinct_rows rows once.1)

-- rows that are all among others are no more than these
fewer : (rows others : List (List ℕ)) → AllDiffer rows → ((row : List ℕ) → In row rows → In row others) → length rows ≤ length others
fewer rows others once among =
    at_most rows others (distinct_rows rows once) (λ row there. contains_in row others (among row (in_contains row rows there)))

-- ---- how many rows there are

pub record HasSome (graph : List (List ℕ)) : Type 0 where
  pub count : ℕ
  pub has : HasRows graph count

more_rows : (row : List ℕ) (graph : List (List ℕ)) → In row graph ⊎ (In row graph → ⊥) → HasSome graph → HasSome (row ∷ graph)
more_rows row graph (inl there) rest = record {
  count = rest.count;
  has = record {
    rows = rest.has.rows;
    many = rest.has.many;
    once = rest.has.once;
    known = λ other among. inr (rest.has.known other among);
    every = λ other among. elim among [
      | inl same ↦ subst (λ r. In r rest.has.rows) (sym same) (rest.has.every row there)
      | inr later ↦ rest.has.every other later
    ];
  };
}
more_rows row graph (inr lacks) rest = record {
  count = suc rest.count;
  has = record {
    rows = row ∷ rest.has.rows;
    many = ap suc rest.has.many;
    once = (λ among. lacks (rest.has.known row among), rest.has.once);
    known = λ other among. elim among [ inl same ↦ inl same | inr later ↦ inr (rest.has.known other later) ];
    every = λ other among. elim among [ inl same ↦ inl same | inr later ↦ inr (rest.has.every other later) ];
  };
}

has_some : (graph : List (List ℕ)) → HasSome graph
has_some [] = record { count = 0; has = record { rows = []; many = refl; once = tt; known = λ row never. never; every = λ row never. never } }
has_some (row ∷ graph) = more_rows row graph (is_there row graph) (has_some graph)

-- the first of the rows
first_rows : (count : ℕ) (rows : List (List ℕ)) → AllDiffer rows → count ≤ length rows → HasAsMany rows count
first_rows zero rows once less = record { rows = []; many = refl; once = tt; known = λ row never. absurd never }
first_rows (suc count) [] once less = absurd (omega (arith, less))
first_rows (suc count) (row ∷ rows) once less =
    let rest = first_rows count rows once.1 (omega (arith, less)) in
    record {
      rows = row ∷ rest.rows;
      many = ap suc rest.many;
      once = (λ among. once.0 (rest.known row among), rest.once);
      known = λ other among. elim among [ inl same ↦ inl same | inr later ↦ inr (rest.known other later) ];
    }

has_as_many : (graph : List (List ℕ)) (count : ℕ) → HasAsMany graph count ⊎ (HasAsMany graph count → ⊥)
has_as_many graph count = let all = has_some graph in elim (cases_lt (length all.has.rows) count) [
  | inl fewer_there ↦ inr (λ has.
      let most = fewer has.rows all.has.rows has.once (λ row among. all.has.every row (has.known row among)) in
      let many = has.many in
      absurd (omega (arith, most, many, fewer_there)))
  | inr enough ↦ inl (still_as_many all.has.rows graph count all.has.known (first_rows count all.has.rows all.has.once enough))
]

-- the graph is full, or it is not
pub full_or_not : (z : Sizes) (graph : List (List ℕ)) → IsFull z graph ⊎ (IsFull z graph → ⊥)
full_or_not z graph = elim (has_as_many graph z.places) [
  | inl full ↦ inl (inl full)
  | inr no_places ↦ elim (has_as_many graph z.rows) [
    | inl full ↦ inl (inr full)
    | inr no_rows ↦ inr (λ full. elim full [ inl one ↦ no_places one | inr other ↦ no_rows other ])
  ]
]
