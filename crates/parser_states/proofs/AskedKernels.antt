-- The kernels that a graph was asked for.
use Rattle.std.proofs.Common.{◌≡◌, inl, inr, ◌⊎◌, ℕ, ◌≤◌, List, [], ◌∷◌, ◌++◌, length, Some, slice_get, Contains, refl, sym, ap, ◌∙◌, subst, arith}
use Rattle.std.proofs.lemmas.Bool.{cases_lt}
use Rattle.std.proofs.lemmas.List.Elements.{Contains-push, Contains-push_cases, Contains-append_left}
use Rattle.std.proofs.lemmas.Option.{slice_get_within, slice_get_cases}
use Rattle.item_sets.specs.declared.item.Item.{Item}
use Rattle.live_graph.specs.Meaning.{GraphMeaning}
use Rattle.live_graph.specs.Asking.{Joins, AsksKernel}
use Rattle.live_graph.proofs.Rises.{kernel_rises, rise_none, rise_join}
use Rattle.forest.specs.Numbers.{KeepsNumbers}
use Rattle.parser_states.specs.Asked.{StandsButKernels, AsksNew}
use Rattle.parser_states.proofs.PlainParts.{push_cases, last_at}

module _ {Key : Type 0} (old : List Key) (key : Key) (new : List Key) (joins : Joins old key new) where
  pub joined : Contains new key
  joined = elim joins [
    | inl again ↦ subst (λ list. Contains list key) (sym again.1) again.0
    | inr first ↦ subst (λ list. Contains list key) (sym first.1) (Contains-push old key)
  ]

  pub joined_kept : (other : Key) → Contains old other → Contains new other
  joined_kept other has = elim joins [
    | inl again ↦ subst (λ list. Contains list other) (sym again.1) has
    | inr first ↦ subst (λ list. Contains list other) (sym first.1) (Contains-append_left old (key ∷ []) other has)
  ]

  pub joined_within : (other : Key) → Contains new other → Contains old other ⊎ (key ≡ other)
  joined_within other has = elim joins [
    | inl again ↦ inl (subst (λ list. Contains list other) again.1 has)
    | inr first ↦ Contains-push_cases old key other (subst (λ list. Contains list other) first.1 has)
  ]

module _ {Base : Type 0} where
  -- no state is new, and the graph was not asked
  pub asks_none : (states : List (List Item)) (graph : GraphMeaning Base) (steps : ℕ) → AsksNew states states graph graph steps steps
  asks_none states graph steps = record {
    kept = λ kernel has. has;
    asked = λ kernel (number, past, at). absurd (omega (arith, past, slice_get_within states number kernel at));
    within = λ kernel has. inl has;
    rises = rise_none graph steps;
  }

  -- one state is new, and the graph was asked for it
  pub asks_one : (old new : List (List Item)) (kernel : List Item) (graph graph' : GraphMeaning Base) (before after : ℕ) → new ≡ old ++ kernel ∷ []
      → AsksKernel graph kernel graph' before after → AsksNew old new graph graph' before after
  asks_one old new kernel graph graph' before after is asks = record {
    kept = joined_kept graph.kernels.keys kernel graph'.kernels.keys asks.asks.joins;
    asked = λ other (number, past, at). elim (push_cases old kernel other number (ap (λ l. slice_get l number) (sym is) ∙ at)) [
      | inl before' ↦ absurd (omega (arith, past, slice_get_within old number other before'))
      | inr end ↦ subst (Contains graph'.kernels.keys) end.1 (joined graph.kernels.keys kernel graph'.kernels.keys asks.asks.joins)
    ];
    within = λ other has. elim (joined_within graph.kernels.keys kernel graph'.kernels.keys asks.asks.joins other has) [
      | inl old_one ↦ inl old_one
      | inr same ↦ inr (length old, omega arith, ap (λ l. slice_get l (length old)) is ∙ last_at old kernel ∙ ap Some same)
    ];
    rises = kernel_rises graph graph' kernel before after asks;
  }

  -- two calls, one after the other
  pub asks_join : (old middle new : List (List Item)) (first second third : GraphMeaning Base) (before between after : ℕ) → KeepsNumbers old middle
      → KeepsNumbers middle new → AsksNew old middle first second before between → AsksNew middle new second third between after
      → AsksNew old new first third before after
  asks_join old middle new first second third before between after keeps keeps' one two = record {
    kept = λ kernel has. two.kept kernel (one.kept kernel has);
    asked = λ kernel (number, past, at). elim (slice_get_cases middle number).1 [
      | inl there ↦
          let same : Some there.0 ≡ Some kernel = sym (keeps' number there.0 there.2) ∙ at in
          two.kept kernel (one.asked kernel (number, past, there.2 ∙ same))
      | inr beyond ↦ two.asked kernel (number, beyond.0, at)
    ];
    within = λ kernel has. elim (two.within kernel has) [
      | inl earlier ↦ elim (one.within kernel earlier) [
        | inl old_one ↦ inl old_one
        | inr new_one ↦ inr (new_one.0, new_one.1, keeps' new_one.0 kernel new_one.2)
      ]
      | inr new_one ↦ inr (new_one.0, longer new_one.0 new_one.1, new_one.2)
    ];
    rises = rise_join first second third before between after one.rises two.rises;
  }
    where
      longer : (number : ℕ) → length middle ≤ number → length old ≤ number
      longer number past = elim (cases_lt number (length old)) [
        | inl less ↦ elim (slice_get_cases old number).1 [
          | inl there ↦ absurd (omega (arith, past, slice_get_within middle number there.0 (keeps number there.0 there.2)))
          | inr beyond ↦ beyond.0
        ]
        | inr more ↦ more
      ]

  pub stands_same : (graph : GraphMeaning Base) → StandsButKernels graph graph
  stands_same graph = record { grammar = refl; base = refl; scans = refl }

  pub stands_join : (first second third : GraphMeaning Base) → StandsButKernels first second → StandsButKernels second third → StandsButKernels first third
  stands_join first second third one two = record {
    grammar = two.grammar ∙ one.grammar;
    base = two.base ∙ one.base;
    scans = two.scans ∙ one.scans;
  }
