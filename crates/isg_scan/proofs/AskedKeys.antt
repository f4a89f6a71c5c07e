-- The keys that a graph was asked for.
use Rattle.std.proofs.Common.{◌≡◌, inl, inr, ◌⊎◌, ℕ, List, [], ◌∷◌, Contains, refl, sym, ◌∙◌, subst}
use Rattle.std.proofs.lemmas.List.Elements.{Contains-push, Contains-push_cases, Contains-append_left}
use Rattle.isg_states.specs.declared.scan_key.ScanKey.{ScanKey}
use Rattle.live_graph.specs.Meaning.{GraphMeaning}
use Rattle.live_graph.specs.Asking.{Joins, AsksScan}
use Rattle.live_graph.proofs.Rises.{scan_rises, rise_none, rise_join}
use Rattle.isg_scan.specs.Asked.{StandsButScans, AsksOnly}

module _ {Key : Type 0} (old : List Key) (key : Key) (new : List Key) (joins : Joins old key new) where
  pub joined : Contains new key
  joined = elim joins [
    | inl again ↦ subst (λ list. Contains list key) (sym again.1) again.0
    | inr first ↦ subst (λ list. Contains list key) (sym first.1)
        (Contains-push old key)
  ]

  pub joined_kept : (other : Key) → Contains old other → Contains new other
  joined_kept other has = elim joins [
    | inl again ↦ subst (λ list. Contains list other) (sym again.1) has
    | inr first ↦ subst (λ list. Contains list other) (sym first.1) (Contains-append_left old (key ∷ []) other has)
  ]

  pub joined_within : (other : Key) → Contains new other → Contains old other ⊎ (key ≡ other)
  joined_within other has = elim joins [
    | inl again ↦ inl (subst (λ list. Contains list other) again.1 has)
    | inr first ↦ Contains-push_cases old key other (subst (λ list. Contains list other) first.1 has)
  ]

-- ---- asks for wanted states alone

module _ {Base : Type 0} where
  pub asks_none : (Wanted : ScanKey → Type 0) (graph : GraphMeaning Base) (steps : ℕ) → AsksOnly Wanted graph graph steps steps
  asks_none Wanted graph steps = record { kept = λ key has. has; within = λ key has. inl has; rises = rise_none graph steps }

  pub asks_one : (Wanted : ScanKey → Type 0) (old new : GraphMeaning Base) (key : ScanKey) (before after : ℕ) → Wanted key → AsksScan old key new before after
      → AsksOnly Wanted old new before after
  asks_one Wanted old new key before after wanted asks = record {
    kept = joined_kept old.scans.keys key new.scans.keys asks.asks.joins;
    within = λ other has. elim (joined_within old.scans.keys key new.scans.keys asks.asks.joins other has) [
      | inl old_one ↦ inl old_one
      | inr same ↦ inr
          (subst Wanted same wanted)
    ];
    rises = scan_rises old new key before after asks;
  }

  pub asks_join : (First Second Wanted : ScanKey → Type 0) (old middle new : GraphMeaning Base) (before between after : ℕ) → ((key : ScanKey) → First key
      → Wanted key) → ((key : ScanKey) → Second key → Wanted key)
      → AsksOnly First old middle before between → AsksOnly Second middle new between after → AsksOnly Wanted old new before after
  asks_join First Second Wanted old middle new before between after one two first second = record {
    kept = λ key has. second.kept key (first.kept key has);
    within = λ key has. elim (second.within key has) [
      | inl earlier ↦ elim (first.within key earlier) [ inl old_one ↦ inl old_one | inr wanted ↦ inr (one key wanted) ]
      | inr wanted ↦ inr (two key wanted)
    ];
    rises = rise_join old middle new before between after first.rises second.rises;
  }

  pub stands_same : (graph : GraphMeaning Base) → StandsButScans graph graph
  stands_same graph = record { grammar = refl; base = refl; kernels = refl }

  pub stands_join : (old middle new : GraphMeaning Base) → StandsButScans old middle → StandsButScans middle new → StandsButScans old new
  stands_join old middle new first second = record {
    grammar = second.grammar ∙ first.grammar;
    base = second.base ∙ first.base;
    kernels = second.kernels ∙
        first.kernels;
  }
