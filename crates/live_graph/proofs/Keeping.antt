-- What a graph over a page keeps stays true of it, whichever key is asked for.
use Rattle.std.proofs.Common.{◌≡◌, inl, inr, ℕ, ◌<◌, List, [], Option, ◌∷◌, ◌++◌, length, Contains, sym, ap, ◌∙◌, subst, arith}
use Rattle.std.proofs.lemmas.List.Elements.{Contains-push_cases}
use Rattle.forest.specs.Distinct.{IsDistinct}
use Rattle.edit_log.specs.History.{Grammar}
use Rattle.edit_log.proofs.PlainLists.{distinct_push}
use Rattle.item_sets.specs.declared.item.Item.{Item}
use Rattle.item_sets.specs.declared.expansion.Expansion.{Expansion}
use Rattle.isg_states.specs.declared.scan_key.ScanKey.{ScanKey}
use Rattle.isg_states.specs.declared.ranges.ScanExpansion.{ScanExpansion}
use Rattle.pin_rule.specs.declared.view.Step.{Step}
use Rattle.row_coding.specs.Rows.{Key}
use Rattle.slot_store.specs.Meaning.{Meaning as PageMeaning, with_graph, extended}
use Rattle.graph_content.specs.Contents.{IsLogOfGrammar}
use Rattle.live_graph.specs.declared.origin.Origin.{Origin}
use Rattle.live_graph.specs.declared.origin.Origin.TheVariants.{Found, Made, Raced, Alone}
use Rattle.live_graph.specs.declared.answer.Answer.{Answer}
use Rattle.live_graph.specs.Sharing.{keys_in}
use Rattle.live_graph.specs.Ending.{EndsShown}
use Rattle.live_graph.specs.Showing.{HasNoRow, HasNoPlace, Came}
use Rattle.live_graph.specs.Answers.{origins, HoldsAnswers, HoldsOrigins, ExpandsKernel, ExpandsScan, kernel_key, scan_key, IsKept}
use Rattle.live_graph.proofs.Steps.{came_before, came_behind, shown, comes_join, comes_none}
use Rattle.live_graph.proofs.KeptAnswers.{origins_push, keys_push}
use Rattle.live_graph.proofs.KeptGrowth.{HasGrown}
use Rattle.live_graph.proofs.KeptGraphs.{told_at_first, kernel_told, scan_told}

-- ---- a page with more steps is the same page

module _ (m : PageMeaning) (told : Option (List (List ℕ))) (more steps : List Step) where
  abbrev later : PageMeaning
  later = extended (with_graph m told) more

  no_row_of : {key : List ℕ} → HasNoRow later steps key → HasNoRow m steps key
  no_row_of h = record { look = h.look; claims = h.claims; part = h.part; place = h.place; initial = h.initial; full = h.full }

  no_place_of : {key : List ℕ} → HasNoPlace later steps key → HasNoPlace m steps key
  no_place_of h = record { walk = h.walk; part = h.part; full = h.full }

  came_of : (grammar : Grammar) (key : Key) (origin : Origin) → Came later steps grammar key origin → Came m steps grammar key origin
  came_of grammar key Found (payload, codes, was) = (payload, codes, record { look = was.look; part = was.part; found = was.found })
  came_of grammar key Made (payload, codes, was) = (payload, codes, record { call = was.call; part = was.part; made = was.made })
  came_of grammar key Raced was = record { call = was.call; part = was.part; already = was.already }
  came_of grammar key Alone (inl wide) = inl wide
  came_of grammar key Alone (inr (inl none)) = inr (inl (no_row_of none))
  came_of grammar key Alone (inr (inr none)) = inr (inr (no_place_of none))

came_on : (basis page : PageMeaning) (added steps : List Step) (grammar : Grammar) (key : Key) (origin : Origin)
    → page ≡ extended (with_graph basis page.graph) added → Came page steps grammar key origin → Came basis (added ++ steps) grammar key origin
came_on basis page added steps grammar key origin is came =
    came_behind basis added steps grammar key origin
    (came_of basis page.graph added steps grammar key origin (subst (λ m. Came m steps grammar key origin) is came))

-- ---- one key more of one kind

module _ {K : Type 0} (as_key : K → Key) (basis : PageMeaning) (added more : List Step) (grammar : Grammar) where
  pub origins_stay : (kept : List (K × Origin)) → HoldsOrigins as_key basis added grammar kept → HoldsOrigins as_key basis (added ++ more) grammar kept
  origins_stay kept holds key origin there = came_before basis added more grammar (as_key key) origin (holds key origin there)

  pub origins_grow : {E : Type 0} (old new : List (K × Answer E)) (key : K) (answer : Answer E) → new ≡ old ++ (key, answer) ∷ []
      → HoldsOrigins as_key basis added grammar (origins old) → Came basis (added ++ more) grammar (as_key key) answer.origin
      → HoldsOrigins as_key basis (added ++ more) grammar (origins new)
  origins_grow old new key answer is holds came other origin there =
      elim (Contains-push_cases (origins old) (key, answer.origin) (other, origin)
      (subst (λ list. Contains list (other, origin)) (ap origins is ∙ origins_push old key answer) there)) [
        | inl before ↦ came_before basis added more grammar (as_key other) origin (holds other origin before)
        | inr last ↦ subst (λ (one : K × Origin). Came basis (added ++ more) grammar (as_key one.0) one.1) last came
      ]

origins_grown : {K E : Type 0} (grammar : Grammar) (as_key : K → Key) (basis page next : PageMeaning) (added : List Step) (old new : List (K × Answer E))
    → page ≡ extended (with_graph basis page.graph) added → (grown : HasGrown grammar as_key page next old new)
    → HoldsOrigins as_key basis added grammar (origins old) → HoldsOrigins as_key basis (added ++ grown.more) grammar (origins new)
origins_grown grammar as_key basis page next added old new is grown holds = elim grown.kept [
  | inl (same, told) ↦
      subst (λ kept. HoldsOrigins as_key basis (added ++ grown.more) grammar (origins kept)) (sym same)
      (origins_stay as_key basis added grown.more grammar (origins old) holds)
  | inr gained ↦
      origins_grow as_key basis added grown.more grammar old new gained.key gained.answer gained.longer holds
      (came_on basis page added grown.more grammar (as_key gained.key) gained.answer.origin is gained.came)
]

once_grown : {K E : Type 0} (grammar : Grammar) (as_key : K → Key) (page next : PageMeaning) (old new : List (K × Answer E))
    → HasGrown grammar as_key page next old new → IsDistinct (keys_in (origins old)) → IsDistinct (keys_in (origins new))
once_grown grammar as_key page next old new grown once = elim grown.kept [
  | inl (same, told) ↦ subst (λ kept. IsDistinct (keys_in (origins kept))) (sym same) once
  | inr gained ↦
      subst (λ kept. IsDistinct (keys_in kept)) (sym (ap origins gained.longer ∙ origins_push old gained.key gained.answer))
      (subst IsDistinct (sym (keys_push (origins old) gained.key gained.answer.origin))
      (distinct_push (keys_in (origins old)) gained.key once gained.new_key))
]

-- ---- what is kept of both kinds

module _ (grammar : Grammar) (basis page next : PageMeaning) (scans : List (ScanKey × Answer ScanExpansion)) (kernels : List (List Item × Answer Expansion))
    (kept : IsKept grammar basis page scans kernels) where
  pub kernel_kept : (new : List (List Item × Answer Expansion)) → HasGrown grammar kernel_key page next kernels new
      → HoldsAnswers (ExpandsKernel grammar) new → length new < 4294967296 → IsKept grammar basis next scans new
  kernel_kept new grown holds few = record {
    log = kept.log;
    added = kept.added ++ grown.more;
    comes = comes_join kept.comes grown.comes;
    scan_expansions = kept.scan_expansions;
    kernel_expansions = holds;
    scan_origins = origins_stay scan_key basis kept.added grown.more grammar (origins scans) kept.scan_origins;
    kernel_origins = origins_grown grammar kernel_key basis page next kept.added kernels new kept.comes.is grown kept.kernel_origins;
    scans_once = kept.scans_once;
    kernels_once = once_grown grammar kernel_key page next kernels new grown kept.kernels_once;
    few_scans = kept.few_scans;
    few_kernels = few;
    graph = kernel_told grammar basis page next scans kernels kept new grown;
  }

  pub scan_kept : (new : List (ScanKey × Answer ScanExpansion)) → HasGrown grammar scan_key page next scans new
      → HoldsAnswers (ExpandsScan grammar) new → length new < 4294967296 → IsKept grammar basis next new kernels
  scan_kept new grown holds few = record {
    log = kept.log;
    added = kept.added ++ grown.more;
    comes = comes_join kept.comes grown.comes;
    scan_expansions = holds;
    kernel_expansions = kept.kernel_expansions;
    scan_origins = origins_grown grammar scan_key basis page next kept.added scans new kept.comes.is grown kept.scan_origins;
    kernel_origins = origins_stay kernel_key basis kept.added grown.more grammar (origins kernels) kept.kernel_origins;
    scans_once = once_grown grammar scan_key page next scans new grown kept.scans_once;
    kernels_once = kept.kernels_once;
    few_scans = few;
    few_kernels = kept.few_kernels;
    graph = scan_told grammar basis page next scans kernels kept new grown;
  }

-- ---- at first and at the end

nothing_in : {X : Type 0} {x : X} → Contains [] x → ⊥
nothing_in there = omega (arith, there.1)

pub kept_at_first : (grammar : Grammar) (basis page : PageMeaning) (scans : List (ScanKey × Answer ScanExpansion))
    (kernels : List (List Item × Answer Expansion)) → IsLogOfGrammar page.log grammar → basis ≡ page → scans ≡ [] → kernels ≡ []
    → IsKept grammar basis page scans kernels
kept_at_first grammar basis page scans kernels log same no_scan no_kernel =
    subst (λ b. IsKept grammar b page scans kernels) (sym same)
    (subst (λ s. IsKept grammar page page s kernels) (sym no_scan) (subst (λ k. IsKept grammar page page [] k) (sym no_kernel) none))
  where
    none : IsKept grammar page page [] []
    none = record {
      log = log;
      added = [];
      comes = comes_none page;
      scan_expansions = λ key answer there. absurd (nothing_in there);
      kernel_expansions = λ key answer there. absurd (nothing_in there);
      scan_origins = λ key origin there. absurd (nothing_in there);
      kernel_origins = λ key origin there. absurd (nothing_in there);
      scans_once = tt;
      kernels_once = tt;
      few_scans = omega arith;
      few_kernels = omega arith;
      graph = told_at_first grammar page;
    }

pub kept_ends : (grammar : Grammar) (basis page : PageMeaning) (scans : List (ScanKey × Answer ScanExpansion))
    (kernels : List (List Item × Answer Expansion)) → IsKept grammar basis page scans kernels
    → EndsShown (record { grammar = grammar; basis = basis; page = page; scans = origins scans; kernels = origins kernels })
kept_ends grammar basis page scans kernels kept = record {
  kernels_once = kept.kernels_once;
  scans_once = kept.scans_once;
  added = kept.added;
  comes = kept.comes;
  kernels_came = kept.kernel_origins;
  scans_came = kept.scan_origins;
  kernels_shown = λ items origin there narrow. shown basis kept.added grammar (kernel_key items) origin (kept.kernel_origins items origin there) narrow;
  scans_shown = λ key origin there narrow. shown basis kept.added grammar (scan_key key) origin (kept.scan_origins key origin there) narrow;
}
