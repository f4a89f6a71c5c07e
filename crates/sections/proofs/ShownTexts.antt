-- What the steps of a text show of the keys that it reaches.
use Rattle.std.proofs.Common.{◌≡◌, inr, ℕ, List, [], ◌∷◌, ◌++◌, append_assoc, refl, sym, ap, ◌∙◌, subst}
use Rattle.edit_log.specs.History.{Grammar}
use Rattle.pin_rule.specs.declared.view.Step.{Step}
use Rattle.pin_rule.specs.Steps.{pinned, unpinned}
use Rattle.pin_rule.specs.Layout.{page_named}
use Rattle.row_coding.specs.Rows.{Key, key_words, kernel, scan}
use Rattle.slot_store.specs.Meaning.{Meaning as PageMeaning}
use Rattle.version_store.specs.Meaning.{BenchMeaning}
use Rattle.version_store.specs.PinningAlone.{PinsAlone, UnpinsAlone}
use Rattle.live_graph.specs.Ending.{EndsShown}
use Rattle.live_graph.specs.Sharing.{Shared, means_shared}
use Rattle.live_graph.specs.Showing.{Comes, IsNarrow, ShowsKey}
use Rattle.replies.specs.declared.reply.Outcome.{Outcome}
use Rattle.replies.specs.declared.reply.Outcome.TheVariants.{Parsed, Scan, TooLarge}
use Rattle.sections.specs.Asked.{HasAsked, AsksAll, AsksText}
use Rattle.sections.specs.Recording.{AddsSteps, ShowsText, RecordsText, shown_for}
use Rattle.sections.proofs.TextUses.{fresh}
use Rattle.sections.proofs.UsedGraphs.{origin_of}

-- ---- over a page

module _ (grammar : Grammar) (page next : PageMeaning) (first graph : Shared) (starts : first ≡ fresh grammar page)
    (basis : (means_shared graph).base ≡ (means_shared first).base) (rules : graph.grammar ≡ first.grammar) (page_is : next ≡ graph.page)
    (ends : EndsShown graph) where
  basis_is : graph.basis ≡ page
  basis_is = basis ∙ ap (λ (s : Shared). s.basis) starts

  grammar_is : graph.grammar ≡ grammar
  grammar_is = rules ∙ ap (λ (s : Shared). s.grammar) starts

  narrow_there : (key : Key) → IsNarrow page.sizes grammar key → IsNarrow graph.basis.sizes graph.grammar key
  narrow_there key narrow =
      subst (λ (m : PageMeaning). IsNarrow m.sizes graph.grammar key) (sym basis_is)
      (subst (λ (g : Grammar). IsNarrow page.sizes g key) (sym grammar_is) narrow)

  shown_here : (key : Key) → ShowsKey graph.basis ends.added (key_words key) → ShowsKey page ends.added (key_words key)
  shown_here key shows = subst (λ (m : PageMeaning). ShowsKey m ends.added (key_words key)) basis_is shows

  key_shown : (key : Key) → HasAsked (means_shared graph) key → IsNarrow page.sizes grammar key → ShowsKey page ends.added (key_words key)
  key_shown (kernel items) asked narrow =
      let (origin, known) = origin_of graph.kernels items asked in
      shown_here (kernel items) (ends.kernels_shown items origin known (narrow_there (kernel items) narrow))
  key_shown (scan key) asked narrow =
      let (origin, known) = origin_of graph.scans key asked in
      shown_here (scan key) (ends.scans_shown key origin known (narrow_there (scan key) narrow))

  shown : (Reached : Key → Type 0) → ((key : Key) → Reached key → HasAsked (means_shared graph) key) → ShowsText page next grammar Reached
  shown Reached asked = record {
    added = ends.added;
    comes =
        subst (λ (m : PageMeaning). Comes m next ends.added) basis_is
        (subst (λ (m : PageMeaning). Comes graph.basis m ends.added) (sym page_is) ends.comes);
    shows = λ key reached narrow. key_shown key (asked key reached) narrow;
  }

  pub scan_shown : (Wanted : Key → Type 0) → AsksAll Wanted (means_shared first) (means_shared graph) → ShowsText page next grammar Wanted
  scan_shown Wanted asks = shown Wanted (λ key wanted. (asks key).1 (inr wanted))

  text_asked : (text : List ℕ) (outcome : Outcome) → AsksText grammar text outcome (means_shared first) (means_shared graph) → (key : Key)
      → shown_for grammar text outcome key → HasAsked (means_shared graph) key
  text_asked text (Parsed parsed) asks key reached = (asks key).1 (inr reached)
  text_asked text (Scan error) asks key reached = (asks key).1 (inr reached)
  text_asked text TooLarge asks key reached = asks.scanned key reached

  pub text_shown : (text : List ℕ) (outcome : Outcome) → AsksText grammar text outcome (means_shared first) (means_shared graph)
      → ShowsText page next grammar (shown_for grammar text outcome)
  text_shown text outcome asks = shown (shown_for grammar text outcome) (text_asked text outcome asks)

-- ---- over a pin of a bench

module _ (old new : BenchMeaning) (page next : PageMeaning) (grammar : Grammar) (Reached : Key → Type 0) (pins : PinsAlone old page)
    (shows : ShowsText page next grammar Reached) (unpins : UnpinsAlone next new) where
  abbrev body : List Step
  body = shows.added

  sizes_are : next.sizes ≡ old.sizes
  sizes_are = ap (λ (m : PageMeaning). m.sizes) shows.comes.is ∙ pins.sizes

  page_there : next.page ≡ page_named pins.met
  page_there = ap (λ (m : PageMeaning). m.page) shows.comes.is ∙ pins.page

  steps_there : next.steps ≡ (old.steps ++ pinned pins.met ∷ []) ++ body
  steps_there = ap (λ (m : PageMeaning). m.steps) shows.comes.is ∙ ap (λ (steps : List Step). steps ++ body) pins.steps

  abbrev last : List Step
  last = unpinned old.sizes (page_named pins.met) unpins.met ∷ []

  last_is : unpinned next.sizes next.page unpins.met ∷ [] ≡ last
  last_is = λ i. unpinned (sizes_are i) (page_there i) unpins.met ∷ []

  steps_are : new.steps ≡ old.steps ++ pinned pins.met ∷ (body ++ last)
  steps_are =
      unpins.steps ∙ (λ i. steps_there i ++ last_is i) ∙ append_assoc (old.steps ++ pinned pins.met ∷ []) body last
      ∙ append_assoc old.steps (pinned pins.met ∷ []) (body ++ last)

  pub text_records : AddsSteps old new (RecordsText old.sizes old.log grammar Reached)
  text_records = (
    pinned pins.met ∷ (body ++ last),
    steps_are,
    record {
      met = pins.met;
      dropped = unpins.met;
      body = body;
      is = refl;
      version = sym pins.version;
      quiet = shows.comes.quiet;
      page = page;
      page_is = pins.page;
      page_sizes = pins.sizes;
      page_log = pins.log;
      shows = shows.shows;
    },
  )
