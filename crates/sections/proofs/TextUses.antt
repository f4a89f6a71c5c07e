-- What a text that was worked on over a page did to the graph of the page, where it tells it.
use Rattle.std.proofs.Common.{◌≡◌, inl, ℕ, ◌+◌, List, [], refl, sym, ap, ◌∙◌, subst, arith}
use Rattle.edit_log.specs.History.{Grammar}
use Rattle.forest.specs.Distinct.{AreAll}
use Rattle.row_coding.specs.Rows.{Key}
use Rattle.slot_store.specs.Meaning.{Meaning as PageMeaning}
use Rattle.graph_content.specs.Contents.{IsLogOfGrammar}
use Rattle.live_graph.specs.declared.tally.Tallies.{Tallies}
use Rattle.live_graph.specs.Cost.{IsCostOf, RisesAsCost}
use Rattle.live_graph.specs.Sharing.{Shared, keys_in, means_shared}
use Rattle.live_graph.specs.Tallying.{tallies_of}
use Rattle.live_graph.specs.Ending.{EndsShown}
use Rattle.live_graph.specs.Growing.{WhereBothTold, GrowsByAsked, TellsGraph}
use Rattle.live_graph.proofs.ToldGraphs.{told_map, told_same}
use Rattle.replies.specs.declared.reply.Outcome.{Outcome}
use Rattle.sections.specs.Held.{AsksFor, UsesKeys, AddsRowsOf}
use Rattle.sections.specs.Asked.{AsksAll, AsksText}
use Rattle.sections.proofs.UsedGraphs.{asked_keys, used, rows_added}
use Rattle.sections.proofs.AskedKeys.{exactly, asks_for}

-- a graph over the page that was not asked for anything
abbrev pub fresh : Grammar → PageMeaning → Shared
fresh grammar page = record { grammar = grammar; basis = page; page = page; scans = []; kernels = [] }

module _ (grammar : Grammar) (page next : PageMeaning) (first graph : Shared) (tallies : Tallies) (is_log : IsLogOfGrammar page.log grammar)
    (starts : first ≡ fresh grammar page) (basis : (means_shared graph).base ≡ (means_shared first).base) (rules : graph.grammar ≡ first.grammar)
    (page_is : next ≡ graph.page) (counted : tallies ≡ tallies_of graph) (ends : EndsShown graph) (told : TellsGraph graph) (before after : ℕ)
    (raises : RisesAsCost (means_shared first) (means_shared graph) before after) where
  basis_is : graph.basis ≡ page
  basis_is = basis ∙ ap (λ (s : Shared). s.basis) starts

  grammar_is : graph.grammar ≡ grammar
  grammar_is = rules ∙ ap (λ (s : Shared). s.grammar) starts

  abbrev asked : List Key
  asked = asked_keys (keys_in graph.kernels) (keys_in graph.scans)

  -- a graph that was not asked for anything costs nothing
  free : IsCostOf (means_shared first) 0
  free =
      subst (λ (s : Shared). IsCostOf (means_shared s) 0) (sym starts)
      (record { scans = 0; kernels = 0; scans_cost = refl; kernels_cost = refl; sum = refl })

  uses : (Asks : List Key → Type 0) → Asks asked → WhereBothTold page.graph next.graph (UsesKeys page.sizes grammar Asks tallies before after)
  uses Asks are =
      let rise = raises.steps in
      let rises : after ≡ before + (0 + raises.rise) = omega (arith, rise) in
      subst (λ (m : PageMeaning). WhereBothTold page.graph m.graph (UsesKeys page.sizes grammar Asks tallies before after)) (sym page_is)
      (subst (λ (m : PageMeaning). WhereBothTold m.graph graph.page.graph (UsesKeys m.sizes grammar Asks tallies before after)) basis_is
      (subst (λ g. WhereBothTold graph.basis.graph graph.page.graph (UsesKeys graph.basis.sizes g Asks tallies before after)) grammar_is
      (subst (λ t. WhereBothTold graph.basis.graph graph.page.graph (UsesKeys graph.basis.sizes graph.grammar Asks t before after)) (sym counted)
      (told_map (GrowsByAsked graph) (UsesKeys graph.basis.sizes graph.grammar Asks (tallies_of graph) before after) graph.basis.graph graph.page.graph
      (λ f l grown. (
        asked,
        are,
        used page.log graph f l (subst (IsLogOfGrammar page.log) (sym grammar_is) is_log) grown ends.kernels_once ends.scans_once before after
            (0 + raises.rise) (raises.cost 0 free) rises,
      ))
      told))))

  nothing_asked : ((means_shared first).kernels.keys ≡ []) × ((means_shared first).scans.keys ≡ [])
  nothing_asked = (ap (λ (s : Shared). keys_in s.kernels) starts, ap (λ (s : Shared). keys_in s.scans) starts)

  pub scan_uses : (Wanted : Key → Type 0) → AsksAll Wanted (means_shared first) (means_shared graph)
      → WhereBothTold page.graph next.graph (UsesKeys page.sizes grammar (AreAll Wanted) tallies before after)
  scan_uses Wanted asks =
      uses (AreAll Wanted)
      (exactly (means_shared first) (means_shared graph) nothing_asked.0 nothing_asked.1 ends.kernels_once ends.scans_once Wanted asks)

  pub text_uses : (text : List ℕ) (outcome : Outcome) → AsksText grammar text outcome (means_shared first) (means_shared graph)
      → WhereBothTold page.graph next.graph (UsesKeys page.sizes grammar (AsksFor grammar text outcome) tallies before after)
  text_uses text outcome asks =
      uses (AsksFor grammar text outcome)
      (asks_for (means_shared first) (means_shared graph) nothing_asked.0 nothing_asked.1 ends.kernels_once ends.scans_once grammar text outcome asks)

-- ---- a text that was refused

pub refused_adds : (grammar : Grammar) (page next : PageMeaning) (first graph : Shared) → first ≡ fresh grammar page
    → (means_shared graph).base ≡ (means_shared first).base → graph.grammar ≡ first.grammar → next ≡ graph.page → TellsGraph graph
    → WhereBothTold page.graph next.graph (AddsRowsOf grammar)
refused_adds grammar page next first graph starts basis rules page_is told =
    let basis_is : graph.basis ≡ page = basis ∙ ap (λ (s : Shared). s.basis) starts in
    let grammar_is : graph.grammar ≡ grammar = rules ∙ ap (λ (s : Shared). s.grammar) starts in
    subst (λ (m : PageMeaning). WhereBothTold page.graph m.graph (AddsRowsOf grammar)) (sym page_is)
    (subst (λ (m : PageMeaning). WhereBothTold m.graph graph.page.graph (AddsRowsOf grammar)) basis_is
    (subst (λ g. WhereBothTold graph.basis.graph graph.page.graph (AddsRowsOf g)) grammar_is
    (told_map (GrowsByAsked graph) (AddsRowsOf graph.grammar) graph.basis.graph graph.page.graph (rows_added graph) told)))

-- no call was made
pub nothing_added : (grammar : Grammar) (page next : PageMeaning) → next ≡ page → WhereBothTold page.graph next.graph (AddsRowsOf grammar)
nothing_added grammar page next same =
    subst (λ (m : PageMeaning). WhereBothTold page.graph m.graph (AddsRowsOf grammar)) (sym same)
    (told_same (AddsRowsOf grammar) page.graph (λ graph. record { kept = λ row there. there; only = λ row there. inl there }))
