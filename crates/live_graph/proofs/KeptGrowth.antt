-- A call keeps one key more, or none, while steps come.
use Rattle.std.proofs.Common.{◌≡◌, ◌⊎◌, inl, inr, List, [], ◌∷◌, ◌++◌, Result, Ok, Err, OnOk, OnErr, Contains, sym, ap, subst}
use Rattle.edit_log.specs.History.{Grammar}
use Rattle.pin_rule.specs.declared.view.Step.{Step}
use Rattle.row_coding.specs.Rows.{Key}
use Rattle.slot_store.specs.Meaning.{Meaning as PageMeaning}
use Rattle.live_graph.specs.declared.answer.Answer.{Answer}
use Rattle.live_graph.specs.Sharing.{keys_in}
use Rattle.live_graph.specs.Showing.{Comes, Came}
use Rattle.live_graph.specs.Growing.{WhereBothTold}
use Rattle.live_graph.specs.Answers.{HasPassed, GoesOnBy, AddsKey, origins}
use Rattle.live_graph.proofs.Steps.{comes_none, passes_comes, same_graph}

-- a key that was not kept is kept behind the others, and came so
pub record HasGained {K E : Type 0} (grammar : Grammar) (as_key : K → Key) (page next : PageMeaning) (more : List Step) (old new : List (K × Answer E)) : Type 0
  where
    pub key : K
    pub answer : Answer E
    pub new_key : Contains (keys_in (origins old)) key → ⊥
    pub longer : new ≡ old ++ (key, answer) ∷ []
    pub came : Came page more grammar (as_key key) answer.origin
    pub graph : WhereBothTold page.graph next.graph (GoesOnBy page.sizes grammar (as_key key) answer.origin)

-- steps came, and nothing was kept, or one key more
pub record HasGrown {K E : Type 0} (grammar : Grammar) (as_key : K → Key) (page next : PageMeaning) (old new : List (K × Answer E)) : Type 0 where
  pub more : List Step
  pub comes : Comes page next more
  pub kept : ((new ≡ old) × (next.graph ≡ page.graph)) ⊎ HasGained grammar as_key page next more old new

pub grown : {K E : Type 0} (grammar : Grammar) (as_key : K → Key) (page next : PageMeaning) (key : K) (old new : List (K × Answer E))
    → AddsKey grammar as_key page next key old new → HasGrown grammar as_key page next old new
grown grammar as_key page next key old new (inl (same, kept)) = record {
  more = [];
  comes = subst (λ m. Comes page m []) (sym same) (comes_none page);
  kept = inl (kept, ap (λ (m : PageMeaning). m.graph) same);
}
grown grammar as_key page next key old new (inr (answer, new_key, kept, come)) = record {
  more = come.added;
  comes = come.comes;
  kept = inr (record { key = key; answer = answer; new_key = new_key; longer = kept; came = come.came; graph = come.graph });
}

-- whether the call was refused or not
pub grown_or_later : {K E V F : Type 0} (result : Result V F) (grammar : Grammar) (as_key : K → Key) (page next : PageMeaning) (key : K)
    (old new : List (K × Answer E)) → OnOk result (AddsKey grammar as_key page next key old new) → OnErr result (new ≡ old)
    → OnErr result (HasPassed page next) → HasGrown grammar as_key page next old new
grown_or_later (Ok value) grammar as_key page next key old new grows same later = grown grammar as_key page next key old new grows
grown_or_later (Err cause) grammar as_key page next key old new grows same (more, passes) = record {
  more = more;
  comes = passes_comes page next more passes;
  kept = inl (same, same_graph page next more passes);
}
