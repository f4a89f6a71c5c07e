-- Steps that were added one behind the other, of kinds that are told.
use Rattle.std.proofs.Common.{◌≡◌, ℕ, zero, suc, List, inl, inr, [], ◌∷◌, ◌++◌, Option, Some, None, append_assoc, sym, ap, ◌∙◌, append-nil}
use Rattle.std.specs.Prelude.{Bool, true, false, cond}
use Rattle.pin_rule.specs.declared.sizes.Sizes.{Sizes}
use Rattle.pin_rule.specs.declared.view.Step.{Step}
use Rattle.pin_rule.specs.Lists.{Each, is_in}
use Rattle.pin_rule.specs.Steps.{freed_row}
use Rattle.pin_rule.proofs.Lists.{each_append}
use Rattle.slot_store.specs.Quiet.{IsQuiet}
use Rattle.version_store.specs.Alone.{EditsAlone}
use Rattle.version_store.specs.Edits.{entry_stores, row_loads, place_loads, page_loads, page_stores, edit_steps}
use Rattle.version_store.specs.GivingUp.{place_frees, page_frees, GivesUpOldest, KeepsOldest, GivesUp, Stops}
use Rattle.version_store.specs.Meaning.{BenchMeaning, EditorMeaning}
use Rattle.version_store.specs.Rows.{Found}
use Rattle.sections.specs.Recording.{AddsSteps, PinsNoVersion, PinsNothing}

module _ (P : Step → Type 0) where
  abbrev pub Adds : List Step → List Step → Type 0
  Adds old new = (added : List Step) × (new ≡ old ++ added) × Each P added

  pub adds_none : (old new : List Step) → new ≡ old → Adds old new
  adds_none old new same = ([], same ∙ sym (append-nil old), tt)

  pub adds_join : (old between new : List Step) → Adds old between → Adds between new → Adds old new
  adds_join old between new (a, first, each) (b, next, all) = (
    a ++ b,
    next ∙ ap (λ (steps : List Step). steps ++ b) first ∙ append_assoc old a b,
    each_append P a b each all,
  )

-- ---- a place that is loaded

row_quiet : (z : Sizes) (row index : ℕ) (words : List ℕ) → Each IsQuiet (row_loads z row index words)
row_quiet z row index [] = tt
row_quiet z row index (w ∷ ws) = (tt, row_quiet z row (suc index) ws)

pub place_quiet : (z : Sizes) (page place : ℕ) (x : Option Found) → Each IsQuiet (place_loads z page place x)
place_quiet z page place None = (tt, tt)
place_quiet z page place (Some f) = (tt, row_quiet z f.row 0 f.words)

-- ---- the steps of an edit pin nothing

abbrev NoPin : Step → Type 0
NoPin s = PinsNoVersion s.kind

entry_free : (z : Sizes) (entry index : ℕ) (words : List ℕ) → PinsNothing (entry_stores z entry index words)
entry_free z entry index [] = tt
entry_free z entry index (w ∷ ws) = (tt, entry_free z entry (suc index) ws)

row_free : (z : Sizes) (row index : ℕ) (words : List ℕ) → PinsNothing (row_loads z row index words)
row_free z row index [] = tt
row_free z row index (w ∷ ws) = (tt, row_free z row (suc index) ws)

place_free : (z : Sizes) (page place : ℕ) (x : Option Found) → PinsNothing (place_loads z page place x)
place_free z page place None = (tt, tt)
place_free z page place (Some f) = (tt, row_free z f.row 0 f.words)

page_free : (z : Sizes) (page place : ℕ) (found : List (Option Found)) → PinsNothing (page_loads z page place found)
page_free z page place [] = tt
page_free z page place (f ∷ fs) =
    each_append NoPin (place_loads z page place f) (page_loads z page (suc place) fs) (place_free z page place f) (page_free z page (suc place) fs)

stores_free : (z : Sizes) (page place : ℕ) (words : List ℕ) → PinsNothing (page_stores z page place words)
stores_free z page place [] = tt
stores_free z page place (w ∷ ws) = (tt, stores_free z page (suc place) ws)

edit_free : (z : Sizes) (version old new : ℕ) (entry : List ℕ) (found : List (Option Found)) (places : List ℕ) (met : ℕ)
    → PinsNothing (edit_steps z version old new entry found places met)
edit_free z version old new entry found places met =
    each_append NoPin (entry_stores z version 0 entry) _ (entry_free z version 0 entry)
    (each_append NoPin (page_loads z old 0 found) _ (page_free z old 0 found)
    (each_append NoPin (page_stores z new 0 places) _ (stores_free z new 0 places) (tt, tt)))

-- ---- those of a version that is given up too

freed : (z : Sizes) (row : ℕ) (carried : Bool) → PinsNothing (cond carried [] (freed_row z row ∷ []))
freed z row true = tt
freed z row false = (tt, tt)

frees_free : (z : Sizes) (carried : List ℕ) (page place word : ℕ) → PinsNothing (place_frees z carried page place word)
frees_free z carried page place zero = (tt, tt)
frees_free z carried page place (suc row) = (tt, freed z row (is_in row carried))

all_frees_free : (z : Sizes) (carried : List ℕ) (page place : ℕ) (words : List ℕ) → PinsNothing (page_frees z carried page place words)
all_frees_free z carried page place [] = tt
all_frees_free z carried page place (n ∷ ns) =
    each_append NoPin (place_frees z carried page place n) (page_frees z carried page (suc place) ns) (frees_free z carried page place n)
    (all_frees_free z carried page (suc place) ns)

gives_one : (m n : EditorMeaning) → GivesUpOldest m n → Adds NoPin m.steps n.steps
gives_one m n one = (_, ap (λ (e : EditorMeaning). e.steps) one.is, (tt, all_frees_free m.sizes _ one.oldest.live.page 0 one.places))

gives_some : (count : ℕ) (m n : EditorMeaning) → GivesUp count m n → Adds NoPin m.steps n.steps
gives_some zero m n same = adds_none NoPin m.steps n.steps (ap (λ (e : EditorMeaning). e.steps) same)
gives_some (suc count) m n (l, so_far, last) =
    adds_join NoPin m.steps l.steps n.steps (gives_some count m l so_far) (gives_one l n last)

keeps_last : (l n : EditorMeaning) (released : ℕ) → KeepsOldest l n released → Adds NoPin l.steps n.steps
keeps_last l n released keeps = (_, ap (λ (e : EditorMeaning). e.steps) keeps.is, (tt, tt))

stops : (l n : EditorMeaning) (released : ℕ) → Stops l n released → Adds NoPin l.steps n.steps
stops l n released it = elim it [
  | inl (none, same) ↦ adds_none NoPin l.steps n.steps (ap (λ (e : EditorMeaning). e.steps) same)
  | inr keeps ↦ keeps_last l n released keeps
]

-- ---- an edit of a bench

module _ (keeps : List ℕ → Type 0) (entry : List ℕ) (m n : BenchMeaning) (edits : EditsAlone keeps entry m n) where
  makes : Adds NoPin edits.before.steps edits.between.steps
  makes =
      let made = edits.made in
      (_, made.steps, edit_free edits.before.sizes _ made.old made.new entry made.found made.places made.met)

  gives : Adds NoPin edits.between.steps edits.after.steps
  gives =
      let (l, released, some, end) = edits.gave_up in
      adds_join NoPin edits.between.steps l.steps edits.after.steps (gives_some edits.count edits.between l some) (stops l edits.after released end)

  pub edit_adds : AddsSteps m n PinsNothing
  edit_adds =
      let (added, is, free) = adds_join NoPin edits.before.steps edits.between.steps edits.after.steps makes gives in
      (added, edits.last.steps ∙ is ∙ ap (λ (steps : List Step). steps ++ added) (sym edits.first.steps), free)
