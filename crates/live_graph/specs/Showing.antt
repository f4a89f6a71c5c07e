-- What the steps on a table show of a key that was asked for.
use Rattle.std.specs.Prelude.{◌≡◌, ◌⊎◌, ℕ, ◌+◌, ◌-◌, ◌<◌, ◌≤◌, List, ◌++◌, length}
use Rattle.edit_log.specs.History.{Grammar}
use Rattle.pin_rule.specs.declared.sizes.Sizes.{Sizes}
use Rattle.pin_rule.specs.declared.view.Step.{Step}
use Rattle.pin_rule.specs.Lists.{Each}
use Rattle.row_coding.specs.Rows.{Key, key_words}
use Rattle.slot_store.specs.Meaning.{Meaning as PageMeaning, with_graph, extended}
use Rattle.slot_store.specs.Quiet.{IsQuiet}
use Rattle.slot_store.specs.Answers.{IsFound, IsMade, IsAlready, IsPageFull, IsPoolFull, IsInitial}
use Rattle.graph_content.specs.Rows.{IsPayloadOf}
use Rattle.graph_content.specs.Contents.{FitsLog}
use Rattle.live_graph.specs.declared.origin.Origin.{Origin}
use Rattle.live_graph.specs.declared.origin.Origin.TheVariants.{Found, Made, Raced, Alone}

-- these steps stand among those, one behind the other
pub record StandsAmong (part steps : List Step) : Type 0 where
  pub before : List Step
  pub after : List Step
  pub is : steps ≡ before ++ (part ++ after)

-- only these steps came, none of which pins or changes a version; and the graph, where the page tells it, may be another
pub record Comes (old new : PageMeaning) (added : List Step) : Type 0 where
  pub is : new ≡ extended (with_graph old new.graph) added
  pub quiet : Each IsQuiet added

-- some such steps came
abbrev pub HasStepped : PageMeaning → PageMeaning → Type 0
HasStepped old new = (added : List Step) × Comes old new added

-- the key's row has room: key and payload together have as few words as a row has for them
abbrev pub IsNarrow : Sizes → Grammar → Key → Type 0
IsNarrow z grammar key = (payload : List ℕ) → IsPayloadOf grammar key payload → length (key_words key) + length payload ≤ z.width - 2

-- the key's row has no room
abbrev pub IsWide : Sizes → Grammar → Key → Type 0
IsWide z grammar key = (payload : List ℕ) × IsPayloadOf grammar key payload × (z.width - 2 < length (key_words key) + length payload)

module _ (m : PageMeaning) (steps : List Step) where
  -- a look along the key's path met other keys and then an empty place; and then each row was in use
  pub record HasNoRow (key : List ℕ) : Type 0 where
    pub look : List Step
    pub claims : List Step
    pub part : StandsAmong (look ++ claims) steps
    pub place : ℕ
    pub initial : IsInitial m.sizes m.page look key place
    pub full : IsPoolFull m.sizes m.page claims

  -- each place of the page held another key
  pub record HasNoPlace (key : List ℕ) : Type 0 where
    pub walk : List Step
    pub part : StandsAmong walk steps
    pub full : IsPageFull m.sizes m.page walk key

  -- a look found the key's row, which fits the log
  pub record WasFound (key payload : List ℕ) : Type 0 where
    pub look : List Step
    pub part : StandsAmong look steps
    pub found : IsFound m.sizes m.page look (FitsLog m.log) key payload

  -- the key's row was written and put into the page
  pub record WasMade (key payload : List ℕ) : Type 0 where
    pub call : List Step
    pub part : StandsAmong call steps
    pub made : IsMade m.sizes m.page call key payload

  -- a row of the key was met, as another row of it was to be put into the page
  pub record WasThere (key : List ℕ) : Type 0 where
    pub call : List Step
    pub part : StandsAmong call steps
    pub already : IsAlready m.sizes m.page call key

  -- An entry of the page whose row has this key was loaded or published; or no row was free, where the key's path led to an empty
  -- place; or no place was.
  pub data ShowsKey (key : List ℕ) : Type 0 where
    found : {payload : List ℕ} → WasFound key payload → ShowsKey key
    made : {payload : List ℕ} → WasMade key payload → ShowsKey key
    met : WasThere key → ShowsKey key
    no_row : HasNoRow key → ShowsKey key
    no_place : HasNoPlace key → ShowsKey key

  -- the steps show how the expansion of the key came
  abbrev pub Came : Grammar → Key → Origin → Type 0
  Came grammar key Found = (payload : List ℕ) × IsPayloadOf grammar key payload × WasFound (key_words key) payload
  Came grammar key Made = (payload : List ℕ) × IsPayloadOf grammar key payload × WasMade (key_words key) payload
  Came grammar key Raced = WasThere (key_words key)
  Came grammar key Alone = IsWide m.sizes grammar key ⊎ (HasNoRow (key_words key) ⊎ HasNoPlace (key_words key))
