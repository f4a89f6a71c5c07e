-- The live versions without their rows, and their pages.
use Rattle.std.specs.Prelude.{ℕ, List, [], ◌∷◌, ◌++◌, map}
use Rattle.pin_rule.specs.declared.view.Live.{Live}
use Rattle.pin_rule.specs.declared.view.Older.{Older}
use Rattle.version_store.specs.declared.live_version.LiveVersion.{LiveVersion}
use Rattle.version_store.specs.declared.live_version.OlderVersion.{OlderVersion}

abbrev pub live_noted : Live → LiveVersion
live_noted l = record { version = l.version; page = l.page; base = l.base }

abbrev pub older_noted : Older → OlderVersion
older_noted o = record { live = live_noted o.live; taken = o.taken }

-- the older versions, oldest first
abbrev pub oldest_first : List Older → List OlderVersion
oldest_first [] = []
oldest_first (o ∷ os) = oldest_first os ++ older_noted o ∷ []

-- the page of the oldest version
abbrev pub first_page : LiveVersion → List OlderVersion → ℕ
first_page newest [] = newest.page
first_page newest (o ∷ os) = o.live.page

abbrev pub pages_noted : LiveVersion → List OlderVersion → List ℕ
pages_noted newest older = newest.page ∷ map (λ (o : OlderVersion). o.live.page) older

abbrev pub lives_in : Live → List Older → List Live
lives_in newest older = newest ∷ map (λ (o : Older). o.live) older
