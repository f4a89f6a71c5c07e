-- How the graph of a page grew while keys were asked for, where the page tells it.
use Rattle.std.specs.Prelude.{◌≡◌, ◌⊎◌, ◌↔◌, ℕ, ◌+◌, ◌≤◌, List, Option, Some, None, Contains, length}
use Rattle.edit_log.specs.History.{Grammar}
use Rattle.pin_rule.specs.declared.sizes.Sizes.{Sizes}
use Rattle.pin_rule.specs.Lists.{In}
use Rattle.row_coding.specs.Rows.{Key, key_words, kernel, scan}
use Rattle.slot_store.specs.GraphAnswers.{AllDiffer, HasRows, HasRowWith}
use Rattle.graph_content.specs.Rows.{IsRowOf}
use Rattle.live_graph.specs.declared.origin.Origin.{Origin}
use Rattle.live_graph.specs.declared.origin.Origin.TheVariants.{Found, Made, Raced, Alone}
use Rattle.live_graph.specs.Sharing.{Shared}
use Rattle.live_graph.specs.Showing.{IsNarrow, IsWide}
use Rattle.live_graph.specs.Tallying.{tallies_of}

-- the graph is told at last just where it was at first, and then this is so of the two
abbrev pub WhereBothTold : (first last : Option (List (List ℕ))) → (List (List ℕ) → List (List ℕ) → Type 0) → Type 0
WhereBothTold None None P = Unit {0}
WhereBothTold None (Some last) P = ⊥
WhereBothTold (Some first) None P = ⊥
WhereBothTold (Some first) (Some last) P = P first last

-- the key was asked for, and its expansion came so
abbrev pub IsAsked : Shared → Key → Origin → Type 0
IsAsked graph (kernel items) origin = Contains graph.kernels (items, origin)
IsAsked graph (scan key) origin = Contains graph.scans (key, origin)

-- of so many keys the graph made the expansion and put it into the page
abbrev pub made_in : Shared → ℕ
made_in graph = (tallies_of graph).items.made + (tallies_of graph).scan.made

-- the key's row, with its expansion, is one of these
abbrev pub HasRowOf : Grammar → Key → List (List ℕ) → Type 0
HasRowOf grammar key graph = (row : List ℕ) × In row graph × IsRowOf grammar key row

-- so many rows of the graph, no two of them the same
pub record HasAsMany (graph : List (List ℕ)) (count : ℕ) : Type 0 where
  pub rows : List (List ℕ)
  pub many : length rows ≡ count
  pub once : AllDiffer rows
  pub known : (row : List ℕ) → In row rows → In row graph

-- the graph has as many rows as the page has places, or as the table has rows
abbrev pub IsFull : Sizes → List (List ℕ) → Type 0
IsFull z graph = HasAsMany graph z.places ⊎ HasAsMany graph z.rows

-- What the graphs say of a key whose expansion came so: its row was in the first, if it was found, and is in the last, if it was made. It is too wide or the
-- last is full, if it is kept alone. None was raced for.
abbrev pub Accords : Sizes → Grammar → Key → Origin → (first last : List (List ℕ)) → Type 0
Accords z grammar key Found first last = HasRowOf grammar key first
Accords z grammar key Made first last = HasRowOf grammar key last
Accords z grammar key Raced first last = ⊥
Accords z grammar key Alone first last = IsWide z grammar key ⊎ IsFull z last

-- a row that the graph has now it had at first, or it is that of a key which was asked for and made, and has room
abbrev pub IsAskedRow : Shared → List (List ℕ) → List ℕ → Type 0
IsAskedRow graph first row = In row first ⊎ ((key : Key) × IsAsked graph key Made × IsRowOf graph.grammar key row × (length row ≤ graph.basis.sizes.width))

-- No row went, and only rows of keys that were made came, none of them too wide, as many as were made. Of the keys that were asked for, those were found of
-- which there was a row at first, each came as the graphs say, and each has its row in the last graph, unless it is too wide or that graph is full.
pub record GrowsByAsked (graph : Shared) (first last : List (List ℕ)) : Type 0 where
  pub kept : (row : List ℕ) → In row first → In row last
  pub only : (row : List ℕ) → In row last → IsAskedRow graph first row
  pub many : (count : ℕ) → HasRows first count → HasRows last (count + made_in graph)
  pub found : (key : Key) (origin : Origin) → IsAsked graph key origin → (origin ≡ Found) ↔ HasRowWith first (key_words key)
  pub accords : (key : Key) (origin : Origin) → IsAsked graph key origin → Accords graph.basis.sizes graph.grammar key origin first last
  pub stored : (key : Key) (origin : Origin) → IsAsked graph key origin → IsNarrow graph.basis.sizes graph.grammar key
      → HasRowOf graph.grammar key last ⊎ IsFull graph.basis.sizes last

-- where the page tells its graph, it was told at first too, and grew so
abbrev pub TellsGraph : Shared → Type 0
TellsGraph graph = WhereBothTold graph.basis.graph graph.page.graph (GrowsByAsked graph)
