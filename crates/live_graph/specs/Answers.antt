-- What a page and a user of it answer about one key: parts of the work of a graph over the page.
use Rattle.std.specs.Prelude.{◌≡◌, ◌⊎◌, ℕ, ◌+◌, ◌-◌, ◌<◌, ◌≤◌, List, [], ◌∷◌, ◌++◌, Contains, length, map, slice_get, Some, None, Option}
use Rattle.forest.specs.Distinct.{IsDistinct}
use Rattle.edit_log.specs.History.{Grammar}
use Rattle.item_sets.specs.declared.item.Item.{Item}
use Rattle.item_sets.specs.declared.expansion.Expansion.{Expansion}
use Rattle.item_sets.specs.Expansions.{IsExpansionOf}
use Rattle.isg_states.specs.declared.scan_key.ScanKey.{ScanKey}
use Rattle.isg_states.specs.declared.ranges.ScanExpansion.{ScanExpansion}
use Rattle.isg_states.specs.Expansion.{IsScanExpansionOf}
use Rattle.pin_rule.specs.declared.sizes.Sizes.{Sizes}
use Rattle.pin_rule.specs.declared.view.Step.{Step}
use Rattle.pin_rule.specs.Lists.{Each, In}
use Rattle.slot_store.specs.Meaning.{Meaning as PageMeaning, extended}
use Rattle.slot_store.specs.Quiet.{IsQuiet}
use Rattle.slot_store.specs.Keys.{row_of}
use Rattle.slot_store.specs.GraphAnswers.{WhereTold, HasRowWith, HasRows, AddsRow}
use Rattle.slot_store.specs.Answers.{IsFound, IsMade, IsAlready, IsPageFull, IsPoolFull, IsInitial}
use Rattle.row_coding.specs.Words.{item_payload_words, scan_payload_words}
use Rattle.row_coding.specs.Conditions.{FitsCoding, IsTyped, FitsScanCoding, IsTypedScan}
use Rattle.row_coding.specs.Rows.{Key, key_words, kernel, scan}
use Rattle.graph_content.specs.Rows.{IsRowOf}
use Rattle.graph_content.specs.Contents.{FitsLog, IsLogOfGrammar}
use Rattle.live_graph.specs.declared.origin.Origin.{Origin}
use Rattle.live_graph.specs.declared.origin.Origin.TheVariants.{Found, Made, Raced, Alone}
use Rattle.live_graph.specs.declared.answer.Answer.{Answer}
use Rattle.live_graph.specs.Sharing.{keys_in}
use Rattle.live_graph.specs.Showing.{Comes, Came, IsWide}
use Rattle.live_graph.specs.Growing.{WhereBothTold, HasRowOf, TellsGraph}

-- the words code this expansion
abbrev pub CodesItems : List ℕ → Expansion → Type 0
CodesItems payload expansion = FitsCoding expansion × (payload ≡ item_payload_words expansion)

abbrev pub CodesScan : List ℕ → ScanExpansion → Type 0
CodesScan payload expansion = FitsScanCoding expansion × (payload ≡ scan_payload_words expansion)

-- an expansion can be read of the words
abbrev pub CanReadItems : List ℕ → Type 0
CanReadItems payload = (coded : Expansion) × FitsCoding coded × IsTyped coded × (payload ≡ item_payload_words coded)

abbrev pub CanReadScan : List ℕ → Type 0
CanReadScan payload = (coded : ScanExpansion) × FitsScanCoding coded × IsTypedScan coded × (payload ≡ scan_payload_words coded)

-- no row has the key: a place on its path is empty, or each place has another key
abbrev pub IsMissing : Sizes → ℕ → List Step → List ℕ → Type 0
IsMissing z page added key = ((place : ℕ) × IsInitial z page added key place) ⊎ IsPageFull z page added key

-- by the steps that were added to those of the page a row was found whose payload codes the expansion, or none; and just so is the graph
abbrev pub Looks : {E : Type 0} → (List ℕ → E → Type 0) → PageMeaning → List Step → List ℕ → Option E → Type 0
Looks Codes m added key None = IsMissing m.sizes m.page added key × WhereTold m.graph (λ graph. ¬ (HasRowWith graph key))
Looks Codes m added key (Some expansion) = (payload : List ℕ) × Codes payload expansion × IsFound m.sizes m.page added (FitsLog m.log) key payload
    × WhereTold m.graph (In (row_of key payload))

-- only these steps came, none of which pins or changes a version, and the graph is as it was
pub record Passes (old new : PageMeaning) (added : List Step) : Type 0 where
  pub is : new ≡ extended old added
  pub quiet : Each IsQuiet added

-- some such steps came
abbrev pub HasPassed : PageMeaning → PageMeaning → Type 0
HasPassed old new = (added : List Step) × Passes old new added

-- the look added only its steps
pub record HasLooked {E : Type 0} (Codes : List ℕ → E → Type 0) (old new : PageMeaning) (key : List ℕ) (found : Option E) : Type 0 where
  pub added : List Step
  pub passes : Passes old new added
  pub looks : Looks Codes old added key found

-- why a row that was to be published was or was not
abbrev pub WasOffered : Sizes → ℕ → List Step → (key payload : List ℕ) → Origin → Type 0
WasOffered z page added key payload Found = ⊥
WasOffered z page added key payload Made = IsMade z page added key payload
WasOffered z page added key payload Raced = IsAlready z page added key
WasOffered z page added key payload Alone = (z.width - 2 < length key + length payload) ⊎ (IsPoolFull z page added ⊎ IsPageFull z page added key)

-- what became of the graph, as its row was or was not published
abbrev pub OffersRow : Sizes → (key payload : List ℕ) → Origin → (before after : List (List ℕ)) → Type 0
OffersRow z key payload Found before after = ⊥
OffersRow z key payload Made before after = (¬ (HasRowWith before key)) × AddsRow before after (row_of key payload) × (length (row_of key payload) ≤ z.width)
OffersRow z key payload Raced before after = HasRowWith before key
OffersRow z key payload Alone before after = (after ≡ before)
    × ((z.width - 2 < length key + length payload) ⊎ (HasRows before z.rows ⊎ HasRows before z.places))

-- the call that publishes added only its steps
pub record HasOffered (old new : PageMeaning) (key payload : List ℕ) (origin : Origin) : Type 0 where
  pub added : List Step
  pub comes : Comes old new added
  pub offers : WasOffered old.sizes old.page added key payload origin
  pub graph : WhereBothTold old.graph new.graph (OffersRow old.sizes key payload origin)

-- what became of the graph, as the key's expansion came so
abbrev pub GoesOnBy : Sizes → Grammar → Key → Origin → (before after : List (List ℕ)) → Type 0
GoesOnBy z grammar key Found before after = (after ≡ before) × HasRowOf grammar key before
GoesOnBy z grammar key Made before after = (¬ (HasRowWith before (key_words key)))
    × ((row : List ℕ) × IsRowOf grammar key row × AddsRow before after row × (length row ≤ z.width))
GoesOnBy z grammar key Raced before after = ⊥
GoesOnBy z grammar key Alone before after = (after ≡ before) × (¬ (HasRowWith before (key_words key)))
    × (IsWide z grammar key ⊎ (HasRows before z.rows ⊎ HasRows before z.places))

-- by the steps that were added the key's expansion came so
pub record HasCome (grammar : Grammar) (old new : PageMeaning) (key : Key) (origin : Origin) : Type 0 where
  pub added : List Step
  pub comes : Comes old new added
  pub came : Came old added grammar key origin
  pub graph : WhereBothTold old.graph new.graph (GoesOnBy old.sizes grammar key origin)

-- a key that was found took no steps of expansion, and each other took its cost
abbrev pub Pays : {K : Type 0} → (K → ℕ → Type 0) → K → Origin → (before after : ℕ) → Type 0
Pays Costs key Found before after = after ≡ before
Pays Costs key Made before after = (cost : ℕ) × Costs key cost × (after ≡ before + cost)
Pays Costs key Raced before after = (cost : ℕ) × Costs key cost × (after ≡ before + cost)
Pays Costs key Alone before after = (cost : ℕ) × Costs key cost × (after ≡ before + cost)

-- ---- what is kept

-- keys with how their expansions came
abbrev pub origins : {K E : Type 0} → List (K × Answer E) → List (K × Origin)
origins kept = map (λ one. (one.0, one.1.origin)) kept

-- each key is kept with its expansion
abbrev pub HoldsAnswers : {K E : Type 0} → (K → E → Type 0) → List (K × Answer E) → Type 0
HoldsAnswers Expands kept = (key : _) (answer : _) → Contains kept (key, answer) → Expands key answer.expansion

-- the key was kept before, and nothing was done; or it was not, its expansion came, and it stands behind the others
abbrev pub AddsKey : {K E : Type 0} → Grammar → (K → Key) → (old new : PageMeaning) → K → (before after : List (K × Answer E)) → Type 0
AddsKey grammar as_key old new key before after = ((new ≡ old) × (after ≡ before))
    ⊎ ((answer : _) × (Contains (keys_in (origins before)) key → ⊥) × (after ≡ before ++ (key, answer) ∷ []) × HasCome grammar old new (as_key key)
    answer.origin)

-- each key is kept with how its expansion came, as the steps show
abbrev pub HoldsOrigins : {K : Type 0} → (K → Key) → PageMeaning → List Step → Grammar → List (K × Origin) → Type 0
HoldsOrigins as_key m steps grammar kept = (key : _) (origin : Origin) → Contains kept (key, origin) → Came m steps grammar (as_key key) origin

-- at this place the key stands with its expansion
abbrev pub StandsAnswer : {K E : Type 0} → (K → E → Type 0) → List (K × Answer E) → K → (place : ℕ) → Type 0
StandsAnswer Expands kept key place = (answer : _) × (slice_get kept place ≡ Some (key, answer)) × Expands key answer.expansion

abbrev pub ExpandsKernel : Grammar → List Item → Expansion → Type 0
ExpandsKernel grammar items expansion = IsExpansionOf grammar.rules items expansion

abbrev pub ExpandsScan : Grammar → ScanKey → ScanExpansion → Type 0
ExpandsScan grammar key expansion = IsScanExpansionOf grammar key expansion.ranges

abbrev pub kernel_key : List Item → Key
kernel_key items = kernel items

abbrev pub scan_key : ScanKey → Key
scan_key key = scan key

-- ---- the keeper's invariant

-- what is kept of both kinds, over a page whose log is the grammar's
pub record IsKept (grammar : Grammar) (basis page : PageMeaning) (scans : List (ScanKey × Answer ScanExpansion)) (kernels : List (List Item
    × Answer Expansion)) : Type 0 where
  pub log : IsLogOfGrammar basis.log grammar
  pub added : List Step
  pub comes : Comes basis page added
  pub scan_expansions : HoldsAnswers (ExpandsScan grammar) scans
  pub kernel_expansions : HoldsAnswers (ExpandsKernel grammar) kernels
  pub scan_origins : HoldsOrigins scan_key basis added grammar (origins scans)
  pub kernel_origins : HoldsOrigins kernel_key basis added grammar (origins kernels)
  pub scans_once : IsDistinct (keys_in (origins scans))
  pub kernels_once : IsDistinct (keys_in (origins kernels))
  pub few_scans : length scans < 4294967296
  pub few_kernels : length kernels < 4294967296
  pub graph : TellsGraph (record { grammar = grammar; basis = basis; page = page; scans = origins scans; kernels = origins kernels })
