-- What the rule says of one view that has a share, whatever else stands in the table.
use Rattle.std.specs.Prelude.{◌≡◌, ◌≢◌, ℕ, suc, ◌+◌, ◌<◌, ◌≤◌, List, [], length, slice_index, Some, None}
use mathlib.Core.Option as maybe
use lib.ListN.{get_elem?}
use Rattle.pin_rule.specs.declared.content.Entry.{Entry}
use Rattle.pin_rule.specs.declared.view.View.{View}
use Rattle.pin_rule.specs.declared.view.EntryFact.{EntryFact}
use Rattle.pin_rule.specs.declared.view.WordFact.{WordFact}
use Rattle.pin_rule.specs.declared.view.KnownPlace.{KnownPlace}
use Rattle.pin_rule.specs.declared.view.Older.{Older}
use Rattle.pin_rule.specs.declared.view.GivingUp.{GivingUp}
use Rattle.pin_rule.specs.declared.view.Role.{Role}
use Rattle.pin_rule.specs.declared.sizes.Sizes.{Sizes}
use Rattle.pin_rule.specs.declared.ops.Op.{Op}
use Rattle.pin_rule.specs.declared.ops.Op.TheVariants.{
  LoadPlace,
  LoadRow,
  Claim,
  WriteRow,
  Publish,
  GiveBack,
  Pin,
  Unpin,
  LoadLog,
  WriteLog,
  WritePlace,
  SwapCurrent,
}
use Rattle.pin_rule.specs.declared.ops.Op.TheVariants.{LoadRelease, FreeRow}
use Rattle.pin_rule.specs.Layout.{version_named, page_named}
use Rattle.pin_rule.specs.Lists.{In}
use Rattle.pin_rule.specs.Rows.{key_of, content_of, on_path}
use Rattle.pin_rule.specs.Views.{whole, now, IsCaughtUp}

-- the view knows that the row stands at the place of the version's page
abbrev pub KnowsPlace : View → ℕ → ℕ → ℕ → Type 0
KnowsPlace v version place row = In (let e : EntryFact = record { version = version; place = place; row = row } in e) v.entries

-- the view knows that the row stands in the page of the version
abbrev pub KnowsRow : View → ℕ → ℕ → Type 0
KnowsRow v version row = (place : ℕ) × KnowsPlace v version place row

abbrev pub KnowsWord : View → ℕ → ℕ → ℕ → ℕ → Type 0
KnowsWord v version row index word = In (let w : WordFact = record { version = version; row = row; index = index; word = word } in w) v.words

-- the word at index 1 is the payload's length and says nothing of the key
abbrev pub OfKey : (ℕ → ℕ) → ℕ → Type 0
OfKey g index = (index < 2 + g 0) × (index ≢ 1)

-- the view knows the row's words that tell its key, which are those of g
abbrev pub KnowsKey : View → ℕ → ℕ → (ℕ → ℕ) → Type 0
KnowsKey v version row g = (index : ℕ) → OfKey g index → KnowsWord v version row index (g index)

-- the view knows all words of the row, which are those of g
abbrev pub KnowsContent : View → ℕ → ℕ → (ℕ → ℕ) → Type 0
KnowsContent v version row g = (index : ℕ) → index < 2 + (g 0 + g 1) → KnowsWord v version row index (g index)

-- the pairs of an index and a word have the words that tell the key of g
abbrev pub HasKeyWords : List (ℕ × ℕ) → (ℕ → ℕ) → Type 0
HasKeyWords ws g = (index : ℕ) → OfKey g index → In (index, g index) ws

-- the place is on the path of the key, and of the places before it there none is known to be empty
abbrev pub IsReached : Sizes → List KnownPlace → List ℕ → ℕ → Type 0
IsReached z known key place = (step : ℕ) × (step < z.places) × (on_path z key step ≡ place) ×
    ((before : ℕ) (k : KnownPlace) → before < step → In k known → k.place ≡ on_path z key before → k.met ≢ 0)

-- what is known with the whole share is alike to the facts of the newest version, and each word is known once
pub record IsAlike (v : View) (version : ℕ) : Type 0 where
  pub inside : (k : KnownPlace) → In k v.known → k.place < v.sizes.places
  pub places : (k : KnownPlace) (place row : ℕ) → In k v.known → k.place ≡ place → KnowsPlace v version place row → k.met ≡ suc row
  pub words : (k : KnownPlace) (row index a b : ℕ) → In k v.known → k.met ≡ suc row → In (index, a) k.words → KnowsWord v version row index b → a ≡ b
  pub once : (k : KnownPlace) (row index a b : ℕ) → In k v.known → k.met ≡ suc row → In (index, a) k.words → In (index, b) k.words → a ≡ b

-- places are known of one page: a place has one word, a row is one of the table and has one word at an index, and no key stands twice
pub record IsOfOnePage (z : Sizes) (ks : List KnownPlace) : Type 0 where
  pub places : (k l : KnownPlace) → In k ks → In l ks → k.place ≡ l.place → k.met ≡ l.met
  pub rows : (k : KnownPlace) (row : ℕ) → In k ks → k.met ≡ suc row → row < z.rows
  pub words : (k l : KnownPlace) (row index a b : ℕ) → In k ks → In l ks → k.met ≡ suc row → l.met ≡ suc row → In (index, a) k.words
      → In (index, b) l.words → a ≡ b
  pub keys_once : (k l : KnownPlace) (a b : ℕ) (g : ℕ → ℕ) → In k ks → In l ks → k.met ≡ suc a → l.met ≡ suc b → HasKeyWords k.words g
      → HasKeyWords l.words g → k.place ≡ l.place

-- of the rows of a version
pub record IsTold (fits : List ℕ → Type 0) (v : View) (version : ℕ) : Type 0 where
  pub range : (row : ℕ) → KnowsRow v version row → row < v.sizes.rows
  -- a row has room for the lengths of its key and its payload
  pub key : (row key : ℕ) → KnowsRow v version row → KnowsWord v version row 0 key → 2 + key ≤ v.sizes.width
  pub room : (row key payload : ℕ) → KnowsRow v version row → KnowsWord v version row 0 key → KnowsWord v version row 1 payload
      → 2 + (key + payload) ≤ v.sizes.width
  -- a row whose words are known fits the log
  pub fitting : (row : ℕ) (g : ℕ → ℕ) → KnowsRow v version row → KnowsContent v version row g → fits (content_of g)
  -- no key stands twice
  pub keys_once : (p q a b : ℕ) (g : ℕ → ℕ) → KnowsPlace v version p a → KnowsPlace v version q b → KnowsKey v version a g → KnowsKey v version b g → p ≡ q
  -- facts of one word are alike
  pub words_once : (row index a b : ℕ) → KnowsWord v version row index a → KnowsWord v version row index b → a ≡ b
  pub alike : v.share ≡ whole → (r : Role) → v.role ≡ Some r → r.newest.version ≡ version → IsAlike v version
  -- what is known with the whole share: a row stands on the path of its key, past places that are not empty
  pub reached : v.share ≡ whole → (k : KnownPlace) (row : ℕ) (g : ℕ → ℕ) → In k v.known → k.met ≡ suc row
      → HasKeyWords k.words g → IsReached v.sizes v.known (key_of g) k.place
  pub one_page : v.share ≡ whole → IsOfOnePage v.sizes v.known

-- a view that has caught up has a lawful log, and is told of the rows of the version that this log leads to
abbrev pub Tells : (List Entry → Type 0) → (List Entry → List ℕ → Type 0) → View → Type 0
Tells lawful fits v = IsCaughtUp v → lawful v.log × IsTold (fits v.log) v (now v)

-- CUR names a version that the view's log leads to or a later one, and a page
abbrev pub IsCurrentFor : View → ℕ → Type 0
IsCurrentFor v n = (now v ≤ version_named n) × (version_named n ≤ v.sizes.log) × (page_named n < v.sizes.versions)

-- the editor's CUR names the newest version and its page
abbrev pub NamesNewest : View → ℕ → Type 0
NamesNewest v n = (r : Role) → v.role ≡ Some r → (version_named n ≡ r.newest.version) × (page_named n ≡ r.newest.page)

-- with the whole share, a place of the newest page that is known has the word that is known
abbrev pub IsAsKnown : View → ℕ → ℕ → ℕ → Type 0
IsAsKnown v page place n = v.share ≡ whole → (r : Role) (k : KnownPlace) → v.role ≡ Some r → r.newest.page ≡ page → In k v.known → k.place ≡ place → n ≡ k.met

-- with the whole share, a known word of a row that stands in the newest page is the word there
abbrev pub IsReadAsKnown : View → ℕ → ℕ → ℕ → Type 0
IsReadAsKnown v row index n = v.share ≡ whole → (k : KnownPlace) (word : ℕ) → In k v.known → k.met ≡ suc row → In (index, word) k.words → n ≡ word

-- the row stands at a place, as far as that place is known
abbrev pub StandsKnown : Sizes → List KnownPlace → ℕ → Type 0
StandsKnown z ks row = (place : ℕ) × (place < z.places) × ((k : KnownPlace) → In k ks → k.place ≡ place → k.met ≡ suc row)

-- with the whole share and one version, a row in use that is not the view's own stands at a place of the newest page
abbrev pub IsUsedAsKnown : View → ℕ → ℕ → Type 0
IsUsedAsKnown v row n = n ≡ 1 → v.share ≡ whole → v.own ≡ None → (r : Role) → v.role ≡ Some r → r.older ≡ [] → r.giving_up ≡ None
    → StandsKnown v.sizes v.known row

-- an entry of the version that is being given up names a row of the table
abbrev pub IsOfGivenUp : View → ℕ → ℕ → Type 0
IsOfGivenUp v page n = (r : Role) (g : GivingUp) (row : ℕ) → v.role ≡ Some r → r.giving_up ≡ Some g → g.page ≡ page → n ≡ suc row → row < v.sizes.rows

-- the pins dropped on an older version, whose page is not the newest one, are at most those taken on it, and all of them where no seat has a pin
pub record IsReleaseOf (v : View) (r : Role) (o : Older) (n : ℕ) : Type 0 where
  pub apart : r.newest.page ≢ o.live.page
  pub from_base : o.live.base ≤ n
  pub at_most : n ≤ o.live.base + o.taken
  pub all_dropped : v.share ≡ whole → v.pinned ≡ None → n ≡ o.live.base + o.taken

-- what the rule says of the word that an operation met
abbrev pub Meets : View → Op → ℕ → Type 0
Meets v (LoadPlace page place) n = IsAsKnown v page place n × IsOfGivenUp v page n
Meets v (LoadRow row index) n = IsReadAsKnown v row index n
Meets v (Claim row) n = (n ≤ 1) × IsUsedAsKnown v row n
Meets v (WriteRow row index word) n = Unit {0}
Meets v (Publish page place row) n = IsAsKnown v page place n
Meets v (GiveBack row) n = Unit {0}
Meets v Pin n = IsCurrentFor v n × NamesNewest v n
Meets v (Unpin page) n = Unit {0}
Meets v (LoadLog entry index) n = (e : Entry) → get_elem? v.log entry ≡ maybe.some e → (n ≡ slice_index e.words index) × (length e.words ≡ 32)
Meets v (WriteLog entry index word) n = Unit {0}
Meets v (WritePlace page place word) n = Unit {0}
Meets v (SwapCurrent version page) n = NamesNewest v n
Meets v (LoadRelease page) n = (r : Role) (o : Older) → v.role ≡ Some r → In o r.older → o.live.page ≡ page → IsReleaseOf v r o n
Meets v (FreeRow row) n = Unit {0}
