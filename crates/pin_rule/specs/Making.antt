-- What the editor makes: the entry and the page of the next version, and its role once that version is the newest.
use Rattle.std.specs.Prelude.{ℕ, zero, suc, List, [], ◌∷◌, ◌++◌, map, length, Option, Some, None, cond}
use lib.Dec.{eqb}
use Rattle.pin_rule.specs.declared.content.Entry.{Entry}
use Rattle.pin_rule.specs.declared.view.Live.{Live}
use Rattle.pin_rule.specs.declared.view.Making.{Making}
use Rattle.pin_rule.specs.declared.view.Role.{Role}
use Rattle.pin_rule.specs.declared.view.EntryFact.{EntryFact}
use Rattle.pin_rule.specs.declared.view.WordFact.{WordFact}
use Rattle.pin_rule.specs.declared.view.KnownPlace.{KnownPlace}
use Rattle.pin_rule.specs.Layout.{taken_named}
use Rattle.pin_rule.specs.Lists.{is_in}
use Rattle.pin_rule.specs.Views.{pages_taken}
use Rattle.pin_rule.specs.PartLive.{known_release}

-- the first of so many numbers that is none of these, else the number after them
abbrev pub first_outside : ℕ → ℕ → List ℕ → ℕ
first_outside zero from ns = from
first_outside (suc count) from ns = cond (is_in from ns) (first_outside count (suc from) ns) from

-- the least page that no live version has and that is not being given up
abbrev pub spare_page : Role → ℕ
spare_page r = first_outside (length (pages_taken r)) 0 (pages_taken r)

abbrev pub begun : Role → Option Making → Making
begun r None = record { page = spare_page r; entry = []; places = [] }
begun r (Some m) = m

-- what is in the making, else one that begins at the spare page
abbrev pub making_of : Role → Making
making_of r = begun r r.making

abbrev pub with_entry_word : Option Role → ℕ → Option Role
with_entry_word None word = None
with_entry_word (Some r) word = Some record r { making = Some (let m = making_of r in record m { entry = m.entry ++ word ∷ [] }) }

abbrev pub with_place_word : Option Role → ℕ → Option Role
with_place_word None word = None
with_place_word (Some r) word = Some record r { making = Some (let m = making_of r in record m { places = m.places ++ word ∷ [] }) }

-- The version that was made

-- the log with the entry in the making
abbrev pub next_log : List Entry → Making → List Entry
next_log log m = log ++ record { words = m.entry } ∷ []

-- the rows that these words of places name
abbrev pub rows_of : List ℕ → List ℕ
rows_of [] = []
rows_of (zero ∷ ns) = rows_of ns
rows_of (suc row ∷ ns) = row ∷ rows_of ns

abbrev pub new_version : Role → Making → ℕ → ℕ → Live
new_version r m version page = record { version = version; page = page; base = known_release r.released page; carried = rows_of m.places }

-- the version that was the newest is an older one, with the pins that the word met counts
abbrev pub with_version : Role → Making → ℕ → ℕ → ℕ → Role
with_version r m version page met = record r {
  newest = new_version r m version page;
  older = record { live = r.newest; taken = taken_named met } ∷ r.older;
  making = None;
}

abbrev pub making_in : Option Role → Option Making
making_in None = None
making_in (Some r) = r.making

-- what is made of the entry and the page in the making, where there are some
abbrev pub by_making : {A : Type 0} → Option Making → A → (Making → A) → A
by_making None a f = a
by_making (Some m) a f = f m

abbrev pub role_with_version : Option Role → ℕ → ℕ → ℕ → Option Role
role_with_version None version page met = None
role_with_version (Some r) version page met = Some (by_making r.making r (λ m. with_version r m version page met))

-- the entries of these words of places, from a place on
abbrev pub entries_of : ℕ → ℕ → List ℕ → List EntryFact
entries_of version place [] = []
entries_of version place (zero ∷ ns) = entries_of version (suc place) ns
entries_of version place (suc row ∷ ns) = record { version = version; place = place; row = row } ∷ entries_of version (suc place) ns

-- what is known at a version of the words of these rows
abbrev pub facts_on : ℕ → List ℕ → List WordFact → List WordFact
facts_on version rows [] = []
facts_on version rows (w ∷ ws) = cond (eqb w.version version) (cond (is_in w.row rows) (w ∷ facts_on version rows ws) (facts_on version rows ws))
    (facts_on version rows ws)

-- the same, as facts of the next version
abbrev pub facts_carried : ℕ → ℕ → List ℕ → List WordFact → List WordFact
facts_carried before version rows ws = map (λ (w : WordFact). record w { version = version }) (facts_on before rows ws)

-- what is known of the row that a word of a place names
abbrev pub words_on : ℕ → List WordFact → ℕ → List (ℕ × ℕ)
words_on version ws zero = []
words_on version ws (suc row) = map (λ (w : WordFact). (w.index, w.word)) (facts_on version (row ∷ []) ws)

-- the places from one on that have these words, with what is known of their rows
abbrev pub places_known : ℕ → List WordFact → ℕ → List ℕ → List KnownPlace
places_known version ws place [] = []
places_known version ws place (n ∷ ns) = record { place = place; met = n; words = words_on version ws n } ∷ places_known version ws (suc place) ns
