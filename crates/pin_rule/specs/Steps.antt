-- What each kind of step makes of the view: from the view before, the arguments, and the word met where the operation tells it.
use Rattle.std.specs.Prelude.{ℕ, zero, suc, ◌+◌, ◌-◌, ◌/◌, List, [], ◌∷◌, ◌++◌, map, length, Option, Some, None, Bool, true, false, cond}
use lib.Dec.{eqb, ltb}
use Rattle.pin_rule.specs.declared.sizes.Sizes.{Sizes}
use Rattle.pin_rule.specs.declared.view.View.{View}
use Rattle.pin_rule.specs.declared.view.OwnRow.{OwnRow}
use Rattle.pin_rule.specs.declared.view.Pin.{Pin}
use Rattle.pin_rule.specs.declared.view.Role.{Role}
use Rattle.pin_rule.specs.declared.view.Making.{Making}
use Rattle.pin_rule.specs.declared.view.EntryFact.{EntryFact}
use Rattle.pin_rule.specs.declared.view.WordFact.{WordFact}
use Rattle.pin_rule.specs.declared.view.Step.{Step}
use Rattle.pin_rule.specs.declared.view.Kind.{Kind}
use Rattle.pin_rule.specs.declared.view.Kind.TheVariants as kind
use Rattle.pin_rule.specs.declared.view.KnownPlace.{KnownPlace}
use Rattle.pin_rule.specs.declared.ops.Op.{Op}
use Rattle.pin_rule.specs.declared.ops.Op.TheVariants as op
use Rattle.pin_rule.specs.Layout.{release_word, claim_word, place_word, log_word, row_word, naming, version_named, page_named, full_sizes}
use Rattle.pin_rule.specs.Ops.{exchanged, one_more}
use Rattle.pin_rule.specs.Views.{whole, now, version_at}
use Rattle.pin_rule.specs.Making.{with_entry_word, with_place_word, making_in, by_making, next_log, rows_of, role_with_version, entries_of, facts_carried}
use Rattle.pin_rule.specs.Making.{places_known}
use Rattle.pin_rule.specs.GivingUp.{role_released, role_met, role_freed}

-- The steps as they stand in a view's list

abbrev pub step_of : Kind → ℕ → Option ℕ → Option ℕ → Step
step_of k i m n = record { kind = k; word = i; met = m; left = n }

abbrev pub loaded_place : Sizes → ℕ → ℕ → ℕ → Step
loaded_place z page place met = step_of kind.LoadPlace (place_word z page place) (Some met) (Some met)

abbrev pub loaded_row : Sizes → ℕ → ℕ → ℕ → Step
loaded_row z row index met = step_of kind.LoadRow (row_word z row index) (Some met) (Some met)

abbrev pub claimed : Sizes → ℕ → ℕ → Step
claimed z row met = step_of kind.Claim (claim_word z row) (Some met) (Some (exchanged 1 met))

abbrev pub wrote_row : Sizes → ℕ → ℕ → ℕ → Step
wrote_row z row index word = step_of kind.WriteRow (row_word z row index) None (Some word)

abbrev pub published : Sizes → ℕ → ℕ → ℕ → ℕ → Step
published z page place row met = step_of kind.Publish (place_word z page place) (Some met) (Some (exchanged (suc row) met))

abbrev pub gave_back : Sizes → ℕ → Step
gave_back z row = step_of kind.GiveBack (claim_word z row) None (Some 0)

abbrev pub pinned : ℕ → Step
pinned met = step_of kind.Pin 0 (Some met) (Some (one_more met))

abbrev pub unpinned : Sizes → ℕ → ℕ → Step
unpinned z page met = step_of kind.Unpin (release_word z page) (Some met) (Some (one_more met))

abbrev pub loaded_log : Sizes → ℕ → ℕ → ℕ → Step
loaded_log z entry index met = step_of kind.LoadLog (log_word z entry index) (Some met) (Some met)

abbrev pub wrote_log : Sizes → ℕ → ℕ → ℕ → Step
wrote_log z entry index word = step_of kind.WriteLog (log_word z entry index) None (Some word)

abbrev pub wrote_place : Sizes → ℕ → ℕ → ℕ → Step
wrote_place z page place word = step_of kind.WritePlace (place_word z page place) None (Some word)

abbrev pub swapped : ℕ → ℕ → ℕ → Step
swapped version page met = step_of kind.SwapCurrent 0 (Some met) (Some (naming version page))

abbrev pub loaded_release : Sizes → ℕ → ℕ → Step
loaded_release z page met = step_of kind.LoadRelease (release_word z page) (Some met) (Some met)

abbrev pub freed_row : Sizes → ℕ → Step
freed_row z row = step_of kind.FreeRow (claim_word z row) None (Some 0)

-- they load word 0, and the table does not tell what they met
abbrev pub was_split : Step
was_split = step_of kind.Split 0 None None

abbrev pub was_joined : Step
was_joined = step_of kind.Join 0 None None

abbrev pub noted : View → Step → View
noted v s = record v { steps = v.steps ++ s ∷ [] }

-- What they teach

-- the entry met at a place, if the view may speak of the page
abbrev pub met_entry : Option ℕ → List EntryFact → ℕ → ℕ → List EntryFact
met_entry None es place met = es
met_entry (Some version) es place zero = es
met_entry (Some version) es place (suc row) = record { version = version; place = place; row = row } ∷ es

-- the version of the newest entry that names the row
abbrev pub version_of : List EntryFact → ℕ → Option ℕ
version_of [] row = None
version_of (e ∷ es) row = cond (eqb e.row row) (Some e.version) (version_of es row)

abbrev pub met_word : Option ℕ → List WordFact → ℕ → ℕ → ℕ → List WordFact
met_word None ws row index met = ws
met_word (Some version) ws row index met = record { version = version; row = row; index = index; word = met } ∷ ws

-- What the view with the whole share keeps of the newest page

abbrev pub is_newest_page : Option Role → ℕ → Bool
is_newest_page None page = false
is_newest_page (Some r) page = eqb r.newest.page page

abbrev pub keeps_page : View → ℕ → Bool
keeps_page v page = cond (eqb v.share whole) (is_newest_page v.role page) false

-- a place that is known stays, with the words of its row
abbrev pub learned_place : ℕ → ℕ → List KnownPlace → List KnownPlace
learned_place place met [] = record { place = place; met = met; words = [] } ∷ []
learned_place place met (k ∷ ks) = cond (eqb k.place place) (k ∷ ks) (k ∷ learned_place place met ks)

abbrev pub known_met : View → ℕ → ℕ → ℕ → List KnownPlace
known_met v page place met = cond (keeps_page v page) (learned_place place met v.known) v.known

-- one more word of the row that stands there
abbrev pub learned_word : ℕ → ℕ → ℕ → KnownPlace → KnownPlace
learned_word row index met k = record k { words = cond (eqb k.met (suc row)) ((index, met) ∷ k.words) k.words }

abbrev pub known_read : View → ℕ → ℕ → ℕ → List KnownPlace
known_read v row index met = cond (eqb v.share whole) (map (learned_word row index met) v.known) v.known

-- The views afterwards

abbrev pub after_load_place : View → ℕ → ℕ → ℕ → View
after_load_place v page place met = noted
    (record v {
      entries = met_entry (version_at v page) v.entries place met;
      known = known_met v page place met;
      role = role_met v.sizes v.role page place met;
    })
    (loaded_place v.sizes page place met)

abbrev pub after_load_row : View → ℕ → ℕ → ℕ → View
after_load_row v row index met = noted
    (record v {
      words = met_word (version_of v.entries row) v.words row index met;
      known = known_read v row index met;
    })
    (loaded_row v.sizes row index met)

-- a claim that met 0 was won
abbrev pub claimed_row : Option OwnRow → ℕ → ℕ → Option OwnRow
claimed_row own row zero = Some record { row = row; wrote = [] }
claimed_row own row (suc _) = own

abbrev pub after_claim : View → ℕ → ℕ → View
after_claim v row met = noted (record v { own = claimed_row v.own row met }) (claimed v.sizes row met)

-- the pairs of the other indexes
abbrev pub without : ℕ → List (ℕ × ℕ) → List (ℕ × ℕ)
without index [] = []
without index (w ∷ ws) = cond (eqb w.0 index) (without index ws) (w ∷ without index ws)

abbrev pub written : Option OwnRow → ℕ → ℕ → Option OwnRow
written None index word = None
written (Some o) index word = Some record o { wrote = (index, word) ∷ without index o.wrote }

abbrev pub after_write_row : View → ℕ → ℕ → ℕ → View
after_write_row v row index word = noted (record v { own = written v.own index word }) (wrote_row v.sizes row index word)

-- the words that were written, as facts of their row
abbrev pub own_words : ℕ → Option OwnRow → List WordFact
own_words version None = []
own_words version (Some o) = map (λ w. record { version = version; row = o.row; index = w.0; word = w.1 }) o.wrote

abbrev pub published_words : Option ℕ → Option OwnRow → List WordFact → ℕ → List WordFact
published_words None own ws met = ws
published_words (Some version) own ws zero = own_words version own ++ ws
published_words (Some version) own ws (suc _) = ws

-- a publication that met 0 was won
abbrev pub published_own : Option OwnRow → ℕ → Option OwnRow
published_own own zero = None
published_own own (suc _) = own

-- what is known of the other places
abbrev pub without_place : ℕ → List KnownPlace → List KnownPlace
without_place place [] = []
without_place place (k ∷ ks) = cond (eqb k.place place) (without_place place ks) (k ∷ without_place place ks)

abbrev pub words_of_own : Option OwnRow → List (ℕ × ℕ)
words_of_own None = []
words_of_own (Some o) = o.wrote

-- the row stands at the place with the words that were written to it
abbrev pub known_published : View → ℕ → ℕ → ℕ → List KnownPlace
known_published v page place row = cond (keeps_page v page) (record { place = place; met = suc row; words = words_of_own v.own } ∷ []) []
    ++ without_place place v.known

abbrev pub published_known : View → ℕ → ℕ → ℕ → ℕ → List KnownPlace
published_known v page place row zero = known_published v page place row
published_known v page place row (suc n) = known_met v page place (suc n)

abbrev pub after_publish : View → ℕ → ℕ → ℕ → ℕ → View
after_publish v page place row met = noted
    (record v {
      own = published_own v.own met;
      entries = met_entry (version_at v page) v.entries place (exchanged (suc row) met);
      words = published_words (version_at v page) v.own v.words met;
      known = published_known v page place row met;
    })
    (published v.sizes page place row met)

abbrev pub after_give_back : View → ℕ → View
after_give_back v row = noted (record v { own = None }) (gave_back v.sizes row)

abbrev pub pin_of : ℕ → Pin
pin_of met = record { version = version_named met; page = page_named met }

abbrev pub after_pin : View → ℕ → View
after_pin v met = noted (record v { pinned = Some (pin_of met); pins_left = v.pins_left - 1 }) (pinned met)

abbrev pub after_unpin : View → ℕ → ℕ → View
after_unpin v page met = noted (record v { pinned = None }) (unpinned v.sizes page met)

abbrev pub is_below : ℕ → Option Pin → Bool
is_below entry None = false
is_below entry (Some p) = ltb entry p.version

-- the word is the next one of the entry after the view's log, and the pinned version has that entry
abbrev pub is_next : View → ℕ → ℕ → Bool
is_next v entry index = cond (is_below entry v.pinned) (cond (eqb entry (now v)) (eqb index (length v.log_words)) false) false

-- the log grows by the entry once all its words were loaded
abbrev pub with_words : View → List ℕ → View
with_words v ws = cond (eqb (length ws) 32) (record v { log = v.log ++ record { words = ws } ∷ []; log_words = [] }) (record v { log_words = ws })

abbrev pub with_word : Bool → View → ℕ → View
with_word false v met = v
with_word true v met = with_words v (v.log_words ++ met ∷ [])

abbrev pub after_load_log : View → ℕ → ℕ → ℕ → View
after_load_log v entry index met = noted (with_word (is_next v entry index) v met) (loaded_log v.sizes entry index met)

abbrev pub after_write_log : View → ℕ → ℕ → ℕ → View
after_write_log v entry index word = noted (record v { role = with_entry_word v.role word }) (wrote_log v.sizes entry index word)

abbrev pub after_write_place : View → ℕ → ℕ → ℕ → View
after_write_place v page place word = noted (record v { role = with_place_word v.role word }) (wrote_place v.sizes page place word)

-- with the whole share each place of the new page is known
abbrev pub known_after : View → Making → List KnownPlace
known_after v m = cond (eqb v.share whole) (places_known (now v) v.words 0 m.places) []

abbrev pub after_swap_current : View → ℕ → ℕ → ℕ → View
after_swap_current v version page met = noted
    (record v {
      log = by_making (making_in v.role) v.log (λ m. next_log v.log m);
      entries = by_making (making_in v.role) v.entries (λ m. entries_of version 0 m.places ++ v.entries);
      words = by_making (making_in v.role) v.words (λ m. facts_carried (now v) version (rows_of m.places) v.words ++ v.words);
      known = by_making (making_in v.role) [] (known_after v);
      role = role_with_version v.role version page met;
    })
    (swapped version page met)

abbrev pub after_load_release : View → ℕ → ℕ → View
after_load_release v page met = noted (record v { role = role_released v.role page met }) (loaded_release v.sizes page met)

abbrev pub after_free_row : View → ℕ → View
after_free_row v row = noted (record v { role = role_freed v.sizes v.role }) (freed_row v.sizes row)

-- The view after an operation that met a word

abbrev pub after : View → Op → ℕ → View
after v (op.LoadPlace page place) met = after_load_place v page place met
after v (op.LoadRow row index) met = after_load_row v row index met
after v (op.Claim row) met = after_claim v row met
after v (op.WriteRow row index word) met = after_write_row v row index word
after v (op.Publish page place row) met = after_publish v page place row met
after v (op.GiveBack row) met = after_give_back v row
after v op.Pin met = after_pin v met
after v (op.Unpin page) met = after_unpin v page met
after v (op.LoadLog entry index) met = after_load_log v entry index met
after v (op.WriteLog entry index word) met = after_write_log v entry index word
after v (op.WritePlace page place word) met = after_write_place v page place word
after v (op.SwapCurrent version page) met = after_swap_current v version page met
after v (op.LoadRelease page) met = after_load_release v page met
after v (op.FreeRow row) met = after_free_row v row

-- what is left to a seat that is split, and what the new seat has
abbrev pub after_split : View → ℕ → View
after_split v pins = noted (record v { share = v.share - v.share / 2; pins_left = v.pins_left - pins; known = [] }) was_split

abbrev pub split_off : View → ℕ → View
split_off v pins = record {
  sizes = v.sizes;
  log = v.log;
  share = v.share / 2;
  pins_left = pins;
  pinned = None;
  own = None;
  log_words = [];
  entries = [];
  words = [];
  known = [];
  role = None;
  steps = [];
}

-- what a seat has once another has joined it, and what that one is left with
abbrev pub after_join : View → View → View
after_join v w = record (noted v was_joined) {
  share = v.share + w.share;
  pins_left = v.pins_left + w.pins_left;
  entries = v.entries ++ w.entries;
  words = v.words ++ w.words;
  known = [];
  steps = (v.steps ++ was_joined ∷ []) ++ w.steps;
}

abbrev pub spent_view : View
spent_view = record {
  sizes = full_sizes;
  log = [];
  share = 0;
  pins_left = 0;
  pinned = None;
  own = None;
  log_words = [];
  entries = [];
  words = [];
  known = [];
  role = None;
  steps = [];
}

-- the one seat of a new table
abbrev pub first_role : Role
first_role = record { newest = record { version = 0; page = 0; base = 0; carried = [] }; older = []; released = []; making = None; giving_up = None }

-- so many places, all of them empty
abbrev pub empty_places : ℕ → List KnownPlace
empty_places zero = []
empty_places (suc n) = record { place = n; met = 0; words = [] } ∷ empty_places n

abbrev pub first_view : Sizes → View
first_view z = record {
  sizes = z;
  log = [];
  share = whole;
  pins_left = z.pins;
  pinned = None;
  own = None;
  log_words = [];
  entries = [];
  words = [];
  known = empty_places z.places;
  role = Some first_role;
  steps = [];
}
