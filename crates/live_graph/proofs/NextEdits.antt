-- The entry of a log behind a history is that of the next edit.
use Rattle.std.proofs.Common.{◌≡◌, ℕ, ◌+◌, ◌≤◌, List, [], ◌∷◌, ◌++◌, map, length, refl, sym, ap, ◌∙◌, subst, arith, append_assoc, append-nil}
use Rattle.std.specs.Prelude.{fold}
use Rattle.std.proofs.lemmas.List.{length-append, length-map}
use mathlib.Core.Option as maybe
use lib.ListN.{get_elem?}
use Rattle.grammar_text.specs.declared.edit.Edit.{Edit}
use Rattle.edit_entry.specs.Entries.{entry_of}
use Rattle.edit_log.specs.History.{Grammar, empty_grammar, after_edit, grammar_of}
use Rattle.edit_log.specs.Verdict.{IsAccepted}
use Rattle.pin_rule.specs.declared.content.Entry.{Entry}
use Rattle.pin_rule.proofs.Lists.{each_append}
use Rattle.slot_store.specs.Meaning.{Meaning as PageMeaning, extended}
use Rattle.slot_store.specs.Logs.{IsEntryOf, IsLogLoad}
use Rattle.slot_store.specs.Answers.{ReadsLog}
use Rattle.graph_content.specs.Contents.{IsLogOf, IsLogOfGrammar, IsLawfulLog}
use Rattle.graph_content.proofs.LogLaws.{accepted_next, grammar_push}
use Rattle.live_graph.specs.CatchingUp.{IsAtPrefix, IsAtPrefixLength}

-- an edit comes next, and these are its words
pub record IsNextEdit (rest : List Edit) (words : List ℕ) : Type 0 where
  pub edit : Edit
  pub others : List Edit
  pub is : rest ≡ edit ∷ others
  pub words_are : words ≡ entry_of edit

abbrev words_in : List Entry → List (List ℕ)
words_in log = map (λ (entry : Entry). entry.words) log

same_some : (x y : Entry) → maybe.some x ≡ maybe.some y → x ≡ y
same_some x y e = cc

next_in : (log : List Entry) (history rest : List Edit) (e : Entry) → words_in log ≡ map entry_of (history ++ rest)
    → get_elem? log (length history) ≡ maybe.some e → IsNextEdit rest e.words
next_in [] [] rest e same at = absurd cc
next_in (first ∷ log) [] [] e same at = absurd cc
next_in (first ∷ log) [] (edit ∷ others) e same at = record {
  edit = edit;
  others = others;
  is = refl;
  words_are =
      let is : first ≡ e = same_some first e at in
      let heads : first.words ≡ entry_of edit = cc in
      ap (λ (x : Entry). x.words) (sym is) ∙ heads;
}
next_in [] (x ∷ history) rest e same at = absurd cc
next_in (first ∷ log) (x ∷ history) rest e same at =
    let tails : words_in log ≡ map entry_of (history ++ rest) = cc in
    next_in log history rest e tails at

module _ (log : List Entry) (grammar : Grammar) (count : ℕ) (at : IsAtPrefixLength log grammar count) where
  pub next_edit : (words : List ℕ) → IsEntryOf log count words → IsNextEdit at.behind.rest words
  next_edit words (e, there, are) =
      subst (IsNextEdit at.behind.rest) (sym are)
      (next_in log at.behind.history at.behind.rest e at.behind.is.entries (subst (λ n. get_elem? log n ≡ maybe.some e) (sym at.count_is) there))

  module _ (words : List ℕ) (next : IsNextEdit at.behind.rest words) where
    log_on : IsLogOf log (at.behind.history ++ next.edit ∷ next.others)
    log_on = subst (λ rest. IsLogOf log (at.behind.history ++ rest)) next.is at.behind.is

    pub next_accepted : IsAccepted grammar next.edit
    next_accepted =
        subst (λ g. IsAccepted g next.edit) (sym at.behind.made) (accepted_next empty_grammar at.behind.history next.edit next.others log_on.is_history)

    pub next_behind : (new : Grammar) → new ≡ after_edit grammar next.edit → IsAtPrefixLength log new (count + 1)
    next_behind new made = record {
      behind = record {
        history = at.behind.history ++ next.edit ∷ [];
        rest = next.others;
        is = subst (IsLogOf log) (sym (append_assoc at.behind.history (next.edit ∷ []) next.others)) log_on;
        made = made ∙ ap (λ g. after_edit g next.edit) at.behind.made ∙ sym (grammar_push at.behind.history next.edit);
      };
      count_is = let long = length-append at.behind.history (next.edit ∷ []) in omega (arith, long, at.count_is);
    }

-- ---- the version counts the edits

unfolded_version : (g : Grammar) (edit : Edit) → (after_edit g edit).version ≡ g.version + 1
unfolding after_edit
unfolded_version g edit = refl

version_along : (g : Grammar) (edits : List Edit) → (fold after_edit g edits).version ≡ g.version + length edits
version_along g [] = omega arith
version_along g (edit ∷ edits) =
    let rest = version_along (after_edit g edit) edits in
    let one = unfolded_version g edit in
    omega (arith, rest, one)

pub behind_at : (log : List Entry) (grammar : Grammar) → IsAtPrefix log grammar → IsAtPrefixLength log grammar grammar.version
behind_at log grammar behind = record {
  behind = behind;
  count_is =
      let long = version_along empty_grammar behind.history in
      let same : grammar.version ≡ (grammar_of behind.history).version = ap (λ (g : Grammar). g.version) behind.made in
      omega (arith, long, same);
}

-- ---- at the end of the log

long_log : (log : List Entry) (history : List Edit) → IsLogOf log history → length history ≡ length log
long_log log history is =
    let log_long = length-map log (λ (entry : Entry). entry.words) in
    let history_long = length-map history entry_of in
    let same : length (words_in log) ≡ length (map entry_of history) = ap length is.entries in
    omega (arith, log_long, history_long, same)

nothing_left : (rest : List Edit) → length rest ≤ 0 → rest ≡ []
nothing_left [] none = refl
nothing_left (edit ∷ rest) none = absurd (omega (arith, none))

pub caught_up : (log : List Entry) (grammar : Grammar) (count : ℕ) → IsAtPrefixLength log grammar count → length log ≤ count → IsLogOfGrammar log grammar
caught_up log grammar count at past =
    let behind = at.behind in
    let long = long_log log (behind.history ++ behind.rest) behind.is in
    let parts = length-append behind.history behind.rest in
    let none : behind.rest ≡ [] = nothing_left behind.rest (omega (arith, long, parts, at.count_is, past)) in
    record {
      history = behind.history;
      is =
          subst (IsLogOf log) (append-nil behind.history) (subst (λ rest. IsLogOf log (behind.history ++ rest)) none behind.is);
      made = behind.made;
    }

-- ---- loads of the log

pub reads_join : (old middle new : PageMeaning) → ReadsLog old middle → ReadsLog middle new → ReadsLog old new
reads_join old middle new (one, first, loads) (other, second, more) = (
  one ++ other,
  second ∙ ap (λ m. extended m other) first ∙ ap (λ all. record old { steps = all }) (append_assoc old.steps one other),
  each_append IsLogLoad one other loads more,
)

pub reads_none : (m : PageMeaning) → ReadsLog m m
reads_none m = ([], ap (λ all. record m { steps = all }) (sym (append-nil m.steps)), tt)

pub reads_same_log : (old new : PageMeaning) → ReadsLog old new → new.log ≡ old.log
reads_same_log old new (added, is, loads) = ap (λ (m : PageMeaning). m.log) is

-- ---- from nothing

pub from_nothing : (log : List Entry) (grammar : Grammar) → grammar ≡ empty_grammar → IsLawfulLog log → IsAtPrefix log grammar
from_nothing log grammar made (history, is) = record { history = []; rest = history; is = is; made = made }
