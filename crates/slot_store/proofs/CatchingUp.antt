-- Loads of log words by a user: those of the entry after its log make the log grow, the others change nothing.
use Rattle.std.proofs.Common.{◌≡◌, ◌≢◌, ℕ, ◌+◌, ◌<◌, ◌≤◌, List, [], ◌∷◌, ◌++◌, length, length-append, length-set, slice_index, set, get_or-set_same}
use Rattle.std.proofs.Common.{get_or-set_other, append_assoc, append-nil, ne_eqb, eq-eqb, sym, refl, ap, ◌∙◌, subst, arith}
use Rattle.std.proofs.lemmas.Bool.{lt-ltb}
use Rattle.std.proofs.lemmas.List.{ext_get_or}
use mathlib.Core.Option as maybe
use mathlib.Core.Bool.{cond}
use mathlib.Core.Logic.{dite}
use native.Mathlib.Decide.{ℕ_discrete}
use lib.ListN.{get_elem?}
use Rattle.atomic_table.specs.Seated.{TableId}
use lib.Dec.{eqb}
use Rattle.std.specs.Prelude.{Some, None, true, false, Bool}
use Rattle.pin_rule.specs.declared.content.Entry.{Entry}
use Rattle.pin_rule.specs.declared.view.View.{View}
use Rattle.pin_rule.specs.declared.view.Step.{Step}
use Rattle.pin_rule.specs.Views.{now, IsPrefix}
use Rattle.pin_rule.specs.Steps.{noted, loaded_log, is_below, is_next, with_word, after_load_log}
use Rattle.pin_rule.proofs.Lists.{each_append}
use Rattle.slot_store.specs.declared.site.Site.{Site}
use Rattle.pin_rule.proofs.KindLoadLog.{has_at}
use Rattle.slot_store.specs.Meaning.{meaning_of}
use Rattle.slot_store.specs.Answers.{ReadsLog}
use Rattle.slot_store.specs.Logs.{IsLogLoad, LogMoves, ReadsNext, CatchesUp, ReadsKnown, IsEntryOf}

pub prefix_self : (l : List Entry) → IsPrefix l l
prefix_self l = ([], sym (append-nil l))

pub prefix_on : (l m n : List Entry) → IsPrefix l m → IsPrefix m n → IsPrefix l n
prefix_on l m n a b = (a.0 ++ b.0, b.1 ∙ ap (λ (x : List Entry). x ++ b.0) a.1 ∙ append_assoc l a.0 b.0)

pub stays : (v : View) → LogMoves v v []
stays v = record {
  sizes = refl;
  share = refl;
  pinned = refl;
  pins_left = refl;
  own = refl;
  role = refl;
  known = refl;
  steps = sym (append-nil v.steps);
  loads = tt;
  log =
      prefix_self v.log;
}

pub moves_on : (u v w : View) (a b : List Step) → LogMoves u v a → LogMoves v w b → LogMoves u w (a ++ b)
moves_on u v w a b h k = record {
  sizes = k.sizes ∙ h.sizes;
  share = k.share ∙ h.share;
  pinned = k.pinned ∙ h.pinned;
  pins_left = k.pins_left ∙ h.pins_left;
  own = k.own ∙ h.own;
  role = k.role ∙ h.role;
  known = k.known ∙ h.known;
  steps = k.steps ∙ ap (λ (l : List Step). l ++ b) h.steps ∙ append_assoc u.steps a b;
  loads = each_append IsLogLoad a b h.loads k.loads;
  log = prefix_on u.log v.log w.log h.log k.log;
}

-- the word that comes next
module _ (z : Site) (w : View) (entry index n : ℕ) (pinned : w.pinned ≡ Some record { version = z.version; page = z.page }) (below : entry < z.version)
    (at : entry ≡ now w) (words : length w.log_words ≡ index) where
  next : is_next w entry index ≡ true
  next = ap (λ p. cond (is_below entry p) (cond (eqb entry (now w)) (eqb index (length w.log_words)) false) false) pinned
      ∙ ap (λ b. cond b (cond (eqb entry (now w)) (eqb index (length w.log_words)) false) false) (lt-ltb entry z.version below)
      ∙ ap (λ b. cond b (eqb index (length w.log_words)) false) (eq-eqb entry (now w) at) ∙ eq-eqb index (length w.log_words) (sym words)

  abbrev ws : List ℕ
  ws = w.log_words ++ n ∷ []

  long : length (w.log_words ++ n ∷ []) ≡ index + 1
  long = let e = length-append w.log_words (n ∷ []) in omega arith

  abbrev s : Step
  s = loaded_log w.sizes entry index n

  with_next : (b : Bool) → eqb (length (w.log_words ++ n ∷ [])) 32 ≡ b
      → after_load_log w entry index n ≡ noted (cond b (record w {
        log = w.log ++ record { words = w.log_words ++ n ∷ [] } ∷ [];
        log_words =
            [];
      }) (record w { log_words = w.log_words ++ n ∷ [] })) (loaded_log w.sizes entry index n)
  with_next b e = ap (λ c. noted (with_word c w n) (loaded_log w.sizes entry index n)) next
      ∙ ap (λ c. noted (cond c (record w { log = w.log ++ record { words = w.log_words ++ n ∷ [] } ∷ []; log_words = [] }) (record w {
        log_words =
            w.log_words ++ n ∷ [];
      })) (loaded_log w.sizes entry index n)) e

  pub more_words : (u : View) → u ≡ after_load_log w entry index n → index + 1 < 32 → ReadsNext z w u entry (index + 1)
  more_words u is few = subst (λ (x : View). ReadsNext z w x entry (index + 1)) (sym (is ∙ with_next false (ne_eqb _ 32 (λ e. let l = long in omega arith))))
      (record {
        added = loaded_log w.sizes entry index n ∷ [];
        moves = record {
          sizes = refl;
          share = refl;
          pinned = refl;
          pins_left = refl;
          own = refl;
          role = refl;
          known = refl;
          steps = refl;
          loads = (refl, tt);
          log =
              prefix_self w.log;
        };
        at = at;
        words = long;
      })

  pub whole_entry : (u : View) → u ≡ after_load_log w entry index n → index + 1 ≡ 32 → w.sizes ≡ z.sizes → w.share ≢ 0 → CatchesUp z w u (entry + 1)
  whole_entry u is all sizes some = subst (λ (x : View). CatchesUp z w x (entry + 1)) (sym (is ∙ with_next true (eq-eqb _ 32 (long ∙ all)))) (record {
    added = loaded_log w.sizes entry index n ∷ [];
    moves = record {
      sizes = refl;
      share = refl;
      pinned = refl;
      pins_left = refl;
      own = refl;
      role = refl;
      known = refl;
      steps = refl;
      loads = (refl, tt);
      log =
          (record { words = w.log_words ++ n ∷ [] } ∷ [], refl);
    };
    behind = record {
      sizes = sizes;
      share = some;
      pinned = pinned;
      at =
          (let e = length-append w.log (record { words = w.log_words ++ n ∷ [] } ∷ []) in omega arith);
      words = refl;
    };
  })

-- a word of an entry that the log has
cond_false : (a b : Bool) (c : Bool) → b ≡ false → cond a (cond b c false) false ≡ false
cond_false true b c e = ap (λ x. cond x c false) e
cond_false false b c e = refl

pub known_entry : (w u : View) (entry index n : ℕ) → entry < now w → u ≡ after_load_log w entry index n → u ≡ noted w (loaded_log w.sizes entry index n)
known_entry w u entry index n below is = is ∙ ap (λ c. noted (with_word c w n) (loaded_log w.sizes entry index n))
    (cond_false (is_below entry w.pinned) (eqb entry (now w)) (eqb index (length w.log_words)) (ne_eqb entry (now w) (λ e. omega arith)))

pub next_on : (z : Site) (u v w : View) (entry index : ℕ) (a : ReadsNext z u v entry index) (b : ReadsNext z v w entry (index + 1))
    → ReadsNext z u w entry (index + 1)
next_on z u v w entry index a b = record { added = a.added ++ b.added; moves = moves_on u v w a.added b.added a.moves b.moves; at = b.at; words = b.words }

pub last_on : (z : Site) (u v w : View) (entry index to : ℕ) → ReadsNext z u v entry index → CatchesUp z v w to → CatchesUp z u w to
last_on z u v w entry index to a b = record { added = a.added ++ b.added; moves = moves_on u v w a.added b.added a.moves b.moves; behind = b.behind }

pub catches_on : (z : Site) (u v w : View) (to more : ℕ) → CatchesUp z u v to → CatchesUp z v w more → CatchesUp z u w more
catches_on z u v w to more a b = record { added = a.added ++ b.added; moves = moves_on u v w a.added b.added a.moves b.moves; behind = b.behind }

-- so many words are those of the log's entry
pub record HasWords (log : List Entry) (entry : ℕ) (words : List ℕ) (count : ℕ) : Type 0 where
  pub long : length words ≡ 32
  pub are : (e : Entry) → get_elem? log entry ≡ maybe.some e → (i : ℕ) → i < count → slice_index words i ≡ slice_index e.words i
  pub wide : count ≢ 0 → (e : Entry) → get_elem? log entry ≡ maybe.some e → length e.words ≡ 32

pub no_words : (log : List Entry) (entry : ℕ) (words : List ℕ) → length words ≡ 32 → HasWords log entry words 0
no_words log entry words long = record { long = long; are = λ e at i lt. absurd (omega arith); wide = λ n. absurd (n refl) }

pub one_word : (log : List Entry) (entry : ℕ) (words : List ℕ) (index n : ℕ) → index < 32 → HasWords log entry words index
    → ((e : Entry) → get_elem? log entry ≡ maybe.some e → (n ≡ slice_index e.words index) × (length e.words ≡ 32))
    → HasWords log entry (set words index n) (index + 1)
one_word log entry words index n inside h met = record {
  long = length-set words index n ∙ h.long;
  are = λ e at i lt. dite (ℕ_discrete i index)
      (λ same. ap (slice_index (set words index n)) same ∙ get_or-set_same words index n 0 (let l = h.long in omega arith) ∙ (met e at).0
      ∙ ap (slice_index e.words) (sym same))
      (λ other. get_or-set_other words index i n 0 other ∙ h.are e at i (omega arith));
  wide = λ _ e at. (met e at).1;
}

pub all_words : (log : List Entry) (entry : ℕ) (words : List ℕ) (count : ℕ) → 32 ≤ count → entry < length log → HasWords log entry words count
    → IsEntryOf log entry words
all_words log entry words count all inside h = let e = has_at log entry inside in (
  e.0,
  e.1,
  ext_get_or 0 words e.0.words (let a = h.long in let b = h.wide (λ z. omega arith) e.0 e.1 in omega arith) (λ i lt. let a =
      h.long in h.are e.0 e.1 i (omega arith)),
)

pub knows_more : (v w u : View) (entry index n : ℕ) → ReadsKnown v w → entry < now v → u ≡ after_load_log w entry index n → ReadsKnown v u
knows_more v w u entry index n k below is = let below_w : entry < now w = (let e = ap length k.log in omega arith) in
    subst (λ (x : View). ReadsKnown v x) (sym (known_entry w u entry index n below_w is)) (let b = loaded_log w.sizes entry index n ∷ [] in record {
      added = k.added ++ b;
      moves = moves_on v w (noted w (loaded_log w.sizes entry index n)) k.added b k.moves
          (record {
            sizes = refl;
            share = refl;
            pinned = refl;
            pins_left = refl;
            own = refl;
            role = refl;
            known = refl;
            steps = refl;
            loads = (refl, tt);
            log = prefix_self
                w.log;
          });
      log = k.log;
      log_words = k.log_words;
    })

pub reads_log : (v w : View) (page : ℕ) (t s : TableId × ℕ) → ReadsKnown v w → s ≡ t → ReadsLog (meaning_of v page t) (meaning_of w page s)
reads_log v w page t s k same = let m = k.moves in (
  k.added,
  (λ i. record {
    sizes = m.sizes i;
    page = page;
    log = k.log i;
    table = same i;
    share = m.share i;
    pins_left = m.pins_left i;
    own = m.own i;
    graph = None;
    steps = m.steps i;
  }),
  m.loads,
)
