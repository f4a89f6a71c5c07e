-- What stays true of a view and of the steps that were added as more steps follow.
use Rattle.std.proofs.Common.{ℕ, List, [], ◌∷◌, ◌++◌, length, subst, inl, inr, append_assoc, append-nil, sym, refl, ap, ◌∙◌}
use Rattle.slot_store.specs.declared.site.Site.{Site}
use Rattle.pin_rule.specs.declared.content.Entry.{Entry}
use Rattle.pin_rule.specs.declared.sizes.Sizes.{Sizes}
use Rattle.pin_rule.specs.declared.view.View.{View}
use Rattle.pin_rule.specs.declared.view.EntryFact.{EntryFact}
use Rattle.pin_rule.specs.declared.view.WordFact.{WordFact}
use Rattle.pin_rule.specs.declared.view.Step.{Step}
use Rattle.pin_rule.specs.Lists.{Each, In}
use Rattle.pin_rule.specs.Told.{IsTold, Tells}
use Rattle.pin_rule.proofs.Lists.{each_map, each_append, in_left, in_right}
use Rattle.slot_store.proofs.LaterPlaces.{learns_same, learns_on}
use Rattle.slot_store.specs.Quiet.{IsQuiet, IsPlain}
use Rattle.slot_store.specs.Answers.{IsWordOf, MetRow}
use Rattle.slot_store.specs.Walks.{IsAtWork, MovesBy, Moves, Reads, ReadsKey, ReadsOther, MeetsOther, Passed, WritesRow, IsRowStep}

each_both : {A : Type 0} (P Q : A → Type 0) (l : List A) → Each P l → Each Q l → Each (λ x. P x × Q x) l
each_both P Q [] h k = tt
each_both P Q (x ∷ l) h k = ((h.0, k.0), each_both P Q l h.1 k.1)

module _ {P : Step → Type 0} where
  pub stays : (v : View) → MovesBy P v v []
  stays v = record {
    sizes = refl;
    log = refl;
    share = refl;
    pins_left = refl;
    log_words = refl;
    quiet = tt;
    pinned = refl;
    role = refl;
    steps = sym (append-nil v.steps);
    entries = λ _ i. i;
    words = λ _ i. i;
    known = learns_same v v refl;
  }

  pub moves_on : (u v w : View) (a b : List Step) → MovesBy P u v a → MovesBy P v w b → MovesBy P u w (a ++ b)
  moves_on u v w a b h k = record {
    sizes = k.sizes ∙ h.sizes;
    log = k.log ∙ h.log;
    share = k.share ∙ h.share;
    pins_left = k.pins_left ∙ h.pins_left;
    log_words = k.log_words ∙ h.log_words;
    quiet = each_append P a b h.quiet k.quiet;
    pinned = k.pinned ∙ h.pinned;
    role = k.role ∙ h.role;
    steps = k.steps ∙ ap (λ (l : List Step). l ++ b) h.steps ∙ append_assoc u.steps a b;
    entries = λ e i. k.entries e (h.entries e i);
    words = λ x i. k.words x (h.words x i);
    known = learns_on u v w h.sizes h.share h.known k.known;
  }

  pub work_on : (z : Site) (v w : View) (a : List Step) → IsAtWork z v → MovesBy P v w a → IsAtWork z w
  work_on z v w a h k = record {
    sizes = k.sizes ∙ h.sizes;
    share = λ e. h.share (sym k.share ∙ e);
    pinned = k.pinned ∙ h.pinned;
    caught_up =
        h.caught_up ∙ ap length (sym k.log);
    settled = λ r e. h.settled r (sym k.role ∙ e);
  }

-- the steps are of a wider kind too
pub moves_as : (P Q : Step → Type 0) → ((s : Step) → P s → Q s) → (v w : View) (a : List Step) → MovesBy P v w a → MovesBy Q v w a
moves_as P Q f v w a k = record {
  sizes = k.sizes;
  log = k.log;
  share = k.share;
  pins_left = k.pins_left;
  log_words = k.log_words;
  quiet = each_map P Q f a k.quiet;
  pinned = k.pinned;
  role = k.role;
  steps = k.steps;
  entries = k.entries;
  words = k.words;
  known = k.known;
}

-- steps that write no row are quiet
pub quietly : (v w : View) (a : List Step) → Moves v w a → MovesBy IsQuiet v w a
quietly v w a k = moves_as IsPlain IsQuiet (λ s p. p.0) v w a k

-- and they write no other word of a row than they may
pub plain_row : (z : Sizes) (row : ℕ) (words : List ℕ) (s : Step) → IsPlain s → IsRowStep z row words s
plain_row z row words s p = (p.0, λ e. absurd (p.1 e))

pub row_moves : (z : Sizes) (row : ℕ) (words : List ℕ) (v w : View) (a : List Step) → Moves v w a → MovesBy (IsRowStep z row words) v w a
row_moves z row words v w a k = moves_as IsPlain (IsRowStep z row words) (plain_row z row words) v w a k

-- the words of a row were written, and no other
pub wrote_moves : (z : Site) (v w : View) (row : ℕ) (words : List ℕ) (k : WritesRow z v w row words)
    → MovesBy (IsRowStep z.sizes row words) v w k.added
wrote_moves z v w row words k = record {
  sizes = k.moves.sizes;
  log = k.moves.log;
  share = k.moves.share;
  pins_left = k.moves.pins_left;
  log_words = k.moves.log_words;
  quiet = each_both IsQuiet (IsWordOf z.sizes row words) k.added k.moves.quiet k.only;
  pinned = k.moves.pinned;
  role = k.moves.role;
  steps = k.moves.steps;
  entries = k.moves.entries;
  words = k.moves.words;
  known = k.moves.known;
}

-- a user at work is told of the rows of its version
pub told_at : (L : List Entry → Type 0) (F : List Entry → List ℕ → Type 0) (z : Site) (v : View) → IsAtWork z v → Tells L F v → IsTold (F v.log) v z.version
told_at L F z v work told = subst (λ (n : ℕ). IsTold (F v.log) v n) (sym work.caught_up) (told (inl (_, work.pinned, work.caught_up))).1

-- a view that knows no less, and a list with no fewer steps
pub record Grows (v w : View) (a b : List Step) : Type 0 where
  pub steps : (s : Step) → In s a → In s b
  pub entries : (e : EntryFact) → In e v.entries → In e w.entries
  pub words : (x : WordFact) → In x v.words → In x w.words

pub earlier : {P : Step → Type 0} (v w : View) (a b : List Step) → MovesBy P v w b → Grows v w a (a ++ b)
earlier v w a b k = record { steps = λ s i. in_left s a b i; entries = k.entries; words = k.words }

pub later : (w : View) (a b : List Step) → Grows w w b (a ++ b)
later w a b = record { steps = λ s i. in_right s a b i; entries = λ _ i. i; words = λ _ i. i }

module _ (z : Site) (v w : View) (a b : List Step) (g : Grows v w a b) where
  pub reads_on : (row index word : ℕ) → Reads z v a row index word → Reads z w b row index word
  reads_on row index word h = ((h.0.0, g.steps _ h.0.1), g.words _ h.1)

  pub key_on : (row : ℕ) (key : List ℕ) → ReadsKey z v a row key → ReadsKey z w b row key
  key_on row key h index t = reads_on row index _ (h index t)

  pub other_on : (row : ℕ) (key : List ℕ) → ReadsOther z v a row key → ReadsOther z w b row key
  other_on row key h = (h.0, h.1, reads_on row h.0 h.1 h.2, h.3, h.4)

  pub met_on : (place row : ℕ) → MetRow z.sizes z.page a place row → MetRow z.sizes z.page b place row
  met_on place row h = (h.0, elim h.1 [ inl i ↦ inl (g.steps _ i) | inr t ↦ inr (t.0, g.steps _ t.1) ])

  pub meets_on : (key : List ℕ) (place : ℕ) → MeetsOther z v a key place → MeetsOther z w b key place
  meets_on key place h = (h.0, met_on place h.0 h.1, g.entries _ h.2, other_on h.0 key h.3)

  pub passed_on : (key : List ℕ) (n : ℕ) → Passed z v a key n → Passed z w b key n
  passed_on key n h before lt = meets_on key _ (h before lt)
