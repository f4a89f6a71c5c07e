-- Which words the command line may have.
use Rattle.std.proofs.Common.{◌≡◌, ◌⊎◌, inl, inr, ◌==◌, ◌||◌, ◌+◌, arith, ℕ, Bool, true, false, List, [], ◌∷◌, length, take, drop, cond, not, Option}
use Rattle.std.proofs.Common.{Some, None, is_some, codes, refl, sym, ap, ap₂, ◌∙◌, subst, suc}
use Rattle.std.specs.Prelude.{if◌then◌else◌, option_and_then, slice_get}
use Rattle.std.specs.List.{list_any, before_first, prefix_len}
use Rattle.std.specs.Option.{option_map_or}
use Rattle.std.specs.Str.{bytes_eq, chars}
use Rattle.std.proofs.lemmas.Bool.{eqb-true}
use Rattle.std.proofs.lemmas.Slice.Eq.{bytes_eq-Decides}
use Rattle.clap.specs.Kinds.{Kinds, or_else}
use Rattle.clap.specs.Lexer.{strip_byte, long_of, long_of_rest, short_of}
use Rattle.clap.specs.Matches.{one_text}
use Rattle.clap.specs.declared.parser.matches.Found.{Found}
use Rattle.clap.proofs.WalkLemmas.{one_text-rows}
use Rattle.clap.specs.Walk.{one_of, rows_after, rows_of, Held, Row, Text, Walk, after_flag, arg_by_long, bundle_met, bundle_step, idle, trailing}
use Rattle.clap.specs.Walk.{long_or_other, plain, short_or_plain, walked}
use Rattle.clap.specs.Simple.{Shape, built, matches_of}
use Rattle.clap.specs.Faults.{bundle_fault, bundle_step_fault, flag_word_fault, flags_fault, long_fault, step_fault, turn_fault, walk_fault}
use Rattle.clap.proofs.OnLiterals.{clap_on_literals}
use Rattle.workbench.specs.Words.{asks_stats, command_line, TakesWords, AreKnownWords, nothing, flag, ended, flag_ended}

abbrev shape : Shape
shape = (built command_line).top

-- these rows are held
abbrev held : List Row → Held
held rows = record { rows = rows; pending = None; skip = 0 }

-- the walk stands between two words
abbrev between : List Row → Walk
between rows = record { held = held rows; waiting = idle; position = 1; is_trailing = false; stopped = None }

first_none : (a b : Kinds) → or_else a b ≡ [] → (a ≡ []) × (b ≡ [])
first_none [] b e = (refl, e)
first_none (k ∷ ks) b e = absurd (cc e)

-- ---- what the word of the flag looks like

before_more : (x : ℕ) (xs : Text) → (list_any (λ y. y == 61) xs ≡ false → before_first (λ y. y == 61) xs ≡ xs) → (b : Bool)
    → (b || list_any (λ y. y == 61) xs) ≡ false → take (cond (not b) (1 + prefix_len (λ y. not (y == 61)) xs) 0) (x ∷ xs) ≡ x ∷ xs
before_more x xs rest true f = absurd (cc f)
before_more x xs rest false f =
    let next : 1 + prefix_len (λ y. not (y == 61)) xs ≡ suc (prefix_len (λ y. not (y == 61)) xs) = omega arith in
    ap (λ n. take n (x ∷ xs)) next ∙ ap (λ ys. x ∷ ys) (rest f)

before_all : (xs : Text) → list_any (λ x. x == 61) xs ≡ false → before_first (λ x. x == 61) xs ≡ xs
before_all [] e = refl
before_all (x ∷ xs) e = before_more x xs (before_all xs) (x == 61) e

no_value : {X : Type 0} (b : Bool) (x : X) → is_some (if b then Some x else None) ≡ false → b ≡ false
no_value true x e = e
no_value false x e = refl

long_rest : (xs name : Text) → long_of_rest xs ≡ Some (name, None) → xs ≡ name
long_rest [] name e = absurd (cc e)
long_rest (x ∷ xs) name e =
    let alone = no_value (list_any (λ x. x == 61) (x ∷ xs)) _ (ap (λ (o : Option (Text × Option Text)). option_map_or (λ p. is_some p.1) o true) e) in
    sym (before_all (x ∷ xs) alone) ∙ ap (λ (o : Option (Text × Option Text)). option_map_or (λ p. p.0) o []) e

long_second : (x : ℕ) (xs name : Text) (b : Bool) → x == 45 ≡ b → option_and_then long_of_rest (if b then Some xs else None) ≡ Some (name, None)
    → x ∷ xs ≡ 45 ∷ name
long_second x xs name false is e = absurd (cc e)
long_second x xs name true is e = ap₂ (λ (y : ℕ) (ys : Text). y ∷ ys) (eqb-true x 45 is) (long_rest xs name e)

long_first : (x : ℕ) (xs name : Text) (b : Bool) → x == 45 ≡ b
    → option_and_then long_of_rest (option_and_then (strip_byte 45) (if b then Some xs else None)) ≡ Some (name, None) → x ∷ xs ≡ 45 ∷ 45 ∷ name
long_first x xs name false is e = absurd (cc e)
long_first x [] name true is e = absurd (cc e)
long_first x (y ∷ ys) name true is e = ap₂ (λ (z : ℕ) (zs : Text). z ∷ zs) (eqb-true x 45 is) (long_second y ys name (y == 45) refl e)

long_is : (word name : Text) → long_of word ≡ Some (name, None) → word ≡ 45 ∷ 45 ∷ name
long_is [] name e = absurd (cc e)
long_is (x ∷ xs) name e = long_first x xs name (x == 45) refl e

-- ---- a word that has no fault, where no `--` stands before it

module _ (rows : List Row) (word : Text) where
  by_char : (x : ℕ) (xs : Text) (first : Option ℕ)
      → bundle_step_fault shape.rules false first (x ∷ xs) 0 (held rows) (flags_fault shape.rules false (length xs)) ≡ []
      → step_fault shape 1 (after_flag shape.rules idle word
      (bundle_step shape.rules first (x ∷ xs) 0 plain (held rows) (bundle_met shape.rules (length xs))).0
      (bundle_step shape.rules first (x ∷ xs) 0 plain (held rows) (bundle_met shape.rules (length xs))).1).0
      (after_flag shape.rules idle word
      (bundle_step shape.rules first (x ∷ xs) 0 plain (held rows) (bundle_met shape.rules (length xs))).0
      (bundle_step shape.rules first (x ∷ xs) 0 plain (held rows) (bundle_met shape.rules (length xs))).1).1 ≡ [] → ⊥
  by_char x xs None e f = cc f
  by_char x xs (Some y) e f = cc e

  by_flags : (flags : Text) → bundle_fault shape.rules false flags (held rows) ≡ []
      → step_fault shape 1 (short_or_plain shape.rules idle word (Some flags) (held rows)).0 (short_or_plain shape.rules idle word (Some flags) (held rows)).1
      ≡ [] → ⊥
  unfolding flags_fault bundle_met
  by_flags [] e f = cc f
  by_flags (x ∷ xs) e f = by_char x xs (slice_get (chars (x ∷ xs)) 0) e f

  by_short : (flags : Option Text) → option_map_or (λ given. bundle_fault shape.rules false given (held rows)) flags [] ≡ []
      → step_fault shape 1 (short_or_plain shape.rules idle word flags (held rows)).0 (short_or_plain shape.rules idle word flags (held rows)).1 ≡ [] → ⊥
  by_short None e f = cc f
  by_short (Some flags) e f = by_flags flags e f

  by_value : (name : Text) (value : Option Text) → codes "stats" ≡ name → long_of word ≡ Some (name, value)
      → long_fault shape.rules false (arg_by_long shape.rules (codes "stats")) value (held rows) ≡ [] → word ≡ codes "--stats"
  by_value name None is long e = long_is word name long ∙ ap (λ t. 45 ∷ 45 ∷ t) (sym is)
  by_value name (Some v) is long e = absurd (cc e)

  by_name : (name : Text) (value : Option Text) (same : Bool) → bytes_eq (codes "stats") name ≡ same → long_of word ≡ Some (name, value)
      → long_fault shape.rules false (arg_by_long shape.rules name) value (held rows) ≡ [] → word ≡ codes "--stats"
  by_name name value true is long e =
      let named : codes "stats" ≡ name = (bytes_eq-Decides (codes "stats") name).0 is in
      by_value name value named long (subst (λ t. long_fault shape.rules false (arg_by_long shape.rules t) value (held rows) ≡ []) (sym named) e)
  by_name name value false is long e = absurd (let never = rw is at e in cc never)

  by_long : (long : Option (Text × Option Text)) → long_of word ≡ long → flag_word_fault shape.rules false long word (held rows) ≡ []
      → step_fault shape 1 (long_or_other shape.rules idle word long (held rows)).0 (long_or_other shape.rules idle word long (held rows)).1 ≡ []
      → word ≡ codes "--stats"
  by_long None is e f = absurd (by_short (short_of word) e f)
  by_long (Some p) is e f = by_name p.0 p.1 (bytes_eq (codes "stats") p.0) refl is e

  by_end : (end : Bool) → bytes_eq word (45 ∷ 45 ∷ []) ≡ end
      → (if end then [] else flag_word_fault shape.rules false (long_of word) word (held rows)) ≡ []
      → (step_fault shape 1 (if end then (held rows, trailing 1) else long_or_other shape.rules idle word (long_of word) (held rows)).0
      (if end then (held rows, trailing 1) else long_or_other shape.rules idle word (long_of word) (held rows)).1) ≡ []
      → (word ≡ codes "--") ⊎ (word ≡ codes "--stats")
  by_end true is e f = inl ((bytes_eq-Decides word (45 ∷ 45 ∷ [])).0 is)
  by_end false is e f = inr (by_long (long_of word) refl e f)

  word_is : turn_fault shape [] (between rows) word ≡ [] → (word ≡ codes "--") ⊎ (word ≡ codes "--stats")
  word_is e =
      let parts = first_none (if bytes_eq word (45 ∷ 45 ∷ []) then [] else flag_word_fault shape.rules false (long_of word) word (held rows)) _ e in
      by_end (bytes_eq word (45 ∷ 45 ∷ [])) refl parts.0 parts.1

-- ---- all words

after_end : (words : List Text) (rows : List Row) → walk_fault shape [] (walked shape.rules [] (between rows) (codes "--")) words ≡ [] → words ≡ []
unfolding clap_on_literals
after_end [] rows e = refl
after_end (word ∷ words) rows e = absurd (cc e)

-- the rows behind the flag
abbrev flagged : List Row
flagged = (walked shape.rules [] (between []) (codes "--stats")).held.rows

after_flag_word : (words : List Text) → walk_fault shape [] (between flagged) words ≡ [] → AreKnownWords (codes "--stats" ∷ words)
unfolding clap_on_literals
after_flag_word [] e = flag
after_flag_word (word ∷ words) e =
    let parts = first_none (turn_fault shape [] (between flagged) word) _ e in
    elim (word_is flagged word parts.0) [
      | inl is ↦
          let none : words ≡ [] = after_end words flagged
          (subst (λ w. walk_fault shape [] (walked shape.rules [] (between flagged) w) words ≡ []) is parts.1) in
          subst (λ ws. AreKnownWords (codes "--stats" ∷ ws)) (ap₂ (λ (w : Text) (ws : List Text). w ∷ ws) (sym is) (sym none)) flag_ended
      | inr is ↦ absurd (let again = subst (λ w. turn_fault shape [] (between flagged) w ≡ []) is parts.0 in cc again)
    ]

known : (words : List Text) → walk_fault shape [] (between []) words ≡ [] → AreKnownWords words
unfolding clap_on_literals
known [] e = nothing
known (word ∷ words) e =
    let parts = first_none (turn_fault shape [] (between []) word) _ e in
    elim (word_is [] word parts.0) [
      | inl is ↦
          let none : words ≡ [] = after_end words []
          (subst (λ w. walk_fault shape [] (walked shape.rules [] (between []) w) words ≡ []) is parts.1) in
          subst AreKnownWords (ap₂ (λ (w : Text) (ws : List Text). w ∷ ws) (sym is) (sym none)) ended
      | inr is ↦
          let more = after_flag_word words (subst (λ w. walk_fault shape [] (walked shape.rules [] (between []) w) words ≡ []) is parts.1) in
          subst (λ w. AreKnownWords (w ∷ words)) (sym is) more
    ]

pub known_of : (name : Text) (words : List Text) → TakesWords (name ∷ words) → AreKnownWords words
known_of name words e = known words (first_none (walk_fault shape [] (between []) words) _ e).0

pub taken : (name : Text) (words : List Text) → AreKnownWords words → TakesWords (name ∷ words)
unfolding clap_on_literals
taken name _ nothing = refl
taken name _ flag = refl
taken name _ ended = refl
taken name _ flag_ended = refl

known_behind : (words : List Text) → TakesWords words → AreKnownWords (drop 1 words)
known_behind words e = known (drop 1 words) (first_none (walk_fault shape [] (between []) (drop 1 words)) _ e).0

-- ---- what a parse says of the flag

abbrev told : Bool → Text
told asked = if asked then codes "true" else codes "false"

reads : (words : List Text) → AreKnownWords words
    → one_of (codes "stats") (rows_after shape.rules [] words) ≡ Some (told (list_any (λ word. bytes_eq word (codes "--stats")) words))
unfolding clap_on_literals
reads _ nothing = refl
reads _ flag = refl
reads _ ended = refl
reads _ flag_ended = refl

pub reads_flag : (words : List Text) (found : Found) (answer : Bool) → TakesWords words → rows_of found ≡ matches_of command_line words
    → (one_text found (codes "stats") ≡ Some (codes "true") → answer ≡ true) → (one_text found (codes "stats") ≡ Some (codes "false") → answer ≡ false)
    → answer ≡ asks_stats words
reads_flag words found answer takes rows on off = go (asks_stats words) (reads (drop 1 words) (known_behind words takes))
  where
    text : one_text found (codes "stats") ≡ one_of (codes "stats") (matches_of command_line words)
    text = one_text-rows found (codes "stats") ∙ ap (one_of (codes "stats")) rows

    go : (asked : Bool) → one_of (codes "stats") (matches_of command_line words) ≡ Some (told asked) → answer ≡ asked
    go true is = on (text ∙ is)
    go false is = off (text ∙ is)
