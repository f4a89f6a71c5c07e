-- Blanks and pieces at the start of a text.
use Rattle.std.proofs.Common.{◌≡◌, ℕ, Bool, true, false, cond, not, List, [], ◌∷◌, ◌++◌, refl, sym, ap, subst, arith}
use Rattle.std.specs.List.{list_all}
use Rattle.std.proofs.lemmas.Bool.{and_parts, and_from, not-true}
use Rattle.grammar_text.specs.Pieces.{is_blank, trimmed, piece_of, behind_piece, blank_led, is_empty}
use Rattle.grammar_text.specs.Spelling.{AreBlanks, IsGap}

trimmed-go : (blank : Bool) (byte : ℕ) (bytes : List ℕ) → is_blank byte ≡ blank → trimmed (trimmed bytes) ≡ trimmed bytes
    → trimmed (cond blank (trimmed bytes) (byte ∷ bytes)) ≡ cond blank (trimmed bytes) (byte ∷ bytes)
trimmed-go true byte bytes is later = later
trimmed-go false byte bytes is later = rw is refl

pub trimmed-trimmed : (bytes : List ℕ) → trimmed (trimmed bytes) ≡ trimmed bytes
trimmed-trimmed [] = refl
trimmed-trimmed (byte ∷ bytes) = trimmed-go (is_blank byte) byte bytes refl (trimmed-trimmed bytes)

-- ---- what stands before the next piece

-- a text is blanks, and then a trimmed rest
pub record Leads (text rest : List ℕ) : Type 0 where
  pub gap : List ℕ
  pub blank : AreBlanks gap
  pub parts : text ≡ gap ++ rest

leads-go : (blank : Bool) (byte : ℕ) (bytes : List ℕ) → is_blank byte ≡ blank → Leads bytes (trimmed bytes)
    → Leads (byte ∷ bytes) (cond blank (trimmed bytes) (byte ∷ bytes))
leads-go true byte bytes is later = record {
  gap = byte ∷ later.gap;
  blank = and_from (is_blank byte) (list_all is_blank later.gap) is later.blank;
  parts =
      ap (λ (t : List ℕ). byte ∷ t) later.parts;
}
leads-go false byte bytes is later = record { gap = []; blank = refl; parts = refl }

pub leads : (text : List ℕ) → Leads text (trimmed text)
leads [] = record { gap = []; blank = refl; parts = refl }
leads (byte ∷ bytes) = leads-go (is_blank byte) byte bytes refl (leads bytes)

pub record Gapped (text rest : List ℕ) : Type 0 where
  pub gap : List ℕ
  pub is_gap : IsGap gap
  pub parts : text ≡ gap ++ rest

-- where a piece may end and another comes, one blank stands at least
pub gapped : (text : List ℕ) → blank_led text ≡ true → is_empty (trimmed text) ≡ false → Gapped text (trimmed text)
gapped [] led more = absurd cc
gapped (byte ∷ bytes) led more =
    let behind = leads bytes in
    let same : trimmed (byte ∷ bytes) ≡ trimmed bytes = rw led refl in
    let whole : Gapped (byte ∷ bytes) (trimmed bytes) = record {
      gap = byte ∷ behind.gap;
      is_gap = (and_from (is_blank byte) (list_all is_blank behind.gap) led behind.blank, omega arith);
      parts = ap (λ (t : List ℕ). byte ∷ t) behind.parts;
    } in
    subst (λ (t : List ℕ). Gapped (byte ∷ bytes) t) (sym same) whole

blanks-go : (blank : Bool) (byte : ℕ) (bytes : List ℕ) → is_blank byte ≡ blank → (is_empty (trimmed bytes) ≡ true → AreBlanks bytes)
    → is_empty (cond blank (trimmed bytes) (byte ∷ bytes)) ≡ true → AreBlanks (byte ∷ bytes)
blanks-go true byte bytes is later none = and_from (is_blank byte) (list_all is_blank bytes) is (later none)
blanks-go false byte bytes is later none = absurd cc

-- where no piece comes, blanks alone are left
pub blanks_from_empty : (text : List ℕ) → is_empty (trimmed text) ≡ true → AreBlanks text
blanks_from_empty [] none = refl
blanks_from_empty (byte ∷ bytes) none = blanks-go (is_blank byte) byte bytes refl (blanks_from_empty bytes) none

-- ---- a piece and what is behind it

piece-go : (blank : Bool) (byte : ℕ) (bytes : List ℕ) → piece_of bytes ++ behind_piece bytes ≡ bytes
    → cond blank [] (byte ∷ piece_of bytes) ++ cond blank (byte ∷ bytes) (behind_piece bytes) ≡ byte ∷ bytes
piece-go true byte bytes later = refl
piece-go false byte bytes later = ap (λ (t : List ℕ). byte ∷ t) later

pub piece_splits : (text : List ℕ) → piece_of text ++ behind_piece text ≡ text
piece_splits [] = refl
piece_splits (byte ∷ bytes) = piece-go (is_blank byte) byte bytes (piece_splits bytes)

led-go : (blank : Bool) (byte : ℕ) (bytes : List ℕ) → is_blank byte ≡ blank → blank_led (behind_piece bytes) ≡ true
    → blank_led (cond blank (byte ∷ bytes) (behind_piece bytes)) ≡ true
led-go true byte bytes is later = is
led-go false byte bytes is later = later

pub behind_led : (text : List ℕ) → blank_led (behind_piece text) ≡ true
behind_led [] = refl
behind_led (byte ∷ bytes) = led-go (is_blank byte) byte bytes refl (behind_led bytes)

-- ---- a text that is made of a gap and a word

-- no byte is a blank
abbrev pub IsWord : List ℕ → Type 0
IsWord word = list_all (λ byte. not (is_blank byte)) word ≡ true

pub trimmed-blanks : (gap rest : List ℕ) → AreBlanks gap → trimmed (gap ++ rest) ≡ trimmed rest
trimmed-blanks [] rest blank = refl
trimmed-blanks (byte ∷ gap) rest blank =
    let both = and_parts (is_blank byte) (list_all is_blank gap) blank in
    rw both.0 (trimmed-blanks gap rest both.1)

pub empty-blanks : (text : List ℕ) → AreBlanks text → trimmed text ≡ []
empty-blanks [] blank = refl
empty-blanks (byte ∷ bytes) blank =
    let both = and_parts (is_blank byte) (list_all is_blank bytes) blank in
    rw both.0 (empty-blanks bytes both.1)

pub led-blanks : (text : List ℕ) → AreBlanks text → blank_led text ≡ true
led-blanks [] blank = refl
led-blanks (byte ∷ bytes) blank = (and_parts (is_blank byte) (list_all is_blank bytes) blank).0

pub led-gap : (gap rest : List ℕ) → IsGap gap → blank_led (gap ++ rest) ≡ true
led-gap [] rest is = absurd (omega (arith, is.1))
led-gap (byte ∷ gap) rest is = (and_parts (is_blank byte) (list_all is_blank gap) is.0).0

pub trimmed-word : (first : ℕ) (rest : List ℕ) → is_blank first ≡ false → trimmed (first ∷ rest) ≡ first ∷ rest
trimmed-word first rest is = rw is refl

pub piece-word : (word rest : List ℕ) → IsWord word → blank_led rest ≡ true → piece_of (word ++ rest) ≡ word
piece-word [] [] is led = refl
piece-word [] (byte ∷ bytes) is led = rw led refl
piece-word (byte ∷ word) rest is led =
    let both = and_parts (not (is_blank byte)) (list_all (λ b. not (is_blank b)) word) is in
    rw (not-true (is_blank byte) both.0) (ap (λ (t : List ℕ). byte ∷ t) (piece-word word rest both.1 led))

pub behind-word : (word rest : List ℕ) → IsWord word → blank_led rest ≡ true → behind_piece (word ++ rest) ≡ rest
behind-word [] [] is led = refl
behind-word [] (byte ∷ bytes) is led = rw led refl
behind-word (byte ∷ word) rest is led =
    let both = and_parts (not (is_blank byte)) (list_all (λ b. not (is_blank b)) word) is in
    rw (not-true (is_blank byte) both.0) (behind-word word rest both.1 led)
