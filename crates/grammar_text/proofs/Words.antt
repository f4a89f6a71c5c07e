-- Reading words and names.
use Rattle.std.proofs.Common.{◌≡◌, ℕ, ◌<◌, Bool, true, false, cond, List, [], ◌∷◌, ◌++◌, length, Result, Ok, Err, refl, sym, ap, subst, ◌∙◌, arith}
use Rattle.std.specs.Str.{bytes_eq}
use Rattle.std.proofs.lemmas.Bool.{and_parts, not-true}
use Rattle.std.proofs.lemmas.Slice.Eq.{bytes_eq-Decides}
use Rattle.grammar_text.specs.declared.bad_edit.BadEdit.{BadEdit}
use Rattle.grammar_text.specs.Names.{is_name, IsName}
use Rattle.grammar_text.specs.Pieces.{Place, is_blank, trimmed, piece_of, behind_piece, blank_led, is_empty}
use Rattle.grammar_text.specs.Spelling.{IsGap}
use Rattle.grammar_text.specs.Reading.{◌>>=◌, at, word_at, name_at}
use Rattle.grammar_text.proofs.Gaps.{IsWord, gapped, piece_splits, behind_led, trimmed-blanks, trimmed-word, piece-word, behind-word}
use Rattle.grammar_text.proofs.NameBytes.{name_facts, not-empty}

-- the value of a step that did not fail
pub bind_ok : {A B : Type 0} (r : Result A BadEdit) (f : A → Result B BadEdit) (y : B) → (r >>= f) ≡ Ok y → (x : A) × (r ≡ Ok x) × (f x ≡ Ok y)
bind_ok (Ok x) f y e = (x, refl, e)
bind_ok (Err d) f y e = absurd cc

-- a test that did not fail
pub guard_ok : {A : Type 0} (b : Bool) (d : BadEdit) (x y : A) → cond b (Ok x) (Err d) ≡ Ok y → (b ≡ true) × (x ≡ y)
guard_ok true d x y e = (refl, cc)
guard_ok false d x y e = absurd cc

pub unless_ok : {A : Type 0} (b : Bool) (d : BadEdit) (r : Result A BadEdit) (y : A) → cond b (Err d) r ≡ Ok y → (b ≡ false) × (r ≡ Ok y)
unless_ok true d r y e = absurd cc
unless_ok false d r y e = (refl, e)

abbrev pub done : {A : Type 0} → A → Result A BadEdit
done x = Ok x

pub ok_is : {A : Type 0} (x y : A) → done x ≡ done y → x ≡ y
ok_is x y e = cc

-- ---- what is read is spelled so

-- the text is a gap, the word and the rest, before which a piece may end
pub record Takes (text word rest : List ℕ) : Type 0 where
  pub gap : List ℕ
  pub is_gap : IsGap gap
  pub parts : text ≡ gap ++ (word ++ rest)
  pub led : blank_led rest ≡ true

more-since : (text word : List ℕ) → piece_of text ≡ word → 0 < length word → is_empty text ≡ false
more-since [] word is some = absurd (let none : 0 ≡ length word = ap length is in omega arith)
more-since (byte ∷ bytes) word is some = refl

pub takes_piece : (text : List ℕ) → blank_led text ≡ true → is_empty (trimmed text) ≡ false → Takes text (piece_of (trimmed text)) (behind_piece (trimmed text))
takes_piece text led more =
    let before = gapped text led more in
    record {
      gap = before.gap;
      is_gap = before.is_gap;
      parts = before.parts ∙ ap (λ (t : List ℕ). before.gap ++ t) (sym (piece_splits (trimmed text)));
      led =
          behind_led (trimmed text);
    }

pub takes_word : (text word : List ℕ) → 0 < length word → blank_led text ≡ true → bytes_eq (piece_of (trimmed text)) word ≡ true
    → Takes text word (behind_piece (trimmed text))
takes_word text word some led same =
    let next = trimmed text in
    let is : piece_of next ≡ word = (bytes_eq-Decides (piece_of next) word).0 same in
    subst (λ (w : List ℕ). Takes text w (behind_piece next)) is (takes_piece text led (more-since next word is some))

pub word_takes : (word : List ℕ) (place behind : Place) → 0 < length word → blank_led place.left ≡ true → word_at word place ≡ Ok behind
    → Takes place.left word behind.left
unfolding word_at
word_takes word place behind some led e =
    let next = trimmed place.left in
    let g = guard_ok (bytes_eq (piece_of next) word) _ (at place (behind_piece next)) behind e in
    subst (λ (p : Place). Takes place.left word p.left) g.1 (takes_word place.left word some led g.0)

abbrev named : List ℕ → Place → List ℕ × Place
named name place = (name, place)

pub name_takes : (place : Place) (name : List ℕ) (behind : Place) → blank_led place.left ≡ true → name_at place ≡ Ok (name, behind)
    → Takes place.left name behind.left × IsName name
unfolding name_at
name_takes place name behind led e =
    let next = trimmed place.left in
    let more = unless_ok (is_empty next) _ _ (named name behind) e in
    let g = guard_ok (is_name (piece_of next)) _ (named (piece_of next) (at place (behind_piece next))) (named name behind) more.1 in
    let took : Takes place.left (piece_of next) (behind_piece next) = takes_piece place.left led more.0 in
    subst (λ (x : List ℕ × Place). Takes place.left x.0 x.1.left × IsName x.0) g.1 (took, g.0)

-- ---- what is spelled so is read

pub trimmed-gap : (gap word rest : List ℕ) → IsGap gap → 0 < length word → IsWord word → trimmed (gap ++ (word ++ rest)) ≡ word ++ rest
trimmed-gap gap [] rest is some word = absurd (omega (arith, some))
trimmed-gap gap (first ∷ others) rest is some word =
    trimmed-blanks gap ((first ∷ others) ++ rest) is.0 ∙ trimmed-word first (others ++ rest) (not-true (is_blank first) (and_parts _ _ word).0)

pub word_again : (len : ℕ) (gap word rest : List ℕ) → IsGap gap → 0 < length word → IsWord word → blank_led rest ≡ true
    → word_at word (record { len = len; left = gap ++ (word ++ rest) }) ≡ Ok (record { len = len; left = rest })
unfolding word_at
word_again len gap word rest is some plain led =
    rw (trimmed-gap gap word rest is some plain, piece-word word rest plain led, behind-word word rest plain led, (bytes_eq-Decides word word).1 refl) refl

pub not-empty-front : (word rest : List ℕ) → 0 < length word → is_empty (word ++ rest) ≡ false
not-empty-front [] rest some = absurd (omega (arith, some))
not-empty-front (byte ∷ word) rest some = refl

pub name_again : (len : ℕ) (gap name rest : List ℕ) → IsGap gap → IsName name → blank_led rest ≡ true
    → name_at (record { len = len; left = gap ++ (name ++ rest) }) ≡ Ok (name, record { len = len; left = rest })
unfolding name_at
name_again len gap name rest is named led =
    let plain = (name_facts name named).word in
    let some = not-empty name named in
    rw (trimmed-gap gap name rest is some plain, piece-word name rest plain led, behind-word name rest plain led, not-empty-front name rest some, named) refl
