-- The bytes of a name are no blanks and no quotes.
use Rattle.std.proofs.Common.{◌≡◌, ℕ, ◌<◌, ◌≤◌, true, false, ◌&&◌, not, eqb, leb, List, [], ◌∷◌, ◌++◌, length, refl, subst, inl, inr, arith}
use Rattle.std.specs.List.{list_all}
use Rattle.std.proofs.lemmas.Bool.{and_parts, and_from, or_cases, cases_Bool, eqb-true, leb-true, not_from_false}
use Rattle.grammar_text.specs.declared.limits.TheConstants.{NAME_LIMIT}
use Rattle.grammar_text.specs.Names.{is_letter, is_name_byte, begins_with_letter, IsName}
use Rattle.grammar_text.specs.Pieces.{is_blank, IsLine}
use Rattle.grammar_text.specs.Reading.{is_quoted}
use Rattle.grammar_text.proofs.Gaps.{IsWord}

-- a blank is no byte of a name
not-blank : (byte : ℕ) → is_name_byte byte ≡ true → is_blank byte ≡ false
not-blank byte is =
    elim (cases_Bool (is_blank byte)) [
      | inl blank ↦ elim (or_cases (eqb byte 32) (eqb byte 9) blank) [
        | inl space ↦ let at : is_name_byte 32 ≡ true = subst (λ (b : ℕ). is_name_byte b ≡ true) (eqb-true byte 32 space) is in absurd cc
        | inr tab ↦ let at : is_name_byte 9 ≡ true = subst (λ (b : ℕ). is_name_byte b ≡ true) (eqb-true byte 9 tab) is in absurd cc
      ]
      | inr plain ↦ plain
    ]

-- a line's end is no byte of a name
not-line-end : (byte : ℕ) → is_name_byte byte ≡ true → eqb byte 10 ≡ false
not-line-end byte is =
    elim (cases_Bool (eqb byte 10)) [
      | inl end ↦ let at : is_name_byte 10 ≡ true = subst (λ (b : ℕ). is_name_byte b ≡ true) (eqb-true byte 10 end) is in absurd cc
      | inr plain ↦ plain
    ]

line-go : (bytes : List ℕ) → list_all is_name_byte bytes ≡ true → IsLine bytes
line-go [] is = refl
line-go (byte ∷ bytes) is =
    let both = and_parts (is_name_byte byte) (list_all is_name_byte bytes) is in
    and_from (not (eqb byte 10)) (list_all (λ b. not (eqb b 10)) bytes) (not_from_false (eqb byte 10) (not-line-end byte both.0)) (line-go bytes both.1)

pub name-line : (name : List ℕ) → IsName name → IsLine name
name-line name is = line-go name (and_parts (leb (length name) NAME_LIMIT && begins_with_letter name) (list_all is_name_byte name) is).1

-- a quote is no letter
not-quote : (byte : ℕ) → is_letter byte ≡ true → eqb byte 34 ≡ false
not-quote byte is =
    elim (cases_Bool (eqb byte 34)) [
      | inl quote ↦ let at : is_letter 34 ≡ true = subst (λ (b : ℕ). is_letter b ≡ true) (eqb-true byte 34 quote) is in absurd cc
      | inr plain ↦ plain
    ]

word-go : (bytes : List ℕ) → list_all is_name_byte bytes ≡ true → IsWord bytes
word-go [] is = refl
word-go (byte ∷ bytes) is =
    let both = and_parts (is_name_byte byte) (list_all is_name_byte bytes) is in
    and_from (not (is_blank byte)) (list_all (λ b. not (is_blank b)) bytes) (not_from_false (is_blank byte) (not-blank byte both.0)) (word-go bytes both.1)

pub record NameFacts (name : List ℕ) : Type 0 where
  pub short : length name ≤ 32
  pub letter : begins_with_letter name ≡ true
  pub word : IsWord name

pub name_facts : (name : List ℕ) → IsName name → NameFacts name
name_facts name is =
    let outer = and_parts (leb (length name) NAME_LIMIT && begins_with_letter name) (list_all is_name_byte name) is in
    let inner = and_parts (leb (length name) NAME_LIMIT) (begins_with_letter name) outer.0 in
    record { short = leb-true (length name) NAME_LIMIT inner.0; letter = inner.1; word = word-go name outer.1 }

pub not-quoted : (name rest : List ℕ) → IsName name → is_quoted (name ++ rest) ≡ false
not-quoted [] rest is = absurd (let f = name_facts [] is in let e : begins_with_letter [] ≡ true = f.letter in cc)
not-quoted (first ∷ others) rest is = not-quote first (name_facts (first ∷ others) is).letter

pub not-empty : (name : List ℕ) → IsName name → 0 < length name
not-empty [] is = absurd (let f = name_facts [] is in let e : begins_with_letter [] ≡ true = f.letter in cc)
not-empty (first ∷ others) is = omega arith
