-- An expression within the limits matches a word that is not empty, and so has a first position.
use Rattle.std.proofs.Common.{◌≡◌, ℕ, ◌<◌, ◌==◌, ◌&&◌, Bool, nat_lt, List, [], ◌∷◌, ◌++◌, length, map, IsTrue, slice_index_or, refl, sym, ◌∙◌, ap, subst, inl}
use Rattle.std.proofs.Common.{inr, arith, append-nil, length-append}
use Rattle.std.specs.List.{AllByRecursion, AllZip}
use Rattle.std.proofs.lemmas.Bool.{eq-eqb, and_parts, ltb-true, or_left}
use Rattle.regex_ast.specs.Bytes.{has, only, bytes_where, complement, numbers_from}
use Rattle.regex_ast.specs.Expressions.{Expression, class, classes_of}
use Rattle.regex_ast.specs.Matching.{Matches, IsMarkedWord, IsMarkedLiteral}
use Rattle.regex_ast.specs.Spelling.{Cut, AreCutTexts, pieces_of, IsPiece, atom, escape, dot, members, others, opening, closing, bar, star_sign, plus_sign}
use Rattle.regex_ast.specs.Spelling.{maybe_sign, AreMembers, no_member, one_more, SpellsChoice, SpellsBranch, SpellsFactor, one_branch, more_branches}
use Rattle.regex_ast.specs.Spelling.{one_factor, more_factors, one_class, group, starred, repeated, optional}
use Rattle.regex_ast.specs.Refusals.{NoPlace, IsEmptyClass, SpellsWithinLimits}
use Rattle.regex_ast.proofs.SetLemmas.{has-bytes_where, has_byte}
use Rattle.regex_ast.proofs.MarkLemmas.{marked, AreAt-own}

has_first : (x : ℕ) (xs : List ℕ) → IsTrue (has (x ∷ xs) x)
has_first x xs = or_left (x == x) (has xs x) (eq-eqb x x refl)

-- ---- the classes of a text

small_where : (test : ℕ → Bool) (b : ℕ) → IsTrue (has (bytes_where test) b) → b < 256
small_where test b h = ltb-true b 256 (and_parts (test b) (nat_lt b 256) (sym (has-bytes_where test b) ∙ h)).1

small_members : {t set : List ℕ} → AreMembers t set → (b : ℕ) → IsTrue (has set b) → b < 256
small_members no_member b h = absurd cc
small_members (one_more m u) b h = small_where _ b h

two_or_more : {X : Type 0} (x y z : X) (xs : List X) → x ∷ (xs ++ y ∷ []) ≡ z ∷ [] → ⊥
two_or_more x y z xs e = omega (arith, ap length e, length-append xs (y ∷ []))

-- the class that a piece stands for has bytes alone
small_class : {t : List ℕ} {p ps : _} {e : Expression} → SpellsFactor ps e → IsPiece t p → ps ≡ p ∷ [] → (set : List ℕ) → e ≡ class set → (b : ℕ)
    → IsTrue (has set b) → b < 256
small_class (one_class {set = s}) (atom {b = c} h) one set is b has-b = let same : set ≡ only c = cc in
    small_where _ b (subst (λ z. IsTrue (has z b)) same has-b)
small_class (one_class {set = s}) (escape {b = c} h) one set is b has-b = let same : set ≡ only c = cc in
    small_where _ b (subst (λ z. IsTrue (has z b)) same has-b)
small_class (one_class {set = s}) dot one set is b has-b = let same : set ≡ complement (only 10) = cc in
    small_where _ b (subst (λ z. IsTrue (has z b)) same has-b)
small_class (one_class {set = s}) (members {set = m} h) one set is b has-b = let same : set ≡ m = cc in
    small_members h b (subst (λ z. IsTrue (has z b)) same has-b)
small_class (one_class {set = s}) (others {set = m} h) one set is b has-b = let same : set ≡ complement m = cc in
    small_where _ b (subst (λ z. IsTrue (has z b)) same has-b)
small_class (one_class {set = s}) opening one set is b has-b = absurd cc
small_class (one_class {set = s}) closing one set is b has-b = absurd cc
small_class (one_class {set = s}) bar one set is b has-b = absurd cc
small_class (one_class {set = s}) star_sign one set is b has-b = absurd cc
small_class (one_class {set = s}) plus_sign one set is b has-b = absurd cc
small_class (one_class {set = s}) maybe_sign one set is b has-b = absurd cc
small_class (group {ps = ps} h) piece one set is b has-b = absurd (two_or_more _ _ _ ps one)
small_class (starred h) piece one set is b has-b = absurd cc
small_class (repeated h) piece one set is b has-b = absurd cc
small_class (optional h) piece one set is b has-b = absurd cc

later : (c : Cut) (cuts : List Cut) → NoPlace IsEmptyClass (c ∷ cuts) → NoPlace IsEmptyClass cuts
later c cuts none before cut after e empty = none (c ∷ before) cut after (ap (λ cs. c ∷ cs) e) empty

-- each is a piece, and none is a class without a byte
full_pieces : (cuts : List Cut) → AreCutTexts cuts → NoPlace IsEmptyClass cuts
    → AllByRecursion (λ p. (t : List ℕ) × IsPiece t p × (IsEmptyClass [] (t, p) → ⊥)) (pieces_of cuts)
full_pieces [] are none = tt
full_pieces (c ∷ cuts) are none = ((c.0, are.0, λ e. none [] c cuts refl e), full_pieces cuts are.1 (later c cuts none))

parted : {X : Type 0} (P : X → Type 0) (xs ys : List X) → AllByRecursion P (xs ++ ys) → AllByRecursion P xs × AllByRecursion P ys
parted P [] ys all = (tt, all)
parted P (x ∷ xs) ys all = let rest = parted P xs ys all.1 in ((all.0, rest.0), rest.1)

-- ---- a word that is matched

-- the expression matches a word that begins with a byte
record MatchesSome (e : Expression) : Type 0 where
  first : ℕ
  rest : List ℕ
  small : first < 256
  matches : Matches e (first ∷ rest)

mutual
  factor_some : {ps : _} {e : Expression} → SpellsFactor ps e → AllByRecursion (λ p. (t : List ℕ) × IsPiece t p × (IsEmptyClass [] (t, p) → ⊥)) ps
      → MatchesSome e
  factor_some (one_class {set = []}) full = absurd (full.0.2 refl)
  factor_some (one_class {set = x ∷ xs}) full =
      record {
        first = x;
        rest = [];
        small = small_class (one_class {set = x ∷ xs}) full.0.1 refl (x ∷ xs) refl x (has_first x xs);
        matches =
            (x, has_first x xs, refl);
      }
  factor_some (group {ps} {e} h) full = choice_some h (parted _ ps _ full.1).0
  factor_some (starred {ps} {e} h) full =
      let one = factor_some h (parted _ ps _ full).0 in
      record {
        first = one.first;
        rest = one.rest;
        small = one.small;
        matches =
            ((one.first ∷ one.rest) ∷ [], (one.matches, tt), sym (append-nil (one.first ∷ one.rest)));
      }
  factor_some (repeated {ps} {e} h) full =
      let one = factor_some h (parted _ ps _ full).0 in
      record {
        first = one.first;
        rest = one.rest;
        small = one.small;
        matches =
            (one.first ∷ one.rest, [], (one.matches, tt), sym (append-nil (one.first ∷ one.rest)));
      }
  factor_some (optional {ps} {e} h) full =
      let one = factor_some h (parted _ ps _ full).0 in
      record { first = one.first; rest = one.rest; small = one.small; matches = inr one.matches }

  branch_some : {ps : _} {e : Expression} → SpellsBranch ps e → AllByRecursion (λ p. (t : List ℕ) × IsPiece t p × (IsEmptyClass [] (t, p) → ⊥)) ps
      → MatchesSome e
  branch_some (one_factor h) full = factor_some h full
  branch_some (more_factors {ps} {qs} {a} {b} h k) full =
      let both = parted _ ps qs full in
      let one = branch_some h both.0 in
      let two = factor_some k both.1 in
      record {
        first = one.first;
        rest = one.rest ++ two.first ∷ two.rest;
        small = one.small;
        matches =
            (one.first ∷ one.rest, two.first ∷ two.rest, one.matches, two.matches, refl);
      }

  choice_some : {ps : _} {e : Expression} → SpellsChoice ps e → AllByRecursion (λ p. (t : List ℕ) × IsPiece t p × (IsEmptyClass [] (t, p) → ⊥)) ps
      → MatchesSome e
  choice_some (one_branch h) full = branch_some h full
  choice_some (more_branches {ps} {qs} {a} {b} h k) full =
      let one = choice_some h (parted _ ps _ full).0 in
      record { first = one.first; rest = one.rest; small = one.small; matches = inl one.matches }

-- ---- a first position

-- a marked word begins with the position, whose class has the byte
pub record Begins (classes : List (List ℕ)) (Marked : List ℕ → Type 0) : Type 0 where
  pub byte : ℕ
  pub small : byte < 256
  pub index : ℕ
  pub rest : List ℕ
  pub marked : Marked (index ∷ rest)
  pub has_byte : IsTrue (has (slice_index_or classes index []) byte)

begins_with : (e : Expression) (b : ℕ) (rest word : List ℕ) → b < 256 → IsMarkedWord e word
    → AllZip (λ p c. IsTrue (has (slice_index_or (classes_of e) p []) c)) word (b ∷ rest) → Begins (classes_of e) (IsMarkedWord e)
begins_with e b rest [] small is_marked bytes = absurd bytes
begins_with e b rest (p ∷ word) small is_marked bytes = record { byte = b; small = small; index = p; rest = word; marked = is_marked; has_byte = bytes.0 }

pub expression_begins : (text : List ℕ) (e : Expression) → SpellsWithinLimits text e → Begins (classes_of e) (IsMarkedWord e)
expression_begins text e (cuts, (is, are, spelled), within) =
    let some = choice_some spelled (full_pieces cuts are within.no_empty_class) in
    let (word, is_marked, bytes) = marked (classes_of e) 0 e (AreAt-own e) (some.first ∷ some.rest) some.matches in
    begins_with e some.first some.rest word some.small is_marked bytes

pub literal_begins : (text : List ℕ) → 0 < length text → AllByRecursion (λ number. number < 256) text → Begins (map only text) (IsMarkedLiteral text)
literal_begins [] some of = absurd (omega arith)
literal_begins (x ∷ xs) some of = record {
  byte = x;
  small = of.0;
  index = 0;
  rest = numbers_from 1 (length xs);
  marked = refl;
  has_byte = has_byte (λ b. b == x) x of.0 ∙ eq-eqb x x refl;
}
