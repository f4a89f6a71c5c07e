-- The positions after a piece, byte by byte, and which of them are last.
use Rattle.std.proofs.Common.{◌≡◌, ℕ, suc, true, ◌<◌, ◌==◌, IsTrue, List, [], ◌∷◌, ◌++◌, length, map, refl, sym, ap, ◌∙◌, subst, arith, append_assoc}
use Rattle.std.proofs.Common.{append-nil, slice_index_or}
use Rattle.std.proofs.lemmas.Bool.{and_parts, eqb-true, eq-eqb}
use Rattle.grammar_text.specs.declared.symbol.Symbol.TheVariants.{Literal}
use Rattle.regex_ast.specs.Bytes.{has, only, numbers_from}
use Rattle.regex_ast.specs.Expressions.{classes_of}
use Rattle.regex_ast.specs.Matching.{HoldBytes}
use Rattle.regex_ast.specs.Positions.{Succeeds, Ends}
use Rattle.regex_ast.proofs.MarkLemmas.{AllZip-join, marked, matched, AreAt-own}
use Rattle.regex_ast.proofs.SetLemmas.{has-bytes_where}
use Rattle.regex_ast.proofs.TableLemmas.{has-only}
use Rattle.edit_log.specs.declared.definitions.DefId.{DefId}
use Rattle.edit_log.specs.declared.definitions.DefId.TheVariants.{Literal as literal, Named as named}
use Rattle.edit_log.specs.History.{Grammar}
use Rattle.edit_log.specs.Live.{IsLive}
use Rattle.edit_log.specs.Tokens.{MatchesPiece, IsWinner}
use Rattle.isg_states.specs.declared.mark.Mark.{Mark}
use Rattle.isg_states.specs.declared.scan_key.ScanKey.TheVariants.{Start, Set}
use Rattle.isg_states.specs.Marks.{ListsMarks}
use Rattle.isg_states.specs.Patterns.{Pattern, bytes, expression, IsPatternOf, MarkedWord, classes_in, HasPattern, IsLastMark}
use Rattle.isg_states.specs.After.{IsAfter}
use Rattle.grammar_text.specs.Pieces.{AreBytes}
use Rattle.isg_states.specs.Expansion.{LeadsTo}
use Rattle.isg_states.specs.Winners.{Accepts, HasLast as EndsIn}
use Rattle.isg_states.proofs.Patterns.{same_pattern, pattern_exchange}

-- ---- the bytes of classes

no_bytes : (classes : List (List ℕ)) (front : List ℕ) (i : ℕ) → HoldBytes classes (front ++ i ∷ []) [] → ⊥
no_bytes classes [] i h = h
no_bytes classes (x ∷ front) i h = h

no_classes : (classes : List (List ℕ)) (piece : List ℕ) (b : ℕ) → HoldBytes classes [] (piece ++ b ∷ []) → ⊥
no_classes classes [] b h = h
no_classes classes (x ∷ piece) b h = h

first_front : (classes : List (List ℕ)) (front : List ℕ) (i b : ℕ) → HoldBytes classes (front ++ i ∷ []) (b ∷ []) → front ≡ []
first_front classes [] i b h = refl
first_front classes (x ∷ front) i b h = absurd (no_bytes classes front i h.1)

held_last : (classes : List (List ℕ)) (front : List ℕ) (i : ℕ) (piece : List ℕ) (b : ℕ) → HoldBytes classes (front ++ i ∷ []) (piece ++ b ∷ [])
    → HoldBytes classes front piece × IsTrue (has (slice_index_or classes i []) b)
held_last classes [] i [] b h = (tt, h.0)
held_last classes [] i (x ∷ piece) b h = absurd (no_classes classes piece b h.1)
held_last classes (q ∷ front) i [] b h = absurd (no_bytes classes front i h.1)
held_last classes (q ∷ front) i (x ∷ piece) b h = let rest = held_last classes front i piece b h.1 in ((h.0, rest.0), rest.1)

snoc_of : (x : ℕ) (xs : List ℕ) → (front : List ℕ) × (q : ℕ) × (x ∷ xs ≡ front ++ q ∷ [])
snoc_of x [] = ([], x, refl)
snoc_of x (y ∷ ys) = let r = snoc_of y ys in (x ∷ r.0, r.1, ap (λ t. x ∷ t) r.2)

front_is : (classes : List (List ℕ)) (word piece : List ℕ) → HoldBytes classes word piece → 0 < length piece
    → (front : List ℕ) × (q : ℕ) × (word ≡ front ++ q ∷ [])
front_is classes [] [] h some = absurd (omega arith)
front_is classes [] (x ∷ piece) h some = absurd h
front_is classes (y ∷ word) piece h some = snoc_of y word

-- ---- one byte more

pub from_first : (grammar : Grammar) (byte : ℕ) (mark : Mark) → LeadsTo grammar Start byte mark → IsAfter grammar (byte ∷ []) mark
from_first grammar byte mark l =
    let first = l.0 in let has_byte = l.1 in
    let same : has_byte.0 ≡ first.0 = same_pattern has_byte.1 first.1 in
    record {
      pattern = first.0;
      has_pattern = first.1;
      front = [];
      rest = first.2.0;
      marked = first.2.1;
      bytes = (subst (λ p. IsTrue (has (slice_index_or (classes_in p) mark.index []) byte)) same has_byte.2, tt);
    }

pub to_first : (grammar : Grammar) (byte : ℕ) (mark : Mark) → IsAfter grammar (byte ∷ []) mark → LeadsTo grammar Start byte mark
to_first grammar byte mark a =
    let none : a.front ≡ [] = first_front (classes_in a.pattern) a.front mark.index byte a.bytes in (
      (a.pattern, a.has_pattern, (a.rest, subst (λ f. MarkedWord a.pattern ((f ++ mark.index ∷ []) ++ a.rest)) none a.marked)),
      (a.pattern, a.has_pattern, (subst (λ f. HoldBytes (classes_in a.pattern) (f ++ mark.index ∷ []) (byte ∷ [])) none a.bytes).0),
    )

pub from_longer : (grammar : Grammar) (piece : List ℕ) (marks : List Mark) → ListsMarks (IsAfter grammar piece) marks → (byte : ℕ) (mark : Mark)
    → LeadsTo grammar (Set marks) byte mark → IsAfter grammar (piece ++ byte ∷ []) mark
from_longer grammar piece marks lists byte mark l =
    let member : Mark = l.0.0 in
    let follows = l.0.2 in
    let has_byte = l.1 in
    let a : IsAfter grammar piece member = (lists.members member).0 l.0.1 in
    let here : HasPattern grammar mark.def a.pattern = subst (λ d. HasPattern grammar d a.pattern) follows.0 a.has_pattern in
    let succeeds : Succeeds (MarkedWord a.pattern) member.index mark.index =
    subst (λ p. Succeeds (MarkedWord p) member.index mark.index) (same_pattern follows.1.1 here) follows.1.2 in
    let held : IsTrue (has (slice_index_or (classes_in a.pattern) mark.index []) byte) =
    subst (λ p. IsTrue (has (slice_index_or (classes_in p) mark.index []) byte)) (same_pattern has_byte.1 here) has_byte.2 in
    let whole : MarkedWord a.pattern (a.front ++ member.index ∷ mark.index ∷ succeeds.1) =
    pattern_exchange a.pattern a.front member.index a.rest succeeds.0 (mark.index ∷ succeeds.1)
    (subst (MarkedWord a.pattern) (append_assoc a.front (member.index ∷ []) a.rest) a.marked) succeeds.2 in
    record {
      pattern = a.pattern;
      has_pattern = here;
      front = a.front ++ member.index ∷ [];
      rest = succeeds.1;
      marked = subst (MarkedWord a.pattern)
          (sym (append_assoc a.front (member.index ∷ []) (mark.index ∷ succeeds.1))
          ∙ sym (append_assoc (a.front ++ member.index ∷ []) (mark.index ∷ []) succeeds.1)) whole;
      bytes = AllZip-join (classes_in a.pattern) (a.front ++ member.index ∷ []) (mark.index ∷ []) piece (byte ∷ []) a.bytes (held, tt);
    }

pub to_longer : (grammar : Grammar) (piece : List ℕ) (marks : List Mark) → 0 < length piece → ListsMarks (IsAfter grammar piece) marks
    → (byte : ℕ) (mark : Mark)
    → IsAfter grammar (piece ++ byte ∷ []) mark → LeadsTo grammar (Set marks) byte mark
to_longer grammar piece marks some lists byte mark a =
    let held = held_last (classes_in a.pattern) a.front mark.index piece byte a.bytes in
    let s = front_is (classes_in a.pattern) a.front piece held.0 some in
    let member : Mark = record { def = mark.def; index = s.1 } in
    let whole : MarkedWord a.pattern (s.0 ++ s.1 ∷ mark.index ∷ a.rest) =
    subst (MarkedWord a.pattern)
    (append_assoc a.front (mark.index ∷ []) a.rest ∙ ap (λ t. t ++ mark.index ∷ a.rest) s.2 ∙ append_assoc s.0 (s.1 ∷ []) (mark.index ∷ a.rest)) a.marked in
    let before : IsAfter grammar piece member = record {
      pattern = a.pattern;
      has_pattern = a.has_pattern;
      front = s.0;
      rest = mark.index ∷ a.rest;
      marked = subst (MarkedWord a.pattern) (sym (append_assoc s.0 (s.1 ∷ []) (mark.index ∷ a.rest))) whole;
      bytes = subst (λ t. HoldBytes (classes_in a.pattern) t piece) s.2 held.0;
    } in (
      (member, (lists.members member).1 before, (refl, (a.pattern, a.has_pattern, (s.0, a.rest, whole)))),
      (a.pattern, a.has_pattern, held.1),
    )

-- ---- matches

class_at : (front : List ℕ) (x : ℕ) (rest : List ℕ) → slice_index_or (map only (front ++ x ∷ rest)) (length front) [] ≡ only x
class_at [] x rest = refl
class_at (f ∷ front) x rest = class_at front x rest

length_snoc : (front : List ℕ) (x : ℕ) → length (front ++ x ∷ []) ≡ suc (length front)
length_snoc [] x = refl
length_snoc (f ∷ front) x = ap suc (length_snoc front x)

-- the classes of a literal have its bytes
literal_held : (front piece : List ℕ) → AreBytes piece → HoldBytes (map only (front ++ piece)) (numbers_from (length front) (length piece)) piece
literal_held front [] small = tt
literal_held front (x ∷ piece) small =
    let one : has (only x) x ≡ (x == x) = has-only x x small.0 in (
      subst (λ c. IsTrue (has c x)) (sym (class_at front x piece)) (one ∙ eq-eqb x x refl),
      subst (λ n. HoldBytes (map only (front ++ x ∷ piece)) (numbers_from n (length piece)) piece) (length_snoc front x)
          (subst (λ t. HoldBytes (map only t) (numbers_from (length (front ++ x ∷ [])) (length piece)) piece) (append_assoc front (x ∷ []) piece)
          (literal_held (front ++ x ∷ []) piece small.1)),
    )

-- and no others
literal_text : (front text piece : List ℕ) → HoldBytes (map only (front ++ text)) (numbers_from (length front) (length text)) piece → text ≡ piece
literal_text front [] [] h = refl
literal_text front [] (y ∷ piece) h = absurd h
literal_text front (x ∷ text) [] h = absurd h
literal_text front (x ∷ text) (y ∷ piece) h =
    let there : has (only x) y ≡ true = subst (λ c. has c y ≡ true) (class_at front x text) h.0 in
    let same : y ≡ x = eqb-true y x (and_parts (y == x) _ (sym (has-bytes_where (λ b. b == x) y) ∙ there)).0 in
    let rest : text ≡ piece = literal_text (front ++ x ∷ []) text piece
    (subst (λ t. HoldBytes (map only t) (numbers_from (length (front ++ x ∷ [])) (length text)) piece) (sym (append_assoc front (x ∷ []) text))
    (subst (λ n. HoldBytes (map only (front ++ x ∷ text)) (numbers_from n (length text)) piece) (sym (length_snoc front x)) h.1)) in
    ap (λ n. n ∷ text) (sym same) ∙ ap (λ t. y ∷ t) rest

-- a definition that matches has a marked word that does
marked_match : (grammar : Grammar) (definition : DefId) (piece : List ℕ) → AreBytes piece → MatchesPiece grammar definition piece
    → (p : Pattern) × IsPatternOf grammar definition p × ((word : List ℕ) × MarkedWord p word × HoldBytes (classes_in p) word piece)
marked_match grammar (literal symbol) piece small h = (bytes piece, h, (numbers_from 0 (length piece), refl, literal_held [] piece small))
marked_match grammar (named number) piece small h =
    let m = marked (classes_of h.2) 0 h.2 (AreAt-own h.2) piece h.4 in (expression h.2, (h.0, h.1, h.3), (m.0, m.1, m.2))

match_of : (grammar : Grammar) (definition : DefId) (p : Pattern) (word piece : List ℕ) → IsPatternOf grammar definition p → MarkedWord p word
    → HoldBytes (classes_in p) word piece
    → MatchesPiece grammar definition piece
match_of grammar (literal symbol) (bytes text) word piece is m h =
    is ∙ ap (λ t. Literal t) (literal_text [] text piece (subst (λ w. HoldBytes (map only text) w piece) m h))
match_of grammar (literal symbol) (expression e) word piece is m h = absurd is
match_of grammar (named number) (bytes text) word piece is m h = absurd is
match_of grammar (named number) (expression e) word piece is m h = (is.0, is.1, e, is.2, matched (classes_of e) 0 e (AreAt-own e) word piece m h)

pub from_match : (grammar : Grammar) (piece : List ℕ) (definition : DefId) → 0 < length piece → AreBytes piece → IsLive grammar definition
    → MatchesPiece grammar definition piece
    → (mark : Mark) × (mark.def ≡ definition) × IsAfter grammar piece mark × IsLastMark grammar mark
from_match grammar piece definition some small live h =
    let m = marked_match grammar definition piece small h in
    let p : Pattern = m.0 in
    let has_pattern : HasPattern grammar definition p = record { live = live; is = m.1 } in
    let s = front_is (classes_in p) m.2.0 piece m.2.2 some in
    let mark : Mark = record { def = definition; index = s.1 } in
    let whole : MarkedWord p (s.0 ++ s.1 ∷ []) = subst (MarkedWord p) s.2 m.2.1 in
    let after : IsAfter grammar piece mark = record {
      pattern = p;
      has_pattern = has_pattern;
      front = s.0;
      rest = [];
      marked = subst (MarkedWord p) (sym (append-nil (s.0 ++ s.1 ∷ []))) whole;
      bytes = subst (λ t. HoldBytes (classes_in p) t piece) s.2 m.2.2;
    } in
    (mark, refl, after, (p, has_pattern, (s.0, whole)))

pub to_match : (grammar : Grammar) (piece : List ℕ) (mark : Mark) → IsAfter grammar piece mark → IsLastMark grammar mark → MatchesPiece grammar mark.def piece
to_match grammar piece mark a last =
    let ends : Ends (MarkedWord a.pattern) mark.index = subst (λ p. Ends (MarkedWord p) mark.index) (same_pattern last.1 a.has_pattern) last.2 in
    let whole : MarkedWord a.pattern (a.front ++ mark.index ∷ []) =
    pattern_exchange a.pattern a.front mark.index a.rest ends.0 []
    (subst (MarkedWord a.pattern) (append_assoc a.front (mark.index ∷ []) a.rest) a.marked) ends.1 in
    match_of grammar mark.def a.pattern (a.front ++ mark.index ∷ []) piece a.has_pattern.is whole a.bytes

-- ---- winners

module _ (grammar : Grammar) (piece : List ℕ) (marks : List Mark) (some : 0 < length piece) (small : AreBytes piece)
    (lists : ListsMarks (IsAfter grammar piece) marks) where
  from_ends : (definition : DefId) → EndsIn grammar (Set marks) definition → IsLive grammar definition × MatchesPiece grammar definition piece
  from_ends definition ends =
      let mark : Mark = ends.0 in
      let after = (lists.members mark).0 ends.1 in (
        subst (IsLive grammar) ends.2 after.has_pattern.live,
        subst (λ d. MatchesPiece grammar d piece) ends.2 (to_match grammar piece mark after ends.3),
      )

  to_ends : (definition : DefId) → IsLive grammar definition → MatchesPiece grammar definition piece → EndsIn grammar (Set marks) definition
  to_ends definition live matches =
      let m = from_match grammar piece definition some small live matches in (m.0, (lists.members m.0).1 m.2, m.1, m.3)

  pub from_accepts : (definition : DefId) → Accepts grammar (Set marks) definition → IsWinner grammar piece definition
  from_accepts definition a =
      let e = from_ends definition a.ends in
      record { live = e.0; matches = e.1; first = λ other live matches. a.first other (to_ends other live matches) }

  pub to_accepts : (definition : DefId) → IsWinner grammar piece definition → Accepts grammar (Set marks) definition
  to_accepts definition w =
      record { ends = to_ends definition w.live w.matches; first = λ other ends. (let e = from_ends other ends in w.first other e.0 e.1) }
