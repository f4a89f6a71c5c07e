-- What the look-ups of a grammar tell of the patterns of its definitions.
use Rattle.std.proofs.Common.{◌≡◌, ℕ, zero, suc, true, false, Bool, ◌||◌, ◌==◌, ◌+◌, ◌<◌, ◌≤◌, ◌⊎◌, refl, inl, inr, ◌↔◌, IsTrue, List, [], ◌∷◌, ◌++◌, length}
use Rattle.std.proofs.Common.{get_or, take, slice_get, Option, Some, sym, ap, ◌∙◌, subst, arith, append_assoc, Contains}
use Rattle.std.proofs.lemmas.Bool.{eqb-true, eq-eqb, or_cases, false≢true}
use Rattle.std.proofs.lemmas.List.{take_more, take_all}
use Rattle.std.proofs.lemmas.List.Elements.{Contains-append_left, Contains-push, Contains-push_cases}
use Rattle.std.proofs.lemmas.Option.{slice_get-get_or, slice_get_within}
use Rattle.regex_ast.specs.Bytes.{has}
use Rattle.regex_ast.specs.Positions.{Table, Succeeds}
use Rattle.edit_log.specs.declared.definitions.DefId.{DefId}
use Rattle.edit_log.specs.declared.definitions.DefId.TheVariants.{Literal as literal, Named as named}
use Rattle.edit_log.specs.History.{Grammar}
use Rattle.edit_log.specs.Live.{IsLive}
use Rattle.edit_log.specs.Lookups.{ArePositionsFor}
use Rattle.isg_states.specs.declared.mark.Mark.{Mark}
use Rattle.isg_states.specs.Marks.{ListsMarks}
use Rattle.isg_states.specs.Patterns.{bytes, expression, HasPattern, MarkedWord, classes_in, IsMark, IsFirstMark, IsLastMark, FollowsMark}
use Rattle.isg_states.specs.Expansion.{Range, IsRange, AreMarks, CanFollow}
use Rattle.isg_states.specs.declared.scan_key.ScanKey.{ScanKey}
use Rattle.isg_states.specs.declared.scan_key.ScanKey.TheVariants.{Start, Set}
use Rattle.isg_states.specs.Candidates.{AreSmall, OneOf, ArePositions, IsClass}
use Rattle.isg_states.proofs.Patterns.{same_pattern, in_pattern}
use Rattle.isg_states.proofs.MarkLists.{relist}

pub pattern_table : (grammar : Grammar) (definition : DefId) (table : Table) → IsLive grammar definition → ArePositionsFor grammar definition table
    → length table.classes ≤ 200 → ArePositions grammar definition table
pattern_table grammar (literal symbol) table live h few = record {
  pattern = bytes h.0;
  has_pattern = record { live = live; is = h.1 };
  positions = h.2;
  few = subst (λ sets. length sets ≤ 200) h.2.classes few;
}
pattern_table grammar (named number) table live h few = record {
  pattern = expression h.2;
  has_pattern = record { live = live; is = (h.0, h.1, h.3) };
  positions = h.4;
  few = subst (λ sets. length sets ≤ 200) h.4.classes few;
}

or_left : (a b : Bool) → a ≡ true → (a || b) ≡ true
or_left a b e = subst (λ k. (k || b) ≡ true) (sym e) refl

or_right : (a b : Bool) → b ≡ true → (a || b) ≡ true
or_right true b e = refl
or_right false b e = e

-- ---- a mark of the definition

module _ {grammar : Grammar} {table : Table} (mark : Mark) (a : ArePositions grammar mark.def table) where
  pub index_within : IsMark grammar mark → mark.index < length table.classes
  index_within is =
      let here : mark.index < length (classes_in a.pattern) = subst (λ p. mark.index < length (classes_in p)) (same_pattern is.1 a.has_pattern) is.2 in
      subst (λ sets. mark.index < length sets) (sym a.positions.classes) here

  pub from_first : IsTrue (has table.first mark.index) → IsFirstMark grammar mark
  from_first h = (a.pattern, a.has_pattern, (a.positions.first.members mark.index).0 h)

  pub to_first : IsFirstMark grammar mark → IsTrue (has table.first mark.index)
  to_first is = (a.positions.first.members mark.index).1 (subst (λ p. (rest : List ℕ) × MarkedWord p (mark.index ∷ rest))
      (same_pattern is.1 a.has_pattern) is.2)

  pub from_last : IsTrue (has table.last mark.index) → IsLastMark grammar mark
  from_last h = (a.pattern, a.has_pattern, (a.positions.last.members mark.index).0 h)

  pub to_last : IsLastMark grammar mark → IsTrue (has table.last mark.index)
  to_last is = (a.positions.last.members mark.index).1 (subst (λ p. (front : List ℕ) × MarkedWord p (front ++ mark.index ∷ []))
      (same_pattern is.1 a.has_pattern) is.2)

  pub class_is : IsMark grammar mark → (set : List ℕ) → slice_get table.classes mark.index ≡ Some set → IsClass grammar mark set
  class_is is set e =
      let within = slice_get_within table.classes mark.index set e in
      let same : get_or table.classes mark.index [] ≡ set = some_same _ _ _ (slice_get-get_or table.classes mark.index [] within) e in
      (a.pattern, a.has_pattern, subst (λ sets. get_or sets mark.index [] ≡ set) a.positions.classes same) where
        some_same : (o : Option (List ℕ)) (x y : List ℕ) → o ≡ Some x → o ≡ Some y → x ≡ y
        some_same o x y h k = cc

-- ---- indices are small

pub firsts_small : {grammar : Grammar} {definition : DefId} {table : Table} → ArePositions grammar definition table → (index : ℕ)
    → IsTrue (has table.first index) → index < 256
firsts_small a index h =
    let begins = (a.positions.first.members index).0 h in
    let few = a.few in
    let within = in_pattern a.pattern [] index begins.0 begins.1 in
    omega arith

row_at : (rows : List (List ℕ)) (q : ℕ) (row : List ℕ) → slice_get rows q ≡ Some row → get_or rows q [] ≡ row
row_at rows q row e = some_same _ _ _ (slice_get-get_or rows q [] (slice_get_within rows q row e)) e where
  some_same : (o : Option (List ℕ)) (x y : List ℕ) → o ≡ Some x → o ≡ Some y → x ≡ y
  some_same o x y h k = cc

-- the row of a position has those that follow it
row_members : {grammar : Grammar} {definition : DefId} {table : Table} (a : ArePositions grammar definition table) (q : ℕ) (row : List ℕ)
    → q < length table.classes → slice_get table.follow q ≡ Some row
    → (p : ℕ) → IsTrue (has row p) ↔ Succeeds (MarkedWord a.pattern) q p
row_members {table = table} a q row within e p =
    subst (λ r. IsTrue (has r p) ↔ Succeeds (MarkedWord a.pattern) q p) (row_at table.follow q row e)
    ((a.positions.follow q (subst (λ sets. q < length sets) a.positions.classes within)).members p)

pub row_small : {grammar : Grammar} {definition : DefId} {table : Table} → ArePositions grammar definition table → (q : ℕ) (row : List ℕ)
    → q < length table.classes → slice_get table.follow q ≡ Some row
    → (index : ℕ) → IsTrue (has row index) → index < 256
row_small a q row within e index h =
    let s = (row_members a q row within e index).0 h in
    let few = a.few in
    let whole : MarkedWord a.pattern ((s.0 ++ q ∷ []) ++ index ∷ s.1) = subst (MarkedWord a.pattern) (sym (append_assoc s.0 (q ∷ []) (index ∷ s.1))) s.2 in
    let within = in_pattern a.pattern (s.0 ++ q ∷ []) index s.1 whole in
    omega arith

pub from_row : {grammar : Grammar} {table : Table} (member mark : Mark) → ArePositions grammar member.def table → (row : List ℕ)
    → member.index < length table.classes → slice_get table.follow member.index ≡ Some row
    → OneOf member.def row mark → FollowsMark grammar member mark
from_row {grammar} member mark a row within e one = (
  sym one.0,
  (
    a.pattern,
    subst (λ d. HasPattern grammar d a.pattern) (sym one.0) a.has_pattern,
    (row_members a member.index row within e mark.index).0 one.1,
  ),
)

pub to_row : {grammar : Grammar} {table : Table} (member mark : Mark) → ArePositions grammar member.def table → (row : List ℕ)
    → member.index < length table.classes → slice_get table.follow member.index ≡ Some row
    → FollowsMark grammar member mark → OneOf member.def row mark
to_row {grammar} member mark a row within e f =
    let here : HasPattern grammar member.def f.1.0 = subst (λ d. HasPattern grammar d f.1.0) (sym f.0) f.1.1 in (
      sym f.0,
      (row_members a member.index row within e mark.index).1 (subst (λ p. Succeeds (MarkedWord p) member.index mark.index)
          (same_pattern here a.has_pattern) f.1.2),
    )

-- what can come next is a mark of the grammar
first_mark : (grammar : Grammar) (mark : Mark) → IsFirstMark grammar mark → IsMark grammar mark
first_mark grammar mark f = (f.0, f.1, in_pattern f.0 [] mark.index f.2.0 f.2.1)

pub next_mark : (grammar : Grammar) (key : ScanKey) (mark : Mark) → CanFollow grammar key mark → IsMark grammar mark
next_mark grammar Start mark f = first_mark grammar mark f
next_mark grammar (Set marks) mark f =
    let s = f.2.1 in
    let front = s.2.0 ++ f.0.index ∷ [] in
    (s.0, s.1, in_pattern s.0 front mark.index s.2.1 (subst (MarkedWord s.0) (sym (append_assoc s.2.0 (f.0.index ∷ []) (mark.index ∷ s.2.1))) s.2.2))

-- the key of a range is one of the grammar
pub range_marks : (grammar : Grammar) (key : ScanKey) (range : Range) → IsRange grammar key range → AreMarks grammar range.2
range_marks grammar key range r =
    let some = r.some in
    let lists = r.leads range.0 (omega arith) some in
    subst (AreMarks grammar) (sym r.is) (λ m c. next_mark grammar key m ((lists.members m).0 c).0)

-- ---- more marks

pub small_more : (old new : List Mark) (definition : DefId) (indices : List ℕ) → ListsMarks (λ m. Contains old m ⊎ OneOf definition indices m) new
    → AreSmall old
    → ((index : ℕ) → IsTrue (has indices index) → index < 256) → AreSmall new
small_more old new definition indices lists small few mark c = elim ((lists.members mark).0 c) [ inl d ↦ small mark d | inr one ↦ few mark.index one.1 ]

pub small_one : (old new : List Mark) (x : Mark) → ListsMarks (λ m. Contains old m ⊎ (m ≡ x)) new → AreSmall old → x.index < 256 → AreSmall new
small_one old new x lists small few mark c = elim ((lists.members mark).0 c) [ inl d ↦ small mark d | inr e ↦ subst (λ (m : Mark). m.index < 256) (sym e) few ]

pub has_at : (xs : List ℕ) (i d : ℕ) → i < length xs → IsTrue (has xs (get_or xs i d))
has_at [] i d within = absurd (omega arith)
has_at (x ∷ xs) zero d within = or_left (x == x) (has xs x) (eq-eqb x x refl)
has_at (x ∷ xs) (suc i) d within = or_right (x == get_or xs i d) (has xs (get_or xs i d)) (has_at xs i d (omega arith))

has_before : (xs : List ℕ) (x p : ℕ) → IsTrue (has xs p) → IsTrue (has (xs ++ x ∷ []) p)
has_before (y ∷ xs) x p h = elim (or_cases (y == p) (has xs p) h) [ inl k ↦ or_left (y == p) _ k | inr k ↦ or_right (y == p) _ (has_before xs x p k) ]
has_before [] x p h = absurd (false≢true h)

has_new : (xs : List ℕ) (x p : ℕ) → x ≡ p → IsTrue (has (xs ++ x ∷ []) p)
has_new [] x p e = or_left (x == p) false (eq-eqb x p e)
has_new (y ∷ xs) x p e = or_right (y == p) _ (has_new xs x p e)

has_push : (xs : List ℕ) (x p : ℕ) → IsTrue (has (xs ++ x ∷ []) p) → IsTrue (has xs p) ⊎ (x ≡ p)
has_push [] x p h = elim (or_cases (x == p) false h) [ inl k ↦ inr (eqb-true x p k) | inr k ↦ absurd (false≢true k) ]
has_push (y ∷ xs) x p h = elim (or_cases (y == p) (has (xs ++ x ∷ []) p) h) [
  | inl k ↦ inl (or_left (y == p) (has xs p) k)
  | inr k ↦ elim (has_push xs x p k) [ inl l ↦ inl (or_right (y == p) (has xs p) l) | inr l ↦ inr l ]
]

-- the mark with one more of the indices
pub index_more : (old mid new : List Mark) (definition : DefId) (indices : List ℕ) (i d : ℕ) → i < length indices
    → ListsMarks (λ m. Contains old m ⊎ OneOf definition (take i indices) m) mid
    → ListsMarks (λ m. Contains mid m ⊎ (m ≡ record { def = definition; index = get_or indices i d })) new
    → ListsMarks (λ m. Contains old m ⊎ OneOf definition (take (i + 1) indices) m) new
index_more old mid new definition indices i d within lists added =
    let x : ℕ = get_or indices i d in
    let more : take (i + 1) indices ≡ take i indices ++ x ∷ [] = take_more indices i d within in
    let mark : DefId → ℕ → Mark = λ k n. record { def = k; index = n } in
    relist added
    (λ m w. elim w [
      | inl c ↦ elim ((lists.members m).0 c) [
        | inl k ↦ inl k
        | inr k ↦ inr (k.0, subst (λ t. IsTrue (has t m.index)) (sym more) (has_before (take i indices) x m.index k.1))
      ]
      | inr e ↦ inr (
        ap (λ (y : Mark). y.def) e,
        subst (λ t. IsTrue (has t m.index)) (sym more) (has_new (take i indices) x m.index (ap (λ (y : Mark). y.index)
            (sym e))),
      )
    ])
    (λ m w. elim w [
      | inl k ↦ inl ((lists.members m).1 (inl k))
      | inr k ↦ elim (has_push (take i indices) x m.index (subst (λ t. IsTrue (has t m.index)) more k.1)) [
        | inl h ↦ inl ((lists.members m).1 (inr (k.0, h)))
        | inr e ↦ inr (ap (λ t. mark t m.index) k.0 ∙ ap (λ n. mark definition n) (sym e))
      ]
    ])

-- all of the indices
pub index_all : (old new : List Mark) (definition : DefId) (indices : List ℕ) (i : ℕ) → length indices ≤ i
    → ListsMarks (λ m. Contains old m ⊎ OneOf definition (take i indices) m) new
    → ListsMarks (λ m. Contains old m ⊎ OneOf definition indices m) new
index_all old new definition indices i whole lists = subst (λ t. ListsMarks (λ m. Contains old m ⊎ OneOf definition t m) new) (take_all i indices whole) lists

-- the first positions of one more definition
pub first_more : (grammar : Grammar) (definitions : List DefId) (i : ℕ) (d : DefId) (table : Table) (old new : List Mark) → i < length definitions
    → ArePositions grammar (get_or definitions i d) table
    → ListsMarks (λ m. IsFirstMark grammar m × Contains (take i definitions) m.def) old
    → ListsMarks (λ m. Contains old m ⊎ OneOf (get_or definitions i d) table.first m) new
    → ListsMarks (λ m. IsFirstMark grammar m × Contains (take (i + 1) definitions) m.def) new
first_more grammar definitions i d table old new within a lists added =
    let definition : DefId = get_or definitions i d in
    let more : take (i + 1) definitions ≡ take i definitions ++ definition ∷ [] = take_more definitions i d within in
    relist added
    (λ m w. elim w [
      | inl c ↦ (let was = (lists.members m).0 c in (
        was.0,
        subst (λ ds. Contains ds m.def) (sym more) (Contains-append_left (take i definitions)
            (definition ∷ []) m.def was.1),
      ))
      | inr one ↦ (
        from_first m (subst (λ k. ArePositions grammar k table) (sym one.0) a) one.1,
        subst (λ ds. Contains ds m.def) (sym more) (subst (λ k. Contains (take i definitions ++ definition ∷ []) k) (sym one.0)
            (Contains-push (take i definitions) definition)),
      )
    ])
    (λ m w. elim (Contains-push_cases (take i definitions) definition m.def (subst (λ ds. Contains ds m.def) more w.1)) [
      | inl c ↦ inl ((lists.members m).1 (w.0, c))
      | inr e ↦ inr (sym e, to_first m (subst (λ k. ArePositions grammar k table) e a) w.0)
    ])

-- those of all live definitions
pub first_all : (grammar : Grammar) (definitions : List DefId) (i : ℕ) (found : List Mark) → length definitions ≤ i → ((k : DefId)
    → Contains definitions k ↔ IsLive grammar k)
    → ListsMarks (λ m. IsFirstMark grammar m × Contains (take i definitions) m.def) found → ListsMarks (IsFirstMark grammar) found
first_all grammar definitions i found whole live lists =
    relist lists (λ m w. w.0) (λ m f. (f, subst (λ ds. Contains ds m.def) (sym (take_all i definitions whole)) ((live m.def).1 f.1.live)))

-- the positions that follow one more member
pub following_more : (grammar : Grammar) (members : List Mark) (i : ℕ) (d : Mark) (table : Table) (row : List ℕ) (old new : List Mark) → i < length members
    → ArePositions grammar (get_or members i d).def table → (get_or members i d).index < length table.classes
    → slice_get table.follow (get_or members i d).index ≡ Some row
    → ListsMarks (λ m. (x : Mark) × Contains (take i members) x × FollowsMark grammar x m) old
    → ListsMarks (λ m. Contains old m ⊎ OneOf (get_or members i d).def row m) new
    → ListsMarks (λ m. (x : Mark) × Contains (take (i + 1) members) x × FollowsMark grammar x m) new
following_more grammar members i d table row old new within a here e lists added =
    let member : Mark = get_or members i d in
    let more : take (i + 1) members ≡ take i members ++ member ∷ [] = take_more members i d within in
    relist added
    (λ m w. elim w [
      | inl c ↦ (let was = (lists.members m).0 c in (
        was.0,
        subst (λ ds. Contains ds was.0) (sym more) (Contains-append_left (take i members)
            (member ∷ []) was.0 was.1),
        was.2,
      ))
      | inr one ↦ (member, subst (λ ds. Contains ds member) (sym more) (Contains-push (take i members) member), from_row member m a row here e one)
    ])
    (λ m w. elim (Contains-push_cases (take i members) member w.0 (subst (λ ds. Contains ds w.0) more w.1)) [
      | inl c ↦ inl ((lists.members m).1 (w.0, c, w.2))
      | inr same ↦ inr (to_row member m a row here e (subst (λ x. FollowsMark grammar x m) (sym same) w.2))
    ])

-- those of all members
pub following_all : (grammar : Grammar) (members : List Mark) (i : ℕ) (found : List Mark) → length members ≤ i
    → ListsMarks (λ m. (x : Mark) × Contains (take i members) x × FollowsMark grammar x m) found
    → ListsMarks (λ m. (x : Mark) × Contains members x × FollowsMark grammar x m) found
following_all grammar members i found whole lists = subst (λ t. ListsMarks (λ m. (x : Mark) × Contains t x × FollowsMark grammar x m) found)
    (take_all i members whole) lists
