-- Candidates, and those of them whose class has a byte.
use Rattle.std.proofs.Common.{◌≡◌, ℕ, true, false, Bool, ◌+◌, ◌<◌, inl, inr, IsTrue, if◌then◌else◌, List, [], ◌∷◌, ◌++◌, length, get_or, take, refl, sym, ap}
use Rattle.std.proofs.Common.{◌∙◌, subst, append-nil, append_assoc, slice_index_or, Contains}
use Rattle.std.proofs.lemmas.List.{take_more}
use Rattle.std.proofs.lemmas.List.Elements.{Contains-push_cases}
use Rattle.std.specs.declared.cmp.Ordering.TheVariants.{Less}
use Rattle.std.specs.List.{AllByRecursion}
use Rattle.std.specs.List.Sorted.{IsStrictlySortedBy}
use Rattle.regex_ast.specs.Bytes.{has}
use Rattle.forest.proofs.Ascending.{contains_here, contains_there, contains_cases}
use Rattle.edit_log.specs.History.{Grammar}
use Rattle.isg_states.specs.declared.mark.Mark.{Mark}
use Rattle.isg_states.specs.declared.candidates.Candidate.{Candidate}
use Rattle.isg_states.specs.declared.scan_key.ScanKey.{ScanKey}
use Rattle.isg_states.specs.Marks.{mark_cmp, ListsMarks}
use Rattle.isg_states.specs.Patterns.{classes_in, HasByte}
use Rattle.isg_states.specs.Expansion.{CanFollow, LeadsTo}
use Rattle.isg_states.specs.Candidates.{marks_of, marks_with, IsClass, AreClasses}
use Rattle.isg_states.proofs.Patterns.{same_pattern}
use Rattle.isg_states.proofs.MarkLists.{each_of, all_of, contains_none}

-- ---- one candidate more

pub chosen : Candidate → ℕ → List Mark
chosen c byte = if has c.class.now byte then c.mark ∷ [] else []

with_cons : (c : Candidate) (others : List Candidate) (byte : ℕ) → marks_with (c ∷ others) byte ≡ chosen c byte ++ marks_with others byte
unfolding chosen
with_cons c others byte = by (has c.class.now byte) where
  by : (b : Bool) → (if b then c.mark ∷ marks_with others byte else marks_with others byte) ≡ (if b then c.mark ∷ [] else []) ++ marks_with others byte
  by true = refl
  by false = refl

with_push : (cs : List Candidate) (c : Candidate) (byte : ℕ) → marks_with (cs ++ c ∷ []) byte ≡ marks_with cs byte ++ chosen c byte
with_push [] c byte = with_cons c [] byte ∙ append-nil (chosen c byte)
with_push (x ∷ cs) c byte =
    with_cons x (cs ++ c ∷ []) byte ∙ ap (λ t. chosen x byte ++ t) (with_push cs c byte)
    ∙ sym (append_assoc (chosen x byte) (marks_with cs byte) (chosen c byte)) ∙ ap (λ t. t ++ chosen c byte) (sym (with_cons x cs byte))

pub one_more : (cs : List Candidate) (i : ℕ) (c : Candidate) (byte : ℕ) → i < length cs → c ≡ get_or cs i c
    → marks_with (take (i + 1) cs) byte ≡ marks_with (take i cs) byte ++ chosen c byte
one_more cs i c byte within is =
    ap (λ t. marks_with t byte) (take_more cs i c within) ∙ with_push (take i cs) (get_or cs i c) byte ∙ ap (λ x. marks_with (take i cs) byte ++ chosen x byte)
    (sym is)

pub chosen_same : (c : Candidate) (a b : ℕ) → has c.class.now a ≡ has c.class.now b → chosen c a ≡ chosen c b
unfolding chosen
chosen_same c a b e = ap (λ h. if h then c.mark ∷ [] else []) e

pub with_more : (cs : List Candidate) (i : ℕ) (c : Candidate) (byte : ℕ) → i < length cs → c ≡ get_or cs i c → has c.class.now byte ≡ true
    → marks_with (take (i + 1) cs) byte ≡ marks_with (take i cs) byte ++ c.mark ∷ []
unfolding chosen
with_more cs i c byte within is e = one_more cs i c byte within is ∙ ap (λ b. marks_with (take i cs) byte ++ (if b then c.mark ∷ [] else [])) e

pub with_same : (cs : List Candidate) (i : ℕ) (c : Candidate) (byte : ℕ) → i < length cs → c ≡ get_or cs i c → has c.class.now byte ≡ false
    → marks_with (take (i + 1) cs) byte ≡ marks_with (take i cs) byte
unfolding chosen
with_same cs i c byte within is e =
    one_more cs i c byte within is ∙ ap (λ b. marks_with (take i cs) byte ++ (if b then c.mark ∷ [] else [])) e ∙ append-nil (marks_with (take i cs) byte)

pub marks_push : (cs : List Candidate) (c : Candidate) → marks_of (cs ++ c ∷ []) ≡ marks_of cs ++ c.mark ∷ []
marks_push [] c = refl
marks_push (x ∷ cs) c = ap (λ t. x.mark ∷ t) (marks_push cs c)

pub classes_push : (grammar : Grammar) (cs : List Candidate) (c : Candidate) → AreClasses grammar cs → IsClass grammar c.mark c.class.now
    → AreClasses grammar (cs ++ c ∷ [])
classes_push grammar cs c all one x there = elim (Contains-push_cases cs c x there) [
  | inl k ↦ all x k
  | inr e ↦ subst (λ (y : Candidate). IsClass grammar y.mark y.class.now) e one
]

-- ---- members

-- a candidate with the byte is in the list of its mark
pub record WithByte (cs : List Candidate) (byte : ℕ) (mark : Mark) : Type 0 where
  pub candidate : Candidate
  pub there : Contains cs candidate
  pub mark_is : candidate.mark ≡ mark
  pub byte_in : IsTrue (has candidate.class.now byte)

later : {c : Candidate} {cs : List Candidate} {byte : ℕ} {mark : Mark} → WithByte cs byte mark → WithByte (c ∷ cs) byte mark
later {c} {cs} w = record { candidate = w.candidate; there = contains_there c cs w.candidate w.there; mark_is = w.mark_is; byte_in = w.byte_in }

in_cons : (c : Candidate) (cs : List Candidate) (byte : ℕ) (mark : Mark) (b : Bool) → has c.class.now byte ≡ b → (Contains (marks_with cs byte) mark
    → WithByte cs byte mark)
    → Contains (if b then c.mark ∷ marks_with cs byte else marks_with cs byte) mark → WithByte (c ∷ cs) byte mark
in_cons c cs byte mark true e rest k = elim (contains_cases c.mark (marks_with cs byte) mark k) [
  | inl same ↦ record { candidate = c; there = contains_here c cs; mark_is = same; byte_in = e }
  | inr d ↦ later (rest d)
]
in_cons c cs byte mark false e rest k = later (rest k)

from_with : (cs : List Candidate) (byte : ℕ) (mark : Mark) → Contains (marks_with cs byte) mark → WithByte cs byte mark
from_with [] byte mark k = absurd (contains_none mark k)
from_with (c ∷ cs) byte mark k = in_cons c cs byte mark (has c.class.now byte) refl (from_with cs byte mark) k

keep_later : (c : Candidate) (cs : List Candidate) (byte : ℕ) (mark : Mark) → Contains (marks_with cs byte) mark → Contains (marks_with (c ∷ cs) byte) mark
keep_later c cs byte mark k = by (has c.class.now byte) where
  by : (b : Bool) → Contains (if b then c.mark ∷ marks_with cs byte else marks_with cs byte) mark
  by true = contains_there c.mark (marks_with cs byte) mark k
  by false = k

keep_here : (c : Candidate) (cs : List Candidate) (byte : ℕ) → has c.class.now byte ≡ true → Contains (marks_with (c ∷ cs) byte) c.mark
keep_here c cs byte e = subst (λ b. Contains (if b then c.mark ∷ marks_with cs byte else marks_with cs byte) c.mark) (sym e)
    (contains_here c.mark (marks_with cs byte))

to_with : (cs : List Candidate) (byte : ℕ) (c : Candidate) → Contains cs c → has c.class.now byte ≡ true → Contains (marks_with cs byte) c.mark
to_with [] byte c k e = absurd (contains_none c k)
to_with (x ∷ cs) byte c k e = elim (contains_cases x cs c k) [
  | inl same ↦ subst (λ (y : Candidate). Contains (marks_with (x ∷ cs) byte) y.mark) same (keep_here x cs byte (subst (λ (y : Candidate). has y.class.now byte
      ≡ true) (sym same) e))
  | inr d ↦ keep_later x cs byte c.mark (to_with cs byte c d e)
]

from_marks : (cs : List Candidate) (mark : Mark) → Contains (marks_of cs) mark → (c : Candidate) × Contains cs c × (c.mark ≡ mark)
from_marks [] mark k = absurd (contains_none mark k)
from_marks (c ∷ cs) mark k = elim (contains_cases c.mark (marks_of cs) mark k) [
  | inl e ↦ (c, contains_here c cs, e)
  | inr d ↦ (let r = from_marks cs mark d in (r.0, contains_there c cs r.0 r.1, r.2))
]

to_marks : (cs : List Candidate) (c : Candidate) → Contains cs c → Contains (marks_of cs) c.mark
to_marks [] c k = absurd (contains_none c k)
to_marks (x ∷ cs) c k = elim (contains_cases x cs c k) [
  | inl e ↦ subst (λ (y : Candidate). Contains (marks_of (x ∷ cs)) y.mark) e (contains_here x.mark (marks_of cs))
  | inr d ↦ contains_there x.mark (marks_of cs) c.mark (to_marks cs c d)
]

-- ---- order

order_cons : (c : Candidate) (cs : List Candidate) (byte : ℕ) → AllByRecursion (λ y. mark_cmp c.mark y ≡ Less) (marks_of cs)
    → IsStrictlySortedBy mark_cmp (marks_with cs byte)
    → (b : Bool) → IsStrictlySortedBy mark_cmp (if b then c.mark ∷ marks_with cs byte else marks_with cs byte)
unfolding IsStrictlySortedBy
order_cons c cs byte above sorted true = (
  all_of _ (marks_with cs byte) (λ y k. (
      let w = from_with cs byte y k in
      each_of _ (marks_of cs) above y (subst (Contains (marks_of cs)) w.mark_is (to_marks cs w.candidate w.there)))),
  sorted,
)
order_cons c cs byte above sorted false = sorted

pub with_order : (cs : List Candidate) (byte : ℕ) → IsStrictlySortedBy mark_cmp (marks_of cs) → IsStrictlySortedBy mark_cmp (marks_with cs byte)
unfolding IsStrictlySortedBy
with_order [] byte sorted = tt
with_order (c ∷ cs) byte sorted = order_cons c cs byte sorted.0 (with_order cs byte sorted.1) (has c.class.now byte)

-- the candidates with the byte are the positions to which it leads
pub with_leads : (grammar : Grammar) (key : ScanKey) (cs : List Candidate) (byte : ℕ) → ListsMarks (CanFollow grammar key) (marks_of cs) → AreClasses grammar cs
    → ListsMarks (LeadsTo grammar key byte) (marks_with cs byte)
with_leads grammar key cs byte lists classes = record {
  order = with_order cs byte lists.order;
  members = λ mark. (
    λ k. (
        let w = from_with cs byte mark k in
        let is = classes w.candidate w.there in
        let here : CanFollow grammar key w.candidate.mark = (lists.members w.candidate.mark).0 (to_marks cs w.candidate w.there) in
        let byte_in : HasByte grammar w.candidate.mark byte = (is.0, is.1, subst (λ set. IsTrue (has set byte)) (sym is.2) w.byte_in) in
        subst (LeadsTo grammar key byte) w.mark_is (here, byte_in)),
    λ l. (
        let c = from_marks cs mark ((lists.members mark).1 l.0) in
        let is = classes c.0 c.1 in
        let at : HasByte grammar c.0.mark byte = subst (λ m. HasByte grammar m byte) (sym c.2) l.1 in
        let set_has : IsTrue (has (slice_index_or (classes_in is.0) c.0.mark.index []) byte) =
        subst (λ p. IsTrue (has (slice_index_or (classes_in p) c.0.mark.index []) byte)) (same_pattern at.1 is.1) at.2 in
        subst (Contains (marks_with cs byte)) c.2 (to_with cs byte c.0 c.1 (subst (λ set. IsTrue (has set byte)) is.2 set_has))),
  );
}
